use native.Mathlib.Omega.{arith}
use Rattle.store.proofs.Fills.{set-begins, set-goes-on, set-ends}
use Rattle.store.proofs.set_from.Goals as goal

pub loop-i-init : goal.loop-i-init
loop-i-init g c = set-begins _ _ _

pub loop-i-preserved : goal.loop-i-preserved
loop-i-preserved g c = set-goes-on _ _ _ _ _ c.loop-i.invariant c.loop-i.auto.i (omega arith)

pub returns : goal.returns
returns g c = set-ends _ _ _ _ _ c.loop-i.invariant c.loop-i.auto.i (omega arith)
