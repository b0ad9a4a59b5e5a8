use native.Mathlib.Omega.{arith}
use Rattle.optimize.proofs.Tables.{move-begins, move-goes-on, move-ends}
use Rattle.optimize.proofs.move_all.Goals as goal

pub loop-x-init : goal.loop-x-init
loop-x-init c = move-begins _ _

pub loop-x-preserved : goal.loop-x-preserved
loop-x-preserved c = move-goes-on _ _ _ _ _ c.loop-x.invariant (omega arith) c.moved_to.ensures

pub returns : goal.returns
returns c = move-ends _ _ _ _ c.loop-x.invariant (omega arith)
