use native.Mathlib.Omega.{arith}
use Rattle.optimize.proofs.Copying.{copy-begins, copy-ends}
use Rattle.optimize.proofs.fill_from.Goals as goal

pub loop-i-init : goal.loop-i-init
loop-i-init g c = copy-begins _ _

pub returns : goal.returns
returns g c = copy-ends _ _ _ _ c.loop-i.invariant _ c.min-n.ensures (omega arith) c.set_from.ensures
