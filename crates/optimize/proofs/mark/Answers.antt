use native.Mathlib.Omega.{arith}
use Rattle.optimize.proofs.Tables.{mark-begins, mark-goes-on, mark-ends}
use Rattle.optimize.proofs.mark.Goals as goal

pub loop-x-init : goal.loop-x-init
loop-x-init c = mark-begins _ _ c.requires.clear.none

pub loop-x-preserved : goal.loop-x-preserved
loop-x-preserved c = mark-goes-on _ _ _ _ c.requires.small c.loop-x.invariant (omega arith) c.from.ensures

pub returns : goal.returns
returns c = mark-ends _ _ _ c.loop-x.invariant (omega arith)
