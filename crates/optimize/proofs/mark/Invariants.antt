use lib.ListN.{length}
use Rattle.optimize.proofs.Tables.{Marking}
use Rattle.optimize.proofs.mark.Given as goal

abbrev pub invariant-loop-x : goal.invariant-loop-x
invariant-loop-x l = Marking l.protected (length l.initial.marks) l.marks l.x-index
