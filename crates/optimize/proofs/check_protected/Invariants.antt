use lib.ListN.{length}
use Rattle.optimize.specs.View.{fixed_in}
use Rattle.optimize.proofs.Checks.{Checking}
use Rattle.optimize.proofs.check_protected.Given as goal

abbrev pub invariant-loop-x : goal.invariant-loop-x
invariant-loop-x l = Checking (fixed_in l.table) (length l.table) l.list l.x-index
