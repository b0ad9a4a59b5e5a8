use Rattle.definition.specs.Rewrite.{moved_to}
use Rattle.optimize.specs.View.{map_in}
use Rattle.optimize.proofs.Tables.{Moving}
use Rattle.optimize.proofs.move_all.Given as goal

abbrev pub invariant-loop-x : goal.invariant-loop-x
invariant-loop-x l = Moving (moved_to (map_in l.moves)) l.initial.list l.list l.x-index
