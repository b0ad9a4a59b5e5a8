use Prim.Native.Nat.{◌-◌}
use lib.ListN.{length}
use Rattle.opcode.specs.Table.{sheet_in}
use Rattle.rewrite.specs.View.{marked, matches_in, next_view}
use Rattle.rewrite.proofs.Pass.{Going}
use Rattle.rewrite.proofs.apply_peephole.Given as goal

abbrev pub invariant-loop-plan : goal.invariant-loop-plan
invariant-loop-plan l = Going (sheet_in l.sheet) (matches_in l.matcher) (marked l.marks) l.initial.code (length l.initial.moves) l.code l.moves l.at l.to (next_view l.next)

abbrev pub decreases-loop-plan : goal.decreases-loop-plan
decreases-loop-plan l = length l.initial.code - l.at
