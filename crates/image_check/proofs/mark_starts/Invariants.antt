use Prim.Native.Nat.{◌-◌}
use lib.ListN.{length}
use Rattle.image_check.specs.View.{Marking}
use Rattle.image_check.proofs.mark_starts.Given as goal

abbrev pub invariant-loop-i : goal.invariant-loop-i
invariant-loop-i l = Marking l.sheet l.code l.flags l.at

abbrev pub decreases-loop-i : goal.decreases-loop-i
decreases-loop-i l = length l.code - l.at
