use Prim.Native.Nat.{◌-◌}
use lib.ListN.{length}
use Rattle.opcode.specs.Table.{sheet_in}
use Rattle.optimize.proofs.Bounds.{Listing}
use Rattle.optimize.proofs.list_boundaries.Given as goal

abbrev pub invariant-loop-i : goal.invariant-loop-i
invariant-loop-i l = Listing (sheet_in l.sheet) l.code (length l.initial.table) l.table l.at

abbrev pub decreases-loop-i : goal.decreases-loop-i
decreases-loop-i l = length l.code - l.at
