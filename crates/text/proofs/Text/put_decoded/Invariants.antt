use mathlib.Core.Path.{◌≡◌}
use Prim.Native.Nat.{◌-◌}
use lib.ListN.{length}
use Rattle.opcode.specs.Table.{sheet_in}
use Rattle.text.specs.Text.{store_of}
use Rattle.text.proofs.Puts.{Putting}
use Rattle.text.proofs.Lines.{decoded_from}
use Rattle.text.proofs.Text.put_decoded.Given as goal

abbrev pub invariant-loop-i : goal.invariant-loop-i
invariant-loop-i l = record {
  put : Putting (decoded_from (sheet_in l.table) l.code) (length l.code) (store_of l.initial.self) (store_of l.self) l.place;
  same : l.self.out.ghost_name ≡ l.initial.self.out.ghost_name;
}

abbrev pub decreases-loop-i : goal.decreases-loop-i
decreases-loop-i l = length l.code - l.place
