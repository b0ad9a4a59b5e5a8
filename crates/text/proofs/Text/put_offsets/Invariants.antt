use mathlib.Core.Path.{◌≡◌}
use lib.ListN.{length}
use Rattle.text.specs.Text.{store_of}
use Rattle.text.proofs.Puts.{Putting}
use Rattle.text.proofs.Lines.{offsets_from}
use Rattle.text.proofs.Text.put_offsets.Given as goal

abbrev pub invariant-loop-x : goal.invariant-loop-x
invariant-loop-x l = record {
  put : Putting (offsets_from l.list) (length l.list) (store_of l.initial.self) (store_of l.self) l.x-index;
  same : l.self.out.ghost_name ≡ l.initial.self.out.ghost_name;
}
