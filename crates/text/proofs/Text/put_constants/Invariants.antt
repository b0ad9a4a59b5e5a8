use mathlib.Core.Path.{◌≡◌}
use lib.ListN.{length}
use Rattle.text.specs.Text.{store_of}
use Rattle.text.proofs.Puts.{Putting}
use Rattle.text.proofs.Lines.{constants_from}
use Rattle.text.proofs.Text.put_constants.Given as goal

abbrev pub invariant-loop-bits : goal.invariant-loop-bits
invariant-loop-bits l = record {
  put : Putting (constants_from l.list) (length l.list) (store_of l.initial.self) (store_of l.self) l.bits-index;
  same : l.self.out.ghost_name ≡ l.initial.self.out.ghost_name;
}
