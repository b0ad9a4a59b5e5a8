use mathlib.Core.Path.{◌≡◌}
use mathlib.Core.List.{map}
use lib.ListN.{length}
use Rattle.text.specs.Text.{store_of}
use Rattle.text.proofs.Puts.{Putting}
use Rattle.text.proofs.Lines.{fields_from}
use Rattle.text.proofs.Text.put_fields.Given as goal

abbrev pub invariant-loop-n : goal.invariant-loop-n
invariant-loop-n g l = record {
  put : Putting (fields_from (map g.T.Number.value l.list)) (length (map g.T.Number.value l.list)) (store_of l.initial.self) (store_of l.self) l.n-index;
  same : l.self.out.ghost_name ≡ l.initial.self.out.ghost_name;
}
