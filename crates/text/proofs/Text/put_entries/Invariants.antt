use mathlib.Core.Path.{◌≡◌}
use Rattle.std.specs.Slice.Iter.{chunks_exact_rest, chunks_exact_size}
use Rattle.definition.specs.Limits.{entry_size}
use Rattle.definition.specs.Lent.{entries_of}
use Rattle.definition.specs.Listing.{entry_lines}
use Rattle.store.specs.Store.{push_all}
use Rattle.text.specs.Text.{store_of}
use Rattle.text.proofs.Text.put_entries.Given as goal

abbrev pub invariant-loop-numbers : goal.invariant-loop-numbers
invariant-loop-numbers l = record {
  size : chunks_exact_size l.numbers-iterator ≡ entry_size;
  put : push_all (store_of l.initial.self) (entry_lines (entries_of l.list)) ≡ push_all (store_of l.self) (entry_lines (entries_of (chunks_exact_rest l.numbers-iterator)));
  same : l.self.out.ghost_name ≡ l.initial.self.out.ghost_name;
}
