use mathlib.Core.Path.{◌≡◌}
use Rattle.std.specs.Slice.Iter.{chunks_exact_rest, chunks_exact_size}
use Rattle.definition.specs.Limits.{entry_size}
use Rattle.definition.specs.Alone.{boundaries}
use Rattle.optimize.specs.View.{fixed_in, entry_offsets}
use Rattle.optimize.proofs.check_lines.Given as goal

abbrev pub invariant-loop-numbers : goal.invariant-loop-numbers
invariant-loop-numbers l = record {
  size : chunks_exact_size l.numbers-iterator ≡ entry_size;
  left : boundaries (fixed_in l.table) (entry_offsets l.lines) ≡ boundaries (fixed_in l.table) (entry_offsets (chunks_exact_rest l.numbers-iterator));
}
