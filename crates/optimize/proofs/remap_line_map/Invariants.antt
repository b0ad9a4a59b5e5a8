use mathlib.Core.Path.{◌≡◌}
use Rattle.std.specs.Slice.Iter.{chunks_exact_rest, chunks_exact_size}
use Rattle.definition.specs.Limits.{entry_size}
use Rattle.optimize.specs.View.{map_in}
use Rattle.optimize.proofs.Lines.{Remapping}
use Rattle.optimize.proofs.remap_line_map.Given as goal

abbrev pub invariant-loop-numbers : goal.invariant-loop-numbers
invariant-loop-numbers l = record {
  size : chunks_exact_size l.numbers-iterator ≡ entry_size;
  left : Remapping (map_in l.moves) l.end l.lines l.initial.out l.out (chunks_exact_rest l.numbers-iterator) l.to l.last;
}
