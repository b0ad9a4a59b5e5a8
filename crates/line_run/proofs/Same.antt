-- The run of entries and the form over numbers (`optimize::remap_line_map`) keep the same entries of the same list.
use Prim.Native.Nat.{ℕ}
use mathlib.Core.Path.{◌≡◌, sym, ap, ◌∙◌}
use mathlib.Core.List.{List}
use mathlib.Core.Option.{none}
use lib.ListN.{length, take}
use Rattle.definition.specs.Lent.{filled, entry_numbers, entries_of}
use Rattle.definition.specs.Optimize.{remap_line_map}
use Rattle.line_map.specs.declared.LineEntry.{LineEntry}
use Rattle.optimize.specs.View.{map_in, Remaps}
use Rattle.line_run.specs.Run.{entries_in, kept, RemapsRun}

pub same_kept : (moves lines out out' : List ℕ) (end count n r : ℕ) (es es' : List LineEntry) → entries_of lines ≡ take count (entries_in es)
    → Remaps (remap_line_map (map_in moves) end none (entries_of lines)) out out' n → RemapsRun moves end count es es' r
    → (n ≡ r) × (out' ≡ filled (length out) (entry_numbers (kept moves end count es)))
same_kept moves lines out out' end count n r es es' e a b = (a.count ∙ ap (λ l. length (remap_line_map (map_in moves) end none l)) e ∙ sym b.many, a.is ∙ ap (λ l. filled (length out) (entry_numbers (remap_line_map (map_in moves) end none l))) e)
