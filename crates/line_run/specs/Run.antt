-- What becomes of a run of line entries, said of the definition.
use Rattle.std.specs.Prelude.{ℕ, ◌≡◌, List, ◌++◌, map, length, take, drop}
use Rattle.std.proofs.Math.Option.{none}
use Rattle.definition.specs.Emit as def
use Rattle.definition.specs.Optimize.{remap_line_map}
use Rattle.line_map.specs.declared.LineEntry.{LineEntry}
use Rattle.line_map.specs.View.{entry_view}
use Rattle.optimize.specs.View.{map_in}

-- the entries of a run
abbrev pub entries_in : List LineEntry → List def.LineEntry
entries_in xs = map entry_view xs

-- xs over the front of ys
abbrev pub over : {X : Type 0} → List X → List X → List X
over xs ys = xs ++ drop (length xs) ys

-- what is kept of the first `count` entries
abbrev pub kept : List ℕ → ℕ → ℕ → List LineEntry → List def.LineEntry
kept moves end count es = remap_line_map (map_in moves) end none (take count (entries_in es))

-- the entries kept stand at the front of the run, the others are as they were, and how many are kept is answered
pub record RemapsRun (moves : List ℕ) (end count : ℕ) (es es' : List LineEntry) (r : ℕ) : Type 0 where
  pub many : r ≡ length (kept moves end count es)
  pub is : entries_in es' ≡ over (kept moves end count es) (entries_in es)
