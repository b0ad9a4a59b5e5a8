-- The lines that remain: what falls as emission goes over an expression.
use Rattle.std.specs.Prelude.{ℕ, suc, List, [], ◌∷◌, true, false, eqb, drop}
use Rattle.definition.specs.Field.{lf}

-- how many lines there are; a last one without LF counts
unfoldable pub line_count : List ℕ → ℕ
line_count [] = 0
line_count (b ∷ []) = 1
line_count (b ∷ c ∷ bs) = elim (eqb b lf) [ true ↦ suc (line_count (c ∷ bs)) | false ↦ line_count (c ∷ bs) ]

-- from a place on
unfoldable pub lines_left : List ℕ → ℕ → ℕ
lines_left text at = line_count (drop at text)
