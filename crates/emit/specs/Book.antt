-- The book: labels, pending patches and line entries in one lent list of 16-bit numbers, a table each. A table has a base, and rows of one size; all
-- follow from the limits.
use Rattle.std.specs.Prelude.{ℕ, zero, suc, ◌+◌, ◌*◌, true, false, List, [], ◌∷◌, ◌++◌, eqb, take, drop, get_or}
use Rattle.std.specs.Prelude as code
use Rattle.std.specs.Prelude.{Some, None}
use Rattle.std.proofs.Math.Option.{Option, some, none}
use Rattle.definition.specs.Limits.{max_labels, max_branches, max_lines, entry_size}
use Rattle.definition.specs.Emit.{PendingPatch, LineEntry}
use Rattle.definition.specs.Lent.{entry_in}

-- numbers of a label, and of a patch (those of a line entry: entry_size)
abbrev pub label_size : ℕ
label_size = 2

abbrev pub patch_size : ℕ
patch_size = 3

abbrev pub label_base : ℕ
label_base = 0

abbrev pub patch_base : ℕ
patch_base = label_base + label_size * max_labels

abbrev pub line_base : ℕ
line_base = patch_base + patch_size * max_branches

abbrev pub book_size : ℕ
book_size = line_base + entry_size * max_lines

-- ---- what a row stands for

-- a label: whether it is bound, and its place. That it is bound is a number of its own, since each number up to the code's limit is a place
unfoldable pub label_numbers : code.Option ℕ → List ℕ
label_numbers None = 0 ∷ 0 ∷ []
label_numbers (Some p) = 1 ∷ p ∷ []

unfoldable pub label_in : List ℕ → Option ℕ
label_in ns = elim (eqb (get_or ns 0 0) 0) [ true ↦ none | false ↦ some (get_or ns 1 0) ]

unfoldable pub patch_numbers : PendingPatch → List ℕ
patch_numbers p = p.instruction_offset ∷ p.operand_delta ∷ p.label ∷ []

unfoldable pub patch_in : List ℕ → PendingPatch
patch_in ns = record { instruction_offset = get_or ns 0 0; operand_delta = get_or ns 1 0; label = get_or ns 2 0 }

-- ---- tables

-- the numbers of row i
abbrev pub row : ℕ → ℕ → List ℕ → ℕ → List ℕ
row base size book i = take size (drop (base + size * i) book)

-- what the first n rows stand for, in order
unfoldable pub rows : {A : Type 0} → (List ℕ → A) → ℕ → ℕ → List ℕ → ℕ → List A
rows f base size book zero = []
rows f base size book (suc n) = rows f base size book n ++ (f (row base size book n) ∷ [])

abbrev pub labels_in : List ℕ → ℕ → List (Option ℕ)
labels_in book n = rows label_in label_base label_size book n

abbrev pub patches_in : List ℕ → ℕ → List PendingPatch
patches_in book n = rows patch_in patch_base patch_size book n

abbrev pub lines_in : List ℕ → ℕ → List LineEntry
lines_in book n = rows entry_in line_base entry_size book n
