-- Reading an opcode sheet from any bytes (document 01, 'Sheet'; refusal 7).
use Rattle.std.specs.Prelude.{ℕ, ◌+◌, suc, zero, List, [], ◌∷◌, map, Bool, true, false, not, ◌&&◌, eqb, leb, ltb, length, get_or, take, drop}
use Rattle.std.proofs.Math.Option.{Option, some, none}
use Rattle.definition.specs.Field.{lf, comma, split, Field, up_to, field, Read, malformed, outside, is, Numbers, wrong, far, are, numbers, has}
use Rattle.definition.specs.Opcode.{Sheet, role_count, comparison_count}

-- fields of a sheet: the opcodes by role, then the comparison bytes
abbrev pub field_count : ℕ
field_count = role_count + comparison_count

abbrev pub opcodes_of : {A : Type 0} → List A → List A
opcodes_of fields = take role_count fields

abbrev pub comparisons_of : {A : Type 0} → List A → List A
comparisons_of fields = drop role_count fields

-- every field is a byte
abbrev pub max_byte : ℕ
max_byte = 255

abbrev pub byte : Field
byte = up_to max_byte

-- the fields of a file that is one line: one LF, at its end
unfoldable pub only_line : List (List ℕ) → Option (List (List ℕ))
only_line (l ∷ [] ∷ []) = some (split comma l)
only_line [] = none
only_line (l ∷ []) = none
only_line (l ∷ (b ∷ bs) ∷ ls) = none
only_line (l ∷ [] ∷ m ∷ ls) = none

unfoldable pub counted : Option (List (List ℕ)) → Option (List (List ℕ))
counted none = none
counted (some fs) = elim (eqb (length fs) field_count) [ true ↦ some fs | false ↦ none ]

-- the fields of a sheet, where its line and its field count are good
unfoldable pub sheet_fields : List ℕ → Option (List (List ℕ))
sheet_fields t = counted (only_line (split lf t))

-- no number twice
unfoldable pub distinct : List ℕ → Bool
distinct [] = true
distinct (x ∷ xs) = not (has xs x) && distinct xs

unfoldable pub sheet_of : Numbers → Option Sheet
sheet_of wrong = none
sheet_of far = none
sheet_of (are ns) = elim (distinct (opcodes_of ns) && distinct (comparisons_of ns)) [
  | true ↦ some (record { opcodes = opcodes_of ns; comparisons = comparisons_of ns })
  | false ↦ none
]

unfoldable pub repeated : Field → ℕ → List Field
repeated f zero = []
repeated f (suc n) = f ∷ repeated f n

unfoldable pub read_fields : Option (List (List ℕ)) → Option Sheet
read_fields none = none
read_fields (some fs) = sheet_of (numbers (repeated byte field_count) fs)

-- the sheet that a file spells, if it is good
unfoldable pub read_sheet : List ℕ → Option Sheet
read_sheet t = read_fields (sheet_fields t)

-- ---- what is at fault in a bad one

-- how often a number was read in a group of fields
unfoldable pub is_number : ℕ → Read → ℕ
is_number n malformed = 0
is_number n outside = 0
is_number n (is m) = elim (eqb m n) [ true ↦ 1 | false ↦ 0 ]

unfoldable pub times : ℕ → List Read → ℕ
times n [] = 0
times n (r ∷ rs) = is_number n r + times n rs

unfoldable pub read_at_fault : List Read → Read → Bool
read_at_fault group malformed = true
read_at_fault group outside = true
read_at_fault group (is n) = leb 2 (times n group)

-- the group that a field's number must be distinct in: the opcodes, or the comparison bytes
unfoldable pub group_of : ℕ → List Read → List Read
group_of i rs = elim (ltb i role_count) [ true ↦ opcodes_of rs | false ↦ comparisons_of rs ]

unfoldable pub field_at_fault : ℕ → List Read → Bool
field_at_fault i rs = ltb i field_count && read_at_fault (group_of i rs) (get_or rs i malformed)

unfoldable pub fault_at : ℕ → Option (List (List ℕ)) → Bool
fault_at zero none = true
fault_at (suc i) none = false
fault_at zero (some fs) = false
fault_at (suc i) (some fs) = field_at_fault i (map (field byte) fs)

-- 7's place is free: any place at fault may be answered. Field n, from 1, is at fault if it is malformed, over 255 or equal to
-- another of its group; 0 is, and then nothing else, if the line or the field count is bad.
unfoldable pub sheet_fault : List ℕ → ℕ → Bool
sheet_fault t n = fault_at n (sheet_fields t)

-- `unfolding open-Sheet` names all of this module's definitions at once
unfoldable pub open-Sheet : Unit {0}
unfolding only_line counted sheet_fields distinct sheet_of repeated read_fields read_sheet is_number times read_at_fault group_of field_at_fault fault_at sheet_fault
open-Sheet = tt
