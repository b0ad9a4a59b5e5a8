-- What an accepted sheet is, and the table that it is lent as.
use Rattle.std.specs.Prelude.{◌≡◌, true, false, List, [], ◌∷◌, ◌++◌, map, ℕ, zero, suc, ◌+◌, ◌<◌, ltb, length, get_or, take}
use Rattle.std.proofs.Math.Option.{Option, some, none}
use Rattle.definition.specs.Opcode.{Role, number, role_count, comparison_count, Sheet, role_of}
use Rattle.definition.specs.Sheet.{distinct, field_count, opcodes_of, comparisons_of, max_byte}

-- how many bytes there are
abbrev pub byte_count : ℕ
byte_count = max_byte + 1

-- what holds of the numbers of a group: so many bytes, no two equal
pub record Bytes (count : ℕ) (ns : List ℕ) : Type 0 where
  pub long : length ns ≡ count
  pub differ : distinct ns ≡ true
  pub small : (i : ℕ) → get_or ns i 0 < byte_count

-- what holds of a sheet that was accepted
pub record Good (s : Sheet) : Type 0 where
  pub opcodes : Bytes role_count s.opcodes
  pub comparisons : Bytes comparison_count s.comparisons

-- the sheet that these numbers are
abbrev pub sheet_by : List ℕ → Sheet
sheet_by ns = record { opcodes = opcodes_of ns; comparisons = comparisons_of ns }

-- n numbers from k on
unfoldable pub up_from : ℕ → ℕ → List ℕ
up_from k zero = []
up_from k (suc n) = k ∷ up_from (suc k) n

-- a number that no role has
abbrev pub unlisted : ℕ
unlisted = 255

-- the number of a role; unlisted for none
unfoldable pub number_or : Option Role → ℕ
number_or none = unlisted
number_or (some r) = number r

-- elements of a table: the numbers of the sheet, and one for each byte
abbrev pub table_size : ℕ
table_size = field_count + byte_count

unfoldable pub table_of : Sheet → List ℕ
table_of s = (s.opcodes ++ s.comparisons) ++ map (λ b. number_or (role_of s b)) (up_from 0 byte_count)

-- the sheet that a table starts with
abbrev pub sheet_in : List ℕ → Sheet
sheet_in t = sheet_by (take field_count t)

-- what a table of any length lists for a byte; unlisted where it ends before
unfoldable pub number_in : List ℕ → ℕ → ℕ
number_in t b = get_or t (field_count + b) unlisted

-- t is the whole table of the sheet that it starts with
pub record IsTable (t : List ℕ) : Type 0 where
  pub long : length t ≡ table_size
  pub is : t ≡ table_of (sheet_in t)

-- the role numbers were put behind the fields of t
pub record Listed (t u : List ℕ) : Type 0 where
  pub front : take field_count u ≡ take field_count t
  pub table : IsTable u

-- the first field of the group that field i is of
unfoldable pub group_start : ℕ → ℕ
group_start i = elim (ltb i role_count) [ true ↦ 0 | false ↦ role_count ]
