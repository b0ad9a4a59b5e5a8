-- What reading a sheet answers.
use Rattle.std.specs.Prelude.{◌≡◌, true, false, List, ℕ, ◌+◌, ◌-◌, ◌≤◌, ◌<◌, length, take, drop, set}
use Rattle.std.proofs.Math.Option.{some, none}
use Rattle.definition.specs.Limits.{bad_sheet, output_short}
use Rattle.definition.specs.Res.{Res, ok, refuse}
use Rattle.definition.specs.Field.{Read, is, has}
use Rattle.definition.specs.Sheet.{max_byte, read_sheet, sheet_fault}
use Rattle.definition.specs.Lent.{zeros}
use Rattle.opcode.specs.Table.{table_size, sheet_in, IsTable, group_start}

-- the text is a sheet, and the table is that sheet's
pub record Accepts (text table : List ℕ) : Type 0 where
  pub is : read_sheet text ≡ some (sheet_in table)
  pub ready : IsTable table

-- the text is no sheet, the place is at fault, and the table is cleared
pub record Refuses (text table : List ℕ) (n place : ℕ) : Type 0 where
  pub is : read_sheet text ≡ none
  pub number : n ≡ bad_sheet
  pub fault : sheet_fault text place ≡ true
  pub cleared : table ≡ zeros table_size

abbrev pub Reads : List ℕ → List ℕ → Res (Unit {0}) → Type 0
Reads text table (ok u) = Accepts text table
Reads text table (refuse n p) = Refuses text table n p

-- 14 for a lent table that is shorter, which is cleared
pub record Unfit (room : ℕ) (table : List ℕ) (r : Res (Unit {0})) : Type 0 where
  pub is : r ≡ refuse output_short 0
  pub cleared : table ≡ zeros room

-- in a longer one the table stands first, and 0 behind it
pub record Fit (room : ℕ) (text table : List ℕ) (r : Res (Unit {0})) : Type 0 where
  pub reads : Reads text (take table_size table) r
  pub behind : drop table_size table ≡ zeros (room - table_size)

-- what is answered, and what a lent table of `room` elements then holds
pub record Answers (room : ℕ) (text table : List ℕ) (r : Res (Unit {0})) : Type 0 where
  pub fit : table_size ≤ room → Fit room text table r
  pub unfit : room < table_size → Unfit room table r

-- what becomes of field i of a sheet, read as x; t is the table before it, u the one after it, and r what is answered
pub data Takes (i : ℕ) (x : Read) (t u : List ℕ) (r : Res (Unit {0})) : Type 0 where
  no_byte : ((n : ℕ) → x ≡ is n → max_byte < n) → u ≡ t → r ≡ refuse bad_sheet (i + 1) → Takes i x t u r
  repeats : {n : ℕ} → x ≡ is n → has (drop (group_start i) (take i t)) n ≡ true → u ≡ t → r ≡ refuse bad_sheet (i + 1) → Takes i x t u r
  put : {n : ℕ} → x ≡ is n → n ≤ max_byte → has (drop (group_start i) (take i t)) n ≡ false → u ≡ set t i n → r ≡ ok tt → Takes i x t u r

-- what reading the numbers of a text answers
abbrev pub Found : List ℕ → List ℕ → Res (Unit {0}) → Type 0
Found text table (ok u) = read_sheet text ≡ some (sheet_in table)
Found text table (refuse n p) = (n ≡ bad_sheet) × (sheet_fault text p ≡ true)

-- what a lent table of any length then starts with: the sheet's table, or what is cleared next
abbrev pub Tabled : List ℕ → List ℕ → List ℕ → Res (Unit {0}) → Type 0
Tabled text old new (ok u) = (table_size ≤ length old) × Accepts text (take table_size new)
Tabled text old new (refuse n p) = (length old < table_size → (n ≡ output_short) × (p ≡ 0)) × (table_size ≤ length old → (n ≡ bad_sheet) × (sheet_fault text p ≡ true))
