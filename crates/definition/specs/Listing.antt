-- The listing program: what it takes of its standard input for sheet, rules and program, and what it prints (document 01, 'Bytes to check
-- by hand').
use Rattle.std.specs.Prelude.{ℕ, ◌+◌, ◌/◌, ◌%◌, suc, zero, ◌≡◌, List, [], ◌∷◌, ◌++◌, true, false, eqb, ltb, ℤ, pos, negsuc, length}
use Prim.Native.Char.{code}
use Rattle.std.proofs.Math.Option.{Option, some, none}
use Rattle.definition.specs.Limits.{max_rules, width, bad_sheet, bad_rule}
use Rattle.definition.specs.Res.{Res, ok, refuse, ◌>>=◌, given}
use Rattle.definition.specs.Field.{lf, comma, minus, digit0, Read, malformed, outside, is, up_to, field}
use Rattle.definition.specs.Opcode.{Sheet}
use Rattle.definition.specs.Iec.{signed_of}
use Rattle.definition.specs.Sheet.{read_sheet}
use Rattle.definition.specs.Emit.{LineEntry}
use Rattle.definition.specs.Lent.{one_entry}
use Rattle.definition.specs.Rewrite.{decode}
use Rattle.definition.specs.Compile.{FinalizedFunction, compile_files, Free}

-- ---- the input

-- the first line, with its LF where it has one, and what follows it
unfoldable pub cut_line : List ℕ → List ℕ × List ℕ
cut_line [] = ([], [])
cut_line (b ∷ bs) = elim (eqb b lf) [ true ↦ (b ∷ [], bs) | false ↦ let r = cut_line bs in (b ∷ r.0, r.1) ]

-- so many lines, or those there are
unfoldable pub cut_lines : ℕ → List ℕ → List ℕ × List ℕ
cut_lines zero bs = ([], bs)
cut_lines (suc n) bs = let a = cut_line bs in let b = cut_lines n a.1 in (a.0 ++ b.0, b.1)

-- a line without its LF; none where it has none
unfoldable pub without_lf : List ℕ → Option (List ℕ)
without_lf [] = none
without_lf (b ∷ []) = elim (eqb b lf) [ true ↦ some [] | false ↦ none ]
without_lf (b ∷ c ∷ bs) = before b (without_lf (c ∷ bs))
  where
    before : ℕ → Option (List ℕ) → Option (List ℕ)
    before b none = none
    before b (some bs) = some (b ∷ bs)

unfoldable pub count_of : Read → Option ℕ
count_of malformed = none
count_of outside = none
count_of (is n) = some n

unfoldable pub count_line : Option (List ℕ) → Option ℕ
count_line none = none
count_line (some l) = count_of (field (up_to max_rules) l)

-- sheet line, rule count line, rules, program; a count line that is none counts as 9, 0
unfoldable pub listed : ℕ → List ℕ → Res (Sheet × FinalizedFunction)
listed place input =
    let sheet = cut_line input in
    let count = cut_line sheet.1 in do
      s ← given (read_sheet sheet.0) bad_sheet place
      n ← given (count_line (without_lf count.0)) bad_rule 0
      let rules = cut_lines n count.1 in do
        f ← compile_files place sheet.0 rules.0 rules.1
        ok (s, f)

-- ---- the text

-- a number's digits, before what follows them; no number here has more than twenty
unfoldable pub digits_onto : ℕ → ℕ → List ℕ → List ℕ
digits_onto zero n more = more
digits_onto (suc left) n more = elim (ltb n 10) [
  | true ↦ (digit0 + n) ∷ more
  | false ↦ digits_onto left (n / 10) ((digit0 + n % 10) ∷ more)
]

unfoldable pub decimal : ℕ → List ℕ
decimal n = digits_onto 20 n []

unfoldable pub signed_decimal : ℤ → List ℕ
signed_decimal (pos n) = decimal n
signed_decimal (negsuc n) = minus ∷ decimal (suc n)

-- fields of a line after its first, each behind a comma
unfoldable pub fields : List ℕ → List ℕ
fields [] = lf ∷ []
fields (n ∷ ns) = comma ∷ decimal n ++ fields ns

unfoldable pub number_line : ℕ → List ℕ → List ℕ
number_line n ns = decimal n ++ fields ns

unfoldable pub constant_lines : List ℕ → List ℕ
constant_lines [] = []
constant_lines (k ∷ ks) = code "k" ∷ comma ∷ signed_decimal (signed_of width k) ++ (lf ∷ constant_lines ks)

unfoldable pub entry_lines : List LineEntry → List ℕ
entry_lines [] = []
entry_lines (x ∷ xs) = code "l" ∷ fields (one_entry x) ++ entry_lines xs

unfoldable pub instruction_lines : ℕ → List (List ℕ) → List ℕ
instruction_lines at [] = []
instruction_lines at (i ∷ more) = code "b" ∷ fields (at ∷ i) ++ instruction_lines (at + length i) more

unfoldable pub text : Res (Sheet × FinalizedFunction) → List ℕ
text (refuse n p) = number_line n (p ∷ [])
text (ok a) =
    let f = a.1 in
    number_line 0 (length f.bytecode ∷ f.depth ∷ length f.constants ∷ length f.line_map ∷ [])
    ++ constant_lines f.constants ++ entry_lines f.line_map ++ instruction_lines 0 (decode a.0 f.bytecode)

-- what the listing prints for its input: all of it is fixed but 7's place, which is one at fault
pub record Lists (input output : List ℕ) : Type 0 where
  pub place : ℕ
  pub free : Free (cut_line input).0 place
  pub is : output ≡ text (listed place input)

-- `unfolding open-Listing` names all of this module's definitions at once
unfoldable pub open-Listing : Unit {0}
unfolding cut_line cut_lines without_lf count_of count_line listed digits_onto decimal signed_decimal fields number_line constant_lines entry_lines instruction_lines text
open-Listing = tt
