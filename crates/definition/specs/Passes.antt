-- The program for rewriting called alone: what it takes of its standard input, and what it prints. Its input starts as the listing's does;
-- then come a line of code bytes, a line of protected offsets (either may be empty) and any number of lines `offset,line,column`.
use Rattle.std.specs.Prelude.{ℕ, ◌+◌, ◌≡◌, List, [], ◌∷◌, ◌++◌, true, false, eqb, length}
use Prim.Native.Char.{code}
use Rattle.std.proofs.Math.Option.{Option, some, none}
use Rattle.definition.specs.Limits.{max_field, entry_size, bad_sheet, bad_rule}
use Rattle.definition.specs.Res.{Res, ok, refuse, ◌>>=◌, ◌>>◌, demand, given}
use Rattle.definition.specs.Field.{lf, comma, split, Field, up_to, Numbers, wrong, far, are, numbers}
use Rattle.definition.specs.Opcode.{Sheet}
use Rattle.definition.specs.Sheet.{byte, repeated, read_sheet}
use Rattle.definition.specs.Rules.{is_empty, read_rules}
use Rattle.definition.specs.Rewrite.{decode}
use Rattle.definition.specs.Compile.{Free}
use Rattle.definition.specs.Alone.{Given, Rewritten, rewrite_files}
use Rattle.definition.specs.Listing.{cut_line, cut_lines, without_lf, count_line, fields, number_line, entry_lines, instruction_lines}

-- ---- the input

-- a malformed line of code, offsets or entries: no refusal of 01's, printed as '?'
abbrev pub malformed_line : ℕ
malformed_line = code "?"

-- an offset, a line or a column
abbrev pub word : Field
word = up_to max_field

unfoldable pub these : Numbers → Option (List ℕ)
these wrong = none
these far = none
these (are ns) = some ns

-- a line of any count of numbers; the empty line has none
unfoldable pub list_line : Field → List ℕ → Option (List ℕ)
list_line f [] = some []
list_line f (b ∷ bs) = let parts = split comma (b ∷ bs) in these (numbers (repeated f (length parts)) parts)

unfoldable pub entry_line : List ℕ → Option (List ℕ)
entry_line l = these (numbers (repeated word entry_size) (split comma l))

-- the entries of the parts between LFs, the first of which is line n of the input; what follows the last LF must be empty
unfoldable pub entries_from : ℕ → List (List ℕ) → Res (List ℕ)
entries_from n [] = ok []
entries_from n (l ∷ []) = demand (is_empty l) malformed_line n >> ok []
entries_from n (l ∷ m ∷ ls) = do
  e ← given (entry_line l) malformed_line n
  es ← entries_from (n + 1) (m ∷ ls)
  ok (e ++ es)

-- protected offsets from line n on, then entries
unfoldable pub offsets_from : ℕ → List (List ℕ) → Res (List ℕ × List ℕ)
offsets_from n [] = refuse malformed_line n
offsets_from n (l ∷ []) = refuse malformed_line n
offsets_from n (l ∷ m ∷ ls) = do
  ps ← given (list_line word l) malformed_line n
  es ← entries_from (n + 1) (m ∷ ls)
  ok (ps, es)

-- code from line n on, then the rest
unfoldable pub given_from : ℕ → List (List ℕ) → Res Given
given_from n [] = refuse malformed_line n
given_from n (l ∷ []) = refuse malformed_line n
given_from n (l ∷ m ∷ ls) = do
  cs ← given (list_line byte l) malformed_line n
  r ← offsets_from (n + 1) (m ∷ ls)
  ok (record { code = cs; protected = r.0; lines = r.1 })

-- 7, 9 (a bad count line is 9, 0), a malformed line, then the call's refusals; `place` is what 7 names
unfoldable pub passed : ℕ → List ℕ → Res (Sheet × Rewritten)
passed place input =
    let sheet = cut_line input in
    let count = cut_line sheet.1 in do
      s ← given (read_sheet sheet.0) bad_sheet place
      k ← given (count_line (without_lf count.0)) bad_rule 0
      let rules = cut_lines k count.1 in do
        rs ← read_rules rules.0
        g ← given_from (3 + length rs) (split lf rules.1)
        r ← rewrite_files place sheet.0 rules.0 g
        ok (s, r)

-- ---- the text

unfoldable pub offset_lines : List ℕ → List ℕ
offset_lines [] = []
offset_lines (x ∷ xs) = code "p" ∷ fields (x ∷ []) ++ offset_lines xs

unfoldable pub refusal_line : ℕ → ℕ → List ℕ
refusal_line n p = elim (eqb n malformed_line) [ true ↦ n ∷ fields (p ∷ []) | false ↦ number_line n (p ∷ []) ]

unfoldable pub text : Res (Sheet × Rewritten) → List ℕ
text (refuse n p) = refusal_line n p
text (ok a) =
    let r = a.1 in
    number_line 0 (length r.code ∷ length r.protected ∷ length r.line_map ∷ [])
    ++ offset_lines r.protected ++ entry_lines r.line_map ++ instruction_lines 0 (decode a.0 r.code)

-- what the program prints for its input: all of it is fixed but 7's place, which is one at fault
pub record Prints (input output : List ℕ) : Type 0 where
  pub place : ℕ
  pub free : Free (cut_line input).0 place
  pub is : output ≡ text (passed place input)

-- `unfolding open-Passes` names all of this module's definitions at once
unfoldable pub open-Passes : Unit {0}
unfolding these list_line entry_line entries_from offsets_from given_from passed offset_lines refusal_line text
open-Passes = tt
