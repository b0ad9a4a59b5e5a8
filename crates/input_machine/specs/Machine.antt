-- The input of the listing and of the passes program read a byte at a time, in bounded room, whatever its length: the machine that the reader's code
-- is. Both inputs begin with sheet, count and rules; what follows the rules is a phase that each step is given. That the machine reads what the
-- definition says is shown in proofs/.
use Rattle.std.specs.Prelude.{ℕ, ◌+◌, ◌-◌, ◌*◌, suc, List, [], ◌∷◌, Bool, true, false, ◌&&◌, ◌||◌, eqb, leb, ltb}
use Rattle.definition.specs.Limits.{max_code, max_protected, max_lines, entry_size, max_program, max_rules, max_field, bad_sheet, bad_rule}
use Rattle.definition.specs.Res.{Res, ok, refuse, ◌>>=◌, given}
use Rattle.definition.specs.Field.{lf, comma, digit0, digit9}
use Rattle.definition.specs.Opcode.{Sheet, role_count, comparison_count}
use Rattle.definition.specs.Sheet.{read_sheet}
use Rattle.definition.specs.Rules.{read_rules}
use Rattle.definition.specs.Alone.{Given, Rewritten, rewrite_files}
use Rattle.definition.specs.Compile.{FinalizedFunction, compile_files}
use Rattle.definition.specs.Passes.{malformed_line}
use Rattle.store.specs.Store.{Store, contents, push}

-- ---- where the reading stands

pub data Phase : Type 0 where
  sheet_line count_line rule_line : Phase
  -- the passes program's
  code_line offset_line entry_line : Phase
  -- the listing's: all that is left
  program_text : Phase
  -- at a malformed line, or one that counts no rules: what follows is not read
  malformed uncounted : Phase

-- a line of the input, rule lines still to come, the fields of the line before this one, and of this one the bytes that were kept or the number so far
pub record Head : Type 0 where
  pub phase : Phase
  pub line : ℕ
  pub left : ℕ
  pub index : ℕ
  pub kept : ℕ
  pub number : ℕ

-- no digit yet, and what is no number up to max_field
abbrev pub blank : ℕ
blank = max_field + 1

abbrev pub bad : ℕ
bad = max_field + 2

-- of a line of the sheet or the rules so many fields are kept, and of each so many bytes: one more than in any that is good
abbrev pub field_room : ℕ
field_room = role_count + comparison_count + 1

abbrev pub field_width : ℕ
field_width = 6

abbrev pub last_line : ℕ
last_line = 18446744073709551615

unfoldable pub line_after : ℕ → ℕ
line_after n = elim (ltb n last_line) [ true ↦ suc n | false ↦ n ]

unfoldable pub line_in : Phase → ℕ → ℕ → Head
line_in p line left = record { phase = p; line = line; left = left; index = 0; kept = 0; number = blank }

unfoldable pub start : Head
start = line_in sheet_line 1 0

-- ---- a byte within a field

unfoldable pub with_kept : ℕ → ℕ → Head → Head
with_kept index kept h = record { phase = h.phase; line = h.line; left = h.left; index = index; kept = kept; number = h.number }

unfoldable pub with_number : ℕ → ℕ → Head → Head
with_number index number h = record { phase = h.phase; line = h.line; left = h.left; index = index; kept = h.kept; number = number }

unfoldable pub field_after : ℕ → ℕ
field_after i = elim (ltb i field_room) [ true ↦ suc i | false ↦ i ]

-- is a byte that parts no fields kept?
unfoldable pub keeps : Head → Bool
keeps h = ltb h.index field_room && ltb h.kept field_width

unfoldable pub text_byte : Head → ℕ → Head
text_byte h b = elim (eqb b comma) [
  | true ↦ with_kept (field_after h.index) 0 h
  | false ↦ elim (keeps h) [ true ↦ with_kept h.index (suc h.kept) h | false ↦ h ]
]

unfoldable pub at_most : ℕ → ℕ
at_most n = elim (leb n max_field) [ true ↦ n | false ↦ bad ]

-- a digit after a number so far: after 0 none may come
unfoldable pub digit_after : ℕ → ℕ → ℕ
digit_after n d = elim (eqb n blank) [
  | true ↦ d
  | false ↦ elim (eqb n 0 || ltb max_field n) [ true ↦ bad | false ↦ at_most (n * 10 + d) ]
]

unfoldable pub number_after : ℕ → ℕ → ℕ
number_after n b = elim (leb digit0 b && leb b digit9) [ true ↦ digit_after n (b - digit0) | false ↦ bad ]

unfoldable pub digit_byte : Head → ℕ → Head
digit_byte h b = with_number h.index (number_after h.number b) h

-- ---- ends of fields and lines

unfoldable pub stop : Phase → Head → Head
stop p h = line_in p h.line 0

unfoldable pub is_blank : Head → Bool
is_blank h = eqb h.index 0 && eqb h.number blank

-- rules, where some are left; else what follows them
unfoldable pub rules_at : Phase → ℕ → ℕ → Head
rules_at q line left = elim (eqb left 0) [ true ↦ line_in q line 0 | false ↦ line_in rule_line line left ]

unfoldable pub counted : Phase → Head → Head
counted q h = elim (leb h.number max_rules) [ true ↦ rules_at q (line_after h.line) h.number | false ↦ stop uncounted h ]

-- a comma in a line of any count of numbers
unfoldable pub list_comma : ℕ → Head → Head
list_comma most h = elim (leb h.number most) [ true ↦ with_number (field_after h.index) blank h | false ↦ stop malformed h ]

unfoldable pub list_end : ℕ → Phase → Head → Head
list_end most next h = elim (is_blank h || leb h.number most) [ true ↦ line_in next (line_after h.line) 0 | false ↦ stop malformed h ]

unfoldable pub list_byte : ℕ → Phase → Head → ℕ → Head
list_byte most next h b = elim (eqb b lf) [
  | true ↦ list_end most next h
  | false ↦ elim (eqb b comma) [ true ↦ list_comma most h | false ↦ digit_byte h b ]
]

unfoldable pub entry_comma : Head → Head
entry_comma h = elim (leb h.number max_field && ltb (suc h.index) entry_size) [ true ↦ with_number (suc h.index) blank h | false ↦ stop malformed h ]

unfoldable pub entry_end : Head → Head
entry_end h = elim (leb h.number max_field && eqb (suc h.index) entry_size) [ true ↦ line_in entry_line (line_after h.line) 0 | false ↦ stop malformed h ]

unfoldable pub entry_byte : Head → ℕ → Head
entry_byte h b = elim (eqb b lf) [
  | true ↦ entry_end h
  | false ↦ elim (eqb b comma) [ true ↦ entry_comma h | false ↦ digit_byte h b ]
]

-- the largest number of a code line
abbrev pub max_byte : ℕ
max_byte = 255

-- q follows the rules
unfoldable pub next_in : Phase → Phase → Head → ℕ → Head
next_in q sheet_line h b = elim (eqb b lf) [ true ↦ line_in count_line (line_after h.line) 0 | false ↦ text_byte h b ]
next_in q count_line h b = elim (eqb b lf) [ true ↦ counted q h | false ↦ digit_byte h b ]
next_in q rule_line h b = elim (eqb b lf) [ true ↦ rules_at q (line_after h.line) (h.left - 1) | false ↦ text_byte h b ]
next_in q code_line h b = list_byte max_byte offset_line h b
next_in q offset_line h b = list_byte max_field entry_line h b
next_in q entry_line h b = entry_byte h b
next_in q program_text h b = h
next_in q malformed h b = h
next_in q uncounted h b = h

unfoldable pub next : Phase → Head → ℕ → Head
next q h b = next_in q h.phase h b

-- ---- what is kept

pub data Put : Type 0 where
  nothing : Put
  into_sheet into_rules into_code into_offsets into_entries : ℕ → Put

unfoldable pub put_if : Bool → Put → Put
put_if true p = p
put_if false p = nothing

-- a line's LF is kept, a comma where a field is kept after it
unfoldable pub is_kept : Head → ℕ → Bool
is_kept h b = elim (eqb b lf) [
  | true ↦ true
  | false ↦ elim (eqb b comma) [ true ↦ ltb (suc h.index) field_room | false ↦ keeps h ]
]

-- does a number up to this one end here?
unfoldable pub ends : ℕ → Head → ℕ → Bool
ends most h b = (eqb b lf || eqb b comma) && leb h.number most

unfoldable pub put_in : Phase → Head → ℕ → Put
put_in sheet_line h b = put_if (is_kept h b) (into_sheet b)
put_in count_line h b = nothing
put_in rule_line h b = put_if (is_kept h b) (into_rules b)
put_in code_line h b = put_if (ends max_byte h b) (into_code h.number)
put_in offset_line h b = put_if (ends max_field h b) (into_offsets h.number)
put_in entry_line h b = put_if (ends max_field h b) (into_entries h.number)
put_in program_text h b = into_code b
put_in malformed h b = nothing
put_in uncounted h b = nothing

pub record Stores : Type 0 where
  pub sheet : Store
  pub rules : Store
  -- of the listing, the program
  pub code : Store
  pub offsets : Store
  pub entries : Store

unfoldable pub stored : Stores → Put → Stores
stored s nothing = s
stored s (into_sheet x) = record { sheet = push s.sheet x; rules = s.rules; code = s.code; offsets = s.offsets; entries = s.entries }
stored s (into_rules x) = record { sheet = s.sheet; rules = push s.rules x; code = s.code; offsets = s.offsets; entries = s.entries }
stored s (into_code x) = record { sheet = s.sheet; rules = s.rules; code = push s.code x; offsets = s.offsets; entries = s.entries }
stored s (into_offsets x) = record { sheet = s.sheet; rules = s.rules; code = s.code; offsets = push s.offsets x; entries = s.entries }
stored s (into_entries x) = record { sheet = s.sheet; rules = s.rules; code = s.code; offsets = s.offsets; entries = push s.entries x }

-- ---- the machine

pub record State : Type 0 where
  pub head : Head
  pub stores : Stores

unfoldable pub step : Phase → State → ℕ → State
step q s b = record { head = next q s.head b; stores = stored s.stores (put_in s.head.phase s.head b) }

unfoldable pub steps : Phase → State → List ℕ → State
steps q s [] = s
steps q s (b ∷ bs) = steps q (step q s b) bs

-- the room that loses nothing of any input
abbrev pub sheet_room : ℕ
sheet_room = field_room * suc field_width

abbrev pub rule_room : ℕ
rule_room = max_rules * sheet_room

abbrev pub code_room : ℕ
code_room = suc max_code

abbrev pub offset_room : ℕ
offset_room = suc max_protected

abbrev pub entry_room : ℕ
entry_room = entry_size * suc max_lines

abbrev pub program_room : ℕ
program_room = suc max_program

-- ---- the end of the input

pub data Ending : Type 0 where
  whole : Ending
  -- a malformed line
  cut : ℕ → Ending
  -- no count line
  countless : Ending

unfoldable pub ending_in : Phase → Head → Ending
ending_in sheet_line h = countless
ending_in count_line h = countless
ending_in rule_line h = cut h.line
ending_in code_line h = cut h.line
ending_in offset_line h = cut h.line
ending_in entry_line h = elim (is_blank h) [ true ↦ whole | false ↦ cut h.line ]
ending_in program_text h = whole
ending_in malformed h = cut h.line
ending_in uncounted h = countless

unfoldable pub ending : Head → Ending
ending h = ending_in h.phase h

unfoldable pub given_in : Stores → Given
given_in s = record { code = contents s.code; protected = contents s.offsets; lines = contents s.entries }

-- what the passes program answers at the end; `place` is what 7 names
unfoldable pub concluded_as : Ending → ℕ → Stores → Res (Sheet × Rewritten)
concluded_as whole place s = do
  sheet ← given (read_sheet (contents s.sheet)) bad_sheet place
  r ← rewrite_files place (contents s.sheet) (contents s.rules) (given_in s)
  ok (sheet, r)
concluded_as (cut n) place s = do
  sheet ← given (read_sheet (contents s.sheet)) bad_sheet place
  rules ← read_rules (contents s.rules)
  refuse malformed_line n
concluded_as countless place s = do
  sheet ← given (read_sheet (contents s.sheet)) bad_sheet place
  refuse bad_rule 0

unfoldable pub concluded : ℕ → State → Res (Sheet × Rewritten)
concluded place s = concluded_as (ending s.head) place s.stores

-- what the listing answers: an input that ends within the rules has no program
unfoldable pub listed_from : ℕ → Stores → Res (Sheet × FinalizedFunction)
listed_from place s = do
  sheet ← given (read_sheet (contents s.sheet)) bad_sheet place
  f ← compile_files place (contents s.sheet) (contents s.rules) (contents s.code)
  ok (sheet, f)

unfoldable pub listed_as : Ending → ℕ → Stores → Res (Sheet × FinalizedFunction)
listed_as whole place s = listed_from place s
listed_as (cut n) place s = listed_from place s
listed_as countless place s = do
  sheet ← given (read_sheet (contents s.sheet)) bad_sheet place
  refuse bad_rule 0

unfoldable pub listed_at : ℕ → State → Res (Sheet × FinalizedFunction)
listed_at place s = listed_as (ending s.head) place s.stores

-- `unfolding open-Machine` names all of this module's definitions at once
unfoldable pub open-Machine : Unit {0}
unfolding line_after line_in start with_kept with_number field_after keeps text_byte at_most digit_after number_after digit_byte stop is_blank rules_at counted list_comma list_end list_byte entry_comma entry_end entry_byte next_in next put_if is_kept ends put_in stored step steps ending_in ending given_in concluded_as concluded listed_from listed_as listed_at
open-Machine = tt
