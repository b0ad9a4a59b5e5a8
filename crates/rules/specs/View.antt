-- Rules in a lent table: a row of numbers each, in the order of a rule line, with 0 for a number or an operand that no test or action reads.
use Rattle.std.specs.Prelude.{◌≡◌, Bool, true, false, ◌&&◌, List, [], ◌∷◌, ◌++◌, ℕ, zero, suc, ◌+◌, ◌-◌, ◌*◌, ◌/◌, ◌≤◌, ◌<◌, min, eqb, leb, ltb, length, get_or, take, drop}
use Rattle.std.specs.Prelude as code
use Rattle.std.specs.Coded.{×_prop, Unit-prop}
use Rattle.std.proofs.Props.{props}
use Rattle.std.specs.Prelude.{Some, None}
use Rattle.std.proofs.Math.Option.{Option, some, none}
use Rattle.std.proofs.Math.ListN.{get_elem?}
use Rattle.definition.specs.Limits.{max_rules, output_short}
use Rattle.definition.specs.Res.{Res, ok, refuse, ◌>>◌, demand}
use Rattle.definition.specs.Field.{Numbers, wrong, are, numbers}
use Rattle.definition.specs.Opcode.{number, roles, role_count}
use Rattle.definition.specs.Lent.{zeros, filled}
use Rattle.definition.specs.Opcode as opcode
use Rattle.definition.specs.Rules as def
use Rattle.definition.specs.Rules.{Rule, Test, always, operands_equal, first_is, second_is, keep, remove, rewrite_operand, nameable, last_test, last_action, good_rule, read_rules, rule_fields, rule_of, rule_from, test_numbered}
use Rattle.field.specs.View.{line_end, line_fields}
use Rattle.rules.specs.declared.Action.{Action}
use Rattle.rules.specs.declared.Action.TheVariants.{Keep, Remove, RewriteOperand}
use Rattle.rules.specs.declared.Instruction.{Instruction}
use Rattle.rules.specs.declared.Line.{Line}

abbrev pub action_view : Action → def.Action
action_view Keep = keep
action_view Remove = remove
action_view (RewriteOperand n) = rewrite_operand n

-- a number over the last role's stands for no role
abbrev pub instruction_view : Instruction → def.Instruction
instruction_view i = record { role = get_elem? roles i.role; operand = i.operand }

-- ---- a rule's row

-- its numbers by place, as in a rule line
abbrev pub pass_at : ℕ
pass_at = 0

abbrev pub first_at : ℕ
first_at = 1

abbrev pub second_at : ℕ
second_at = 2

abbrev pub test_at : ℕ
test_at = 3

abbrev pub number_at : ℕ
number_at = 4

abbrev pub one_at : ℕ
one_at = 5

abbrev pub one_operand_at : ℕ
one_operand_at = 6

abbrev pub two_at : ℕ
two_at = 7

abbrev pub two_operand_at : ℕ
two_operand_at = 8

abbrev pub row_size : ℕ
row_size = 9

abbrev pub table_size : ℕ
table_size = max_rules * row_size

-- tests and actions by number
abbrev pub always_tag : ℕ
always_tag = 0

abbrev pub operands_equal_tag : ℕ
operands_equal_tag = 1

abbrev pub first_is_tag : ℕ
first_is_tag = 2

abbrev pub second_is_tag : ℕ
second_is_tag = 3

abbrev pub keep_tag : ℕ
keep_tag = 0

abbrev pub remove_tag : ℕ
remove_tag = 1

abbrev pub rewrite_tag : ℕ
rewrite_tag = 2

unfoldable pub test_tag : Test → ℕ
test_tag always = always_tag
test_tag operands_equal = operands_equal_tag
test_tag (first_is n) = first_is_tag
test_tag (second_is n) = second_is_tag

unfoldable pub test_number : Test → ℕ
test_number always = 0
test_number operands_equal = 0
test_number (first_is n) = n
test_number (second_is n) = n

unfoldable pub action_tag : def.Action → ℕ
action_tag keep = keep_tag
action_tag remove = remove_tag
action_tag (rewrite_operand n) = rewrite_tag

unfoldable pub action_operand : def.Action → ℕ
action_operand keep = 0
action_operand remove = 0
action_operand (rewrite_operand n) = n

unfoldable pub row_of : Rule → List ℕ
row_of r = r.pass ∷ number r.first ∷ number r.second ∷ test_tag r.test ∷ test_number r.test
    ∷ action_tag r.one ∷ action_operand r.one ∷ action_tag r.two ∷ action_operand r.two ∷ []

unfoldable pub rows_of : List Rule → List ℕ
rows_of [] = []
rows_of (r ∷ rs) = row_of r ++ rows_of rs

-- the whole table: the rows, and 0 behind them
unfoldable pub table_of : List Rule → List ℕ
table_of rs = filled table_size (rows_of rs)

-- ---- what reading answers

-- reading into a table of `room` numbers: 14 for a shorter one
unfoldable pub read_into : ℕ → List ℕ → Res (List Rule)
read_into room text = demand (leb table_size room) output_short 0 >> read_rules text

-- how many rules there are
unfoldable pub answer_of : Res (List Rule) → Res ℕ
answer_of (ok rs) = ok (length rs)
answer_of (refuse n p) = refuse n p

unfoldable pub table_for : ℕ → Res (List Rule) → List ℕ
table_for room (ok rs) = filled room (rows_of rs)
table_for room (refuse n p) = zeros room

pub record Answered (room : ℕ) (x : Res (List Rule)) (r : Res ℕ) (table : List ℕ) : Type 0 where
  pub is : r ≡ answer_of x
  pub holds : table ≡ table_for room x

-- the numbers of the line that starts at `at` of a text, which must have its LF
unfoldable pub line_numbers : List ℕ → ℕ → Numbers
line_numbers text at = elim (ltb (line_end text at) (length text)) [ true ↦ numbers rule_fields (line_fields text at) | false ↦ wrong ]

-- what a table of any length starts with once the rows are read into it: the rules' rows, or what is cleared next
abbrev pub Rows : List ℕ → List ℕ → List ℕ → Res ℕ → Type 0
Rows text old new (ok n) = (table_size ≤ length old) × (n ≤ max_rules) × ((rs : List Rule) × (read_rules text ≡ ok rs) × (n ≡ length rs) × (take (n * row_size) new ≡ rows_of rs))
Rows text old new (refuse n p) = read_into (length old) text ≡ refuse n p

-- one line, if it is good: its row and where the next line starts
unfoldable pub line_of : ℕ → Option Rule → code.Option Line
line_of next none = None
line_of next (some r) = Some (record { numbers = row_of r; next = next })

abbrev pub line_at : List ℕ → ℕ → code.Option Line
line_at text at = line_of (line_end text at + 1) (rule_from (line_numbers text at))

-- what the fields' ranges say of a line's numbers
pub record Bounded (ns : List ℕ) : Type 0 where
  pub first : get_or ns first_at 0 < nameable
  pub second : get_or ns second_at 0 < nameable
  pub test : get_or ns test_at 0 ≤ last_test
  pub one : get_or ns one_at 0 ≤ last_action
  pub two : get_or ns two_at 0 ≤ last_action

-- a number that is read, or 0
unfoldable pub used : Bool → ℕ → ℕ
used true n = n
used false n = 0

-- a line's numbers and where the next line starts, or that no rule is made of what the line holds
abbrev pub Numbered : List ℕ → ℕ → code.Option Line → Type 0
Numbered text at (Some l) = (line_numbers text at ≡ are l.numbers) × (l.next ≡ line_end text at + 1)
Numbered text at None = rule_from (line_numbers text at) ≡ none

-- ---- the rules of a table

abbrev pub row_at : List ℕ → ℕ → List ℕ
row_at table i = take row_size (drop (i * row_size) table)

unfoldable pub rule_at : List ℕ → ℕ → Rule
rule_at table i = rule_of (row_at table i)

-- the first n
unfoldable pub rules_in : List ℕ → ℕ → List Rule
rules_in table zero = []
rules_in table (suc n) = rule_of (take row_size table) ∷ rules_in (drop row_size table) n

-- a rule that 9 accepts
pub record Accepted (r : Rule) : Type 0 where
  pub good : good_rule r ≡ true
  pub first : number r.first < nameable
  pub second : number r.second < nameable

unfoldable pub Each : List Rule → Type 0
Each [] = Unit {0}
Each (r ∷ rs) = Accepted r × Each rs

-- a table that holds this many rules, as reading leaves it
pub record IsRules (table : List ℕ) (count : ℕ) : Type 0 where
  pub few : count ≤ max_rules
  pub is : table ≡ table_of (rules_in table count)
  pub accepted : Each (rules_in table count)

-- which holds in one way, so that it may be a ghost field
pub Each-prop : (rs : List Rule) → IsProp (Each rs)
unfolding Each
Each-prop [] = Unit-prop
Each-prop (r ∷ rs) = ×_prop (Prim.hlevel props) (Each-prop rs)

pub IsRules-prop : (table : List ℕ) (count : ℕ) → IsProp (IsRules table count)
IsRules-prop table count = Prim.hlevel (props, Each-prop)

-- a row as reading leaves it: it is there, and its roles are roles
pub record RowAt (table : List ℕ) (at : ℕ) : Type 0 where
  pub there : at < max_rules
  pub long : length table ≡ table_size
  pub first : get_or table (at * row_size + first_at) 0 < length roles
  pub second : get_or table (at * row_size + second_at) 0 < length roles

-- ---- the lookup

-- the rows that are whole in a table of any length
unfoldable pub row_count : List ℕ → ℕ
row_count table = length table / row_size

-- is a row a rule of a pass for pairs that start with a role?
unfoldable pub row_starts : ℕ → ℕ → List ℕ → Bool
row_starts pass role row = eqb (get_or row pass_at 0) pass && eqb (get_or row first_at 0) role

-- does a row, by its numbers, fit two instructions of a pass?
unfoldable pub row_fits : ℕ → List ℕ → Instruction → Instruction → Bool
row_fits pass row a b = row_starts pass a.role row && (eqb (get_or row second_at 0) b.role
    && def.test_holds (test_numbered (get_or row test_at 0) (get_or row number_at 0)) a.operand b.operand)

-- the first of n rows that fits, where the first of them has number i
unfoldable pub found_from : ℕ → Instruction → Instruction → ℕ → ℕ → List ℕ → code.Option ℕ
found_from pass a b i zero table = None
found_from pass a b i (suc n) table = elim (row_fits pass (take row_size table) a b) [ true ↦ Some i | false ↦ found_from pass a b (suc i) n (drop row_size table) ]

unfoldable pub found_in : List ℕ → ℕ → ℕ → Instruction → Instruction → code.Option ℕ
found_in table count pass a b = found_from pass a b 0 (min count (row_count table)) table

-- the actions of a row; a row that is not there changes nothing
unfoldable pub actions_in : List ℕ → ℕ → List def.Action
actions_in table i = elim (ltb i (row_count table)) [ true ↦ (rule_at table i).one ∷ (rule_at table i).two ∷ [] | false ↦ keep ∷ keep ∷ [] ]

-- what the lookup finds in a table that was read
unfoldable pub Inside : ℕ → code.Option ℕ → Type 0
Inside count (Some i) = i < count
Inside count None = Unit {0}

unfoldable pub pair_at : List ℕ → code.Option ℕ → Option (def.Action × def.Action)
pair_at table None = none
pair_at table (Some i) = some ((rule_at table i).one, (rule_at table i).two)

pub record Finds (table : List ℕ) (count pass : ℕ) (a b : Instruction) (r : code.Option ℕ) : Type 0 where
  pub inside : Inside count r
  pub is : pair_at table r ≡ def.matches pass (rules_in table count) (instruction_view a) (instruction_view b)

-- ---- the index of a pass

-- stands for no rule
abbrev pub no_rule : ℕ
no_rule = max_rules

-- elements of an index: one for each role, and behind them one for each rule
abbrev pub index_size : ℕ
index_size = role_count + max_rules

-- the first of n rows that starts with a role, where the first of them has number i
unfoldable pub start_from : ℕ → ℕ → ℕ → ℕ → List ℕ → ℕ
start_from pass role i zero table = no_rule
start_from pass role i (suc n) table = elim (row_starts pass role (take row_size table)) [ true ↦ i | false ↦ start_from pass role (suc i) n (drop row_size table) ]

-- the first from rule i on
unfoldable pub next_in : List ℕ → ℕ → ℕ → ℕ → ℕ → ℕ
next_in table count pass role i = start_from pass role i (count - i) (drop (i * row_size) table)

-- an element of the index: by role the first rule that starts with it, behind those by rule the next that starts as it does
unfoldable pub index_at : List ℕ → ℕ → ℕ → ℕ → ℕ
index_at table count pass i = elim (ltb i role_count) [ true ↦ next_in table count pass i 0 | false ↦ next_in table count pass (get_or table ((i - role_count) * row_size + first_at) 0) (i - role_count + 1) ]

-- n numbers from f i on
unfoldable pub listed : (ℕ → ℕ) → ℕ → ℕ → List ℕ
listed f i zero = []
listed f i (suc n) = f i ∷ listed f (suc i) n

unfoldable pub index_in : List ℕ → ℕ → ℕ → List ℕ
index_in table count pass = listed (index_at table count pass) 0 index_size

-- it is the index, and so it is read
pub record Indexed (table : List ℕ) (count pass : ℕ) (index : List ℕ) : Type 0 where
  pub is : index ≡ index_in table count pass
  pub long : length index ≡ index_size
  pub heads : (role : ℕ) → role < role_count → get_or index role 0 ≡ next_in table count pass role 0
  pub nexts : (i : ℕ) → i < max_rules → get_or index (role_count + i) 0 ≡ next_in table count pass (get_or table (i * row_size + first_at) 0) (i + 1)

-- what an index has for a role; no_rule for a number that no role has
unfoldable pub head_in : List ℕ → ℕ → ℕ
head_in index role = elim (ltb role role_count) [ true ↦ get_or index role 0 | false ↦ no_rule ]

-- what the rows, tests and actions are unfolded by
unfoldable pub open_rules : Unit {0}
unfolding opcode.open-Opcode def.open-Rules used row_starts row_fits head_in
open_rules = tt
