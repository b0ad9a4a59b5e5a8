-- Pair rules: reading a rule file from any bytes (document 01, 'Rules'; refusal 9), and the lookup that the rewriter asks (`matches`).
use Rattle.std.specs.Prelude.{ℕ, ◌+◌, suc, List, [], ◌∷◌, Bool, true, false, ◌&&◌, eqb, leb, get_or}
use Rattle.std.proofs.Math.Option.{Option, some, none}
use Rattle.definition.specs.Limits.{max_field, max_rules, max_variables, pass_count, bad_rule}
use Rattle.definition.specs.Res.{Res, ok, ◌>>=◌, ◌>>◌, demand, given}
use Rattle.definition.specs.Field.{lf, comma, split, Field, up_to, below, Numbers, wrong, far, are, numbers}
use Rattle.definition.specs.Opcode.{Role, dup, pop, load_var, store_var, load_const, load_true, load_false, arithmetic, logic, neg, bool_not, compare, jmp, jmp_if_not, cmp_br, ret, roles, number, size, Effect, up, down, same, effect}

-- what is done with one instruction of a matched pair (the source's `Action`)
pub data Action : Type 0 where
  keep remove : Action
  rewrite_operand : ℕ → Action

-- when a rule fits two instructions of its roles
pub data Test : Type 0 where
  always : Test
  operands_equal : Test
  first_is : ℕ → Test
  second_is : ℕ → Test

pub record Rule : Type 0 where
  pub pass : ℕ
  pub first : Role
  pub second : Role
  pub test : Test
  pub one : Action
  pub two : Action

-- ---- reading

-- the first role that no rule may name: the branches and RET are the last four
abbrev pub nameable : ℕ
nameable = 23

-- the last test and the last action by number
abbrev pub last_test : ℕ
last_test = 3

abbrev pub last_action : ℕ
last_action = 2

unfoldable pub rule_fields : List Field
rule_fields = up_to pass_count ∷ below nameable ∷ below nameable ∷ up_to last_test ∷ up_to max_field ∷ up_to last_action ∷ up_to max_field ∷ up_to last_action ∷ up_to max_field ∷ []

unfoldable pub role_numbered : ℕ → Role
role_numbered n = get_or roles n ret

unfoldable pub test_numbered : ℕ → ℕ → Test
test_numbered t n = get_or (always ∷ operands_equal ∷ first_is n ∷ second_is n ∷ []) t always

unfoldable pub action_numbered : ℕ → ℕ → Action
action_numbered a n = get_or (keep ∷ remove ∷ rewrite_operand n ∷ []) a keep

unfoldable pub rule_of : List ℕ → Rule
rule_of ns = record {
  pass = get_or ns 0 0;
  first = role_numbered (get_or ns 1 0);
  second = role_numbered (get_or ns 2 0);
  test = test_numbered (get_or ns 3 0) (get_or ns 4 0);
  one = action_numbered (get_or ns 5 0) (get_or ns 6 0);
  two = action_numbered (get_or ns 7 0) (get_or ns 8 0);
}

-- of the roles that a rule may name, those of three bytes have an operand
unfoldable pub has_operand : Role → Bool
has_operand r = eqb (size r) 3

unfoldable pub testable : Test → Role → Role → Bool
testable always a b = true
testable operands_equal a b = has_operand a && has_operand b
testable (first_is n) a b = has_operand a
testable (second_is n) a b = has_operand b

unfoldable pub is_variable : Role → Bool
is_variable dup = false
is_variable pop = false
is_variable load_var = true
is_variable store_var = true
is_variable load_const = false
is_variable load_true = false
is_variable load_false = false
is_variable (arithmetic o) = false
is_variable (logic o) = false
is_variable neg = false
is_variable bool_not = false
is_variable (compare c) = false
is_variable jmp = false
is_variable jmp_if_not = false
is_variable cmp_br = false
is_variable ret = false

unfoldable pub allowed : Action → Role → Bool
allowed keep r = true
allowed remove r = true
allowed (rewrite_operand n) r = is_variable r && leb (suc n) max_variables

-- the height change that an action takes out of the code
unfoldable pub removed : Action → Role → Effect
removed keep r = same
removed remove r = effect r
removed (rewrite_operand n) r = same

unfoldable pub cancel : Effect → Effect → Bool
cancel up up = false
cancel up down = true
cancel up same = false
cancel down up = true
cancel down down = false
cancel down same = false
cancel same up = false
cancel same down = false
cancel same same = true

unfoldable pub good_rule : Rule → Bool
good_rule r = leb 1 r.pass && (testable r.test r.first r.second && (allowed r.one r.first && (allowed r.two r.second
    && cancel (removed r.one r.first) (removed r.two r.second))))

unfoldable pub good_only : Rule → Option Rule
good_only r = elim (good_rule r) [ true ↦ some r | false ↦ none ]

unfoldable pub rule_from : Numbers → Option Rule
rule_from wrong = none
rule_from far = none
rule_from (are ns) = good_only (rule_of ns)

-- the rule that a line spells, if it is good
unfoldable pub read_rule : List ℕ → Option Rule
read_rule line = rule_from (numbers rule_fields (split comma line))

unfoldable pub is_empty : List ℕ → Bool
is_empty [] = true
is_empty (b ∷ bs) = false

-- the rules of a file's parts between LFs, the first of which is line n; what follows the last LF must be empty
unfoldable pub rules_from : ℕ → List (List ℕ) → Res (List Rule)
rules_from n [] = ok []
rules_from n (l ∷ []) = demand (is_empty l) bad_rule n >> ok []
rules_from n (l ∷ m ∷ ls) = do
  demand (leb n max_rules) bad_rule n
  r ← given (read_rule l) bad_rule n
  rs ← rules_from (n + 1) (m ∷ ls)
  ok (r ∷ rs)

unfoldable pub read_rules : List ℕ → Res (List Rule)
read_rules t = rules_from 1 (split lf t)

-- ---- the lookup

-- an instruction as a rule sees it; an opcode that the sheet does not list has no role
pub record Instruction : Type 0 where
  pub role : Option Role
  pub operand : ℕ

unfoldable pub has_role : Role → Option Role → Bool
has_role r none = false
has_role r (some q) = eqb (number r) (number q)

unfoldable pub test_holds : Test → ℕ → ℕ → Bool
test_holds always a b = true
test_holds operands_equal a b = eqb a b
test_holds (first_is n) a b = eqb a n
test_holds (second_is n) a b = eqb b n

unfoldable pub fits : ℕ → Rule → Instruction → Instruction → Bool
fits pass r a b = eqb r.pass pass && (has_role r.first a.role && (has_role r.second b.role && test_holds r.test a.operand b.operand))

-- the pair of actions of the first line of the pass that fits
unfoldable pub matches : ℕ → List Rule → Instruction → Instruction → Option (Action × Action)
matches pass [] a b = none
matches pass (r ∷ rs) a b = elim (fits pass r a b) [ true ↦ some (r.one, r.two) | false ↦ matches pass rs a b ]

-- `unfolding open-Rules` names all of this module's definitions at once
unfoldable pub open-Rules : Unit {0}
unfolding rule_fields role_numbered test_numbered action_numbered rule_of has_operand testable is_variable allowed removed cancel good_rule good_only rule_from read_rule is_empty rules_from read_rules has_role test_holds fits matches
open-Rules = tt
