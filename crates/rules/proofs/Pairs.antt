-- What a rule file that 9 accepts gives: pairs whose rewriting keeps every height.
use mathlib.Core.Path.{◌≡◌, refl, ap, sym, ◌∙◌}
use mathlib.Core.Bool.{Bool, true, false}
use mathlib.Core.Option.{Option, some, none}
use mathlib.Core.List.{List, [], ◌∷◌}
use Prim.Native.Nat.{ℕ, zero, suc, ◌+◌, ◌≤◌, ◌<◌}
use native.Mathlib.Omega.{arith}
use borrow.Author.Tests.{eqb-true, leb-true}
use lib.Dec.{eqb, leb}
use lib.ListN.{length, get_or}
use Rattle.definition.specs.Limits.{max_rules, max_variables, bad_rule}
use Rattle.definition.specs.Res.{Res, ok, refuse, ◌>>=◌, ◌>>◌, demand, given}
use Rattle.definition.specs.Field.{lf, comma, split, Numbers, wrong, far, are, numbers}
use Rattle.definition.specs.Opcode.{Role, dup, pop, load_var, store_var, load_const, load_true, load_false, arithmetic, logic, neg, bool_not, compare, jmp, jmp_if_not, cmp_br, ret, number, Effect, up, down, same, shift, onward, traits_of, traits, size, needs, effect, flow}
use Rattle.definition.specs.Rules.{Action, keep, remove, rewrite_operand, Rule, Instruction, nameable, rule_fields, rule_of, is_variable, allowed, removed, cancel, testable, good_rule, good_only, rule_from, read_rule, is_empty, rules_from, read_rules, role_numbered, has_role, fits, matches}
use Rattle.rules.specs.View.{Accepted, Each, Bounded, table_of, IsRules}
use Rattle.rules.proofs.Lines.{bounded}
use Rattle.field.proofs.Tests.{and_left, and_right}
use Rattle.opcode.proofs.Sheets.{role-number}
use Rattle.rules.proofs.Rows.{number-back, small}
use Rattle.rules.proofs.Table.{is-rules}

-- ---- what reading accepts

numbers-accepted : (ns : List ℕ) → Bounded ns → good_rule (rule_of ns) ≡ true → Accepted (rule_of ns)
unfolding rule_of
numbers-accepted ns b g = record {
  good = g;
  first = rw (number-back (get_or ns 1 0) (small b.first)) b.first;
  second = rw (number-back (get_or ns 2 0) (small b.second)) b.second;
}

good-accepted : (ns : List ℕ) → Bounded ns → {r : Rule} → good_only (rule_of ns) ≡ some r → Accepted r
unfolding good_only
good-accepted ns b {r} = go (good_rule (rule_of ns)) refl
  where
    go : (t : Bool) → good_rule (rule_of ns) ≡ t → elim t [ true ↦ some (rule_of ns) | false ↦ none ] ≡ some r → Accepted r
    go true g e = let is : rule_of ns ≡ r = cc in rw is at (numbers-accepted ns b g)
    go false g e = absurd (cc)

rule-accepted : (line : List ℕ) {r : Rule} → read_rule line ≡ some r → Accepted r
unfolding read_rule rule_from
rule-accepted line {r} = go (numbers rule_fields (split comma line)) refl
  where
    go : (x : Numbers) → numbers rule_fields (split comma line) ≡ x → rule_from x ≡ some r → Accepted r
    go wrong f e = absurd (cc)
    go far f e = absurd (cc)
    go (are ns) f e = good-accepted ns (bounded (split comma line) f) e

-- the rules from line n on
pub record From (n : ℕ) (rs : List Rule) : Type 0 where
  pub each : Each rs
  pub few : n + length rs ≤ suc max_rules

none_from : (n : ℕ) → n ≤ suc max_rules → From n []
unfolding Each
none_from n h = record { each = tt; few = omega arith }

one_from : (n : ℕ) {r : Rule} {rs : List Rule} → Accepted r → From (n + 1) rs → From n (r ∷ rs)
unfolding Each
one_from n a f = record { each = (a, f.each); few = omega (arith, f.few) }

last-from : (n : ℕ) (t : Bool) {rs : List Rule} → n ≤ suc max_rules → (demand t bad_rule n >> ok []) ≡ ok rs → From n rs
unfolding demand ◌>>◌
last-from n true {rs} h e = let is : [] ≡ rs = cc in rw is at (none_from n h)
last-from n false h e = absurd (cc)

-- a line's rule and those of the lines after it, taken apart
line-from : (n : ℕ) (t : Bool) (o : Option Rule) (x : Res (List Rule)) {rs : List Rule} → (leb n max_rules ≡ t) → ((r : Rule) → o ≡ some r → Accepted r)
    → ((qs : List Rule) → n ≤ max_rules → x ≡ ok qs → From (n + 1) qs)
    → (demand t bad_rule n >> (given o bad_rule n >>= (λ r. x >>= (λ qs. ok (r ∷ qs))))) ≡ ok rs → From n rs
unfolding demand given ◌>>◌ ◌>>=◌
line-from n true (some r) (ok qs) {rs} t a f e =
    let is : r ∷ qs ≡ rs = cc in
    rw is at (one_from n (a r refl) (f qs (leb-true n max_rules t) refl))
line-from n true (some r) (refuse m p) t a f e = absurd (cc)
line-from n true none x t a f e = absurd (cc)
line-from n false o x t a f e = absurd (cc)

lines_from : (ls : List (List ℕ)) (n : ℕ) {rs : List Rule} → n ≤ suc max_rules → rules_from n ls ≡ ok rs → From n rs
unfolding rules_from
lines_from [] n {rs} h e = let is : [] ≡ rs = cc in rw is at (none_from n h)
lines_from (l ∷ []) n h e = last-from n (is_empty l) h e
lines_from (l ∷ m ∷ ls) n h e =
    line-from n (leb n max_rules) (read_rule l) (rules_from (n + 1) (m ∷ ls)) refl (λ r f. rule-accepted l f) (λ qs k f. lines_from (m ∷ ls) (n + 1) (omega (arith, k)) f) e

-- a file's rules are accepted, max_rules at most
module _ (text : List ℕ) {rs : List Rule} (e : read_rules text ≡ ok rs) where
  all_from : From 1 rs
  unfolding read_rules
  all_from = lines_from (split lf text) 1 (omega arith) e

  pub read-accepted : Each rs
  read-accepted = all_from.each

  pub read-few : length rs ≤ max_rules
  read-few = omega (arith, all_from.few)

  -- the table that reading leaves is one, and holds these rules
  pub read_table : IsRules (table_of rs) (length rs)
  read_table = is-rules rs read-few read-accepted

-- ---- what a match gives

-- two instructions that a rule matches: no branch and no RET, each action allowed on its role, and what is removed sums to 0
pub record Pair (a b : Action) (r q : Role) : Type 0 where
  pub first : flow r ≡ onward
  pub second : flow q ≡ onward
  pub one : allowed a r ≡ true
  pub two : allowed b q ≡ true
  pub cancels : cancel (removed a r) (removed b q) ≡ true

-- a role that a rule may name is no branch and no RET
nameable-onward : (r : Role) → number r < nameable → flow r ≡ onward
unfolding number flow traits traits_of
nameable-onward dup h = refl
nameable-onward pop h = refl
nameable-onward load_var h = refl
nameable-onward store_var h = refl
nameable-onward load_const h = refl
nameable-onward load_true h = refl
nameable-onward load_false h = refl
nameable-onward (arithmetic o) h = refl
nameable-onward (logic o) h = refl
nameable-onward neg h = refl
nameable-onward bool_not h = refl
nameable-onward (compare c) h = refl
nameable-onward jmp h = absurd (omega arith)
nameable-onward jmp_if_not h = absurd (omega arith)
nameable-onward cmp_br h = absurd (omega arith)
nameable-onward ret h = absurd (omega arith)

accepted-pair : (r : Rule) → Accepted r → Pair r.one r.two r.first r.second
unfolding good_rule
accepted-pair r a =
    let tests = and_right (leb 1 r.pass) _ a.good in
    let actions = and_right (testable r.test r.first r.second) _ tests in
    let rest = and_right (allowed r.one r.first) _ actions in
    record {
      first = nameable-onward r.first a.first;
      second = nameable-onward r.second a.second;
      one = and_left (allowed r.one r.first) _ actions;
      two = and_left (allowed r.two r.second) _ rest;
      cancels = and_right (allowed r.two r.second) _ rest;
    }

role-is : (r : Role) (o : Option Role) → has_role r o ≡ true → o ≡ some r
unfolding has_role
role-is r none e = absurd (cc)
role-is r (some q) e = ap some (sym (role-number q) ∙ ap role_numbered (sym (eqb-true (number r) (number q) e)) ∙ role-number r)

-- the pair of actions that the lookup gives two instructions, and their roles
pub record Matched (a b : Instruction) (two : Action × Action) : Type 0 where
  pub r : Role
  pub q : Role
  pub first : a.role ≡ some r
  pub second : b.role ≡ some q
  pub pair : Pair two.0 two.1 r q

found : (pass : ℕ) (x : Rule) (a b : Instruction) → Accepted x → fits pass x a b ≡ true → Matched a b (x.one, x.two)
unfolding fits
found pass x a b k f =
    let roles = and_right (eqb x.pass pass) _ f in
    let rest = and_right (has_role x.first a.role) _ roles in
    record {
      r = x.first;
      q = x.second;
      first = role-is x.first a.role (and_left (has_role x.first a.role) _ roles);
      second = role-is x.second b.role (and_left (has_role x.second b.role) _ rest);
      pair = accepted-pair x k;
    }

pub matched : (pass : ℕ) (rs : List Rule) (a b : Instruction) (two : Action × Action) → Each rs → matches pass rs a b ≡ some two → Matched a b two
unfolding matches Each
matched pass [] a b two k e = absurd (cc)
matched pass (x ∷ rs) a b two k e = go (fits pass x a b) refl (λ f. matched pass rs a b two k.1 f) e
  where
    go : (t : Bool) → fits pass x a b ≡ t → (matches pass rs a b ≡ some two → Matched a b two) → elim t [ true ↦ some (x.one, x.two) | false ↦ matches pass rs a b ] ≡ some two → Matched a b two
    go true f m e = let is : (x.one, x.two) ≡ two = cc in rw is at (found pass x a b k.0 f)
    go false f m e = m e

-- ---- what a pair does to the height

-- what is removed leaves every height as it was
pub data Keeps : Action → Action → Role → Role → Type 0 where
  neither : {a b : Action} {r q : Role} → (a ≡ remove → ⊥) → (b ≡ remove → ⊥) → Keeps a b r q
  former : {b : Action} {r q : Role} → effect r ≡ same → (b ≡ remove → ⊥) → Keeps remove b r q
  latter : {a : Action} {r q : Role} → effect q ≡ same → (a ≡ remove → ⊥) → Keeps a remove r q
  both : {r q : Role} → ((h : ℕ) → needs r ≤ h → shift (effect q) (shift (effect r) h) ≡ h) → Keeps remove remove r q

-- what takes a value away needs one
down-needs : (r : Role) → effect r ≡ down → 1 ≤ needs r
unfolding effect needs traits traits_of
down-needs dup e = omega arith
down-needs pop e = omega arith
down-needs load_var e = absurd (cc)
down-needs store_var e = omega arith
down-needs load_const e = absurd (cc)
down-needs load_true e = absurd (cc)
down-needs load_false e = absurd (cc)
down-needs (arithmetic o) e = omega arith
down-needs (logic o) e = omega arith
down-needs neg e = omega arith
down-needs bool_not e = omega arith
down-needs (compare c) e = omega arith
down-needs jmp e = absurd (cc)
down-needs jmp_if_not e = omega arith
down-needs cmp_br e = absurd (cc)
down-needs ret e = absurd (cc)

heights-back : (d e : Effect) (n : ℕ) → (d ≡ down → 1 ≤ n) → cancel d e ≡ true → (h : ℕ) → n ≤ h → shift e (shift d h) ≡ h
unfolding cancel shift
heights-back up down n k c h l = refl
heights-back down up n k c zero l = absurd (let z = k refl in omega arith)
heights-back down up n k c (suc h) l = refl
heights-back same same n k c h l = refl
heights-back up up n k c h l = absurd (cc)
heights-back up same n k c h l = absurd (cc)
heights-back down down n k c h l = absurd (cc)
heights-back down same n k c h l = absurd (cc)
heights-back same up n k c h l = absurd (cc)
heights-back same down n k c h l = absurd (cc)

same_left : (d : Effect) → cancel d same ≡ true → d ≡ same
unfolding cancel
same_left up c = absurd (cc)
same_left down c = absurd (cc)
same_left same c = refl

same-right : (d : Effect) → cancel same d ≡ true → d ≡ same
unfolding cancel
same-right up c = absurd (cc)
same-right down c = absurd (cc)
same-right same c = refl

no-remove : (n : ℕ) → rewrite_operand n ≡ remove → ⊥
no-remove n e = cc

no-keep : keep ≡ remove → ⊥
no-keep e = cc

pub keeps : (a b : Action) (r q : Role) → Pair a b r q → Keeps a b r q
unfolding removed
keeps keep keep r q p = neither no-keep no-keep
keeps keep remove r q p = latter (same-right (effect q) p.cancels) no-keep
keeps keep (rewrite_operand n) r q p = neither no-keep (no-remove n)
keeps remove keep r q p = former (same_left (effect r) p.cancels) no-keep
keeps remove remove r q p = both (heights-back (effect r) (effect q) (needs r) (down-needs r) p.cancels)
keeps remove (rewrite_operand n) r q p = former (same_left (effect r) p.cancels) (no-remove n)
keeps (rewrite_operand n) keep r q p = neither (no-remove n) no-keep
keeps (rewrite_operand n) remove r q p = latter (same-right (effect q) p.cancels) (no-remove n)
keeps (rewrite_operand n) (rewrite_operand m) r q p = neither (no-remove n) (no-remove m)

-- an instruction whose operand may be rewritten has three bytes
pub variable-size : (r : Role) → is_variable r ≡ true → size r ≡ 3
unfolding is_variable size traits traits_of
variable-size dup e = absurd (cc)
variable-size pop e = absurd (cc)
variable-size load_var e = refl
variable-size store_var e = refl
variable-size load_const e = absurd (cc)
variable-size load_true e = absurd (cc)
variable-size load_false e = absurd (cc)
variable-size (arithmetic o) e = absurd (cc)
variable-size (logic o) e = absurd (cc)
variable-size neg e = absurd (cc)
variable-size bool_not e = absurd (cc)
variable-size (compare c) e = absurd (cc)
variable-size jmp e = absurd (cc)
variable-size jmp_if_not e = absurd (cc)
variable-size cmp_br e = absurd (cc)
variable-size ret e = absurd (cc)

-- an operand is rewritten only of a variable's load or store, and to a variable
pub rewritten : (n : ℕ) (r : Role) → allowed (rewrite_operand n) r ≡ true → (is_variable r ≡ true) × (n < max_variables)
unfolding allowed
rewritten n r e = (and_left (is_variable r) _ e, leb-true (suc n) max_variables (and_right (is_variable r) _ e))
