-- Roles, tests and actions by their numbers, and a rule by its row.
use mathlib.Core.Path.{◌≡◌, refl, sym, ◌∙◌}
use mathlib.Core.Bool.{Bool, true, false}
use mathlib.Core.Logic.{◌⊎◌, inl, inr, ⊎_elim}
use mathlib.Core.Option.{some, none}
use mathlib.Core.List.{List, [], ◌∷◌}
use Prim.Native.Nat.{ℕ, zero, suc, ◌+◌, ◌≤◌, ◌<◌}
use native.Mathlib.Omega.{arith}
use borrow.Author.Tests.{ne_eqb, eqb-true}
use lib.Dec.{leb, eqb}
use lib.ListN.{length, get_or, get_elem?}
use Rattle.definition.specs.Opcode.{Role, ret, number, roles}
use Rattle.definition.specs.Rules as def
use Rattle.definition.specs.Rules.{Rule, Test, always, operands_equal, first_is, second_is, keep, remove, rewrite_operand, role_numbered, test_numbered, action_numbered, nameable, last_test, last_action, rule_of, has_role}
use Rattle.opcode.proofs.Sheets.{role-number, number-below}
use Rattle.rules.specs.View.{pass_at, first_at, second_at, test_at, number_at, one_at, one_operand_at, two_at, two_operand_at, first_is_tag, rewrite_tag, used, test_tag, test_number, action_tag, action_operand, row_of, Bounded}

-- ---- roles

pub number_small : (r : Role) → number r < length roles
unfolding roles
number_small r = number-below r

-- do the roles of a list have the numbers from k on?
unfoldable numbered : ℕ → List Role → Bool
numbered k [] = true
numbered k (r ∷ rs) = elim (eqb (number r) k) [ true ↦ numbered (suc k) rs | false ↦ false ]

numbered-at : (rs : List Role) (k : ℕ) → numbered k rs ≡ true → (n : ℕ) → n < length rs → (number (get_or rs n ret) ≡ k + n) × (get_elem? rs n ≡ some (get_or rs n ret))
unfolding numbered
numbered-at [] k e n h = absurd (omega arith)
numbered-at (r ∷ rs) k e n h = go (eqb (number r) k) refl e (λ f. numbered-at rs (suc k) f) n h
  where
    go : (t : Bool) → eqb (number r) k ≡ t → elim t [ true ↦ numbered (suc k) rs | false ↦ false ] ≡ true
        → (numbered (suc k) rs ≡ true → (n : ℕ) → n < length rs → (number (get_or rs n ret) ≡ suc k + n) × (get_elem? rs n ≡ some (get_or rs n ret)))
        → (n : ℕ) → n < suc (length rs) → (number (get_or (r ∷ rs) n ret) ≡ k + n) × (get_elem? (r ∷ rs) n ≡ some (get_or (r ∷ rs) n ret))
    go true q f i zero h = (omega (arith, eqb-true (number r) k q), refl)
    go true q f i (suc n) h = let p = i f n (omega arith) in (omega (arith, p.0), p.1)
    go false q f i n h = absurd (cc)

all-numbered : numbered 0 roles ≡ true
unfolding numbered roles number
all-numbered = refl

pub number-back : (n : ℕ) → n < length roles → number (role_numbered n) ≡ n
unfolding role_numbered
number-back n h = (numbered-at roles 0 all-numbered n h).0 ∙ omega arith

pub small : {n : ℕ} → n < nameable → n < length roles
unfolding roles
small h = omega arith

at-or-past : (l n : ℕ) → (l ≤ n) ⊎ (n < l)
at-or-past zero n = inl (omega arith)
at-or-past (suc l) zero = inr (omega arith)
at-or-past (suc l) (suc n) = ⊎_elim (λ h. inl (omega arith)) (λ h. inr (omega arith)) (at-or-past l n)

none-past : {A : Type 0} (l : List A) (n : ℕ) → length l ≤ n → get_elem? l n ≡ none
none-past [] n h = refl
none-past (x ∷ l) zero h = absurd (omega arith)
none-past (x ∷ l) (suc n) h = none-past l n (omega arith)

-- an instruction has a rule's role where the numbers are equal
pub has-number : (r : Role) (n : ℕ) → has_role r (get_elem? roles n) ≡ eqb (number r) n
unfolding has_role
has-number r n =
    ⊎_elim
    (λ h. rw (none-past roles n h) (sym (ne_eqb (number r) n (λ e. let b = number_small r in omega arith))))
    (λ h. let p = numbered-at roles 0 all-numbered n h in let e : number (get_or roles n ret) ≡ n = omega (arith, p.0) in rw (p.1, e))
    (at-or-past (length roles) n)

-- ---- tests and actions

pub test-tag : (t n : ℕ) → t ≤ last_test → test_tag (test_numbered t n) ≡ t
unfolding test_tag test_numbered
test-tag zero n h = refl
test-tag (suc zero) n h = refl
test-tag (suc (suc zero)) n h = refl
test-tag (suc (suc (suc zero))) n h = refl
test-tag (suc (suc (suc (suc t)))) n h = absurd (omega arith)

pub test-number : (t n : ℕ) → t ≤ last_test → test_number (test_numbered t n) ≡ used (leb first_is_tag t) n
unfolding test_number test_numbered used
test-number zero n h = refl
test-number (suc zero) n h = refl
test-number (suc (suc zero)) n h = refl
test-number (suc (suc (suc zero))) n h = refl
test-number (suc (suc (suc (suc t)))) n h = absurd (omega arith)

pub action-tag : (t n : ℕ) → t ≤ last_action → action_tag (action_numbered t n) ≡ t
unfolding action_tag action_numbered
action-tag zero n h = refl
action-tag (suc zero) n h = refl
action-tag (suc (suc zero)) n h = refl
action-tag (suc (suc (suc t))) n h = absurd (omega arith)

pub action-operand : (t n : ℕ) → t ≤ last_action → action_operand (action_numbered t n) ≡ used (eqb t rewrite_tag) n
unfolding action_operand action_numbered used
action-operand zero n h = refl
action-operand (suc zero) n h = refl
action-operand (suc (suc zero)) n h = refl
action-operand (suc (suc (suc t))) n h = absurd (omega arith)

test_back : (t : Test) → test_numbered (test_tag t) (test_number t) ≡ t
unfolding test_numbered test_tag test_number
test_back always = refl
test_back operands_equal = refl
test_back (first_is n) = refl
test_back (second_is n) = refl

action-back : (a : def.Action) → action_numbered (action_tag a) (action_operand a) ≡ a
unfolding action_numbered action_tag action_operand
action-back keep = refl
action-back remove = refl
action-back (rewrite_operand n) = refl

-- ---- rows

pub rule-back : (r : Rule) → rule_of (row_of r) ≡ r
unfolding rule_of row_of
rule-back r = rw (role-number r.first, role-number r.second, test_back r.test, action-back r.one, action-back r.two)

-- the row of a line's numbers
pub row_is : (ns : List ℕ) → Bounded ns → {n a b : ℕ} → n ≡ used (leb first_is_tag (get_or ns test_at 0)) (get_or ns number_at 0) → a ≡ used (eqb (get_or ns one_at 0) rewrite_tag) (get_or ns one_operand_at 0) → b ≡ used (eqb (get_or ns two_at 0) rewrite_tag) (get_or ns two_operand_at 0)
    → get_or ns pass_at 0 ∷ get_or ns first_at 0 ∷ get_or ns second_at 0 ∷ get_or ns test_at 0 ∷ n ∷ get_or ns one_at 0 ∷ a ∷ get_or ns two_at 0 ∷ b ∷ [] ≡ row_of (rule_of ns)
unfolding row_of rule_of
row_is ns f x y z = rw (
  number-back (get_or ns first_at 0) (small f.first),
  number-back (get_or ns second_at 0) (small f.second),
  test-tag (get_or ns test_at 0) (get_or ns number_at 0) f.test,
  test-number (get_or ns test_at 0) (get_or ns number_at 0) f.test,
  action-tag (get_or ns one_at 0) (get_or ns one_operand_at 0) f.one,
  action-operand (get_or ns one_at 0) (get_or ns one_operand_at 0) f.one,
  action-tag (get_or ns two_at 0) (get_or ns two_operand_at 0) f.two,
  action-operand (get_or ns two_at 0) (get_or ns two_operand_at 0) f.two,
  x,
  y,
  z,
)
