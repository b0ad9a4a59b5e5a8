-- Laws of sheets, over the definition: what an accepted one is, and that an opcode has its role and a role its opcode.
use mathlib.Core.Path.{◌≡◌, refl, ap, sym, ◌∙◌}
use mathlib.Core.Bool.{Bool, true, false, not}
use mathlib.Core.Option.{some}
use mathlib.Core.List.{List, [], ◌∷◌}
use Prim.Native.Nat.{ℕ, zero, suc, ◌+◌, ◌<◌, ◌≤◌}
use native.Mathlib.Omega.{arith}
use borrow.Author.Tests.{eq-eqb, ne_eqb, eqb-false, not-true}
use native.Mathlib.Decide.{dec_lt}
use lib.Dec.{eqb}
use lib.ListN.{length, get_or}
use Rattle.definition.specs.Field.{has}
use Rattle.definition.specs.Opcode.{CompareOp, Eq, Ne, Lt, Le, Gt, Ge, Add, Sub, Mul, Div, Mod, BoolAnd, BoolOr, BoolXor, Role, dup, pop, load_var, store_var, load_const, load_true, load_false, arithmetic, logic, neg, bool_not, compare, jmp, jmp_if_not, cmp_br, ret, roles, role_count, number, compare_index, Sheet, opcode, comparison_byte, beside, role_of, comparison_of}
use Rattle.definition.specs.Rules.{role_numbered}
use Rattle.definition.specs.Sheet.{distinct}
use Rattle.field.proofs.Tests.{and_left, and_right}
use Rattle.opcode.specs.Table.{Good, up_from}
use Rattle.opcode.proofs.Roles.{compare-index, past-roles, seen_at}

-- ---- distinct numbers

pub has-cons : (x y : ℕ) (ys : List ℕ) → has (y ∷ ys) x ≡ false → (x ≡ y → ⊥) × (has ys x ≡ false)
unfolding has
has-cons x y ys = go (eqb x y) refl
  where
    go : (b : Bool) → eqb x y ≡ b → ◌≡◌ {A = Bool} (elim b [ true ↦ true | false ↦ has ys x ]) false → (x ≡ y → ⊥) × (has ys x ≡ false)
    go true q e = absurd (cc)
    go false q e = (eqb-false x y q, e)

has-not : (x : ℕ) (ys : List ℕ) (i : ℕ) → has ys x ≡ false → i < length ys → x ≡ get_or ys i 0 → ⊥
has-not x [] i e h q = omega arith
has-not x (y ∷ ys) zero e h q = (has-cons x y ys e).0 q
has-not x (y ∷ ys) (suc i) e h q = has-not x ys i (has-cons x y ys e).1 (omega arith) q

pub distinct_cons : (x : ℕ) (xs : List ℕ) → distinct (x ∷ xs) ≡ true → (has xs x ≡ false) × (distinct xs ≡ true)
unfolding distinct
distinct_cons x xs e = (not-true _ (and_left _ _ e), and_right (not (has xs x)) _ e)

-- ---- what stands beside

module _ {A : Type 0} (d : A) where
  beside_at : (xs : List ℕ) (ys : List A) (i : ℕ) → distinct xs ≡ true → i < length xs → length xs ≤ length ys → beside (get_or xs i 0) xs ys ≡ some (get_or ys i d)
  unfolding beside
  beside_at [] ys i e h l = absurd (omega arith)
  beside_at (x ∷ xs) [] i e h l = absurd (omega arith)
  beside_at (x ∷ xs) (y ∷ ys) zero e h l = rw (beside, eq-eqb x x refl)
  beside_at (x ∷ xs) (y ∷ ys) (suc i) e h l =
      let p = distinct_cons x xs e in
      rw (beside, ne_eqb x (get_or xs i 0) (has-not x xs i p.0 (omega arith))) (beside_at xs ys i p.1 (omega arith) (omega arith))

-- ---- roles and their numbers

pub role-number : (r : Role) → role_numbered (number r) ≡ r
unfolding role_numbered roles number
role-number dup = refl
role-number pop = refl
role-number load_var = refl
role-number store_var = refl
role-number load_const = refl
role-number load_true = refl
role-number load_false = refl
role-number (arithmetic Add) = refl
role-number (arithmetic Sub) = refl
role-number (arithmetic Mul) = refl
role-number (arithmetic Div) = refl
role-number (arithmetic Mod) = refl
role-number (logic BoolAnd) = refl
role-number (logic BoolOr) = refl
role-number (logic BoolXor) = refl
role-number neg = refl
role-number bool_not = refl
role-number (compare Eq) = refl
role-number (compare Ne) = refl
role-number (compare Lt) = refl
role-number (compare Le) = refl
role-number (compare Gt) = refl
role-number (compare Ge) = refl
role-number jmp = refl
role-number jmp_if_not = refl
role-number cmp_br = refl
role-number ret = refl

comparison-index : (c : CompareOp) → get_or (Eq ∷ Ne ∷ Lt ∷ Le ∷ Gt ∷ Ge ∷ []) (compare_index c) Eq ≡ c
unfolding compare_index
comparison-index Eq = refl
comparison-index Ne = refl
comparison-index Lt = refl
comparison-index Le = refl
comparison-index Gt = refl
comparison-index Ge = refl

-- a number past the roles is none: its role is RET, whose number is not past them
pub number-below : (r : Role) → number r < role_count
unfolding number
number-below r = go (dec_lt (number r) role_count)
  where
    go : Dec (number r < role_count) → number r < role_count
    go (yes h) = h
    go (no h) = let q : ret ≡ r = sym (past-roles (number r) (omega arith)) ∙ role-number r in absurd (let z = ap number q in omega arith)

pub up-from : (k n i d : ℕ) → i < n → get_or (up_from k n) i d ≡ k + i
unfolding up_from
up-from k zero i d h = absurd (omega arith)
up-from k (suc n) zero d h = omega arith
up-from k (suc n) (suc i) d h = up-from (suc k) n i d (omega arith) ∙ omega arith

pub number-role : (i : ℕ) → i < role_count → number (role_numbered i) ≡ i
unfolding role_numbered roles number up_from
number-role i h = seen_at number roles ret 0 i h ∙ up-from 0 role_count i 0 h ∙ omega arith

-- ---- an accepted sheet

module _ {s : Sheet} (g : Good s) where
  -- an opcode has its role
  pub role-of-opcode : (r : Role) → role_of s (opcode s r) ≡ some r
  unfolding role_of opcode roles role_numbered
  role-of-opcode r = beside_at ret s.opcodes roles (number r) g.opcodes.differ (omega (arith, g.opcodes.long, number-below r)) (omega (arith, g.opcodes.long)) ∙ ap some (role-number r)

  pub comparison-of-byte : (c : CompareOp) → comparison_of s (comparison_byte s c) ≡ some c
  unfolding comparison_of comparison_byte
  comparison-of-byte c = beside_at Eq s.comparisons (Eq ∷ Ne ∷ Lt ∷ Le ∷ Gt ∷ Ge ∷ []) (compare_index c) g.comparisons.differ (omega (arith, g.comparisons.long, compare-index c)) (omega (arith, g.comparisons.long)) ∙ ap some (comparison-index c)
