-- The definition leaves one answer: a number is 0, 20 or 21, and any two are the same. So the three claims exclude each other.
use Prim.Native.Nat.{ℕ}
use mathlib.Core.Path.{◌≡◌, refl, sym, ◌∙◌, subst}
use mathlib.Core.List.{List}
use mathlib.Core.Option.{some, none}
use native.Mathlib.Omega.{arith}
use native.Mathlib.Decide.{ℕ_discrete}
use Rattle.definition.specs.Limits.{astray, bad_height}
use Rattle.definition.specs.Opcode.{Sheet}
use Rattle.definition.specs.Check.{Answers, Checks, refuses_sheet, refuses_length}
use Rattle.definition.specs.Check as check
use Rattle.field.proofs.Results.{never, some_is}

pub data Known (n : ℕ) : Type 0 where
  strays : n ≡ astray → Known n
  faults : n ≡ bad_height → Known n
  passes : n ≡ 0 → Known n

module _ {s : Sheet} {code : List ℕ} {depth : ℕ} where
  pub known : {n : ℕ} → Answers s code depth n → Known n
  known {n = n} a = by (ℕ_discrete n astray) (ℕ_discrete n bad_height) (ℕ_discrete n 0)
    where
      by : Dec (n ≡ astray) → Dec (n ≡ bad_height) → Dec (n ≡ 0) → Known n
      by (yes e) f g = strays e
      by (no e) (yes f) g = faults f
      by (no e) (no f) (yes g) = passes g
      by (no e) (no f) (no g) = absurd (g (a.neither.1 (λ x. e (a.strays.1 x), λ h. f (a.faults.1 (λ x. e (a.strays.1 x), h)))))

  pub one_answer : {m n : ℕ} → Answers s code depth m → Answers s code depth n → m ≡ n
  one_answer {m = m} {n = n} a b = by (known a)
    where
      by : Known m → m ≡ n
      by (strays e) = e ∙ sym (b.strays.1 (a.strays.0 e))
      by (faults e) = e ∙ sym (b.faults.1 (a.faults.0 e))
      by (passes e) = e ∙ sym (b.passes.1 (a.passes.0 e))

-- so is the call's, but for the place that 7 names
pub one_number : {sheet code : List ℕ} {depth m n p q : ℕ} → Checks sheet code depth m p → Checks sheet code depth n q → m ≡ n
one_number (refuses_sheet e f) (refuses_sheet g h) = refl
one_number (refuses_sheet e f) (refuses_length {s = s} g h) = let z : none ≡ some s = sym e ∙ g in never (cc)
one_number (refuses_sheet e f) (check.answers {s = s} g h a) = let z : none ≡ some s = sym e ∙ g in never (cc)
one_number (refuses_length {s = s} e f) (refuses_sheet g h) = let z : none ≡ some s = sym g ∙ e in never (cc)
one_number (refuses_length e f) (refuses_length g h) = refl
one_number (refuses_length e f) (check.answers g h a) = absurd (omega arith)
one_number (check.answers {s = s} e f a) (refuses_sheet g h) = let z : none ≡ some s = sym g ∙ e in never (cc)
one_number (check.answers e f a) (refuses_length g h) = absurd (omega arith)
one_number {code = code} {depth = depth} (check.answers {n = m} e f a) (check.answers {n = n} g h b) = one_answer a (subst (λ s. Answers s code depth n) (some_is (sym g ∙ e)) b)
