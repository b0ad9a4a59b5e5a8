-- A place more is marked.
use Prim.Native.Nat.{ℕ, ◌+◌, suc, zero, ◌≤◌, ◌<◌}
use mathlib.Core.Path.{◌≡◌, refl, ◌∙◌, ap}
use mathlib.Core.Bool.{Bool, true, false}
use lib.Dec.{eqb}
use borrow.Author.Tests.{eq-eqb, ne_eqb, eqb-true, eqb-false}
use native.Mathlib.Omega.{arith}
use Rattle.image_check.specs.Graph.{marked, one, blank}

pub marked_other : (m : ℕ → ℕ) (q h x : ℕ) → (x ≡ q → ⊥) → marked m q h x ≡ m x
unfolding marked
marked_other m q h x n = ap (λ b. elim b as (λ c. ℕ) [ true ↦ suc h | false ↦ m x ]) (ne_eqb x q n)

pub marked-same : (m : ℕ → ℕ) (q h x : ℕ) → x ≡ q → marked m q h x ≡ suc h
unfolding marked
marked-same m q h x e = ap (λ b. elim b as (λ c. ℕ) [ true ↦ suc h | false ↦ m x ]) (eq-eqb x q e)

blank-other : (m : ℕ → ℕ) (q h n : ℕ) → n ≤ q → blank (marked m q h) n ≡ blank m n
unfolding blank
blank-other m q h zero le = refl
blank-other m q h (suc n) le =
    let a = ap one (marked_other m q h n (λ e. omega arith)) in
    let b = blank-other m q h n (omega arith) in
    omega arith

pub blank-marked : (m : ℕ → ℕ) (q h n : ℕ) → m q ≡ 0 → q < n → suc (blank (marked m q h) n) ≡ blank m n
unfolding blank one
blank-marked m q h zero z lt = absurd (omega arith)
blank-marked m q h (suc n) z lt = by (eqb n q) refl (λ l. blank-marked m q h n z l)
  where
    by : (b : Bool) → eqb n q ≡ b → (q < n → suc (blank (marked m q h) n) ≡ blank m n) → suc (one (marked m q h n) + blank (marked m q h) n) ≡ one (m n) + blank m n
    by true e f =
        let k : n ≡ q = eqb-true n q e in
        let a : one (marked m q h n) ≡ 0 = ap one (marked-same m q h n k) in
        let c : one (m n) ≡ 1 = ap one (ap m k ∙ z) in
        let d = blank-other m q h n (omega arith) in
        omega arith
    by false e f =
        let k = eqb-false n q e in
        let a : one (marked m q h n) ≡ one (m n) = ap one (marked_other m q h n k) in
        let d = f (omega (arith, k)) in
        omega arith
