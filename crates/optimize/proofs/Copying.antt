-- A list put into another element by element, as far as there is room.
use mathlib.Core.Path.{◌≡◌, refl, ◌∙◌}
use mathlib.Core.List.{List}
use Prim.Native.Nat.{ℕ, ◌-◌, min}
use native.Mathlib.Omega.{arith}
use lib.ListN.{length, take}
use Rattle.store.specs.Fill.{set_from, fitted_with}
use Rattle.store.proofs.Fills.{take-least}

pub record Copying {A : Type 0} (from out₀ out : List A) (i : ℕ) : Type 0 where
  pub head : take i out ≡ take i from
  pub room : length out ≡ length out₀

module _ {A : Type 0} (from out₀ : List A) where
  pub copy-begins : Copying from out₀ out₀ 0
  copy-begins = record { head = refl; room = refl }

  module _ (out : List A) (i : ℕ) (c : Copying from out₀ out i) where
    pub copy-ends : (x : A) {n : ℕ} {list : List A} → n ≡ min (length out₀) (length from) → i ≡ n → list ≡ set_from n x out → list ≡ fitted_with x (length out₀) from
    unfolding set_from fitted_with
    copy-ends x {n = n} e is z =
        let head : take n out ≡ take (length out₀) from = rw is at c.head ∙ rw e (take-least (length out₀) from) in
        let rest : length out - n ≡ length out₀ - length from = omega (arith, e, c.room) in
        z ∙ rw (head, rest)
