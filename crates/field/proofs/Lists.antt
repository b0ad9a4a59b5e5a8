-- Lists: taking and dropping; an element that is there.
use mathlib.Core.Path.{◌≡◌, refl, ap, sym}
use mathlib.Core.Bool.{Bool, true, false}
use mathlib.Core.List.{List, [], ◌∷◌}
use Prim.Native.Nat.{ℕ, zero, suc, ◌-◌, ◌<◌}
use native.Mathlib.Omega.{arith}
use borrow.Author.Tests.{eq-eqb}
use lib.Dec.{eqb}
use lib.ListN.{length, get_or, take, drop}
use lib.Seq.{take-nil}
use Rattle.definition.specs.Field.{has}

-- a part of a list, from its front
pub drop-take : {A : Type 0} (n m : ℕ) (l : List A) → drop n (take m l) ≡ take (m - n) (drop n l)
drop-take zero m l = let z : m - 0 ≡ m = omega arith in rw z
drop-take (suc n) zero l = let z : 0 - suc n ≡ 0 = omega arith in rw z
drop-take (suc n) (suc m) [] = sym (take-nil (suc m - suc n))
drop-take (suc n) (suc m) (x ∷ l) = let z : suc m - suc n ≡ m - n = omega arith in rw z (drop-take n m l)

-- the first that is left
pub first-left : {A : Type 0} (i : ℕ) (l : List A) (d : A) → get_or (drop i l) 0 d ≡ get_or l i d
first-left zero l d = refl
first-left (suc i) [] d = refl
first-left (suc i) (x ∷ l) d = first-left i l d

-- a byte that is not the one read past the end
pub there : (l : List ℕ) (i : ℕ) → (get_or l i 0 ≡ 0 → ⊥) → i < length l
there [] i n = absurd (n refl)
there (x ∷ l) zero n = omega arith
there (x ∷ l) (suc i) n = omega (arith, there l i n)

pub has_here : (y : ℕ) (ys : List ℕ) → has (y ∷ ys) y ≡ true
unfolding has
has_here y ys = rw (eq-eqb y y refl, has)

pub has_first : (x : ℕ) (ys : List ℕ) (y : ℕ) → y ≡ x → has (x ∷ ys) y ≡ true
unfolding has
has_first x ys y e = ap (λ b. elim b as (λ c. Bool) [ true ↦ true | false ↦ has ys y ]) (eq-eqb y x e)

pub has-later : (x : ℕ) (ys : List ℕ) (y : ℕ) → has ys y ≡ true → has (x ∷ ys) y ≡ true
unfolding has
has-later x ys y e = by (eqb y x)
  where
    by : (b : Bool) → elim b [ true ↦ true | false ↦ has ys y ] ≡ true
    by true = refl
    by false = e
