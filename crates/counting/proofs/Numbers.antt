-- Signed numbers of w bits by their distance from the least of them, so that order, sums and differences are those of ℕ.
use Prim.Native.Nat.{ℕ, ◌+◌, ◌-◌, ◌%◌, ◌^◌, suc, zero, ◌≤◌, ◌<◌}
use mathlib.Core.Path.{◌≡◌, refl, ◌∙◌, ap}
use mathlib.Core.Bool.{Bool, true, false, cond}
use native.Mathlib.Omega.{arith}
use native.Mathlib.Nat.{mod-eq_of_lt}
use lib.Dec.{ltb}
use lib.IntN.{ℤ, pos, negsuc, sub_ℕ, ◌+ℤ◌, ◌-ℤ◌}
use lib.Signed.{le_z, lt_z, mag}
use borrow.Author.Tests.{ltb-true, ltb-false, leb-true, lt-ltb, le-ltb}
use Rattle.definition.specs.Iec.{signed_of, wrapped}
use Rattle.definition.specs.Count.{IsValue}

-- a width of 1 or more
pub record IsWidth (w : ℕ) : Type 0 where
  pub twice : 2 ^ w ≡ 2 ^ (w - 1) + 2 ^ (w - 1)
  pub some : 1 ≤ 2 ^ (w - 1)

pos-of-sub : (a b d : ℕ) → a ≡ b + d → sub_ℕ a b ≡ pos d
pos-of-sub a b d e =
    let f : a - b ≡ d = omega arith in
    rw (le-ltb a b (omega arith), f)

module _ (w : ℕ) where
  unfoldable pub shifted : ℤ → ℕ
  shifted (pos n) = 2 ^ (w - 1) + n
  shifted (negsuc n) = 2 ^ (w - 1) - suc n

  small : (x : ℕ) → x < 2 ^ (w - 1) → signed_of w x ≡ pos x
  unfolding signed_of
  small x h = ap (λ b. elim b [ true ↦ pos x | false ↦ negsuc (2 ^ w - suc x) ]) (lt-ltb x (2 ^ (w - 1)) h)

  large : (x : ℕ) → 2 ^ (w - 1) ≤ x → signed_of w x ≡ negsuc (2 ^ w - suc x)
  unfolding signed_of
  large x h = ap (λ b. elim b [ true ↦ pos x | false ↦ negsuc (2 ^ w - suc x) ]) (le-ltb x (2 ^ (w - 1)) h)

  -- order
  pub shifted-le : (a b : ℤ) → IsValue w a → IsValue w b → le_z a b ≡ true → shifted a ≤ shifted b
  unfolding shifted IsValue
  shifted-le (pos a) (pos b) g h e = let f = leb-true a b e in omega arith
  shifted-le (pos a) (negsuc b) g h e = absurd (let z : ◌≡◌ {A = ℕ} 0 1 = cc in omega arith)
  shifted-le (negsuc a) (pos b) g h e = omega arith
  shifted-le (negsuc a) (negsuc b) g h e = let f = leb-true b a e in omega arith

  pub shifted-lt : (a b : ℤ) → IsValue w a → IsValue w b → shifted a < shifted b → lt_z a b ≡ true
  unfolding shifted IsValue
  shifted-lt (pos a) (pos b) g h e = lt-ltb a b (omega arith)
  shifted-lt (pos a) (negsuc b) g h e = absurd (omega arith)
  shifted-lt (negsuc a) (pos b) g h e = refl
  shifted-lt (negsuc a) (negsuc b) g h e = lt-ltb b a (omega arith)

  pub shifted-ge : (a b : ℤ) → IsValue w a → IsValue w b → shifted b ≤ shifted a → lt_z a b ≡ false
  unfolding shifted IsValue
  shifted-ge (pos a) (pos b) g h e = le-ltb a b (omega arith)
  shifted-ge (pos a) (negsuc b) g h e = refl
  shifted-ge (negsuc a) (pos b) g h e = absurd (omega arith)
  shifted-ge (negsuc a) (negsuc b) g h e = le-ltb b a (omega arith)

  -- sums
  pub record Sum (z : ℤ) (k : ℕ) : Type 0 where
    pub is_value : IsValue w (z +ℤ pos k)
    pub is : shifted (z +ℤ pos k) ≡ shifted z + k

  -- differences
  pub difference : (a b : ℤ) (d : ℕ) → IsValue w a → IsValue w b → shifted a + d ≡ shifted b → b -ℤ a ≡ pos d
  unfolding shifted IsValue
  difference (pos zero) (pos b) d g h e = ap pos (omega arith)
  difference (pos (suc a)) (pos b) d g h e = pos-of-sub b (suc a) d (omega arith)
  difference (pos a) (negsuc b) d g h e = absurd (omega arith)
  difference (negsuc a) (pos b) d g h e = ap pos (omega arith)
  difference (negsuc a) (negsuc b) d g h e = pos-of-sub (suc a) (suc b) d (omega arith)

  -- a step of 1 or more is its own bits
  pub counts : (k : ℕ) → le_z (pos 1) (signed_of w k) ≡ true → (signed_of w k ≡ pos k) × ((1 ≤ k) × (k < 2 ^ (w - 1)))
  unfolding signed_of
  counts k = go (ltb k (2 ^ (w - 1))) refl
    where
      go : (b : Bool) → ltb k (2 ^ (w - 1)) ≡ b → le_z (pos 1) (elim b [ true ↦ pos k | false ↦ negsuc (2 ^ w - suc k) ]) ≡ true
          → (elim b [ true ↦ pos k | false ↦ negsuc (2 ^ w - suc k) ] ≡ pos k) × ((1 ≤ k) × (k < 2 ^ (w - 1)))
      go true e f = (refl, (leb-true 1 k f, ltb-true k (2 ^ (w - 1)) e))
      go false e f = absurd (let z : ◌≡◌ {A = ℕ} 0 1 = cc in omega arith)

  module _ (width : IsWidth w) where
    pub signed-wrapped : (z : ℤ) → IsValue w z → signed_of w (wrapped w z) ≡ z
    unfolding wrapped IsValue
    signed-wrapped (pos n) h =
        let t = width.twice in
        let e : n % 2 ^ w ≡ n = mod-eq_of_lt (omega arith) in
        ap (λ k. signed_of w k) e ∙ small n h
    signed-wrapped (negsuc n) h =
        let t = width.twice in
        let e : n % 2 ^ w ≡ n = mod-eq_of_lt (omega arith) in
        ap (λ k. signed_of w (2 ^ w - suc k)) e ∙ (large (2 ^ w - suc n) (omega arith) ∙ ap negsuc (omega arith))

    -- whatever the bits
    pub signed-value : (x : ℕ) → IsValue w (signed_of w x)
    unfolding signed_of IsValue
    signed-value x = go (ltb x (2 ^ (w - 1))) refl
      where
        go : (b : Bool) → ltb x (2 ^ (w - 1)) ≡ b → mag (elim b [ true ↦ pos x | false ↦ negsuc (2 ^ w - suc x) ]) < 2 ^ (w - 1)
        go true e = ltb-true x (2 ^ (w - 1)) e
        go false e = let f = ltb-false x (2 ^ (w - 1)) e in let t = width.twice in let s = width.some in omega arith

    sum-sub : (a k : ℕ) → a < 2 ^ (w - 1) → 2 ^ (w - 1) - suc a + k < 2 ^ w → (IsValue w (sub_ℕ k (suc a))) × (shifted (sub_ℕ k (suc a)) ≡ 2 ^ (w - 1) - suc a + k)
    unfolding shifted IsValue
    sum-sub a k g h = go (ltb k (suc a)) refl
      where
        go : (b : Bool) → ltb k (suc a) ≡ b → (mag (cond b (negsuc (suc a - suc k)) (pos (k - suc a))) < 2 ^ (w - 1))
            × (shifted (cond b (negsuc (suc a - suc k)) (pos (k - suc a))) ≡ 2 ^ (w - 1) - suc a + k)
        go true e = let f = ltb-true k (suc a) e in (omega arith, omega arith)
        go false e = let f = ltb-false k (suc a) e in let t = width.twice in (omega arith, omega arith)

    pub summed : (z : ℤ) (k : ℕ) → IsValue w z → shifted z + k < 2 ^ w → Sum z k
    unfolding shifted IsValue
    summed (pos n) k g h = let t = width.twice in record { is_value = omega arith; is = omega arith }
    summed (negsuc n) k g h = let p = sum-sub n k g h in record { is_value = p.0; is = p.1 }

    -- a sum that is a value
    pub sum-value : (z : ℤ) (k : ℕ) → IsValue w z → k < 2 ^ (w - 1) → IsValue w (z +ℤ pos k) → shifted z + k < 2 ^ w
    unfolding shifted IsValue
    sum-value (pos n) k g h v = let t = width.twice in omega arith
    sum-value (negsuc n) k g h v = let t = width.twice in omega arith
