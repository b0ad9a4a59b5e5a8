-- Decimal digits, from the last one on.
use mathlib.Core.Path.{◌≡◌, refl, ap, sym, ◌∙◌}
use mathlib.Core.Bool.{Bool, true, false}
use mathlib.Core.List.{List, [], ◌∷◌, ◌++◌, append_assoc}
use Prim.Native.Nat.{ℕ, zero, suc, ◌+◌, ◌-◌, ◌*◌, ◌/◌, ◌%◌, ◌^◌, ◌≤◌, ◌<◌}
use native.Mathlib.Nat.{pow-suc, div-lt_iff_lt-mul}
use native.Mathlib.Omega.{arith}
use borrow.Author.Tests.{lt-ltb, le-ltb, ltb-true, ltb-false}
use lib.Dec.{ltb}
use Rattle.definition.specs.Field.{digit0, minus}
use Rattle.definition.specs.Iec.{signed_of}
use Rattle.definition.specs.Listing.{digits_onto, decimal, signed_decimal}
use Rattle.store.specs.Store.{Store, push, push_all}
use Rattle.text.proofs.Puts.{put_first, put_then, put_one}

-- ---- by cases: is it one digit?

pub digits-one : (f n : ℕ) (more : List ℕ) → n < 10 → digits_onto (suc f) n more ≡ (digit0 + n) ∷ more
unfolding digits_onto
digits-one f n more h = rw (lt-ltb n 10 h, digits_onto)

pub digits_more : (f n : ℕ) (more : List ℕ) → 10 ≤ n → digits_onto (suc f) n more ≡ digits_onto f (n / 10) ((digit0 + n % 10) ∷ more)
unfolding digits_onto
digits_more f n more h = rw (le-ltb n 10 h, digits_onto)

pub one-or-more : {P : Type 0} (n : ℕ) → (n < 10 → P) → (10 ≤ n → P) → P
one-or-more {P = P} n f g = go (ltb n 10) refl
  where
    go : (b : Bool) → ltb n 10 ≡ b → P
    go true e = f (ltb-true _ _ e)
    go false e = g (ltb-false _ _ e)

-- a digit less
pub shorter : (n k : ℕ) → n < 10 ^ suc k → n / 10 < 10 ^ k
shorter n k h =
    let p : n < 10 ^ k * 10 = rw pow-suc at h in
    (div-lt_iff_lt-mul {k = 10} {x = n} {y = 10 ^ k} (omega arith)).1 p

-- ---- what follows stays behind

digits_append : (f n : ℕ) (more : List ℕ) → digits_onto f n more ≡ digits_onto f n [] ++ more
unfolding digits_onto
digits_append zero n more = refl
digits_append (suc f) n more = one-or-more n
    (λ h. digits-one f n more h ∙ ap (λ (l : List ℕ). l ++ more) (sym (digits-one f n [] h)))
    (λ h.
    digits_more f n more h
    ∙ digits_append f (n / 10) ((digit0 + n % 10) ∷ more)
    ∙ sym (append_assoc (digits_onto f (n / 10) []) ((digit0 + n % 10) ∷ []) more)
    ∙ ap (λ (l : List ℕ). l ++ more) (sym (digits_append f (n / 10) ((digit0 + n % 10) ∷ [])) ∙ sym (digits_more f n [] h)))

-- enough is enough
digits-enough : (f n : ℕ) (more : List ℕ) → n < 10 ^ suc f → digits_onto (suc f) n more ≡ digits_onto (suc (suc f)) n more
digits-enough zero n more h = one-or-more n (λ k. digits-one zero n more k ∙ sym (digits-one (suc zero) n more k)) (λ k. absurd (omega arith))
digits-enough (suc f) n more h = one-or-more n
    (λ k. digits-one (suc f) n more k ∙ sym (digits-one (suc (suc f)) n more k))
    (λ k. digits_more (suc f) n more k ∙ digits-enough f (n / 10) ((digit0 + n % 10) ∷ more) (shorter n (suc f) h) ∙ sym (digits_more (suc (suc f)) n more k))

-- ---- a number of twenty digits at most

pub decimal-one : (n : ℕ) → n < 10 → decimal n ≡ (digit0 + n) ∷ []
unfolding decimal
decimal-one n h = digits-one 19 n [] h

pub decimal-more : (n : ℕ) → n < 10 ^ 20 → 10 ≤ n → decimal n ≡ decimal (n / 10) ++ ((digit0 + n % 10) ∷ [])
unfolding decimal
decimal-more n few h =
    digits_more 19 n [] h ∙ digits-enough 18 (n / 10) ((digit0 + n % 10) ∷ []) (shorter n 19 few) ∙ digits_append 20 (n / 10) ((digit0 + n % 10) ∷ [])

-- ---- put into a store

pub put-digit : (s : Store) {t : Store} (n d : ℕ) → d ≡ digit0 + n % 10 → n < 10 → t ≡ push s d → t ≡ push_all s (decimal n)
put-digit s n d e h p =
    let same : d ≡ digit0 + n = omega arith in
    rw (decimal-one n h) (put_one s (digit0 + n) (rw same at p))

pub put-digits : (s : Store) {t u : Store} (n d : ℕ) → n < 10 ^ 20 → d ≡ digit0 + n % 10 → 10 ≤ n → t ≡ push_all s (decimal (n / 10)) → u ≡ push t d → u ≡ push_all s (decimal n)
put-digits s {t} n d few e h p q = rw (decimal-more n few h) (put_then s (decimal (n / 10)) ((digit0 + n % 10) ∷ []) p (put_one t (digit0 + n % 10) (rw e at q)))

-- ---- the number that w bits stand for

module _ (w k : ℕ) where
  pub signed-positive : k < 2 ^ (w - 1) → signed_decimal (signed_of w k) ≡ decimal k
  unfolding signed_of signed_decimal
  signed-positive h = rw (lt-ltb k (2 ^ (w - 1)) h, signed_of)

  pub signed-negative : 2 ^ (w - 1) ≤ k → k < 2 ^ w → signed_decimal (signed_of w k) ≡ minus ∷ decimal (2 ^ w - k)
  unfolding signed_of signed_decimal
  signed-negative h few = rw (le-ltb k (2 ^ (w - 1)) h, signed_of) (ap (λ (n : ℕ). minus ∷ decimal n) (let e : suc (2 ^ w - suc k) ≡ 2 ^ w - k = omega arith in e))

  pub put-positive : (s : Store) {t : Store} {n : ℕ} → n ≡ k → n < 2 ^ (w - 1) → t ≡ push_all s (decimal n) → t ≡ push_all s (signed_decimal (signed_of w k))
  put-positive s e h p = rw (signed-positive (rw e at h)) (rw e at p)

  pub put-negative : (s : Store) {t u : Store} {n : ℕ} → n ≡ k → 2 ^ (w - 1) ≤ n → n < 2 ^ w → t ≡ push s minus → u ≡ push_all t (decimal (2 ^ w - n)) → u ≡ push_all s (signed_decimal (signed_of w k))
  put-negative s e h few p q = rw (signed-negative (rw e at h) (rw e at few)) (put_first s minus (decimal (2 ^ w - k)) p (rw e at q))
