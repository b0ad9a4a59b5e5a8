-- Numbers: counting up to the cap decides what the definition decides, and a field's number is within its bound.
use mathlib.Core.Path.{◌≡◌, refl, ap, sym, ◌∙◌}
use mathlib.Core.Bool.{Bool, true, false, ◌&&◌}
use mathlib.Core.Option.{Option, some, none}
use mathlib.Core.List.{List, [], ◌∷◌}
use Prim.Native.Nat.{ℕ, zero, suc, ◌+◌, ◌-◌, ◌*◌, ◌^◌, ◌≤◌, ◌<◌, min}
use native.Mathlib.Numerals.{add-one}
use native.Mathlib.Nat.{le_of_lt}
use native.Mathlib.Omega.{arith, min_cases}
use borrow.Author.Tests.{le-ltb, eq-eqb, ne_eqb, leb-true}
use lib.Dec.{leb, ltb, eqb, leb-suc-suc}
use lib.ListN.{length, get_or, drop}
use Rattle.definition.specs.Field as def
use Rattle.definition.specs.Field.{digit0, digit9, digits, natural, within, natural_within, negative, signed, field, up_to, below, value, malformed, outside, is}
use Rattle.field.proofs.Tests.{and_left, and_right}
use Rattle.field.specs.View.{cap, capped, is_digit, count, spelt}

-- ---- counting

step : (m d : ℕ) → min (min m cap * 10 + d) cap ≡ min (m * 10 + d) cap
step m d = omega arith

count-digits : (m : ℕ) (bs : List ℕ) → count (min m cap) bs ≡ capped (digits m bs)
unfolding count digits capped
count-digits m [] = refl
count-digits m (b ∷ bs) =
    elim (leb digit0 b && leb b digit9)
    as (λ t. elim t [ true ↦ count (min (min m cap * 10 + (b - digit0)) cap) bs | false ↦ none ] ≡ capped (elim t [ true ↦ digits (m * 10 + (b - digit0)) bs | false ↦ none ]))
    [ true ↦ rw (step m (b - digit0)) (count-digits (m * 10 + (b - digit0)) bs) | false ↦ refl ]

digit-first : (b : ℕ) (bs : List ℕ) → (leb digit0 b && leb b digit9) ≡ true → count 0 (b ∷ bs) ≡ count (b - digit0) bs
unfolding count
digit-first b bs e =
    let small : b ≤ digit9 = leb-true b digit9 (and_right (leb digit0 b) _ e) in
    let same : min (0 * 10 + (b - digit0)) cap ≡ b - digit0 = omega arith in
    rw (count, e, same)

-- one digit more, and a byte that is none
pub digit_low : (b : ℕ) → true ≡ is_digit b → 48 ≤ b
digit_low b e = leb-true digit0 b (and_left (leb digit0 b) _ (sym e))

module _ (n b : ℕ) (bs : List ℕ) where
  pub count-digit : true ≡ is_digit b → count n (b ∷ bs) ≡ count (min (n * 10 + (b - 48)) cap) bs
  unfolding count
  count-digit e = rw (count, ← e)

  pub count-other : false ≡ is_digit b → count n (b ∷ bs) ≡ none
  unfolding count
  count-other e = rw (count, ← e)

-- a field's number from what its digits make
capped-count : (bs : List ℕ) → capped (digits 0 bs) ≡ count 0 bs
capped-count bs = sym (count-digits 0 bs)

pub natural-some : (bs : List ℕ) {n : ℕ} → count 0 bs ≡ some n → spelt (get_or bs 0 0) (length bs) n ≡ capped (natural bs)
unfolding natural capped spelt
natural-some [] e = refl
natural-some (b ∷ []) e = sym (capped-count (b ∷ []) ∙ e)
natural-some (b ∷ c ∷ bs) {n} e =
    elim (eqb b digit0) as (λ t. ◌≡◌ {A = Option ℕ} (elim t [ true ↦ none | false ↦ some n ]) (capped (elim t [ true ↦ none | false ↦ digits 0 (b ∷ c ∷ bs) ])))
    [ true ↦ refl | false ↦ sym (capped-count (b ∷ c ∷ bs) ∙ e) ]

pub natural-none : (bs : List ℕ) → count 0 bs ≡ none → none ≡ capped (natural bs)
unfolding natural capped
natural-none [] e = refl
natural-none (b ∷ []) e = sym (capped-count (b ∷ []) ∙ e)
natural-none (b ∷ c ∷ bs) e =
    elim (eqb b digit0) as (λ t. ◌≡◌ {A = Option ℕ} none (capped (elim t [ true ↦ none | false ↦ digits 0 (b ∷ c ∷ bs) ])))
    [ true ↦ refl | false ↦ sym (capped-count (b ∷ c ∷ bs) ∙ e) ]

-- ---- a number within its bound, whether counted up to the cap or not

module _ (limit : ℕ) (low : limit ≤ cap) where
  within-capped : (n : ℕ) → within (ltb (min n cap) limit) (min n cap) ≡ within (ltb n limit) n
  unfolding within
  within-capped n =
      min_cases n cap (within (ltb (min n cap) limit) (min n cap) ≡ within (ltb n limit) n)
      (λ h e. rw e)
      (λ h e. rw (e, le-ltb cap limit low, le-ltb n limit (omega arith)))

  pub capped-within : (o : Option ℕ) → natural_within (λ n. ltb n limit) (capped o) ≡ natural_within (λ n. ltb n limit) o
  unfolding natural_within capped
  capped-within none = refl
  capped-within (some n) = within-capped n

module _ (w : ℕ) (low : 2 ^ (w - 1) < cap) where
  capped-negative : (o : Option ℕ) → negative w (capped o) ≡ negative w o
  unfolding negative capped within
  capped-negative none = refl
  capped-negative (some zero) = refl
  capped-negative (some (suc n)) =
      min_cases (suc n) cap (negative w (some (min (suc n) cap)) ≡ negative w (some (suc n)))
      (λ h e. rw e)
      (λ h e. rw (e, negative, le-ltb (cap - 1) (2 ^ (w - 1)) (omega arith), le-ltb n (2 ^ (w - 1)) (omega arith)))

up-to-below : (m : ℕ) (o : Option ℕ) → natural_within (λ n. leb n m) o ≡ natural_within (λ n. ltb n (m + 1)) o
unfolding natural_within
up-to-below m none = refl
up-to-below m (some n) = rw (add-one m, leb-suc-suc)

pub below-up-to : (m : ℕ) (bs : List ℕ) → field (below (suc m)) bs ≡ field (up_to m) bs
unfolding field
below-up-to m bs = rw (← add-one m) (sym (up-to-below m (natural bs)))

-- what each function answers, from what those that it calls answer
module _ (bs : List ℕ) {o : Option ℕ} (is-o : o ≡ capped (natural bs)) {x : def.Read} where
  pub up-to-is : (m : ℕ) → m + 1 ≤ cap → x ≡ natural_within (λ n. ltb n (m + 1)) o → x ≡ field (up_to m) bs
  unfolding field
  up-to-is m low e = e ∙ ap (natural_within (λ n. ltb n (m + 1))) is-o ∙ capped-within (m + 1) low (natural bs) ∙ sym (up-to-below m (natural bs))

  pub below-is : (m : ℕ) → m ≤ cap → x ≡ natural_within (λ n. ltb n m) o → x ≡ field (below m) bs
  unfolding field
  below-is m low e = e ∙ ap (natural_within (λ n. ltb n m)) is-o ∙ capped-within m low (natural bs)

pub up-to-malformed : (bs : List ℕ) → none ≡ capped (natural bs) → (m : ℕ) → malformed ≡ field (up_to m) bs
unfolding field capped natural_within
up-to-malformed bs e m = go (natural bs) e
  where
    go : (n : Option ℕ) → none ≡ capped n → malformed ≡ natural_within (λ k. leb k m) n
    go none e = refl
    go (some n) e = absurd (cc)

signed-plain : (w : ℕ) (bs : List ℕ) → (get_or bs 0 0 ≡ 45 → ⊥) → signed w bs ≡ natural_within (λ n. ltb n (2 ^ (w - 1))) (natural bs)
unfolding signed natural_within natural
signed-plain w [] h = refl
signed-plain w (b ∷ bs) h = rw (signed, ne_eqb _ _ h)

signed-minus : (w : ℕ) (bs : List ℕ) → get_or bs 0 0 ≡ 45 → signed w bs ≡ negative w (natural (drop 1 bs))
unfolding signed
signed-minus w [] h = absurd (omega arith)
signed-minus w (b ∷ bs) h = rw (signed, eq-eqb _ _ h)

module _ (w : ℕ) (bs : List ℕ) {o : Option ℕ} (low : 2 ^ (w - 1) < cap) {x : def.Read} where
  pub value-plain : o ≡ capped (natural bs) → (get_or bs 0 0 ≡ 45 → ⊥) → x ≡ natural_within (λ n. ltb n (2 ^ (w - 1))) o → x ≡ field (value w) bs
  unfolding field
  value-plain is-o h e = e ∙ ap (natural_within (λ n. ltb n (2 ^ (w - 1)))) is-o ∙ capped-within (2 ^ (w - 1)) (le_of_lt low) (natural bs) ∙ sym (signed-plain w bs h)

  pub value-minus : o ≡ capped (natural (drop 1 bs)) → get_or bs 0 0 ≡ 45 → x ≡ negative w o → x ≡ field (value w) bs
  unfolding field
  value-minus is-o h e = e ∙ ap (negative w) is-o ∙ capped-negative w low (natural (drop 1 bs)) ∙ sym (signed-minus w bs h)

-- ---- a field's number is within its bound

within-is : (t : Bool) (k n : ℕ) → within t k ≡ is n → (t ≡ true) × (k ≡ n)
unfolding within
within-is true k n e = (refl, cc)
within-is false k n e = absurd (cc)

natural-is : (ok : ℕ → Bool) (o : Option ℕ) (n : ℕ) → natural_within ok o ≡ is n → ok n ≡ true
unfolding natural_within
natural-is ok none n e = absurd (cc)
natural-is ok (some k) n e = let p = within-is (ok k) k n e in ap ok (sym p.1) ∙ p.0

module _ (bs : List ℕ) {n : ℕ} where
  pub up-to-bound : (m : ℕ) → field (up_to m) bs ≡ is n → n ≤ m
  unfolding field
  up-to-bound m e = leb-true n m (natural-is (λ k. leb k m) (natural bs) n e)
