-- A field cut to six bytes: the same number up to max_field, or none either.
use mathlib.Core.Path.{◌≡◌, refl, ap, sym, ◌∙◌}
use mathlib.Core.Bool.{Bool, true, false, ◌&&◌}
use mathlib.Core.Option.{Option, some, none}
use mathlib.Core.List.{List, [], ◌∷◌}
use Prim.Native.Nat.{ℕ, zero, suc, ◌+◌, ◌-◌, ◌*◌, ◌≤◌}
use native.Mathlib.Omega.{arith}
use borrow.Author.Tests.{lt-leb, le-ltb, leb-true, leb-false, eqb-false}
use lib.Dec.{eqb, leb, ltb}
use lib.ListN.{length, take, length-take}
use lib.Seq.{take_all}
use Rattle.definition.specs.Limits.{max_field}
use Rattle.definition.specs.Field.{digit0, digit9, digits, natural, within, natural_within, Field, up_to, below, value, field, Read, malformed, outside, is, Numbers, wrong, far, are, and_these}
use Rattle.definition.specs.Listing.{count_of}
use Rattle.definition.specs.Passes.{these}
use Rattle.input_machine.specs.Machine.{field_width}

-- ---- a number of six digits is past every range

unfoldable Over : ℕ → Option ℕ → Type 0
Over low none = Unit {0}
Over low (some n) = low ≤ n

-- so many digits more
tens : ℕ → ℕ → ℕ
tens zero n = n
tens (suc j) n = tens j (n * 10)

digits-over : (j low n : ℕ) (bs : List ℕ) → low ≤ n → j ≤ length bs → Over (tens j low) (digits n bs)
unfolding Over tens digits
digits-over zero low n [] h l = h
digits-over zero low n (b ∷ bs) h l =
    elim (leb digit0 b && leb b digit9) as (λ t. Over low (elim t [ true ↦ digits (n * 10 + (b - digit0)) bs | false ↦ none ]))
    [ true ↦ digits-over 0 low (n * 10 + (b - digit0)) bs (omega arith) (omega arith) | false ↦ tt ]
digits-over (suc j) low n [] h l = absurd (omega arith)
digits-over (suc j) low n (b ∷ bs) h l =
    elim (leb digit0 b && leb b digit9) as (λ t. Over (tens j (low * 10)) (elim t [ true ↦ digits (n * 10 + (b - digit0)) bs | false ↦ none ]))
    [ true ↦ digits-over j (low * 10) (n * 10 + (b - digit0)) bs (omega arith) (omega arith) | false ↦ tt ]

natural-over : (x : List ℕ) → field_width ≤ length x → Over 100000 (natural x)
unfolding Over natural digits tens
natural-over [] l = absurd (omega arith)
natural-over (b ∷ []) l = absurd (omega arith)
natural-over (b ∷ c ∷ bs) l = go (eqb b digit0) refl (leb digit0 b) refl (leb b digit9)
  where
    go : (z : Bool) → eqb b digit0 ≡ z → (t : Bool) → leb digit0 b ≡ t → (u : Bool)
        → Over 100000 (elim z [ true ↦ none | false ↦ elim (t && u) [ true ↦ digits (0 * 10 + (b - digit0)) (c ∷ bs) | false ↦ none ] ])
    go true e t q u = tt
    go false e false q u = tt
    go false e true q false = tt
    go false e true q true = digits-over 5 1 (0 * 10 + (b - digit0)) (c ∷ bs) (omega (arith, leb-true digit0 b q, eqb-false b digit0 e)) (omega arith)

within_none : (ok : ℕ → Bool) (o : Option ℕ) → ((n : ℕ) → 100000 ≤ n → ok n ≡ false) → Over 100000 o → count_of (natural_within ok o) ≡ none
unfolding Over natural_within within count_of
within_none ok none h l = refl
within_none ok (some n) h l = rw (h n l)

-- ---- the ranges of the sheet and the rules

unfoldable pub Short : Field → Type 0
Short (up_to m) = m ≤ max_field
Short (below m) = m ≤ max_field
Short (value w) = ⊥

wide-none : (f : Field) → Short f → (x : List ℕ) → field_width ≤ length x → count_of (field f x) ≡ none
unfolding Short field
wide-none (up_to m) s x l = within_none (λ n. leb n m) (natural x) (λ n h. lt-leb n m (omega arith)) (natural-over x l)
wide-none (below m) s x l = within_none (λ n. ltb n m) (natural x) (λ n h. le-ltb n m (omega arith)) (natural-over x l)
wide-none (value w) s x l = absurd s

pub field_cut : (f : Field) → Short f → (x : List ℕ) → count_of (field f (take field_width x)) ≡ count_of (field f x)
field_cut f s x = go (leb (length x) field_width) refl
  where
    go : (t : Bool) → leb (length x) field_width ≡ t → count_of (field f (take field_width x)) ≡ count_of (field f x)
    go true e = ap (λ (y : List ℕ). count_of (field f y)) (take_all field_width x (leb-true (length x) field_width e))
    go false e =
        let h = leb-false (length x) field_width e in
        wide-none f s (take field_width x) (omega (arith, length-take field_width x)) ∙ sym (wide-none f s x (omega arith))

-- ---- a line's numbers: whether a field is malformed or outside its range makes no difference

unfoldable pub both : Option ℕ → Option (List ℕ) → Option (List ℕ)
both none o = none
both (some n) none = none
both (some n) (some ns) = some (n ∷ ns)

pub these-and : (r : Read) (m : Numbers) → these (and_these r m) ≡ both (count_of r) (these m)
unfolding these and_these both count_of
these-and malformed m = refl
these-and outside wrong = refl
these-and outside far = refl
these-and outside (are ns) = refl
these-and (is n) wrong = refl
these-and (is n) far = refl
these-and (is n) (are ns) = refl
