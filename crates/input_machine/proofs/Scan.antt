-- A field's number, byte by byte: the machine's number so far decides what the definition's field is.
use mathlib.Core.Path.{◌≡◌, refl, ap, sym, ◌∙◌}
use mathlib.Core.Bool.{Bool, true, false, ◌&&◌, ◌||◌}
use mathlib.Core.Option.{Option, some, none}
use mathlib.Core.List.{List, [], ◌∷◌}
use Prim.Native.Nat.{ℕ, ◌+◌, ◌-◌, ◌*◌, ◌≤◌, ◌<◌}
use native.Mathlib.Omega.{arith}
use borrow.Author.Tests.{le-leb, lt-leb, le-ltb, ne_eqb, leb-true, leb-false, eqb-true, eqb-false}
use lib.Dec.{leb, ltb, eqb}
use Rattle.definition.specs.Limits.{max_field}
use Rattle.definition.specs.Field.{digit0, digit9, digits, natural, within, natural_within, field, up_to}
use Rattle.definition.specs.Listing.{count_of}
use Rattle.input_machine.specs.Machine.{blank, bad, at_most, digit_after, number_after}

-- the number so far after some bytes more
unfoldable pub number_in : ℕ → List ℕ → ℕ
number_in x [] = x
number_in x (b ∷ bs) = number_in (number_after x b) bs

-- a number up to a bound that is met, or none
unfoldable pub up_to_of : ℕ → ℕ → Option ℕ
up_to_of m x = elim (leb x m) [ true ↦ some x | false ↦ none ]

abbrev is_digit : ℕ → Bool
is_digit b = leb digit0 b && leb b digit9

-- ---- one byte

number-digit : (x b : ℕ) → is_digit b ≡ true → number_after x b ≡ digit_after x (b - digit0)
unfolding number_after
number-digit x b e = rw (number_after, e)

number-other : (x b : ℕ) → is_digit b ≡ false → number_after x b ≡ bad
unfolding number_after
number-other x b e = rw (number_after, e)

at-most : (x : ℕ) → x ≤ max_field → at_most x ≡ x
unfolding at_most
at-most x h = rw (at_most, le-leb x max_field h)

past-most : (x : ℕ) → max_field < x → at_most x ≡ bad
unfolding at_most
past-most x h = rw (at_most, lt-leb x max_field h)

number-bad : (b : ℕ) → number_after bad b ≡ bad
unfolding number_after digit_after
number-bad b = elim (is_digit b) as (λ t. elim t [ true ↦ digit_after bad (b - digit0) | false ↦ bad ] ≡ bad) [ true ↦ refl | false ↦ refl ]

in-bad : (bs : List ℕ) → number_in bad bs ≡ bad
unfolding number_in
in-bad [] = refl
in-bad (b ∷ bs) = rw (number-bad b) (in-bad bs)

-- ---- digits after a number that is not 0

-- what the machine has of a number of any size
unfoldable pub seen : Option ℕ → ℕ
seen none = bad
seen (some n) = at_most n

number_more : (x b : ℕ) → (x ≡ 0 → ⊥) → is_digit b ≡ true → number_after (at_most x) b ≡ at_most (x * 10 + (b - digit0))
unfolding digit_after
number_more x b n e = go (leb x max_field) refl
  where
    go : (t : Bool) → leb x max_field ≡ t → number_after (at_most x) b ≡ at_most (x * 10 + (b - digit0))
    go true h =
        let l = leb-true x max_field h in
        rw (at-most x l, number-digit x b e, digit_after, ne_eqb x blank (omega arith), ne_eqb x 0 n, le-ltb max_field x l)
    go false h =
        let l = leb-false x max_field h in
        rw (past-most x l, number-bad b, past-most (x * 10 + (b - digit0)) (omega arith))

number_digits : (x : ℕ) (bs : List ℕ) → (x ≡ 0 → ⊥) → number_in (at_most x) bs ≡ seen (digits x bs)
unfolding number_in digits seen
number_digits x [] n = refl
number_digits x (b ∷ bs) n = go (is_digit b) refl (number_digits (x * 10 + (b - digit0)) bs)
  where
    go : (t : Bool) → is_digit b ≡ t → ((x * 10 + (b - digit0) ≡ 0 → ⊥) → number_in (at_most (x * 10 + (b - digit0))) bs ≡ seen (digits (x * 10 + (b - digit0)) bs))
        → number_in (number_after (at_most x) b) bs ≡ seen (elim t [ true ↦ digits (x * 10 + (b - digit0)) bs | false ↦ none ])
    go true e more = rw (number_more x b n e) (more (λ z. n (omega arith)))
    go false e more = rw (number-other (at_most x) b e) (in-bad bs)

-- ---- a whole field

digit-bounds : (b : ℕ) → is_digit b ≡ true → (digit0 ≤ b) × (b ≤ digit9)
digit-bounds b e = (leb-true digit0 b (go (leb digit0 b) (leb b digit9) e).0, leb-true b digit9 (go (leb digit0 b) (leb b digit9) e).1)
  where
    go : (t u : Bool) → (t && u) ≡ true → (t ≡ true) × (u ≡ true)
    go true u e = (refl, e)
    go false u e = (e, absurd (let z : ◌≡◌ {A = ℕ} 0 1 = cc in omega arith))

number-first : (b : ℕ) → is_digit b ≡ true → number_after blank b ≡ at_most (0 * 10 + (b - digit0))
unfolding digit_after
number-first b e = let l = digit-bounds b e in number-digit blank b e ∙ rw (at-most (0 * 10 + (b - digit0)) (omega arith)) (omega arith)

number-zero : (b c : ℕ) → b ≡ digit0 → number_after (number_after blank b) c ≡ bad
unfolding number_after digit_after
number-zero b c e = rw e (elim (is_digit c) as (λ t. elim t [ true ↦ digit_after 0 (c - digit0) | false ↦ bad ] ≡ bad) [ true ↦ refl | false ↦ refl ])

digits-first : (b : ℕ) (bs : List ℕ) → ((0 * 10 + (b - digit0) ≡ 0 → ⊥) → number_in (at_most (0 * 10 + (b - digit0))) bs ≡ seen (digits (0 * 10 + (b - digit0)) bs))
    → (b ≡ digit0 → ⊥) → number_in blank (b ∷ bs) ≡ seen (digits 0 (b ∷ bs))
unfolding number_in digits seen
digits-first b bs more n = go (is_digit b) refl
  where
    go : (t : Bool) → is_digit b ≡ t → number_in (number_after blank b) bs ≡ seen (elim t [ true ↦ digits (0 * 10 + (b - digit0)) bs | false ↦ none ])
    go true e = let l = digit-bounds b e in rw (number-first b e) (more (λ z. n (omega arith)))
    go false e = rw (number-other blank b e) (in-bad bs)

natural-seen : (b : ℕ) (bs : List ℕ) → number_in blank (b ∷ bs) ≡ seen (natural (b ∷ bs))
unfolding number_in natural digits seen
natural-seen b [] = go (is_digit b) refl
  where
    go : (t : Bool) → is_digit b ≡ t → number_after blank b ≡ seen (elim t [ true ↦ some (0 * 10 + (b - digit0)) | false ↦ none ])
    go true e = number-first b e
    go false e = number-other blank b e
natural-seen b (c ∷ bs) = go (eqb b digit0) refl
  where
    go : (t : Bool) → eqb b digit0 ≡ t → number_in blank (b ∷ c ∷ bs) ≡ seen (elim t [ true ↦ none | false ↦ digits 0 (b ∷ c ∷ bs) ])
    go true e = rw (number-zero b c (eqb-true b digit0 e)) (in-bad bs)
    go false e = digits-first b (c ∷ bs) (number_digits (0 * 10 + (b - digit0)) (c ∷ bs)) (eqb-false b digit0 e)

module _ (m : ℕ) (low : m ≤ max_field) where
  over : (x : ℕ) → max_field < x → up_to_of m x ≡ none
  unfolding up_to_of
  over x h = rw (up_to_of, lt-leb x m (omega arith))

  seen-count : (o : Option ℕ) → count_of (natural_within (λ n. leb n m) o) ≡ up_to_of m (seen o)
  unfolding seen natural_within count_of up_to_of within
  seen-count none = sym (over bad (omega arith))
  seen-count (some n) = go (leb n max_field) refl
    where
      go : (t : Bool) → leb n max_field ≡ t → count_of (within (leb n m) n) ≡ up_to_of m (at_most n)
      go true h =
          elim (leb n m) as (λ t. count_of (within t n) ≡ elim t [ true ↦ some n | false ↦ none ]) [ true ↦ refl | false ↦ refl ]
          ∙ ap (up_to_of m) (sym (at-most n (leb-true n max_field h)))
      go false h = let l = leb-false n max_field h in rw (past-most n l, over bad (omega arith), lt-leb n m (omega arith))

  -- the number so far is the field's where it is within the bound
  pub scanned : (f : List ℕ) → count_of (field (up_to m) f) ≡ up_to_of m (number_in blank f)
  unfolding field natural natural_within number_in count_of
  scanned [] = sym (over blank (omega arith))
  scanned (b ∷ bs) = seen-count (natural (b ∷ bs)) ∙ ap (up_to_of m) (sym (natural-seen b bs))

-- ---- after a byte there is a number so far

pub not-blank : (x b : ℕ) → eqb (number_after x b) blank ≡ false
unfolding digit_after
not-blank x b = go (is_digit b) refl
  where
    small : (y : ℕ) → eqb (at_most y) blank ≡ false
    small y = at (leb y max_field) refl
      where
        at : (t : Bool) → leb y max_field ≡ t → eqb (at_most y) blank ≡ false
        at true h = let l = leb-true y max_field h in rw (at-most y l) (ne_eqb y blank (omega arith))
        at false h = rw (past-most y (leb-false y max_field h))

    digit : (t u : Bool) (d : ℕ) → d ≤ 9 → eqb (elim t [ true ↦ d | false ↦ elim u [ true ↦ bad | false ↦ at_most (x * 10 + d) ] ]) blank ≡ false
    digit true u d h = ne_eqb d blank (omega arith)
    digit false true d h = refl
    digit false false d h = small (x * 10 + d)

    go : (t : Bool) → is_digit b ≡ t → eqb (number_after x b) blank ≡ false
    go true e = let l = digit-bounds b e in rw (number-digit x b e, digit_after) (digit (eqb x blank) (eqb x 0 || ltb max_field x) (b - digit0) (omega arith))
    go false e = rw (number-other x b e)
