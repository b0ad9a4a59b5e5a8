-- Parts: what `split` gives, walked from one end of a part to the next.
use mathlib.Core.Path.{◌≡◌, refl, ap, sym, ◌∙◌}
use mathlib.Core.Bool.{Bool, true, false}
use mathlib.Core.List.{List, [], ◌∷◌}
use Prim.Native.Nat.{ℕ, suc, ◌+◌, ◌-◌, ◌≤◌, ◌<◌}
use native.Mathlib.Numerals.{add-one}
use native.Mathlib.Omega.{arith}
use lib.Dec.{eqb}
use lib.ListN.{length, get_or, take, drop, length-drop, drop_of_length-le}
use lib.Seq.{drop-cons, drop-drop}
use Rattle.definition.specs.Field.{lf, onto, split, first_line}
use Rattle.field.specs.View.{until, before, Ends, Finding, line_end}

pub before-lf : (bs : List ℕ) → before lf bs ≡ first_line bs
unfolding until first_line
before-lf [] = refl
before-lf (b ∷ bs) =
    elim (eqb b lf) as (λ t. ◌≡◌ {A = List ℕ} (elim t [ true ↦ [] | false ↦ b ∷ before lf bs ]) (elim t [ true ↦ [] | false ↦ b ∷ first_line bs ]))
    [ true ↦ refl | false ↦ ap (λ (l : List ℕ). b ∷ l) (before-lf bs) ]

-- ---- the first part of some bytes
module _ (stops : ℕ → Bool) where
  until-short : (bs : List ℕ) → length (until stops bs) ≤ length bs
  unfolding until
  until-short [] = omega arith
  until-short (b ∷ bs) =
      elim (stops b) as (λ t. length {A = ℕ} (elim t [ true ↦ [] | false ↦ b ∷ until stops bs ]) ≤ suc (length bs))
      [ true ↦ omega arith | false ↦ omega (arith, until-short bs) ]

  pub until-take : (bs : List ℕ) → take (length (until stops bs)) bs ≡ until stops bs
  unfolding until
  until-take [] = refl
  until-take (b ∷ bs) =
      elim (stops b) as (λ t. take (length {A = ℕ} (elim t [ true ↦ [] | false ↦ b ∷ until stops bs ])) (b ∷ bs) ≡ elim t [ true ↦ [] | false ↦ b ∷ until stops bs ])
      [ true ↦ refl | false ↦ ap (λ (l : List ℕ). b ∷ l) (until-take bs) ]

  -- its first byte, if it has one
  pub until-first : (bs : List ℕ) → 0 < length (until stops bs) → get_or (until stops bs) 0 0 ≡ get_or bs 0 0
  unfolding until
  until-first [] = λ h. refl
  until-first (b ∷ bs) =
      elim (stops b) as (λ t. 0 < length {A = ℕ} (elim t [ true ↦ [] | false ↦ b ∷ until stops bs ]) → get_or {A = ℕ} (elim t [ true ↦ [] | false ↦ b ∷ until stops bs ]) 0 0 ≡ b)
      [ true ↦ λ h. absurd (omega arith) | false ↦ λ h. refl ]

  -- byte by byte
  module _ (bytes : List ℕ) (i : ℕ) where
    pub until-next : i < length bytes → stops (get_or bytes i 0) ≡ false → until stops (drop i bytes) ≡ get_or bytes i 0 ∷ until stops (drop (i + 1) bytes)
    unfolding until
    until-next h e = rw (add-one i, drop-cons bytes i 0 h, until, e)

    pub until-here : i < length bytes → stops (get_or bytes i 0) ≡ true → until stops (drop i bytes) ≡ []
    unfolding until
    until-here h e = rw (drop-cons bytes i 0 h, until, e)

    pub until_end : length bytes ≤ i → until stops (drop i bytes) ≡ []
    unfolding until
    until_end h = rw (drop_of_length-le bytes h)

pub until-never : (bs : List ℕ) → until (λ _. false) bs ≡ bs
unfolding until
until-never [] = refl
until-never (b ∷ bs) = ap (λ (l : List ℕ). b ∷ l) (until-never bs)

module _ (sep : ℕ) where
  -- the parts: the first, and those of what follows it
  pub split-last : (bs : List ℕ) → length bs ≤ length (before sep bs) → split sep bs ≡ before sep bs ∷ []
  unfolding until split onto
  split-last [] = λ h. refl
  split-last (b ∷ bs) =
      elim (eqb b sep)
      as (λ t. length (b ∷ bs) ≤ length {A = ℕ} (elim t [ true ↦ [] | false ↦ b ∷ before sep bs ])
      → ◌≡◌ {A = List (List ℕ)} (elim t [ true ↦ [] ∷ split sep bs | false ↦ onto b (split sep bs) ]) ((elim t [ true ↦ [] | false ↦ b ∷ before sep bs ]) ∷ []))
      [ true ↦ λ h. absurd (omega arith) | false ↦ λ h. rw (split-last bs (omega arith)) ]

  pub split-more : (bs : List ℕ) → length (before sep bs) < length bs → split sep bs ≡ before sep bs ∷ split sep (drop (suc (length (before sep bs))) bs)
  unfolding until split onto
  split-more [] = λ h. absurd (omega arith)
  split-more (b ∷ bs) =
      elim (eqb b sep)
      as (λ t. length {A = ℕ} (elim t [ true ↦ [] | false ↦ b ∷ before sep bs ]) < length (b ∷ bs)
      → ◌≡◌ {A = List (List ℕ)} (elim t [ true ↦ [] ∷ split sep bs | false ↦ onto b (split sep bs) ])
      ((elim t [ true ↦ [] | false ↦ b ∷ before sep bs ]) ∷ split sep (drop (length {A = ℕ} (elim t [ true ↦ [] | false ↦ b ∷ before sep bs ])) bs)))
      [ true ↦ λ h. refl | false ↦ λ h. rw (split-more bs (omega arith)) ]

-- ---- the walk: a part ends at r, and the next starts at r + 1
module _ (sep : ℕ) {bytes : List ℕ} {at r : ℕ} (e : Ends (before sep) bytes at r) where
  part-long : r - at ≡ length (before sep (drop at bytes))
  part-long = omega (arith, e.is)

  pub part-is : take (r - at) (drop at bytes) ≡ before sep (drop at bytes)
  part-is = rw part-long (until-take _ (drop at bytes))

  pub parts_last : length bytes ≤ r → split sep (drop at bytes) ≡ take (r - at) (drop at bytes) ∷ []
  parts_last h = rw part-is (split-last sep (drop at bytes) (omega (arith, e.is, length-drop at bytes)))

  pub parts_more : r < length bytes → split sep (drop at bytes) ≡ take (r - at) (drop at bytes) ∷ split sep (drop (r + 1) bytes)
  parts_more h =
      let n = length (before sep (drop at bytes)) in
      let far : at + suc n ≡ r + 1 = omega (arith, e.is) in
      let next : drop (suc n) (drop at bytes) ≡ drop (r + 1) bytes = drop-drop (suc n) at bytes ∙ ap (λ (k : ℕ). drop k bytes) far in
      rw (part-is, ← next) (split-more sep (drop at bytes) (omega (arith, e.is, length-drop at bytes)))

pub part-line : {bytes : List ℕ} {at r : ℕ} → Ends (before lf) bytes at r → Ends first_line bytes at r
part-line {bytes} {at} e = record { is = e.is ∙ ap (λ (l : List ℕ). at + length l) (before-lf (drop at bytes)); low = e.low; high = e.high }

pub line-ends : (bytes : List ℕ) (at : ℕ) → Ends first_line bytes at (line_end bytes at)
line-ends bytes at =
    let short : length (before lf (drop at bytes)) ≤ length bytes - at = omega (arith, until-short (λ b. eqb b lf) (drop at bytes), length-drop at bytes) in
    part-line (record { is = ap (λ (l : List ℕ). at + length l) (sym (before-lf (drop at bytes))); low = omega arith; high = omega (arith, ap (λ (l : List ℕ). length l) (before-lf (drop at bytes))) })

module _ {bytes : List ℕ} {at r : ℕ} (e : Ends first_line bytes at r) where
  -- a line is a part between LFs
  pub line-part : Ends (before lf) bytes at r
  line-part = record { is = e.is ∙ ap (λ (l : List ℕ). at + length l) (sym (before-lf (drop at bytes))); low = e.low; high = e.high }

  pub line-is : take (r - at) (drop at bytes) ≡ first_line (drop at bytes)
  line-is = part-is lf line-part ∙ before-lf (drop at bytes)

-- ---- byte by byte

pub split-sep : (sep b : ℕ) (bs : List ℕ) → eqb b sep ≡ true → split sep (b ∷ bs) ≡ [] ∷ split sep bs
unfolding split
split-sep sep b bs e = rw (e, split)

pub split-other : (sep b : ℕ) (bs : List ℕ) → eqb b sep ≡ false → split sep (b ∷ bs) ≡ onto b (split sep bs)
unfolding split
split-other sep b bs e = rw (e, split)

-- there is always a part
pub data Some : List (List ℕ) → Type 0 where
  some-part : {x : List ℕ} {xs : List (List ℕ)} → Some (x ∷ xs)

onto-some : (b : ℕ) {xs : List (List ℕ)} → Some xs → Some (onto b xs)
unfolding onto
onto-some b some-part = some-part

pub split-some : (sep : ℕ) (bs : List ℕ) → Some (split sep bs)
unfolding split
split-some sep [] = some-part
split-some sep (b ∷ bs) =
    elim (eqb b sep) as (λ t. Some (elim t [ true ↦ [] ∷ split sep bs | false ↦ onto b (split sep bs) ]))
    [ true ↦ some-part | false ↦ onto-some b (split-some sep bs) ]

pub split-is : (sep : ℕ) (bs : List ℕ) → (x : List ℕ) × (xs : List (List ℕ)) × (split sep bs ≡ x ∷ xs)
split-is sep bs = go (split-some sep bs)
  where
    go : {ps : List (List ℕ)} → Some ps → (x : List ℕ) × (xs : List (List ℕ)) × (ps ≡ x ∷ xs)
    go (some-part {x = x} {xs = xs}) = (x, xs, refl)

-- ---- finding an end, byte by byte
pub finds-start : (stops : ℕ → Bool) (bytes : List ℕ) (at : ℕ) → Finding stops bytes at at
finds-start stops bytes at = record { low = omega arith; high = omega arith; more = refl }

module _ {stops : ℕ → Bool} {bytes : List ℕ} {at i : ℕ} (f : Finding stops bytes at i) where
  pub finds-next : i < length bytes → stops (get_or bytes i 0) ≡ false → Finding stops bytes at (i + 1)
  finds-next h n =
      let one : length (until stops (drop i bytes)) ≡ length (until stops (drop (i + 1) bytes)) + 1 = rw (until-next stops bytes i h n) (omega arith) in
      record { low = omega (arith, f.low); high = omega (arith, f.low, f.high); more = omega (arith, f.more) }

  finds-none : until stops (drop i bytes) ≡ [] → Ends (until stops) bytes at i
  finds-none e = record { is = omega (arith, f.more, ap length e); low = f.low; high = f.high }

  pub finds-here : i < length bytes → stops (get_or bytes i 0) ≡ true → Ends (until stops) bytes at i
  finds-here h e = finds-none (until-here stops bytes i h e)

  pub finds-end : length bytes ≤ i → Ends (until stops) bytes at i
  finds-end h = finds-none (until_end stops bytes i h)

  -- where the rest ends, all of it does
  pub finds-rest : {r : ℕ} → Ends (until stops) bytes i r → Ends (until stops) bytes at r
  finds-rest e = record { is = omega (arith, f.more, e.is); low = omega (arith, f.low, e.low); high = omega (arith, f.low, f.high, e.high) }
