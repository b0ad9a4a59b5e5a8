-- Parts of the stored answers, byte by byte, and that a case's parts lie in them.
use mathlib.Core.Path.{◌≡◌, refl, ◌∙◌}
use mathlib.Core.Bool.{Bool, true, false, ◌&&◌}
use mathlib.Core.List.{List, [], ◌∷◌}
use Prim.Native.Nat.{ℕ, zero, suc, ◌+◌, ◌≤◌, ◌<◌}
use native.Mathlib.Numerals.{add-one}
use native.Mathlib.Omega.{arith}
use borrow.Author.Tests.{eq-eqb, ne_eqb, lt-ltb, le-ltb}
use lib.Dec.{eqb}
use Rattle.std.proofs.Common.{inl, inr, sym, ap, ◌-◌}
use Rattle.std.proofs.lemmas.Bool.Decides.{eqb_tells}
use lib.Pointwise.{pointwise}
use lib.ListN.{length, get_or, take, drop, length-drop, drop_of_length-le}
use lib.Seq.{drop-cons, take_all}
use Rattle.replay.specs.declared.Case.{Case}
use Rattle.replay.specs.Case.{begins, separator, lf, part_size, part_end, case_at, cases_from, case_count, missing}

-- ---- whether a text begins with some bytes
eqb_swap : (a b : ℕ) → eqb a b ≡ eqb b a
eqb_swap a b = elim (eqb_tells a b) [ inl h ↦ rw (h.0, eq-eqb b a (sym h.1)) | inr h ↦ rw (h.0, ne_eqb b a (λ e. h.1 (sym e))) ]

starts-begins : (ps text : List ℕ) → pointwise eqb ps (take (length ps) text) ≡ begins ps text
unfolding begins
starts-begins [] text = refl
starts-begins (p ∷ ps) [] = refl
starts-begins (p ∷ ps) (b ∷ bs) = rw (eqb_swap p b, starts-begins ps bs)

-- what `starts_with` says of the bytes from a place on
pub starts-here : (text : List ℕ) (at : ℕ) {b : Bool} → b ≡ pointwise eqb separator (take 5 (take (length text - at) (drop at text))) → b ≡ begins separator (drop at text)
starts-here text at e =
    e ∙ ap (λ (l : List ℕ). pointwise eqb separator (take 5 l)) (take_all (length text - at) (drop at text) (rw (length-drop at text) (omega arith))) ∙ starts-begins separator (drop at text)

-- ---- a part

-- a part that starts at a place has no end before another
pub record Reading (text : List ℕ) (from at : ℕ) (starts : Bool) : Type 0 where
  pub within : at ≤ length text
  pub size : part_end text from ≡ at + part_size starts (drop at text)

pub read-begins : (text : List ℕ) (from : ℕ) → from ≤ length text → Reading text from from true
unfolding part_end
read-begins text from h = record { within = h; size = refl }

module _ (text : List ℕ) (from at : ℕ) (starts : Bool) (r : Reading text from at starts) where
  pub read_here : at < length text → starts ≡ true → begins separator (drop at text) ≡ true → at ≡ part_end text from
  unfolding part_size
  read_here h s e =
      let d = drop-cons text at 0 h in
      let none : part_size starts (drop at text) ≡ 0 = rw (d, part_size, s, rw d at e) in
      omega (arith, r.size, none)

  pub read-on : at < length text → (starts && begins separator (drop at text)) ≡ false → Reading text from (at + 1) (eqb (get_or text at 0) lf)
  unfolding part_size
  read-on h e =
      let d = drop-cons text at 0 h in
      let one : part_size starts (drop at text) ≡ suc (part_size (eqb (get_or text at 0) lf) (drop (at + 1) text)) = rw (add-one at, d, part_size, rw d at e) in
      record { within = omega (arith, h); size = omega (arith, r.size, one) }

  pub read-end : length text ≤ at → length text ≡ part_end text from
  unfolding part_size
  read-end h =
      let none : part_size starts (drop at text) ≡ 0 = rw (drop_of_length-le text h, part_size) in
      omega (arith, r.within, r.size, none)

-- ---- a case
pub at_most_one : (same : Bool) {n : ℕ} → n ≡ missing same → n ≤ 1
unfolding missing
at_most_one true e = omega (arith, e)
at_most_one false e = omega (arith, e)

-- ---- the cases of a text

-- so many were met before a place, and at most n start from there on
pub record Counting (text : List ℕ) (at cases : ℕ) : Type 0 where
  pub n : ℕ
  pub enough : length text ≤ at + n
  pub left : cases + cases_from n text at ≡ case_count text

pub count-begins : (text : List ℕ) → Counting text 0 0
unfolding case_count
count-begins text = record { n = length text; enough = omega arith; left = (let z : 0 + cases_from (length text) text 0 ≡ cases_from (length text) text 0 = omega arith in z) }

pub count-on : (text : List ℕ) {at cases : ℕ} {c : Case} → Counting text at cases → at < length text → c ≡ case_at text at → at < c.next → Counting text c.next (cases + 1)
unfolding cases_from
count-on text {at} {cases} {c} g h is ahead = go g.n g.enough g.left
  where
    go : (n : ℕ) → length text ≤ at + n → cases + cases_from n text at ≡ case_count text → Counting text c.next (cases + 1)
    go zero enough left = absurd (omega arith)
    go (suc n) enough left =
        let more : cases_from (suc n) text at ≡ suc (cases_from n text c.next) = rw (cases_from, lt-ltb at (length text) h, is) in
        record { n = n; enough = omega (arith, ahead); left = (let l = left in omega (arith, more)) }

pub count-ends : (text : List ℕ) {at cases : ℕ} → Counting text at cases → length text ≤ at → cases ≡ case_count text
unfolding cases_from
count-ends text {at} {cases} g h = go g.n g.left
  where
    go : (n : ℕ) → cases + cases_from n text at ≡ case_count text → cases ≡ case_count text
    go zero left = omega arith
    go (suc n) left =
        let none : cases_from (suc n) text at ≡ 0 = rw (cases_from, le-ltb at (length text) h) in
        omega (arith, none)
