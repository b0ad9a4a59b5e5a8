-- The starts and the end of some code, listed in a table by offset.
use mathlib.Core.Path.{◌≡◌, refl, sym, ◌∙◌}
use mathlib.Core.Bool.{Bool, true, false}
use mathlib.Core.List.{List, [], ◌∷◌, map}
use Prim.Native.Nat.{ℕ, ◌+◌, ◌≤◌, ◌<◌}
use native.Mathlib.Nat.{add-zero}
use native.Mathlib.Omega.{arith}
use borrow.Author.Tests.{eq-eqb, ne_eqb, eqb-true, eqb-false}
use lib.Dec.{eqb}
use lib.ListN.{length, drop, set, get_or, length-set}
use lib.Seq.{get_or-set_other}
use Rattle.definition.specs.Limits.{max_code}
use Rattle.definition.specs.Field.{has}
use Rattle.definition.specs.Opcode.{Sheet}
use Rattle.definition.specs.Rewrite.{Bytes, OffsetMap, decode, end_from, boundaries_from, moved_to}
use Rattle.definition.specs.Optimize.{identity}
use Rattle.definition.specs.Alone.{boundaries}
use Rattle.rewrite.specs.View.{first_of, Clear}
use Rattle.rewrite.proofs.Decoding.{first-is, first-none, first-within}
use Rattle.field.proofs.Lists.{has_here}
use Rattle.rewrite.proofs.Marked.{has-past}
use Rattle.rewrite.proofs.Pass.{moved_here, moved-past, moved-set}
use Rattle.optimize.specs.View.{fixed_in, Bounds}
use Rattle.optimize.proofs.Tables.{has-fixed}
use Rattle.optimize.proofs.Checks.{bounds-more, bounds-bad}

-- each of these at its own place
abbrev at-itself : List ℕ → OffsetMap
at-itself xs = map (λ (x : ℕ). (x, x)) xs

below : (at : ℕ) (is : List Bytes) (x : ℕ) → x < at → moved_to (at-itself (boundaries_from at is)) x ≡ 0
unfolding boundaries_from moved_to
below at [] x h = moved-past at at x [] (λ e. omega arith)
below at (i ∷ is) x h = moved-past at at x (at-itself (boundaries_from (at + length i) is)) (λ e. omega arith) ∙ below (at + length i) is x (omega arith)

-- in a table of k elements
pub record Listing (s : Sheet) (code : List ℕ) (k : ℕ) (table : List ℕ) (at : ℕ) : Type 0 where
  pub end : end_from 0 (decode s code) ≡ end_from at (decode s (drop at code))
  pub moved : (x : ℕ) → moved_to (identity s code) x ≡ get_or table x 0 + moved_to (at-itself (boundaries_from at (decode s (drop at code)))) x
  pub fresh : (x : ℕ) → at ≤ x → get_or table x 0 ≡ 0
  pub long : length table ≡ k
  pub slots : length code < k
  pub within : at ≤ length code

module _ (s : Sheet) (code : List ℕ) (few : length code ≤ max_code) where
  pub list-begins : (table : List ℕ) → Clear (length code) table → Listing s code (length table) table 0
  unfolding identity
  list-begins table c = record {
    end = refl;
    moved = λ x. rw (c.none x) (omega arith);
    fresh = λ x _. c.none x;
    long = refl;
    slots = c.slots;
    within = omega arith;
  }

  module _ {k : ℕ} (table : List ℕ) (at : ℕ) (g : Listing s code k table at) (a : Bytes) (here : a ≡ first_of (decode s (drop at code))) where
    pub list-goes-on : 1 ≤ length a → Listing s code k (set table at at) (at + length a)
    unfolding end_from boundaries_from
    list-goes-on full =
        let d = first-is s code at a here full in
        let w = first-within s code at a here full in
        record {
          end = g.end ∙ rw d;
          moved = λ x.
              let m = rw d at (g.moved x) in
              m ∙ moved-set table at at x _ (omega (arith, g.long, g.slots, g.within)) (g.fresh at (omega arith)) (below (at + length a) (decode s (drop (at + length a) code)) at (omega arith));
          fresh = λ x k. get_or-set_other table at x at 0 (λ e. omega arith) ∙ g.fresh x (omega arith);
          long = length-set table at at ∙ g.long;
          slots = g.slots;
          within = w;
        }

    pub list-ends : length a ≡ 0 → Bounds s code (set table at at) at
    unfolding end_from boundaries_from moved_to
    list-ends z =
        let d = first-none s code at a here z in
        record {
          end = sym (g.end ∙ rw d);
          moved = λ x.
              let m = rw d at (g.moved x) in
              sym (m ∙ moved-set table at at x [] (omega (arith, g.long, g.slots, g.within)) (g.fresh at (omega arith)) refl ∙ add-zero (get_or (set table at at) x 0));
          slots = rw (length-set table at at, g.long) g.slots;
          within = g.within;
        }

-- ---- what the table says of an offset

has-itself : (xs : List ℕ) (x : ℕ) (t : Bool) → has xs x ≡ t → moved_to (at-itself xs) x ≡ elim t [ true ↦ x | false ↦ 0 ]
unfolding has moved_to
has-itself [] x true e = absurd (let z : ◌≡◌ {A = ℕ} 0 1 = cc in omega arith)
has-itself [] x false e = refl
has-itself (y ∷ ys) x t e = by_test (has-itself ys x t) (eqb x y) refl
  where
    by_test : (has ys x ≡ t → moved_to (at-itself ys) x ≡ elim t [ true ↦ x | false ↦ 0 ]) → (u : Bool) → eqb x y ≡ u → moved_to (at-itself (y ∷ ys)) x ≡ elim t [ true ↦ x | false ↦ 0 ]
    by_test more true q =
        let same = eqb-true x y q in
        let on : true ≡ t = sym (has_here y ys) ∙ rw same at e in
        rw (← on, same) (moved_here y y (at-itself ys))
    by_test more false q =
        let other = eqb-false x y q in
        moved-past y y x (at-itself ys) (λ p. other (sym p)) ∙ more (sym (has-past x y ys other) ∙ e)

zero-listed : (is : List Bytes) → has (boundaries_from 0 is) 0 ≡ true
unfolding boundaries_from
zero-listed [] = has_here 0 []
zero-listed (i ∷ is) = has_here 0 (boundaries_from (0 + length i) is)

pub table-has : {s : Sheet} {code table : List ℕ} {r : ℕ} → Bounds s code table r → (x : ℕ) → has (fixed_in table) x ≡ has (boundaries_from 0 (decode s code)) x
unfolding identity
table-has {s} {code} {table} b x = by_test (has (boundaries_from 0 (decode s code)) x) refl
  where
    by_test : (t : Bool) → has (boundaries_from 0 (decode s code)) x ≡ t → has (fixed_in table) x ≡ has (boundaries_from 0 (decode s code)) x
    by_test true e = has-fixed table x (omega (arith, b.slots)) ∙ rw (b.moved x, has-itself (boundaries_from 0 (decode s code)) x true e, e) (eq-eqb x x refl)
    by_test false e =
        let z : x ≡ 0 → ⊥ = λ q. (let n : ◌≡◌ {A = ℕ} 0 1 = cc (zero-listed (decode s code), rw q at e) in omega arith) in
        has-fixed table x (omega (arith, b.slots)) ∙ rw (b.moved x, has-itself (boundaries_from 0 (decode s code)) x false e, e) (ne_eqb 0 x (λ q. z (sym q)))

pub same-bounds : (ps qs xs : List ℕ) → ((x : ℕ) → has ps x ≡ has qs x) → boundaries ps xs ≡ boundaries qs xs
unfolding boundaries
same-bounds ps qs [] h = refl
same-bounds ps qs (x ∷ xs) h = by_test (same-bounds ps qs xs h) (has qs x) refl
  where
    by_test : boundaries ps xs ≡ boundaries qs xs → (t : Bool) → has qs x ≡ t → boundaries ps (x ∷ xs) ≡ boundaries qs (x ∷ xs)
    by_test more true e = bounds-more ps x xs (h x ∙ e) ∙ more ∙ sym (bounds-more qs x xs e)
    by_test more false e = bounds-bad ps x xs (h x ∙ e) ∙ sym (bounds-bad qs x xs e)
