-- Tables by offset: as maps, as sets of marks and of fixed offsets; offsets marked and moved.
use mathlib.Core.Path.{◌≡◌, refl, sym, ◌∙◌}
use mathlib.Core.Bool.{Bool, true, false, ◌||◌}
use mathlib.Core.List.{List, [], ◌∷◌, ◌++◌, map, append-nil}
use Prim.Native.Nat.{ℕ, zero, suc, ◌+◌, ◌≤◌, ◌<◌}
use native.Mathlib.Nat.{add-zero}
use native.Mathlib.Numerals.{add-one}
use native.Mathlib.Omega.{arith}
use borrow.Author.Tests.{ne_eqb, eqb-true, eqb-false, leb-true, leb-false}
use lib.ListN.{length, get_or, set, take, drop, length-set, drop_of_length-le, replicate, length-replicate, get_or-eq_default}
use lib.Dec.{eqb, leb}
use lib.Seq.{length-take-le, get_or-set_same, get_or-set_other, drop-cons, take-suc-set, drop-set-lt, take_all, append_snoc}
use Rattle.definition.specs.Field.{has}
use Rattle.definition.specs.Rewrite.{moved_to}
use Rattle.field.proofs.Tests.{or-any, or-none}
use Rattle.rewrite.specs.View.{is_mark, Clear}
use Rattle.store.specs.Fill.{zeroed_from}
use Rattle.store.proofs.Fills.{replicate-none, zeros-replicate, length-zeros, zero-all}
use Rattle.field.proofs.Lists.{has_here}
use Rattle.rewrite.proofs.Marked.{has-past, has-where, has-marked}
use Rattle.rewrite.proofs.Pass.{moved_here, moved-past}
use Rattle.optimize.specs.View.{Small, Marks, map_from, map_in, fixed_in}

-- ---- a table as a map

moved-from : (at k : ℕ) (ys : List ℕ) → moved_to (map_from at ys) (at + k) ≡ get_or ys k 0
unfolding map_from moved_to
moved-from at k [] = refl
moved-from at zero (y ∷ ys) = rw (add-zero at) (moved_here at y (map_from (suc at) ys))
moved-from at (suc k) (y ∷ ys) =
    let step : at + suc k ≡ suc at + k = omega arith in
    moved-past at y (at + suc k) (map_from (suc at) ys) (λ e. omega arith) ∙ rw step (moved-from (suc at) k ys)

pub moved_in : (table : List ℕ) (x : ℕ) → moved_to (map_in table) x ≡ get_or table x 0
unfolding map_in
moved_in table x = let z : 0 + x ≡ x = omega arith in rw z at (moved-from 0 x table)

-- ---- a table's fixed offsets

pub has-fixed : (table : List ℕ) (x : ℕ) → 1 ≤ length table → has (fixed_in table) x ≡ eqb (get_or table x 0) x
unfolding fixed_in
has-fixed table x full = has-where (λ x y. eqb y x) table x (λ far. ne_eqb 0 x (λ e. omega arith))

fixed-past : (table : List ℕ) (x : ℕ) → 1 ≤ length table → length table ≤ x → has (fixed_in table) x ≡ false
fixed-past table x full far = has-fixed table x full ∙ rw (get_or-eq_default table 0 far) (ne_eqb 0 x (λ e. omega arith))

-- ---- marks

-- what is left to mark from the i-th on, in a table of k elements
pub record Marking (protected : List ℕ) (k : ℕ) (marks : List ℕ) (i : ℕ) : Type 0 where
  pub slots : length marks ≡ k
  pub left : (x : ℕ) → has protected x ≡ (is_mark (get_or marks x 0) || has (drop i protected) x)

module _ (protected : List ℕ) where
  pub mark-begins : (marks : List ℕ) → ((x : ℕ) → get_or marks x 0 ≡ 0) → Marking protected (length marks) marks 0
  unfolding is_mark
  mark-begins marks none = record { slots = refl; left = λ x. rw (none x) }

  pub mark-goes-on : {k : ℕ} (marks : List ℕ) (i y : ℕ) → Small k protected → Marking protected k marks i → i < length protected → y ≡ get_or protected i 0 → Marking protected k (set marks y 1) (i + 1)
  unfolding is_mark
  mark-goes-on marks i y small m h e =
      let small-here = small.at i in
      let inside : y < length marks = omega (arith, m.slots) in
      let cons : drop i protected ≡ y ∷ drop (suc i) protected = rw e (drop-cons protected i 0 h) in
      record {
        slots = length-set marks y 1 ∙ m.slots;
        left = λ x.
            let was = rw cons at (m.left x) in
            let by_test : (t : Bool) → eqb x y ≡ t → has protected x ≡ (is_mark (get_or (set marks y 1) x 0) || has (drop (suc i) protected) x) = λ t.
            elim t as (λ t. eqb x y ≡ t → has protected x ≡ (is_mark (get_or (set marks y 1) x 0) || has (drop (suc i) protected) x)) [
              | true ↦ λ q.
                  let same = eqb-true x y q in
                  rw (same, get_or-set_same marks y 1 0 inside) (rw (same, has_here y (drop (suc i) protected)) at was ∙ or-any (is_mark (get_or marks y 0)))
              | false ↦ λ q.
                  let other = eqb-false x y q in
                  rw (get_or-set_other marks y x 1 0 other) (rw (has-past x y (drop (suc i) protected) other) at was)
            ] in
            rw (add-one i) (by_test (eqb x y) refl);
      }

  pub mark-ends : {k : ℕ} (marks : List ℕ) (i : ℕ) → Marking protected k marks i → length protected ≤ i → Marks protected marks
  unfolding has
  mark-ends marks i m h = record {
    is = λ x. has-marked marks x ∙ sym (rw (drop_of_length-le protected h, or-none) at (m.left x));
  }

-- ---- offsets moved

pub record Moving (f : ℕ → ℕ) (list₀ list : List ℕ) (i : ℕ) : Type 0 where
  pub left : map f list₀ ≡ take i list ++ map f (drop i list)
  pub room : length list ≡ length list₀

module _ (f : ℕ → ℕ) (list₀ : List ℕ) where
  pub move-begins : Moving f list₀ list₀ 0
  move-begins = record { left = refl; room = refl }

  pub move-goes-on : (list : List ℕ) (i v : ℕ) → Moving f list₀ list i → i < length list → v ≡ f (get_or list i 0) → Moving f list₀ (set list i v) (i + 1)
  move-goes-on list i v m h e =
      let left = rw (drop-cons list i 0 h, ← e) at m.left in
      record {
        left = rw (add-one i, take-suc-set list i v h, drop-set-lt (suc i) list i v (omega arith), append_snoc) left;
        room = length-set list i v ∙ m.room;
      }

  pub move-ends : (list : List ℕ) (i : ℕ) → Moving f list₀ list i → length list ≤ i → list ≡ map f list₀
  move-ends list i m h = sym (rw (drop_of_length-le list h, take_all i list h, append-nil) at m.left)

-- ---- a table that is made empty

-- the part of it that is needed: of a table by offset, for code of m bytes, m + 1 elements
part_none : (k n x : ℕ) → ◌≡◌ {A = ℕ} (get_or (take k (replicate n 0)) x 0) 0
part_none zero n x = refl
part_none (suc k) zero x = refl
part_none (suc k) (suc n) zero = refl
part_none (suc k) (suc n) (suc x) = part_none k n x

pub part-long : (n k : ℕ) → k ≤ n → length {A = ℕ} (take k (replicate n 0)) ≡ k
part-long n k h = length-take-le {A = ℕ} k (replicate n 0) (let l = length-replicate {A = ℕ} n 0 in omega arith)

pub part-clear : (n m : ℕ) → m + 1 ≤ n → Clear m (take (m + 1) (replicate n 0))
part-clear n m h = record { slots = rw (part-long n (m + 1) h) (omega arith); none = part_none (m + 1) n }

-- cleared again
pub cleared : {out : List ℕ} {n : ℕ} (l : List ℕ) → out ≡ zeroed_from 0 l → n < length l → Clear n out
cleared l e h =
    let z = zero-all l e in
    record { slots = rw (z, length-zeros (length l)) h; none = λ x. rw (z, ← (zeros-replicate (length l))) (replicate-none (length l) x) }

-- for shorter code
pub shorter : {m n : ℕ} {table : List ℕ} → m ≤ n → Clear n table → Clear m table
shorter h c = record { slots = omega (arith, c.slots); none = c.none }

pub smaller : {j k : ℕ} {list : List ℕ} → j ≤ k → Small j list → Small k list
smaller h s = record { at = λ i. omega (arith, s.at i) }

never : (b : Bool) → b ≡ true → b ≡ false → ⊥
never b p q = let z : ◌≡◌ {A = ℕ} 0 1 = cc in omega arith

pub fixed-small : (table : List ℕ) (x : ℕ) → 1 ≤ length table → has (fixed_in table) x ≡ true → x < length table
fixed-small table x slots h = by_place (leb (length table) x) refl
  where
    by_place : (t : Bool) → leb (length table) x ≡ t → x < length table
    by_place true q = absurd (never _ h (fixed-past table x slots (leb-true _ _ q)))
    by_place false q = leb-false (length table) x q

-- one offset's test in code
pub is-fixed : (table : List ℕ) (x : ℕ) {y : ℕ} → 1 ≤ length table → y ≡ moved_to (map_in table) x → has (fixed_in table) x ≡ eqb y x
is-fixed table x slots e = rw (e, moved_in table x) (has-fixed table x slots)
