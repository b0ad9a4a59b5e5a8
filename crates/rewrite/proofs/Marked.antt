-- The offsets that a table has by a test, such as those that a table of marks marks.
use mathlib.Core.Path.{◌≡◌, refl, sym, ◌∙◌}
use mathlib.Core.Bool.{Bool, true, false}
use mathlib.Core.List.{List, [], ◌∷◌}
use Prim.Native.Nat.{ℕ, zero, suc, ◌+◌, ◌≤◌, ◌<◌}
use native.Mathlib.Nat.{add-zero}
use native.Mathlib.Omega.{arith}
use borrow.Author.Tests.{ne_eqb}
use lib.ListN.{length, get_or}
use Rattle.definition.specs.Field.{has}
use Rattle.field.proofs.Lists.{has_here}
use Rattle.rewrite.specs.View.{offsets_where, is_mark, marked}

pub has-past : (x y : ℕ) (ys : List ℕ) → (x ≡ y → ⊥) → has (y ∷ ys) x ≡ has ys x
unfolding has
has-past x y ys h = rw (ne_eqb x y h, has)

-- ---- the offsets whose number passes a test

module _ (test : ℕ → ℕ → Bool) where
  where-cons : (at n : ℕ) (ns : List ℕ) (t : Bool) → test at n ≡ t → offsets_where test at (n ∷ ns) ≡ elim t [ true ↦ at ∷ offsets_where test (suc at) ns | false ↦ offsets_where test (suc at) ns ]
  unfolding offsets_where
  where-cons at n ns true e = rw (e, offsets_where)
  where-cons at n ns false e = rw (e, offsets_where)

  -- a table's first number passes or not; the rest is as it is
  skip : (at n x : ℕ) (ns : List ℕ) (b : Bool) → (x ≡ at → ⊥) → has (offsets_where test (suc at) ns) x ≡ b → has (offsets_where test at (n ∷ ns)) x ≡ b
  skip at n x ns b h e = by_test (test at n) refl
    where
      by_test : (t : Bool) → test at n ≡ t → has (offsets_where test at (n ∷ ns)) x ≡ b
      by_test true q = rw (where-cons at n ns true q) (has-past x at (offsets_where test (suc at) ns) h ∙ e)
      by_test false q = rw (where-cons at n ns false q) e

  has-below : (at x : ℕ) (ns : List ℕ) → x < at → has (offsets_where test at ns) x ≡ false
  unfolding offsets_where has
  has-below at x [] h = refl
  has-below at x (n ∷ ns) h = skip at n x ns false (λ q. omega arith) (has-below (suc at) x ns (omega arith))

  has_first : (at n : ℕ) (ns : List ℕ) → has (offsets_where test at (n ∷ ns)) at ≡ test at n
  has_first at n ns = by_test (test at n) refl
    where
      by_test : (t : Bool) → test at n ≡ t → has (offsets_where test at (n ∷ ns)) at ≡ test at n
      by_test true e = rw (e, where-cons at n ns true e) (has_here at (offsets_where test (suc at) ns))
      by_test false e = rw (e, where-cons at n ns false e) (has-below (suc at) at ns (omega arith))

  has-from : (at k : ℕ) (ns : List ℕ) → (length ns ≤ k → test (at + k) 0 ≡ false) → has (offsets_where test at ns) (at + k) ≡ test (at + k) (get_or ns k 0)
  unfolding offsets_where has
  has-from at k [] h = sym (h (omega arith))
  has-from at zero (n ∷ ns) h = rw (add-zero at) (has_first at n ns)
  has-from at (suc k) (n ∷ ns) h =
      let step : at + suc k ≡ suc at + k = omega arith in
      skip at n (at + suc k) ns _ (λ q. omega arith) (rw step (has-from (suc at) k ns (λ l. rw step at (h (omega arith)))))

  -- where no offset past the table passes with 0
  pub has-where : (ns : List ℕ) (x : ℕ) → (length ns ≤ x → test x 0 ≡ false) → has (offsets_where test 0 ns) x ≡ test x (get_or ns x 0)
  has-where ns x h = let z : 0 + x ≡ x = omega arith in rw z at (has-from 0 x ns (λ l. rw z (h l)))

pub has-marked : (ms : List ℕ) (x : ℕ) → has (marked ms) x ≡ is_mark (get_or ms x 0)
unfolding marked is_mark
has-marked ms x = has-where (λ x m. is_mark m) ms x (λ _. refl)
