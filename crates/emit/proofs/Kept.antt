-- What no state shows: it stays through steps in turn.
use Rattle.std.proofs.Common.{None}
use mathlib.Core.Path.{◌≡◌, refl, ap, sym, ◌∙◌}
use mathlib.Core.Bool.{Bool, true, false}
use mathlib.Core.List.{List, [], ◌∷◌, ◌++◌}
use Prim.Native.Nat.{ℕ, zero, suc, ◌+◌, ◌-◌, ◌*◌, ◌≤◌, ◌<◌}
use native.Mathlib.Omega.{arith}
use lib.ListN.{length, take, drop, set}
use lib.Seq.{sets, sets-eq, drop-drop, drop_at, length-take-le, take-set-le}
use lib.ListN.{length-append, length-drop, length-set}
use Rattle.definition.specs.Limits.{max_labels, max_branches, max_lines, max_constants, entry_size}
use Rattle.emit.specs.declared.Emitter.{Emitter}
use Rattle.emit.specs.Book.{label_size, patch_size, label_base, patch_base, line_base}
use Rattle.emit.specs.Pool.{head_base, link_base, count_at, stale_at, pool_size, bucket_of, covers, chained, entered, entered_all}
use Rattle.emit.specs.View.{World, world}
use Rattle.emit.specs.Steps.{Grown, Tails, Kept}
use Rattle.emit.proofs.Tables.{sets-before, sets_behind}

-- ---- the pool, as constants are written into it

pub pool-self : (n : ℕ) (pool : List ℕ) → pool ≡ entered_all (drop n (take n pool)) n pool
unfolding entered_all
pool-self n pool = rw (none n pool)
  where
    none : (n : ℕ) (l : List ℕ) → drop n (take n l) ≡ []
    none zero l = refl
    none (suc n) [] = refl
    none (suc n) (x ∷ l) = none n l

length-entered : (n k : ℕ) (pool : List ℕ) → length (entered n k pool) ≡ length pool
unfolding entered chained
length-entered n k pool = go (covers pool n)
  where
    go : (b : Bool) → length {A = ℕ} (elim b [ true ↦ chained n k (set pool n k) | false ↦ set (set pool n k) stale_at 1 ]) ≡ length pool
    go true = rw (length-set, length-set, length-set, length-set)
    go false = rw (length-set, length-set)

entered_below : (m n k : ℕ) (pool : List ℕ) → m ≤ n → n < max_constants → take m (entered n k pool) ≡ take m pool
unfolding entered chained
entered_below m n k pool h few = go (covers pool n)
  where
    go : (b : Bool) → take {A = ℕ} m (elim b [ true ↦ chained n k (set pool n k) | false ↦ set (set pool n k) stale_at 1 ]) ≡ take m pool
    go true = take-set-le m _ count_at _ (omega arith) ∙ take-set-le m _ (head_base + bucket_of k) _ (omega arith) ∙ take-set-le m _ (link_base + n) _ (omega arith) ∙ take-set-le m pool n k h
    go false = take-set-le m _ stale_at 1 (omega arith) ∙ take-set-le m pool n k h

length-all : (ks : List ℕ) (n : ℕ) (pool : List ℕ) → length (entered_all ks n pool) ≡ length pool
unfolding entered_all
length-all [] n pool = refl
length-all (k ∷ ks) n pool = length-all ks (suc n) (entered n k pool) ∙ length-entered n k pool

all-below : (m : ℕ) (ks : List ℕ) (n : ℕ) (pool : List ℕ) → m ≤ n → n + length ks ≤ max_constants → take m (entered_all ks n pool) ≡ take m pool
unfolding entered_all
all-below m [] n pool h few = refl
all-below m (k ∷ ks) n pool h few = all-below m ks (suc n) (entered n k pool) (omega arith) (omega arith) ∙ entered_below m n k pool h (omega arith)

all_append : (a b : List ℕ) (n : ℕ) (pool : List ℕ) → entered_all (a ++ b) n pool ≡ entered_all b (n + length a) (entered_all a n pool)
unfolding entered_all
all_append [] b n pool = let z : n + 0 ≡ n = omega arith in rw z
all_append (k ∷ a) b n pool = let z : n + suc (length a) ≡ suc n + length a = omega arith in rw z (all_append a b (suc n) (entered n k pool))

-- a part of a list in two
in_two : (n m k : ℕ) (l : List ℕ) → n ≤ m → m ≤ k → drop n (take k l) ≡ drop n (take m l) ++ drop m (take k l)
in_two zero zero k l a b = refl
in_two zero (suc m) zero l a b = absurd (omega arith)
in_two zero (suc m) (suc k) [] a b = refl
in_two zero (suc m) (suc k) (x ∷ l) a b = ap (λ (t : List ℕ). x ∷ t) (in_two zero m k l (omega arith) (omega arith))
in_two (suc n) zero k l a b = absurd (omega arith)
in_two (suc n) (suc m) zero l a b = absurd (omega arith)
in_two (suc n) (suc m) (suc k) [] a b = refl
in_two (suc n) (suc m) (suc k) (x ∷ l) a b = in_two n m k l (omega arith) (omega arith)

-- from pool p with n constants to q with m
abbrev Enters : ℕ → ℕ → List ℕ → List ℕ → Type 0
Enters n m p q = m ≤ max_constants → length q ≡ pool_size → q ≡ entered_all (drop n (take m q)) n p

pool-then : (n m k : ℕ) (p q r : List ℕ) → n ≤ m → m ≤ k → Enters n m p q → Enters m k q r → Enters n k p r
pool-then n m k p q r h₁ h₂ a b few long =
    let back = b few long in
    let new = drop m (take k r) in
    let long' : length q ≡ pool_size = sym (length-all new m q) ∙ ap length (sym back) ∙ long in
    let front = a (omega arith) long' in
    let size : length new ≡ k - m = rw (length-drop m (take k r), length-take-le k r (omega arith)) in
    let size' : length (drop n (take m q)) ≡ m - n = rw (length-drop n (take m q), length-take-le m q (omega arith)) in
    let same : take m r ≡ take m q = ap (take m) back ∙ all-below m new m q (omega arith) (omega (arith, size)) in
    let parts : drop n (take k r) ≡ drop n (take m q) ++ new = in_two n m k r h₁ h₂ ∙ ap (λ (t : List ℕ). drop n t ++ new) same in
    let at : n + length (drop n (take m q)) ≡ m = rw size' (omega arith) in
    back ∙ ap (entered_all new m) front ∙ ap (λ (i : ℕ). entered_all new i (entered_all (drop n (take m q)) n p)) (sym at) ∙ sym (all_append (drop n (take m q)) new n p) ∙ ap (λ (t : List ℕ). entered_all t n p) (sym parts)

-- ---- nothing changes

pub grown-self : (e : Emitter) → Grown e e
grown-self e = record { size = omega arith; labels = omega arith; patches = omega arith; lines = omega arith; constants = omega arith }

pub tails-self : (r : Emitter) (book : List ℕ) → Tails r book book
tails-self r book = record { labels = λ i a b. refl; patches = λ i a b. refl; lines = λ i a b. refl }

pub kept_self : (w : World) → Kept w w
kept_self w = record { grown = grown-self w.e; code = refl; book = tails-self w.e w.book; pool = λ few long. pool-self w.e.constants w.pool; sticky = λ off. refl }

-- the struct alone changes, but for the count of constants, in a state that is not refused
pub kept-bare : {e r : Emitter} → Grown e r → r.constants ≡ e.constants → e.refused ≡ None → (code book pool : List ℕ) → Kept (world e code book pool) (world r code book pool)
kept-bare {e} {r} g same on code book pool = record { grown = g; code = refl; book = tails-self r book; pool = λ few long. rw same (pool-self e.constants pool); sticky = λ off. absurd (off on) }

-- ---- in turn

drop_more : (x y : List ℕ) (n m : ℕ) → n ≤ m → drop n x ≡ drop n y → drop m x ≡ drop m y
drop_more x y n m h e =
    let is : m ≡ n + (m - n) = omega arith in
    ap (λ (k : ℕ). drop k x) is ∙ sym (drop-drop (m - n) n x) ∙ ap (drop (m - n)) e ∙ drop-drop (m - n) n y ∙ ap (λ (k : ℕ). drop k y) (sym is)

pub kept_then : {w v u : World} → Kept w v → Kept v u → Kept w u
kept_then {w} {v} {u} a b =
    let g = a.grown in
    let h = b.grown in
    record {
      grown = record { size = omega arith; labels = omega arith; patches = omega arith; lines = omega arith; constants = omega arith };
      code = b.code ∙ drop_more v.code w.code v.e.size u.e.size h.size a.code;
      book = record {
        labels = λ i x y. b.book.labels i x y ∙ a.book.labels i (omega (arith, h.labels)) y;
        patches = λ i x y. b.book.patches i x y ∙ a.book.patches i (omega (arith, h.patches)) y;
        lines = λ i x y. b.book.lines i x y ∙ a.book.lines i (omega (arith, h.lines)) y;
      };
      pool = pool-then w.e.constants v.e.constants u.e.constants w.pool v.pool u.pool g.constants h.constants a.pool b.pool;
      sticky = λ off.
          let same = a.sticky off in
          b.sticky (λ z. off (sym (ap (λ (x : World). x.e.refused) same) ∙ z)) ∙ same;
    }

-- ---- what is written lies before the counts

pub sets-tail : (ns l : List ℕ) (i : ℕ) → i + length ns ≤ length l → drop (i + length ns) (sets l i ns) ≡ drop (i + length ns) l
sets-tail ns l i h =
    let front : length (take i l) ≡ i = length-take-le i l (omega arith) in
    ap (drop (i + length ns)) (sets-eq ns l i h) ∙ drop_at (take i l ++ ns) (drop (i + length ns) l) (i + length ns) (length-append (take i l) ns ∙ ap (λ (k : ℕ). k + length ns) front)

module _ (r : Emitter) (ns book : List ℕ) (n : ℕ) where
  pub label-tails : length ns ≡ label_size → n < max_labels → n < r.labels → Tails r book (sets book (label_base + label_size * n) ns)
  label-tails long few in_use = record {
    labels = λ i x y. sets-before label_size ns book (label_base + label_size * i) (label_base + label_size * n) (rw long (omega arith));
    patches = λ i x y. sets-before patch_size ns book (patch_base + patch_size * i) (label_base + label_size * n) (rw long (omega arith));
    lines = λ i x y. sets-before entry_size ns book (line_base + entry_size * i) (label_base + label_size * n) (rw long (omega arith));
  }

  pub patch-tails : length ns ≡ patch_size → n < max_branches → n < r.patches → Tails r book (sets book (patch_base + patch_size * n) ns)
  patch-tails long few in_use = record {
    labels = λ i x y. sets_behind label_size ns book (label_base + label_size * i) (patch_base + patch_size * n) (omega arith);
    patches = λ i x y. sets-before patch_size ns book (patch_base + patch_size * i) (patch_base + patch_size * n) (rw long (omega arith));
    lines = λ i x y. sets-before entry_size ns book (line_base + entry_size * i) (patch_base + patch_size * n) (rw long (omega arith));
  }

  pub line-tails : length ns ≡ entry_size → n < max_lines → n < r.lines → Tails r book (sets book (line_base + entry_size * n) ns)
  line-tails long few in_use = record {
    labels = λ i x y. sets_behind label_size ns book (label_base + label_size * i) (line_base + entry_size * n) (omega arith);
    patches = λ i x y. sets_behind patch_size ns book (patch_base + patch_size * i) (line_base + entry_size * n) (omega arith);
    lines = λ i x y. sets-before entry_size ns book (line_base + entry_size * i) (line_base + entry_size * n) (rw long (omega arith));
  }
