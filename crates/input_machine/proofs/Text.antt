-- Lines of bytes: a text is a line and its LF and what follows, or bytes with no LF; and what the definition makes of either.
use mathlib.Core.Path.{◌≡◌, refl, ap}
use mathlib.Core.Logic.{◌⊎◌, inl, inr}
use mathlib.Core.Bool.{Bool, true, false}
use mathlib.Core.Option.{Option, some, none}
use mathlib.Core.List.{List, [], ◌∷◌, ◌++◌}
use Prim.Native.Nat.{ℕ, suc, ◌+◌, ◌<◌}
use native.Mathlib.Omega.{arith}
use borrow.Author.Tests.{eqb-true, lt-ltb}
use lib.Dec.{eqb, leb}
use lib.ListN.{length}
use Rattle.field.proofs.Parts.{split-is}
use Rattle.definition.specs.Limits.{max_rules, bad_rule}
use Rattle.definition.specs.Res.{Res, ok, refuse, ◌>>=◌, ◌>>◌, demand, given}
use Rattle.definition.specs.Field.{lf, onto, split}
use Rattle.definition.specs.Rules.{Rule, read_rule, is_empty, rules_from, read_rules}
use Rattle.definition.specs.Listing.{cut_line, without_lf}
use Rattle.input_machine.specs.Machine.{Phase, Head, last_line, line_after, Put, Stores, stored, State, step, steps}

unfoldable pub has_lf : List ℕ → Bool
has_lf [] = false
has_lf (b ∷ bs) = elim (eqb b lf) [ true ↦ true | false ↦ has_lf bs ]

-- how many LFs there are
unfoldable pub lfs : List ℕ → ℕ
lfs [] = 0
lfs (b ∷ bs) = elim (eqb b lf) [ true ↦ suc (lfs bs) | false ↦ lfs bs ]

pub no-lf : (b : ℕ) (bs : List ℕ) → has_lf (b ∷ bs) ≡ false → (eqb b lf ≡ false) × (has_lf bs ≡ false)
unfolding has_lf
no-lf b bs = go (eqb b lf) refl
  where
    go : (t : Bool) → eqb b lf ≡ t → ◌≡◌ {A = Bool} (elim t [ true ↦ true | false ↦ has_lf bs ]) false → (eqb b lf ≡ false) × (has_lf bs ≡ false)
    go true q e = absurd (let z : ◌≡◌ {A = ℕ} 0 1 = cc in omega arith)
    go false q e = (q, e)

-- a text's first line
pub cut : (bs : List ℕ) → ((l m : List ℕ) × (has_lf l ≡ false) × (bs ≡ l ++ (lf ∷ m))) ⊎ (has_lf bs ≡ false)
unfolding has_lf
cut [] = inr refl
cut (b ∷ bs) = go (eqb b lf) refl (cut bs)
  where
    go : (t : Bool) → eqb b lf ≡ t → ((l m : List ℕ) × (has_lf l ≡ false) × (bs ≡ l ++ (lf ∷ m))) ⊎ (has_lf bs ≡ false)
        → ((l m : List ℕ) × (has_lf l ≡ false) × (b ∷ bs ≡ l ++ (lf ∷ m))) ⊎ (has_lf (b ∷ bs) ≡ false)
    go true q c = inl ([], bs, refl, ap (λ (x : ℕ). x ∷ bs) (eqb-true b lf q))
    go false q (inl p) = inl (b ∷ p.0, p.1, rw (has_lf, q) p.2, ap (λ (l : List ℕ). b ∷ l) p.3)
    go false q (inr n) = inr (rw (has_lf, q) n)

-- ---- a line and its LF

pub cut-ended : (l m : List ℕ) → has_lf l ≡ false → cut_line (l ++ (lf ∷ m)) ≡ (l ++ (lf ∷ []), m)
unfolding cut_line
cut-ended [] m n = refl
cut-ended (b ∷ l) m n = let p = no-lf b l n in rw (p.0, cut_line) (rw (cut-ended l m p.1))

pub split-ended : (l m : List ℕ) → has_lf l ≡ false → split lf (l ++ (lf ∷ m)) ≡ l ∷ split lf m
unfolding split onto
split-ended [] m n = refl
split-ended (b ∷ l) m n = let p = no-lf b l n in rw (p.0, split) (rw (split-ended l m p.1))

pub without-ended : (l : List ℕ) → without_lf (l ++ (lf ∷ [])) ≡ some l
unfolding without_lf
without-ended [] = refl
without-ended (b ∷ []) = refl
without-ended (b ∷ c ∷ l) = rw (without-ended (c ∷ l))

pub lfs-ended : (l m : List ℕ) → has_lf l ≡ false → lfs (l ++ (lf ∷ m)) ≡ suc (lfs m)
unfolding lfs
lfs-ended [] m n = refl
lfs-ended (b ∷ l) m n = let p = no-lf b l n in rw (p.0, lfs) (lfs-ended l m p.1)

-- ---- no LF

pub cut-open : (l : List ℕ) → has_lf l ≡ false → cut_line l ≡ (l, [])
unfolding cut_line
cut-open [] n = refl
cut-open (b ∷ l) n = let p = no-lf b l n in rw (p.0, cut_line) (rw (cut-open l p.1))

pub split-open : (l : List ℕ) → has_lf l ≡ false → split lf l ≡ l ∷ []
unfolding split onto
split-open [] n = refl
split-open (b ∷ l) n = let p = no-lf b l n in rw (p.0, split) (rw (split-open l p.1))

pub without-open : (l : List ℕ) → has_lf l ≡ false → without_lf l ≡ none
unfolding without_lf
without-open [] n = refl
without-open (b ∷ []) n = let p = no-lf b [] n in rw (p.0, without_lf)
without-open (b ∷ c ∷ l) n = let p = no-lf b (c ∷ l) n in rw (without-open (c ∷ l) p.1)

pub lfs-open : (l : List ℕ) → has_lf l ≡ false → lfs l ≡ 0
unfolding lfs
lfs-open [] n = refl
lfs-open (b ∷ l) n = let p = no-lf b l n in rw (p.0, lfs) (lfs-open l p.1)

-- ---- the machine over bytes and those that follow

abbrev pub state : Head → Stores → State
state h s = record { head = h; stores = s }

-- in a line's field i, with the number x so far
abbrev pub in_line : Phase → ℕ → ℕ → ℕ → Head
in_line p n i x = record { phase = p; line = n; left = 0; index = i; kept = 0; number = x }

pub steps-append : (q : Phase) (s : State) (a b : List ℕ) → steps q s (a ++ b) ≡ steps q (steps q s a) b
unfolding steps
steps-append q s [] b = refl
steps-append q s (x ∷ a) b = steps-append q (step q s x) a b

-- elements put into one store
unfoldable pub stored_all : (ℕ → Put) → Stores → List ℕ → Stores
stored_all into s [] = s
stored_all into s (x ∷ xs) = stored_all into (stored s (into x)) xs

pub all_append : (into : ℕ → Put) (s : Stores) (xs ys : List ℕ) → stored_all into s (xs ++ ys) ≡ stored_all into (stored_all into s xs) ys
unfolding stored_all
all_append into s [] ys = refl
all_append into s (x ∷ xs) ys = all_append into (stored s (into x)) xs ys

pub line_after_lem : (n : ℕ) → n < last_line → line_after n ≡ suc n
unfolding line_after
line_after_lem n h = rw (lt-ltb n last_line h, line_after)

-- ---- as many rules as lines

pub lines-lfs : (t : List ℕ) → length (split lf t) ≡ suc (lfs t)
unfolding split lfs onto
lines-lfs [] = refl
lines-lfs (b ∷ t) = go (eqb b lf) (split-is lf t) (lines-lfs t)
  where
    go : (c : Bool) → (x : List ℕ) × (xs : List (List ℕ)) × (split lf t ≡ x ∷ xs) → length (split lf t) ≡ suc (lfs t)
        → length {A = List ℕ} (elim c [ true ↦ [] ∷ split lf t | false ↦ onto b (split lf t) ]) ≡ suc (elim c [ true ↦ suc (lfs t) | false ↦ lfs t ])
    go true p e = ap suc e
    go false p e = rw p.2 (rw p.2 at e)

from-count : (n : ℕ) (l : List ℕ) (ls : List (List ℕ)) (rs : List Rule) → rules_from n (l ∷ ls) ≡ ok rs → length rs ≡ length ls
unfolding rules_from ◌>>=◌ ◌>>◌ demand given
from-count n l [] rs = go (is_empty l)
  where
    go : (b : Bool) → (demand b bad_rule n >> ok []) ≡ ok rs → length rs ≡ 0
    go true e = let q : rs ≡ [] = cc in rw q
    go false e = absurd (let z : ◌≡◌ {A = ℕ} 0 1 = cc in omega arith)
from-count n l (m ∷ ls) rs = go (leb n max_rules) (read_rule l) (rules_from (n + 1) (m ∷ ls)) (from-count (n + 1) m ls)
  where
    go : (b : Bool) (o : Option Rule) (more : Res (List Rule)) → ((qs : List Rule) → more ≡ ok qs → length qs ≡ length ls)
        → (demand b bad_rule n >> (given o bad_rule n >>= (λ r. more >>= (λ qs. ok (r ∷ qs))))) ≡ ok rs → length rs ≡ suc (length ls)
    go false o more h e = absurd (let z : ◌≡◌ {A = ℕ} 0 1 = cc in omega arith)
    go true none more h e = absurd (let z : ◌≡◌ {A = ℕ} 0 1 = cc in omega arith)
    go true (some r) (refuse a b) h e = absurd (let z : ◌≡◌ {A = ℕ} 0 1 = cc in omega arith)
    go true (some r) (ok qs) h e = let q : rs ≡ r ∷ qs = cc in rw q (ap suc (h qs refl))

pub rules-count : (t : List ℕ) (rs : List Rule) → read_rules t ≡ ok rs → length rs ≡ lfs t
unfolding read_rules
rules-count t rs e =
    let p = split-is lf t in
    let q : length rs ≡ length p.1 = from-count 1 p.0 p.1 rs (rw p.2 at e) in
    omega (arith, q, rw p.2 at (lines-lfs t))
