-- Line entries as numbers and back.
use mathlib.Core.Path.{◌≡◌, refl, ap, sym, ◌∙◌}
use mathlib.Core.List.{List, [], ◌∷◌, ◌++◌, append_assoc}
use Prim.Native.Nat.{ℕ, zero, suc, ◌+◌, ◌*◌, ◌/◌, ◌≤◌, ◌<◌}
use native.Mathlib.Omega.{arith}
use lib.ListN.{length, take, drop, length-drop, length-append}
use lib.Seq.{drop-drop, drop_at}
use Rattle.definition.specs.Limits.{entry_size}
use Rattle.definition.specs.Tree.{pos_numbers, pos_of}
use Rattle.definition.specs.Emit.{LineEntry}
use Rattle.definition.specs.Lent.{one_entry, entry_in, entry_numbers, first_entries, entries_of}

-- ---- one entry: these laws know its numbers, those below only how many they are

pub length-one : (x : LineEntry) → length (one_entry x) ≡ entry_size
unfolding one_entry pos_numbers
length-one x = refl

pub one-back : (x : LineEntry) (ns : List ℕ) → entry_in (one_entry x ++ ns) ≡ x
unfolding one_entry entry_in pos_numbers pos_of
one-back x ns = refl

pub in-front : (ns : List ℕ) → entry_size ≤ length ns → one_entry (entry_in ns) ≡ take entry_size ns
unfolding one_entry entry_in pos_numbers pos_of
in-front [] h = absurd (omega arith)
in-front (a ∷ []) h = absurd (omega arith)
in-front (a ∷ b ∷ []) h = absurd (omega arith)
in-front (a ∷ b ∷ c ∷ ns) h = refl

-- ---- many

pub entries-more : (ns : List ℕ) → entry_size ≤ length ns → entries_of ns ≡ entry_in ns ∷ entries_of (drop entry_size ns)
unfolding entries_of first_entries
entries-more ns h =
    let e : length ns / entry_size ≡ suc (length (drop entry_size ns) / entry_size) = simp length-drop (omega arith) in
    ap (λ (k : ℕ). first_entries k ns) e

-- of a list cut into entries
pub entries-chunk : (x r : List ℕ) → length x ≡ entry_size → entries_of (x ++ r) ≡ entry_in x ∷ entries_of r
unfolding entry_in pos_of
entries-chunk [] r h = absurd (omega arith)
entries-chunk (a ∷ []) r h = absurd (omega arith)
entries-chunk (a ∷ b ∷ []) r h = absurd (omega arith)
entries-chunk (a ∷ b ∷ c ∷ []) r h = entries-more (a ∷ b ∷ c ∷ r) (omega arith)
entries-chunk (a ∷ b ∷ c ∷ d ∷ x) r h = absurd (omega arith)

pub entries-few : (ns : List ℕ) → length ns < entry_size → entries_of ns ≡ []
unfolding entries_of first_entries
entries-few ns h =
    let e : length ns / entry_size ≡ 0 = omega arith in
    ap (λ (k : ℕ). first_entries k ns) e

-- from a place on
pub entries_at : (l : List ℕ) (i : ℕ) → i + entry_size ≤ length l → entries_of (drop i l) ≡ entry_in (drop i l) ∷ entries_of (drop (i + entry_size) l)
entries_at l i h = entries-more (drop i l) (rw (length-drop i l) (omega arith)) ∙ ap (λ (r : List ℕ). entry_in (drop i l) ∷ entries_of r) (drop-drop entry_size i l)

pub entries_none : (l : List ℕ) (i : ℕ) → length l < i + entry_size → entries_of (drop i l) ≡ []
entries_none l i h = entries-few (drop i l) (rw (length-drop i l) (omega arith))

first_count : (n : ℕ) (ns : List ℕ) → length (first_entries n ns) ≡ n
unfolding first_entries
first_count zero ns = refl
first_count (suc n) ns = ap suc (first_count n (drop entry_size ns))

pub count_entries : (ns : List ℕ) → length (entries_of ns) ≡ length ns / entry_size
unfolding entries_of
count_entries ns = first_count (length ns / entry_size) ns

pub length-numbers : (xs : List LineEntry) → length (entry_numbers xs) ≡ length xs * entry_size
unfolding entry_numbers
length-numbers [] = refl
length-numbers (x ∷ xs) = length-append (one_entry x) (entry_numbers xs) ∙ omega (arith, length-one x, length-numbers xs)

pub numbers-append : (xs ys : List LineEntry) → entry_numbers (xs ++ ys) ≡ entry_numbers xs ++ entry_numbers ys
unfolding entry_numbers
numbers-append [] ys = refl
numbers-append (x ∷ xs) ys = ap (λ (l : List ℕ). one_entry x ++ l) (numbers-append xs ys) ∙ sym (append_assoc (one_entry x) (entry_numbers xs) (entry_numbers ys))

pub entries-back : (xs : List LineEntry) → entries_of (entry_numbers xs) ≡ xs
unfolding entry_numbers
entries-back [] = entries-few [] (omega arith)
entries-back (x ∷ xs) =
    let l : entry_size ≤ length (one_entry x ++ entry_numbers xs) = rw (length-append (one_entry x) (entry_numbers xs), length-one x) (omega arith) in
    entries-more (one_entry x ++ entry_numbers xs) l
    ∙ rw (one-back x (entry_numbers xs), drop_at (one_entry x) (entry_numbers xs) entry_size (length-one x), entries-back xs)
