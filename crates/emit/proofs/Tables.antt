-- The book's tables: a row read, written and left alone. The laws are for a table of any base and size of row.
use mathlib.Core.Path.{◌≡◌, refl, ap, sym, ◌∙◌}
use mathlib.Core.Bool.{Bool, true, false}
use mathlib.Core.Option.{some, none}
use mathlib.Core.List.{List, [], ◌∷◌, ◌++◌, append-nil, append_assoc}
use Prim.Native.Nat.{ℕ, zero, suc, ◌+◌, ◌-◌, ◌*◌, ◌≤◌, ◌<◌}
use native.Mathlib.Nat.{mul-suc, mul-le-mul_left}
use native.Mathlib.Numerals.{add-one, sub-one}
use native.Mathlib.Omega.{arith}
use borrow.Author.Tests.{eq-eqb, ne_eqb, eqb-true, eqb-false}
use lib.Dec.{eqb}
use lib.ListN.{length, take, drop, set, get_or, length-set, length-append, length-drop, get_or-append, get_or-eq_default}
use lib.Seq.{sets, sets-eq, length-take-le, drop-set-add, drop-set-lt, take-set-le, drop_at, take_at, get_or-take, get_or-drop, set-append_seam, set-append_left, get_or-append_seam}
use Rattle.definition.specs.Limits.{max_lines, entry_size}
use Rattle.definition.specs.Emit.{LineEntry, PendingPatch, last_entry}
use Rattle.definition.specs.Lent.{one_entry, entry_in}
use Rattle.definition.specs.Compile.{bound_or0, bound_label}
use Rattle.store.specs.Store.{Store, at, push_all}
use Rattle.store.proofs.Stores.{push-room}
use Rattle.line_map.proofs.Entries.{length-one, one-back, in-front}
use Rattle.emit.specs.Book.{label_size, patch_size, label_base, patch_base, line_base, book_size, label_in, patch_numbers, patch_in, row, rows, labels_in}

-- ---- numbers put into a list, and its parts

module _ (size : ℕ) where
  set-behind : (l : List ℕ) (i j x : ℕ) → i + size ≤ j → take size (drop i (set l j x)) ≡ take size (drop i l)
  set-behind l i j x h =
      let e : j ≡ i + (j - i) = omega arith in
      ap (λ (k : ℕ). take size (drop i (set l k x))) e ∙ rw (drop-set-add i l (j - i) x) (take-set-le size (drop i l) (j - i) x (omega arith))

  pub sets_behind : (ns l : List ℕ) (i j : ℕ) → i + size ≤ j → take size (drop i (sets l j ns)) ≡ take size (drop i l)
  sets_behind [] l i j h = refl
  sets_behind (x ∷ ns) l i j h = sets_behind ns (set l j x) i (suc j) (omega arith) ∙ set-behind l i j x h

  pub sets-before : (ns l : List ℕ) (i j : ℕ) → j + length ns ≤ i → take size (drop i (sets l j ns)) ≡ take size (drop i l)
  sets-before [] l i j h = refl
  sets-before (x ∷ ns) l i j h = sets-before ns (set l j x) i (suc j) (omega arith) ∙ ap (take size) (drop-set-lt i l j x (omega arith))

sets-there : (ns l : List ℕ) (i : ℕ) → i + length ns ≤ length l → take (length ns) (drop i (sets l i ns)) ≡ ns
sets-there ns l i h =
    let rest = drop (i + length ns) l in
    ap (λ (x : List ℕ). take (length ns) (drop i x)) (sets-eq ns l i h ∙ append_assoc (take i l) ns rest)
    ∙ ap (take (length ns)) (drop_at (take i l) (ns ++ rest) i (length-take-le i l (omega arith)))
    ∙ take_at ns rest (length ns) refl

pub sets-front : (ns l : List ℕ) (i : ℕ) → i + length ns ≤ length l → take (i + length ns) (sets l i ns) ≡ take i l ++ ns
sets-front ns l i h =
    let front : length (take i l) ≡ i = length-take-le i l (omega arith) in
    ap (take (i + length ns)) (sets-eq ns l i h) ∙ take_at (take i l ++ ns) (drop (i + length ns) l) (i + length ns) (length-append (take i l) ns ∙ ap (λ (k : ℕ). k + length ns) front)

-- what pushes leave where there is room
pub pushed-sets : (xs cells : List ℕ) (used : ℕ) → used + length xs ≤ length cells → (push_all (at cells used) xs).cells ≡ sets cells used xs
unfolding push_all
pushed-sets [] cells used h = refl
pushed-sets (x ∷ xs) cells used h = ap (λ (s : Store). (push_all s xs).cells) (push-room (at cells used) x (omega arith)) ∙ pushed-sets xs (set cells used x) (suc used) (rw length-set (omega arith))

-- stores of code, one behind the other
pub two-stores : (l : List ℕ) (i a b : ℕ) → set (set l i a) (i + 1) b ≡ sets l i (a ∷ b ∷ [])
two-stores l i a b = rw add-one

pub three-stores : (l : List ℕ) (i a b c : ℕ) → set (set (set l i a) (i + 1) b) (i + 2) c ≡ sets l i (a ∷ b ∷ c ∷ [])
three-stores l i a b c = let two : i + 2 ≡ suc (suc i) = omega arith in rw (two, add-one)

-- ---- rows

module _ (base size : ℕ) where
  row-end : (i n : ℕ) → i < n → base + size * i + size ≤ base + size * n
  row-end i n h =
      let q : size * suc i ≤ size * n = mul-le-mul_left size h in
      let e : size * suc i ≡ size * i + size = mul-suc size i in
      omega arith

  row-there : (ns book : List ℕ) (n : ℕ) → length ns ≡ size → base + size * n + size ≤ length book → row base size (sets book (base + size * n) ns) n ≡ ns
  row-there ns book n e h = ap (λ (k : ℕ). take k (drop (base + size * n) (sets book (base + size * n) ns))) (sym e) ∙ sets-there ns book (base + size * n) (rw e h)

  -- its k-th number
  pub row_number : (book : List ℕ) (i k : ℕ) → k < size → get_or (row base size book i) k 0 ≡ get_or book (base + size * i + k) 0
  row_number book i k h = get_or-take size (drop (base + size * i) book) k 0 h ∙ get_or-drop (base + size * i) book k 0

module _ {A : Type 0} (f : List ℕ → A) (base size : ℕ) where
  pub length-rows : (book : List ℕ) (n : ℕ) → length (rows f base size book n) ≡ n
  unfolding rows
  length-rows book zero = refl
  length-rows book (suc n) = rw (length-append, length-rows book n) (omega arith)

  rows_same : (book book' : List ℕ) (n : ℕ) → ((i : ℕ) → i < n → row base size book' i ≡ row base size book i) → rows f base size book' n ≡ rows f base size book n
  unfolding rows
  rows_same book book' zero h = refl
  rows_same book book' (suc n) h = rw (rows_same book book' n (λ i k. h i (omega arith)), h n (omega arith))

  -- numbers put behind them, and before them
  pub rows_behind : (ns book : List ℕ) (n j : ℕ) → base + size * n ≤ j → rows f base size (sets book j ns) n ≡ rows f base size book n
  rows_behind ns book n j h = rows_same book (sets book j ns) n (λ i k. let q = row-end base size i n k in sets_behind size ns book (base + size * i) j (omega arith))

  pub rows_before : (ns book : List ℕ) (n j : ℕ) → j + length ns ≤ base → rows f base size (sets book j ns) n ≡ rows f base size book n
  rows_before ns book n j h = rows_same book (sets book j ns) n (λ i k. sets-before size ns book (base + size * i) j (omega arith))

  -- a row more
  pub rows_more : (ns book : List ℕ) (n : ℕ) → length ns ≡ size → base + size * n + size ≤ length book → rows f base size (sets book (base + size * n) ns) (n + 1) ≡ rows f base size book n ++ (f ns ∷ [])
  unfolding rows
  rows_more ns book n e h = rw (add-one, rows_behind ns book n (base + size * n) (omega arith), row-there base size ns book n e h)

  -- the row l changed
  set-row : (ns book : List ℕ) (n l : ℕ) → l < suc n → length ns ≡ size → base + size * suc n ≤ length book
      → (l < n → rows f base size (sets book (base + size * l) ns) n ≡ set (rows f base size book n) l (f ns)) → (b : Bool) → eqb l n ≡ b
      → rows f base size (sets book (base + size * l) ns) (suc n) ≡ set (rows f base size book (suc n)) l (f ns)
  unfolding rows
  set-row ns book n l h e fits rest true q =
      let same : n ≡ l = sym (eqb-true l n q) in
      let m : size * suc l ≡ size * l + size = mul-suc size l in
      let fits' : base + size * suc l ≤ length book = rw same at fits in
      rw (same, rows_behind ns book l (base + size * l) (omega arith), row-there base size ns book l e (omega arith))
      (sym (rw (length-rows book l) at (set-append_seam (rows f base size book l) (f (row base size book l)) [] (f ns))))
  set-row ns book n l h e fits rest false q =
      let off = eqb-false l n q in
      let few : l < n = omega arith in
      let end = row-end base size l n few in
      let kept : row base size (sets book (base + size * l) ns) n ≡ row base size book n = sets-before size ns book (base + size * n) (base + size * l) (rw e end) in
      rw (rest few, kept) (sym (set-append_left (rows f base size book n) (f (row base size book n) ∷ []) l (f ns) (rw (length-rows book n) few)))

  pub rows-set : (ns book : List ℕ) (n l : ℕ) → l < n → length ns ≡ size → base + size * n ≤ length book → rows f base size (sets book (base + size * l) ns) n ≡ set (rows f base size book n) l (f ns)
  rows-set ns book zero l h e fits = absurd (omega arith)
  rows-set ns book (suc n) l h e fits =
      let m : size * suc n ≡ size * n + size = mul-suc size n in
      set-row ns book n l h e fits (λ k. rows-set ns book n l k e (omega arith)) (eqb l n) refl

  -- read back: the i-th element of the list is the i-th row's
  at_row : (book : List ℕ) (n i : ℕ) (d : A) → i < suc n → (i < n → get_or (rows f base size book n) i d ≡ f (row base size book i)) → (b : Bool) → eqb i n ≡ b
      → get_or (rows f base size book (suc n)) i d ≡ f (row base size book i)
  unfolding rows
  at_row book n i d h rest true q =
      let same : n ≡ i = sym (eqb-true i n q) in
      rw same (rw (length-rows book i) at (get_or-append_seam (rows f base size book i) (f (row base size book i)) [] d))
  at_row book n i d h rest false q =
      let off = eqb-false i n q in
      let few : i < n = omega arith in
      get_or-append (rows f base size book n) (f (row base size book n) ∷ []) d i (rw (length-rows book n) few) ∙ rest few

  pub rows_at : (book : List ℕ) (n i : ℕ) (d : A) → i < n → get_or (rows f base size book n) i d ≡ f (row base size book i)
  rows_at book zero i d h = absurd (omega arith)
  rows_at book (suc n) i d h = at_row book n i d h (λ k. rows_at book n i d k) (eqb i n) refl

  pub rows-past : (book : List ℕ) (n i : ℕ) (d : A) → n ≤ i → get_or (rows f base size book n) i d ≡ d
  rows-past book n i d h = get_or-eq_default (rows f base size book n) d (rw (length-rows book n) h)

last_snoc : (xs : List LineEntry) (x : LineEntry) → last_entry (xs ++ (x ∷ [])) ≡ some x
unfolding last_entry
last_snoc [] x = refl
last_snoc (y ∷ []) x = refl
last_snoc (y ∷ z ∷ xs) x = last_snoc (z ∷ xs) x

pub last_none : (f : List ℕ → LineEntry) (base size : ℕ) (book : List ℕ) (n : ℕ) → n ≡ 0 → last_entry (rows f base size book n) ≡ none
unfolding rows last_entry
last_none f base size book n e = rw e

pub last_row : (f : List ℕ → LineEntry) (base size : ℕ) (book : List ℕ) (n : ℕ) → 0 < n → last_entry (rows f base size book n) ≡ some (f (row base size book (n - 1)))
unfolding rows
last_row f base size book zero h = absurd (omega arith)
last_row f base size book (suc n) h = rw sub-one (last_snoc (rows f base size book n) (f (row base size book n)))

-- ---- the rows of the three tables

pub patch-back : (p : PendingPatch) → patch_in (patch_numbers p) ≡ p
unfolding patch_in patch_numbers
patch-back p = refl

pub patch-long : (p : PendingPatch) → length (patch_numbers p) ≡ patch_size
unfolding patch_numbers
patch-long p = refl

pub entry-back : (x : LineEntry) → entry_in (one_entry x) ≡ x
entry-back x = rw append-nil at (one-back x [])

-- an entry's numbers alone give it
entry-alone : (ns : List ℕ) → entry_size ≤ length ns → entry_in ns ≡ entry_in (take entry_size ns)
entry-alone ns h = sym (ap entry_in (sym (in-front ns h)) ∙ entry-back (entry_in ns))

-- ---- what book.rt's functions give

module _ (book : List ℕ) (n : ℕ) where
  pub label-none : get_or book (label_base + label_size * n) 0 ≡ 0 → ◌≡◌ {A = ℕ} 0 (bound_or0 (label_in (row label_base label_size book n)))
  unfolding label_in bound_or0
  label-none e =
      let i : label_base + label_size * n + 0 ≡ label_base + label_size * n = omega arith in
      let z : get_or (row label_base label_size book n) 0 0 ≡ 0 = row_number label_base label_size book n 0 (omega arith) ∙ rw i e in
      rw (label_in, eq-eqb _ _ z, bound_or0)

  pub label-some : (get_or book (label_base + label_size * n) 0 ≡ 0 → ⊥) → get_or book (label_base + label_size * n + 1) 0 ≡ bound_or0 (label_in (row label_base label_size book n))
  unfolding label_in bound_or0
  label-some off =
      let i : label_base + label_size * n + 0 ≡ label_base + label_size * n = omega arith in
      let z : get_or (row label_base label_size book n) 0 0 ≡ get_or book (label_base + label_size * n) 0 = rw i at (row_number label_base label_size book n 0 (omega arith)) in
      rw (label_in, ne_eqb _ _ (λ q. off (sym z ∙ q)), bound_or0) (sym (row_number label_base label_size book n 1 (omega arith)))

  pub patch-read : {p : PendingPatch} → p.instruction_offset ≡ get_or book (patch_base + patch_size * n) 0 → p.operand_delta ≡ get_or book (patch_base + patch_size * n + 1) 0 → p.label ≡ get_or book (patch_base + patch_size * n + 2) 0
      → p ≡ patch_in (row patch_base patch_size book n)
  unfolding patch_in
  patch-read {p} a b c =
      let i : patch_base + patch_size * n + 0 ≡ patch_base + patch_size * n = omega arith in
      rw (a, b, c, row_number patch_base patch_size book n 0 (omega arith), row_number patch_base patch_size book n 1 (omega arith), row_number patch_base patch_size book n 2 (omega arith), i)

  pub line-put : {book' : List ℕ} {m : ℕ} (x : LineEntry) → at book' m ≡ push_all (at book (line_base + entry_size * n)) (one_entry x) → length book ≡ book_size → n < max_lines → book' ≡ sets book (line_base + entry_size * n) (one_entry x)
  line-put x e slots few = ap (λ (s : Store). s.cells) e ∙ pushed-sets (one_entry x) book (line_base + entry_size * n) (rw (length-one x) (omega arith))

  pub line_read : {x : LineEntry} → x ≡ entry_in (drop (line_base + entry_size * n) book) → length book ≡ book_size → n < max_lines → x ≡ entry_in (row line_base entry_size book n)
  line_read e slots few = e ∙ entry-alone (drop (line_base + entry_size * n) book) (rw (length-drop (line_base + entry_size * n) book) (omega arith))

  -- `bound_label`
  pub bound_at : (l : ℕ) {m x : ℕ} → m ≡ l → m < n → x ≡ bound_or0 (label_in (row label_base label_size book m)) → x ≡ bound_label (labels_in book n) l
  unfolding bound_label
  bound_at l is few e = rw (← is, rows_at label_in label_base label_size book n _ none few) e

  pub bound-none : (l : ℕ) {m : ℕ} → m ≡ l → n ≤ m → ◌≡◌ {A = ℕ} 0 (bound_label (labels_in book n) l)
  unfolding bound_label bound_or0
  bound-none l is many = rw (← is, rows-past label_in label_base label_size book n _ none many)
