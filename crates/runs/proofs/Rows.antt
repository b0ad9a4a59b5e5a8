-- Code as rows: an instruction with the height at which it stands and, for a branch, its label.
use Prim.Native.Nat.{ℕ, ◌+◌, ◌-◌, suc, zero, ◌≤◌, ◌<◌, zero-le, suc-le-suc}
use mathlib.Core.Path.{◌≡◌, refl, sym, ◌∙◌, ap, subst}
use mathlib.Core.List.{List, [], ◌∷◌, ◌++◌, append_assoc, append-nil, map}
use mathlib.Core.Bool.{Bool, true, false}
use mathlib.Core.Option.{Option, some, none}
use lib.ListN.{length, get_or, length-append, get_or-append}
use lib.Seq.{get_or-append-add}
use native.Mathlib.Omega.{arith}
use native.Mathlib.Nat.{le_trans, le_of_suc-le-suc, not-suc-le-zero}
use Rattle.definition.specs.Opcode.{Role, cmp_br, CompareOp, Sheet, opcode, comparison_byte, size, needs, effect, flow, shift}
use Rattle.definition.specs.Emit.{PendingPatch}
use Rattle.definition.specs.Claims.{branches, Each, empty, ◌also◌}
use Rattle.field.proofs.Results.{never, some_is}
use Rattle.runs.proofs.Heights.{falls, Stops}

pub record Row : Type 0 where
  pub role : Role
  pub operand : List ℕ
  pub height : ℕ
  pub aim : Option ℕ

unfoldable pub next-height : Row → ℕ
next-height r = shift (effect r.role) r.height

-- the bytes of rows
unfoldable pub bytes_of : Sheet → List Row → List ℕ
bytes_of s [] = []
bytes_of s (r ∷ rs) = (opcode s r.role ∷ r.operand) ++ bytes_of s rs

-- of row i, the place and the height; past the last, the end's
unfoldable pub place_at : List Row → ℕ → ℕ
place_at [] i = 0
place_at (r ∷ rs) zero = 0
place_at (r ∷ rs) (suc i) = suc (length r.operand) + place_at rs i

unfoldable pub height-at : List Row → ℕ → ℕ → ℕ
height-at [] e i = e
height-at (r ∷ rs) e zero = r.height
height-at (r ∷ rs) e (suc i) = height-at rs e i

-- the label of row i
unfoldable pub aim_at : List Row → ℕ → Option ℕ
aim_at [] i = none
aim_at (r ∷ rs) zero = r.aim
aim_at (r ∷ rs) (suc i) = aim_at rs i

-- row i
unfoldable pub row_of : List Row → ℕ → Option Row
row_of [] i = none
row_of (r ∷ rs) zero = some r
row_of (r ∷ rs) (suc i) = row_of rs i

unfoldable pub first-height : List Row → ℕ → ℕ
first-height [] e = e
first-height (r ∷ rs) e = r.height

-- the branches' patches, where row i stands at f i
unfoldable pub patch_here : Option ℕ → ℕ → List ℕ → List PendingPatch
patch_here none at o = []
patch_here (some l) at o = record { instruction_offset = at; operand_delta = length o - 1; label = l } ∷ []

unfoldable pub patches_by : (ℕ → ℕ) → List Row → List PendingPatch
patches_by f [] = []
patches_by f (r ∷ rs) = patch_here r.aim (f 0) r.operand ++ patches_by (λ i. f (suc i)) rs

-- what holds of every row that has a label holds of each patch
pub each-patch : (Q : PendingPatch → Type 0) (f : ℕ → ℕ) (rs : List Row)
    → ((i l : ℕ) (r : Row) → row_of rs i ≡ some r → r.aim ≡ some l → Q (record { instruction_offset = f i; operand_delta = length r.operand - 1; label = l })) → Each Q (patches_by f rs)
unfolding patches_by patch_here row_of
each-patch Q f [] h = empty
each-patch Q f (r ∷ rs) h = by r.aim (λ l e. h 0 l r refl e) (each-patch Q (λ i. f (suc i)) rs (λ i l q p e. h (suc i) l q p e))
  where
    by : (a : Option ℕ) → ((l : ℕ) → a ≡ some l → Q (record { instruction_offset = f 0; operand_delta = length r.operand - 1; label = l })) → Each Q (patches_by (λ i. f (suc i)) rs)
        → Each Q (patch_here a (f 0) r.operand ++ patches_by (λ i. f (suc i)) rs)
    by none g more = more
    by (some l) g more = g l refl also more

-- and what holds of each patch holds of every row that has a label
pub each_row : (Q : PendingPatch → Type 0) (f : ℕ → ℕ) (rs : List Row) → Each Q (patches_by f rs)
    → (i l : ℕ) (r : Row) → row_of rs i ≡ some r → r.aim ≡ some l → Q (record { instruction_offset = f i; operand_delta = length r.operand - 1; label = l })
unfolding patches_by patch_here row_of
each_row Q f [] e i l r p a = never (cc)
each_row Q f (q ∷ rs) e zero l r p a =
    let same : q ≡ r = some_is p in
    subst (λ (y : Row). Q (record { instruction_offset = f 0; operand_delta = length y.operand - 1; label = l })) same (first q.aim e (ap (λ (y : Row). y.aim) same ∙ a))
  where
    first : (x : Option ℕ) → Each Q (patch_here x (f 0) q.operand ++ patches_by (λ i. f (suc i)) rs) → x ≡ some l → Q (record { instruction_offset = f 0; operand_delta = length q.operand - 1; label = l })
    first none e a = never (cc)
    first (some m) (h also hs) a = subst (λ (y : ℕ). Q (record { instruction_offset = f 0; operand_delta = length q.operand - 1; label = y })) (let w : m ≡ l = cc in w) h
each_row Q f (q ∷ rs) e (suc i) l r p a = each_row Q (λ j. f (suc j)) rs (rest q.aim e) i l r p a
  where
    rest : (x : Option ℕ) → Each Q (patch_here x (f 0) q.operand ++ patches_by (λ i. f (suc i)) rs) → Each Q (patches_by (λ i. f (suc i)) rs)
    rest none e = e
    rest (some m) (h also hs) = hs

-- a label is some row's
pub aim-row : (rs : List Row) (i l : ℕ) → aim_at rs i ≡ some l → (r : Row) × (row_of rs i ≡ some r) × (r.aim ≡ some l)
unfolding aim_at row_of
aim-row [] i l a = never (cc)
aim-row (r ∷ rs) zero l a = (r, refl, a)
aim-row (r ∷ rs) (suc i) l a = aim-row rs i l a

pub row_inside : (rs : List Row) (i : ℕ) (r : Row) → row_of rs i ≡ some r → i < length rs
unfolding row_of
row_inside [] i r e = never (cc)
row_inside (q ∷ rs) zero r e = suc-le-suc zero-le
row_inside (q ∷ rs) (suc i) r e = suc-le-suc (row_inside rs i r e)

pub row-aim : (rs : List Row) (i : ℕ) (r : Row) → row_of rs i ≡ some r → aim_at rs i ≡ r.aim
unfolding row_of aim_at
row-aim [] i r e = never (cc)
row-aim (q ∷ rs) zero r e = ap (λ (x : Row). x.aim) (some_is e)
row-aim (q ∷ rs) (suc i) r e = row-aim rs i r e

-- the bytes at its place are its own
pub row-bytes : (s : Sheet) (rs : List Row) (i : ℕ) (r : Row) → row_of rs i ≡ some r → (k : ℕ) → k < suc (length r.operand)
    → get_or (bytes_of s rs) (place_at rs i + k) 0 ≡ get_or (opcode s r.role ∷ r.operand) k 0
unfolding row_of bytes_of place_at
row-bytes s [] i r e k lt = never (cc)
row-bytes s (q ∷ rs) zero r e k lt =
    let p : q ≡ r = some_is e in
    ap (λ x. get_or ((opcode s q.role ∷ q.operand) ++ bytes_of s rs) x 0) (let n : 0 + k ≡ k = omega arith in n)
    ∙ subst (λ x. get_or ((opcode s q.role ∷ q.operand) ++ bytes_of s rs) k 0 ≡ get_or (opcode s x.role ∷ x.operand) k 0) p
    (get_or-append (opcode s q.role ∷ q.operand) (bytes_of s rs) 0 k (subst (λ x. k < suc (length x.operand)) (sym p) lt))
row-bytes s (q ∷ rs) (suc i) r e k lt =
    let n : suc (length q.operand) + place_at rs i + k ≡ suc (length q.operand) + (place_at rs i + k) = omega arith in
    ap (λ x. get_or ((opcode s q.role ∷ q.operand) ++ bytes_of s rs) x 0) n
    ∙ (get_or-append-add (opcode s q.role ∷ q.operand) (bytes_of s rs) (place_at rs i + k) 0 ∙ row-bytes s rs i r e k lt)

-- ---- the order of places

-- each is at least n, and the one before it
pub data Rising : ℕ → List ℕ → Type 0 where
  risen : {n : ℕ} → Rising n []
  rises : {n x : ℕ} {xs : List ℕ} → n ≤ x → Rising x xs → Rising n (x ∷ xs)

pub place-rises : (rs : List Row) (i : ℕ) → place_at rs i ≤ place_at rs (suc i)
unfolding place_at
place-rises [] i = zero-le
place-rises (r ∷ rs) zero = zero-le
place-rises (r ∷ rs) (suc i) = let n = place-rises rs i in omega arith

pub patches-rise : (f : ℕ → ℕ) → ((i : ℕ) → f i ≤ f (suc i)) → (n : ℕ) → n ≤ f 0 → (rs : List Row) → Rising n (map (λ (p : PendingPatch). p.instruction_offset) (patches_by f rs))
unfolding patches_by patch_here
patches-rise f up n le [] = risen
patches-rise f up n le (r ∷ rs) = by r.aim (λ m h. patches-rise (λ i. f (suc i)) (λ i. up (suc i)) m h rs)
  where
    by : (a : Option ℕ) → ((m : ℕ) → m ≤ f 1 → Rising m (map (λ (p : PendingPatch). p.instruction_offset) (patches_by (λ i. f (suc i)) rs)))
        → Rising n (map (λ (p : PendingPatch). p.instruction_offset) (patch_here a (f 0) r.operand ++ patches_by (λ i. f (suc i)) rs))
    by none more = more n (le_trans le (up 0))
    by (some l) more = rises le (more (f 0) (up 0))

-- ---- rows that may stand as they do

-- a branch, and nothing else, has a label, whose height is where it leads
pub data Leads (Λ : ℕ → ℕ) (g : ℕ) : Bool → Option ℕ → Type 0 where
  nowhere : Leads Λ g false none
  to : {l : ℕ} → Λ l ≡ g → Leads Λ g true (some l)

pub leads-to : {Λ : ℕ → ℕ} {g : ℕ} {b : Bool} {a : Option ℕ} → Leads Λ g b a → b ≡ true → (l : ℕ) × (a ≡ some l) × (Λ l ≡ g)
leads-to nowhere e = never (cc)
leads-to (to {l = l} p) e = (l, refl, p)

pub leads-nowhere : {Λ : ℕ → ℕ} {g : ℕ} {b : Bool} {a : Option ℕ} → Leads Λ g b a → b ≡ false → a ≡ none
leads-nowhere nowhere e = refl
leads-nowhere (to p) e = never (cc)

pub record RowOk (Λ : ℕ → ℕ) (D : ℕ) (r : Row) : Type 0 where
  pub sized : suc (length r.operand) ≡ size r.role
  pub enough : needs r.role ≤ r.height
  pub low : next-height r ≤ D
  pub leads : Leads Λ (next-height r) (branches (flow r.role)) r.aim
  pub stops : Stops (flow r.role) → r.height ≡ 0

-- each row is in order, and the next one, or the end, stands at the height to which it leads
pub data Linked (Λ : ℕ → ℕ) (D : ℕ) : List Row → ℕ → Type 0 where
  finished : {e : ℕ} → Linked Λ D [] e
  follows : {r : Row} {rs : List Row} {e : ℕ} → RowOk Λ D r → (falls (flow r.role) ≡ true → first-height rs e ≡ next-height r) → Linked Λ D rs e → Linked Λ D (r ∷ rs) e

-- a CMP_BR's comparison byte is that of a comparison
abbrev pub Compared : Sheet → Row → Type 0
Compared s r = r.role ≡ cmp_br → (c : CompareOp) × (get_or r.operand 0 0 ≡ comparison_byte s c)

pub each_append : {A : Type 0} {P : A → Type 0} {xs ys : List A} → Each P xs → Each P ys → Each P (xs ++ ys)
each_append empty q = q
each_append (p also ps) q = p also each_append ps q

pub each-front : {A : Type 0} {P : A → Type 0} (xs ys : List A) → Each P (xs ++ ys) → Each P xs
each-front [] ys e = empty
each-front (x ∷ xs) ys (p also ps) = p also each-front xs ys ps

-- ---- one more row

bytes-append : (s : Sheet) (xs ys : List Row) → bytes_of s (xs ++ ys) ≡ bytes_of s xs ++ bytes_of s ys
unfolding bytes_of
bytes-append s [] ys = refl
bytes-append s (x ∷ xs) ys =
    ap (λ t. (opcode s x.role ∷ x.operand) ++ t) (bytes-append s xs ys) ∙ sym (append_assoc (opcode s x.role ∷ x.operand) (bytes_of s xs) (bytes_of s ys))

pub bytes-snoc : (s : Sheet) (rs : List Row) (r : Row) → bytes_of s (rs ++ (r ∷ [])) ≡ bytes_of s rs ++ (opcode s r.role ∷ r.operand)
unfolding bytes_of
bytes-snoc s rs r = bytes-append s rs (r ∷ []) ∙ ap (λ x. bytes_of s rs ++ x) (append-nil (opcode s r.role ∷ r.operand))

pub place-first : (rs : List Row) → place_at rs 0 ≡ 0
unfolding place_at
place-first [] = refl
place-first (r ∷ rs) = refl

pub place_end : (s : Sheet) (rs : List Row) → length (bytes_of s rs) ≡ place_at rs (length rs)
unfolding bytes_of place_at
place_end s [] = refl
place_end s (r ∷ rs) =
    let q = place_end s rs in
    let n : suc (length (r.operand ++ bytes_of s rs)) ≡ suc (length r.operand) + place_at rs (length rs) = omega (arith, length-append r.operand (bytes_of s rs)) in
    n

pub place-within : (s : Sheet) (rs : List Row) (i : ℕ) → place_at rs i ≤ length (bytes_of s rs)
unfolding bytes_of place_at
place-within s [] i = zero-le
place-within s (r ∷ rs) zero = zero-le
place-within s (r ∷ rs) (suc i) =
    let q = place-within s rs i in
    let n : suc (length r.operand) + place_at rs i ≤ suc (length (r.operand ++ bytes_of s rs)) = omega (arith, length-append r.operand (bytes_of s rs)) in
    n

pub height-end : (rs : List Row) (e : ℕ) → height-at rs e (length rs) ≡ e
unfolding height-at
height-end [] e = refl
height-end (r ∷ rs) e = height-end rs e

pub height-first : (rs : List Row) (e : ℕ) → height-at rs e 0 ≡ first-height rs e
unfolding height-at first-height
height-first [] e = refl
height-first (r ∷ rs) e = refl

pub place-snoc : (rs : List Row) (r : Row) (i : ℕ) → i ≤ length rs → place_at (rs ++ (r ∷ [])) i ≡ place_at rs i
unfolding place_at
place-snoc [] r zero le = refl
place-snoc [] r (suc i) le = absurd (not-suc-le-zero le)
place-snoc (x ∷ xs) r zero le = refl
place-snoc (x ∷ xs) r (suc i) le = ap (λ t. suc (length x.operand) + t) (place-snoc xs r i (le_of_suc-le-suc le))

pub height-snoc : (rs : List Row) (r : Row) (h i : ℕ) → i ≤ length rs → height-at (rs ++ (r ∷ [])) h i ≡ height-at rs r.height i
unfolding height-at
height-snoc [] r h zero le = refl
height-snoc [] r h (suc i) le = absurd (not-suc-le-zero le)
height-snoc (x ∷ xs) r h zero le = refl
height-snoc (x ∷ xs) r h (suc i) le = height-snoc xs r h i (le_of_suc-le-suc le)

pub patches-same : (f g : ℕ → ℕ) (rs : List Row) → ((i : ℕ) → i < length rs → f i ≡ g i) → patches_by f rs ≡ patches_by g rs
unfolding patches_by
patches-same f g [] e = refl
patches-same f g (r ∷ rs) e = ap (λ x. patch_here r.aim x r.operand ++ patches_by (λ i. f (suc i)) rs) (e 0 (suc-le-suc zero-le))
    ∙ ap (λ x. patch_here r.aim (g 0) r.operand ++ x) (patches-same (λ i. f (suc i)) (λ i. g (suc i)) rs (λ i le. e (suc i) (suc-le-suc le)))

patches-append : (f : ℕ → ℕ) (rs : List Row) (r : Row) → patches_by f (rs ++ (r ∷ [])) ≡ patches_by f rs ++ patch_here r.aim (f (length rs)) r.operand
unfolding patches_by
patches-append f [] r = append-nil (patch_here r.aim (f 0) r.operand)
patches-append f (x ∷ xs) r = ap (λ y. patch_here x.aim (f 0) x.operand ++ y) (patches-append (λ i. f (suc i)) xs r)
    ∙ sym (append_assoc (patch_here x.aim (f 0) x.operand) (patches_by (λ i. f (suc i)) xs) (patch_here r.aim (f (suc (length xs))) r.operand))

pub patches-snoc : (s : Sheet) (rs : List Row) (r : Row)
    → patches_by (λ i. place_at (rs ++ (r ∷ [])) i) (rs ++ (r ∷ [])) ≡ patches_by (λ i. place_at rs i) rs ++ patch_here r.aim (length (bytes_of s rs)) r.operand
patches-snoc s rs r = patches-append (λ i. place_at (rs ++ (r ∷ [])) i) rs r
    ∙ (ap (λ x. x ++ patch_here r.aim (place_at (rs ++ (r ∷ [])) (length rs)) r.operand) (patches-same (λ i. place_at (rs ++ (r ∷ [])) i) (λ i. place_at rs i) rs (λ i le. place-snoc rs r i (omega arith)))
    ∙ ap (λ x. patches_by (λ i. place_at rs i) rs ++ patch_here r.aim x r.operand) (place-snoc rs r (length rs) (omega arith) ∙ sym (place_end s rs)))

pub first-snoc : (rs : List Row) (r : Row) (e : ℕ) → first-height (rs ++ (r ∷ [])) e ≡ first-height rs r.height
unfolding first-height
first-snoc [] r e = refl
first-snoc (x ∷ xs) r e = refl

module _ {Λ : ℕ → ℕ} where
  pub linked-snoc : {D : ℕ} {rs : List Row} (r : Row) (e : ℕ) → Linked Λ D rs r.height → RowOk Λ D r → (falls (flow r.role) ≡ true → e ≡ next-height r) → Linked Λ D (rs ++ (r ∷ [])) e
  unfolding first-height
  linked-snoc r e finished k f = follows k f finished
  linked-snoc r e (follows {rs = rs} j g l) k f = follows j (λ t. first-snoc rs r e ∙ g t) (linked-snoc r e l k f)

  -- where a row is taken off the end, what is left leads to its height
  pub linked-init : {D : ℕ} (rs : List Row) (r : Row) (e : ℕ) → Linked Λ D (rs ++ (r ∷ [])) e → Linked Λ D rs r.height × RowOk Λ D r × (falls (flow r.role) ≡ true → e ≡ next-height r)
  unfolding first-height
  linked-init [] r e (follows k f l) = (finished, k, f)
  linked-init (x ∷ xs) r e (follows k f l) = let i = linked-init xs r e l in (follows k (λ t. sym (first-snoc xs r e) ∙ f t) i.0, i.1, i.2)

  -- the depth may grow
  pub linked-mono : {D D' : ℕ} → D ≤ D' → {rs : List Row} {h : ℕ} → Linked Λ D rs h → Linked Λ D' rs h
  linked-mono le finished = finished
  linked-mono le (follows k f l) =
      follows (record { sized = k.sized; enough = k.enough; low = le_trans k.low le; leads = k.leads; stops = k.stops }) f (linked-mono le l)
