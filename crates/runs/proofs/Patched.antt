-- Patching writes each branch's offset bytes and nothing else, and a run reads its label's place back from them.
use Prim.Native.Nat.{ℕ, ◌+◌, ◌-◌, ◌*◌, ◌/◌, ◌%◌, ◌^◌, suc, zero, ◌≤◌, ◌<◌}
use mathlib.Core.Path.{◌≡◌, refl, sym, ◌∙◌, ap, subst}
use mathlib.Core.List.{List, [], ◌∷◌, ◌++◌, map, append_assoc}
use mathlib.Core.Bool.{Bool, true, false}
use mathlib.Core.Option.{Option, some, none}
use lib.ListN.{length, get_or, take, drop, length-append, get_or-append, take-append-drop}
use lib.Seq.{take-append-le, take-append-add, drop-append-add, drop-append_seam, length-take-le, get_or-append-add}
use lib.Dec.{leb, ltb}
use borrow.Author.Tests.{ltb-true, ltb-false, leb-true, leb-false}
use native.Mathlib.Omega.{arith}
use Rattle.definition.specs.Limits.{max_back, max_forward}
use Rattle.definition.specs.Opcode.{Sheet, opcode, size, traits, traits_of, flow}
use Rattle.definition.specs.Emit.{le16, PendingPatch}
use Rattle.definition.specs.Rewrite.{OffsetMap, moved_to}
use Rattle.definition.specs.Compile.{bound_label, displacement, overwrite, patch_jump, patch_jumps, near}
use Rattle.definition.specs.Runs.{target}
use Rattle.definition.specs.Claims.{branches, Each, empty, ◌also◌}
use Rattle.field.proofs.Results.{never, some_is}
use Rattle.field.proofs.Tests.{and_left, and_right}
use Rattle.runs.proofs.Roles.{branch-size}
use Rattle.runs.proofs.Rows.{Row, next-height, bytes_of, place_at, place-first, aim_at, row_of, height-at, first-height, patch_here, patches_by, patches-same, Leads, nowhere, to, RowOk, Compared, Linked, finished, follows}

-- ---- the displacement, written and read

-- what a run makes of two offset bytes that are the number d
unfoldable pub reached : ℕ → ℕ → Option ℕ
reached d next = elim (ltb d (2 ^ 15)) [
  | true ↦ some (next + d)
  | false ↦ elim (leb (2 ^ 16 - d) next) [ true ↦ some (next + d - 2 ^ 16) | false ↦ none ]
]

-- a target that sixteen bits lead to from the next place
abbrev pub IsNear : ℕ → ℕ → Type 0
IsNear t n = (n ≤ t + max_back) × (t ≤ n + max_forward)

pub near-is : (t n : ℕ) → near t n ≡ true → IsNear t n
unfolding near
near-is t n e = (leb-true n (t + max_back) (and_left _ _ e), leb-true t (n + max_forward) (and_right (leb n (t + max_back)) _ e))

-- a branch's target is so, where a map moves both
abbrev pub NearBy : List (Option ℕ) → OffsetMap → PendingPatch → Type 0
NearBy labels m p = IsNear (moved_to m (bound_label labels p.label)) (moved_to m p.instruction_offset + p.operand_delta + 2)

-- it is read back
pub reached-near : (t n : ℕ) → IsNear t n → reached (displacement t n) n ≡ some t
unfolding displacement reached
reached-near t n (b, a) = by (ltb ((t + 2 ^ 16 - n) % (2 ^ 16)) (2 ^ 15)) refl
  where
    d : ℕ
    d = (t + 2 ^ 16 - n) % (2 ^ 16)

    back : (c : Bool) → leb (2 ^ 16 - d) n ≡ c → 2 ^ 15 ≤ d → elim c [ true ↦ some (n + d - 2 ^ 16) | false ↦ none ] ≡ some t
    back true e l = ap (λ x. some x) (let q : n + d - 2 ^ 16 ≡ t = omega arith in q)
    back false e l = absurd (let m = leb-false (2 ^ 16 - d) n e in omega arith)

    by : (c : Bool) → ltb d (2 ^ 15) ≡ c → elim c [ true ↦ some (n + d) | false ↦ elim (leb (2 ^ 16 - d) n) [ true ↦ some (n + d - 2 ^ 16) | false ↦ none ] ] ≡ some t
    by true e = ap (λ x. some x) (let l = ltb-true d (2 ^ 15) e in let q : n + d ≡ t = omega arith in q)
    by false e = back (leb (2 ^ 16 - d) n) refl (ltb-false d (2 ^ 15) e)

-- behind these bytes stand the two of a displacement
target-back : (front rest : List ℕ) (t : ℕ) → IsNear t (length front + 2) → target (front ++ (le16 (displacement t (length front + 2)) ++ rest)) (length front + 2) ≡ some t
unfolding target le16 reached
target-back front rest t a =
    let n : ℕ = length front + 2 in
    let d : ℕ = displacement t n in
    let code : List ℕ = front ++ (d % 256 ∷ d / 256 ∷ rest) in
    let one : get_or code (n - 2) 0 ≡ d % 256 = ap (λ x. get_or code x 0) (let q : n - 2 ≡ length front + 0 = omega arith in q) ∙ get_or-append-add front (d % 256 ∷ d / 256 ∷ rest) 0 0 in
    let two : get_or code (n - 1) 0 ≡ d / 256 = ap (λ x. get_or code x 0) (let q : n - 1 ≡ length front + 1 = omega arith in q) ∙ get_or-append-add front (d % 256 ∷ d / 256 ∷ rest) 1 0 in
    let both : get_or code (n - 2) 0 + 256 * get_or code (n - 1) 0 ≡ d = omega arith in
    ap (λ x. reached x n) both ∙ reached-near t n a

-- ---- rows whose branches lead where T says

unfoldable pub aimed_operand : (ℕ → ℕ) → ℕ → Option ℕ → List ℕ → List ℕ
aimed_operand T next none o = o
aimed_operand T next (some l) o = take (length o - 2) o ++ le16 (displacement (T l) next)

unfoldable pub aimed_row : (ℕ → ℕ) → ℕ → Row → Row
aimed_row T next r = record { role = r.role; operand = aimed_operand T next r.aim r.operand; height = r.height; aim = r.aim }

-- the first row stands at `at`
unfoldable pub aimed_rows : (ℕ → ℕ) → ℕ → List Row → List Row
aimed_rows T at [] = []
aimed_rows T at (r ∷ rs) = aimed_row T (at + suc (length r.operand)) r ∷ aimed_rows T (at + suc (length r.operand)) rs

pub aimed-length : {Λ : ℕ → ℕ} {g : ℕ} {b : Bool} {a : Option ℕ} (T : ℕ → ℕ) (next : ℕ) (o : List ℕ) → Leads Λ g b a → (b ≡ true → 2 ≤ length o) → length (aimed_operand T next a o) ≡ length o
unfolding aimed_operand le16
aimed-length T next o nowhere two = refl
aimed-length T next o (to {l = l} p) two =
    let w = two refl in
    let k : length (take (length o - 2) o) ≡ length o - 2 = length-take-le (length o - 2) o (omega arith) in
    omega (arith, length-append (take (length o - 2) o) (le16 (displacement (T l) next)))

branch-operand : {Λ : ℕ → ℕ} {D : ℕ} {r : Row} → RowOk Λ D r → branches (flow r.role) ≡ true → 2 ≤ length r.operand
branch-operand {r = r} k b = let z = k.sized in let w = branch-size r.role b in omega arith

row-length : {Λ : ℕ → ℕ} {D : ℕ} {r : Row} (T : ℕ → ℕ) (next : ℕ) → RowOk Λ D r → length (aimed_operand T next r.aim r.operand) ≡ length r.operand
row-length {r = r} T next k = aimed-length T next r.operand k.leads (λ b. branch-operand k b)

pub aimed-first : (T : ℕ → ℕ) (at : ℕ) (rs : List Row) (e : ℕ) → first-height (aimed_rows T at rs) e ≡ first-height rs e
unfolding aimed_rows aimed_row first-height
aimed-first T at [] e = refl
aimed-first T at (r ∷ rs) e = refl

pub aimed-heights : (T : ℕ → ℕ) (at : ℕ) (rs : List Row) (e i : ℕ) → height-at (aimed_rows T at rs) e i ≡ height-at rs e i
unfolding aimed_rows aimed_row height-at
aimed-heights T at [] e i = refl
aimed-heights T at (r ∷ rs) e zero = refl
aimed-heights T at (r ∷ rs) e (suc i) = aimed-heights T (at + suc (length r.operand)) rs e i

pub aimed-count : (T : ℕ → ℕ) (at : ℕ) (rs : List Row) → length (aimed_rows T at rs) ≡ length rs
unfolding aimed_rows
aimed-count T at [] = refl
aimed-count T at (r ∷ rs) = ap suc (aimed-count T (at + suc (length r.operand)) rs)

module _ {Λ : ℕ → ℕ} {D e : ℕ} (T : ℕ → ℕ) where
  pub aimed-linked : (at : ℕ) {rs : List Row} → Linked Λ D rs e → Linked Λ D (aimed_rows T at rs) e
  unfolding aimed_rows aimed_row next-height
  aimed-linked at finished = finished
  aimed-linked at (follows {r = r} {rs = rs} k f l) = follows
      (record { sized = ap suc (row-length T (at + suc (length r.operand)) k) ∙ k.sized; enough = k.enough; low = k.low; leads = k.leads; stops = k.stops })
      (λ t. aimed-first T (at + suc (length r.operand)) rs e ∙ f t) (aimed-linked (at + suc (length r.operand)) l)

  pub aimed-places : (at : ℕ) {rs : List Row} → Linked Λ D rs e → (i : ℕ) → place_at (aimed_rows T at rs) i ≡ place_at rs i
  unfolding aimed_rows aimed_row place_at
  aimed-places at finished i = refl
  aimed-places at (follows k f l) zero = refl
  aimed-places at (follows {r = r} {rs = rs} k f l) (suc i) =
      let q = row-length T (at + suc (length r.operand)) k in
      let w = aimed-places (at + suc (length r.operand)) l i in
      omega arith

  pub aimed-patches : (at : ℕ) {rs : List Row} (f : ℕ → ℕ) → Linked Λ D rs e → patches_by f (aimed_rows T at rs) ≡ patches_by f rs
  unfolding aimed_rows aimed_row patches_by patch_here
  aimed-patches at f finished = refl
  aimed-patches at f (follows {r = r} {rs = rs} k g l) =
      patch-length r.aim ∙ ap (λ x. patch_here r.aim (f 0) r.operand ++ x) (aimed-patches (at + suc (length r.operand)) (λ i. f (suc i)) l)
    where
      o' : List ℕ
      o' = aimed_operand T (at + suc (length r.operand)) r.aim r.operand

      more : List PendingPatch
      more = patches_by (λ i. f (suc i)) (aimed_rows T (at + suc (length r.operand)) rs)

      patch-length : (a : Option ℕ) → patch_here a (f 0) o' ++ more ≡ patch_here a (f 0) r.operand ++ more
      patch-length none = refl
      patch-length (some m) = ap (λ n. record { instruction_offset = f 0; operand_delta = n - 1; label = m } ∷ more) (row-length T (at + suc (length r.operand)) k)

-- ---- patching

-- patches that stand where their branches are
unfoldable pub patch_with : (ℕ → ℕ) → List PendingPatch → List ℕ → List ℕ
patch_with T [] code = code
patch_with T (p ∷ ps) code = patch_with T ps (overwrite (p.instruction_offset + p.operand_delta) (le16 (displacement (T p.label) (p.instruction_offset + p.operand_delta + 2))) code)

unfoldable pub moved_patch : OffsetMap → PendingPatch → PendingPatch
moved_patch m p = record { instruction_offset = moved_to m p.instruction_offset; operand_delta = p.operand_delta; label = p.label }

pub patch_jumps-with : (labels : List (Option ℕ)) (m : OffsetMap) (ps : List PendingPatch) (code : List ℕ)
    → patch_jumps labels m ps code ≡ patch_with (λ l. moved_to m (bound_label labels l)) (map (moved_patch m) ps) code
unfolding patch_jumps patch_jump patch_with moved_patch
patch_jumps-with labels m [] code = refl
patch_jumps-with labels m (p ∷ ps) code = patch_jumps-with labels m ps (patch_jump labels m p code)

patch_with-append : (T : ℕ → ℕ) (ps qs : List PendingPatch) (code : List ℕ) → patch_with T (ps ++ qs) code ≡ patch_with T qs (patch_with T ps code)
unfolding patch_with
patch_with-append T [] qs code = refl
patch_with-append T (p ∷ ps) qs code = patch_with-append T ps qs _

overwritten : (front : List ℕ) (op : ℕ) (o rest two : List ℕ) → 2 ≤ length o → overwrite (length front + 0 + (length o - 1)) two (front ++ ((op ∷ o) ++ rest)) ≡ (front ++ (op ∷ (take (length o - 2) o ++ two))) ++ rest
unfolding overwrite
overwritten front op o rest two le =
    let k : ℕ = length o - 2 in
    let code : List ℕ = front ++ ((op ∷ o) ++ rest) in
    let a : length front + 0 + (length o - 1) ≡ length front + suc k = omega arith in
    let b : length front + 0 + (length o - 1) + 2 ≡ length front + suc (length o) = omega arith in
    let c : k ≤ length o = omega arith in
    let t : take (length front + 0 + (length o - 1)) code ≡ front ++ (op ∷ take k o) =
    ap (λ x. take x code) a ∙ (take-append-add front ((op ∷ o) ++ rest) (suc k) ∙ ap (λ x. front ++ (op ∷ x)) (take-append-le k o rest c)) in
    let d : drop (length front + 0 + (length o - 1) + 2) code ≡ rest = ap (λ x. drop x code) b ∙ (drop-append-add front ((op ∷ o) ++ rest) (suc (length o)) ∙ drop-append_seam o rest) in
    ap (λ x. x ++ (two ++ drop (length front + 0 + (length o - 1) + 2) code)) t ∙ (ap (λ x. (front ++ (op ∷ take k o)) ++ (two ++ x)) d
    ∙ (append_assoc front (op ∷ take k o) (two ++ rest) ∙ (ap (λ x. front ++ (op ∷ x)) (sym (append_assoc (take k o) two rest)) ∙ sym (append_assoc front (op ∷ (take k o ++ two)) rest))))

-- one branch
pub patch-one : {Λ : ℕ → ℕ} {g : ℕ} {b : Bool} {a : Option ℕ} (T : ℕ → ℕ) (front : List ℕ) (op : ℕ) (o rest : List ℕ) → Leads Λ g b a → (b ≡ true → 2 ≤ length o)
    → patch_with T (patch_here a (length front + 0) o) (front ++ ((op ∷ o) ++ rest)) ≡ (front ++ (op ∷ aimed_operand T (length front + suc (length o)) a o)) ++ rest
unfolding patch_with patch_here aimed_operand
patch-one T front op o rest nowhere two = sym (append_assoc front (op ∷ o) rest)
patch-one T front op o rest (to {l = l} p) two =
    let w = two refl in
    ap (λ x. overwrite (length front + 0 + (length o - 1)) (le16 (displacement (T l) x)) (front ++ ((op ∷ o) ++ rest))) (let q : length front + 0 + (length o - 1) + 2 ≡ length front + suc (length o) = omega arith in q)
    ∙ overwritten front op o rest (le16 (displacement (T l) (length front + suc (length o)))) w

pub patched-rows : {Λ : ℕ → ℕ} {D e : ℕ} (s : Sheet) (T : ℕ → ℕ) (front : List ℕ) {rs : List Row} → Linked Λ D rs e
    → patch_with T (patches_by (λ i. length front + place_at rs i) rs) (front ++ bytes_of s rs) ≡ front ++ bytes_of s (aimed_rows T (length front) rs)
unfolding patches_by patch_with place_at bytes_of aimed_rows aimed_row
patched-rows s T front finished = refl
patched-rows s T front (follows {r = r} {rs = rs} k f l) =
    let op : ℕ = opcode s r.role in
    let o : List ℕ = r.operand in
    let o' : List ℕ = aimed_operand T (length front + suc (length o)) r.aim o in
    let more : List PendingPatch = patches_by (λ i. length front + (suc (length o) + place_at rs i)) rs in
    let n : length (front ++ (op ∷ o')) ≡ length front + suc (length o) = length-append front (op ∷ o') ∙ ap (λ x. length front + suc x) (row-length T (length front + suc (length o)) k) in
    patch_with-append T (patch_here r.aim (length front + 0) o) more (front ++ ((op ∷ o) ++ bytes_of s rs))
    ∙ (ap (λ x. patch_with T more x) (patch-one T front op o (bytes_of s rs) k.leads (λ b. branch-operand k b))
    ∙ (ap (λ x. patch_with T x ((front ++ (op ∷ o')) ++ bytes_of s rs)) (patches-same _ (λ i. length (front ++ (op ∷ o')) + place_at rs i) rs
    (λ i le. let q : length front + (suc (length o) + place_at rs i) ≡ length (front ++ (op ∷ o')) + place_at rs i = omega arith in q))
    ∙ (patched-rows s T (front ++ (op ∷ o')) l ∙ (append_assoc front (op ∷ o') (bytes_of s (aimed_rows T (length (front ++ (op ∷ o'))) rs))
    ∙ ap (λ x. front ++ ((op ∷ o') ++ bytes_of s (aimed_rows T x rs))) n))))

-- ---- reading the branches back

pub aimed-aims : (T : ℕ → ℕ) (at : ℕ) (rs : List Row) (i : ℕ) → aim_at (aimed_rows T at rs) i ≡ aim_at rs i
unfolding aimed_rows aimed_row aim_at
aimed-aims T at [] i = refl
aimed-aims T at (r ∷ rs) zero = refl
aimed-aims T at (r ∷ rs) (suc i) = aimed-aims T (at + suc (length r.operand)) rs i

-- row i with its branch's offset: whatever stood before the two offset bytes stands
pub aimed-row : (T : ℕ → ℕ) (at : ℕ) (rs : List Row) (i : ℕ) (r : Row) → row_of rs i ≡ some r → (next : ℕ) × (row_of (aimed_rows T at rs) i ≡ some (aimed_row T next r))
unfolding aimed_rows row_of
aimed-row T at [] i r e = never (cc)
aimed-row T at (q ∷ rs) zero r e = (at + suc (length q.operand), ap (λ x. some (aimed_row T (at + suc (length q.operand)) x)) (some_is e))
aimed-row T at (q ∷ rs) (suc i) r e = aimed-row T (at + suc (length q.operand)) rs i r e

pub aimed-byte : (T : ℕ → ℕ) (next op : ℕ) (a : Option ℕ) (o : List ℕ) (k : ℕ) → k < length o - 1 → get_or (op ∷ aimed_operand T next a o) k 0 ≡ get_or (op ∷ o) k 0
unfolding aimed_operand
aimed-byte T next op none o k lt = refl
aimed-byte T next op (some l) o zero lt = refl
aimed-byte T next op (some l) o (suc k) lt =
    let n : ℕ = length o - 2 in
    let w : length (take n o) ≡ n = length-take-le n o (omega arith) in
    get_or-append (take n o) (le16 (displacement (T l) next)) 0 k (subst (λ x. k < x) (sym w) (omega arith))
    ∙ (sym (get_or-append (take n o) (drop n o) 0 k (subst (λ x. k < x) (sym w) (omega arith))) ∙ ap (λ x. get_or x k 0) (take-append-drop n o))

-- nor does patching
pub aimed-compared : {Λ : ℕ → ℕ} {D e : ℕ} (T : ℕ → ℕ) (s : Sheet) (at : ℕ) {rs : List Row} → Linked Λ D rs e → Each (λ r. Compared s r) rs → Each (λ r. Compared s r) (aimed_rows T at rs)
unfolding aimed_rows aimed_row size traits traits_of
aimed-compared T s at finished c = empty
aimed-compared T s at (follows {r = r} {rs = rs} k f l) (c also cs) = one also aimed-compared T s (at + suc (length r.operand)) l cs
  where
    one : Compared s (aimed_row T (at + suc (length r.operand)) r)
    one q =
        let x = c q in
        let z : suc (length r.operand) ≡ 8 = k.sized ∙ ap size q in
        (x.0, aimed-byte T (at + suc (length r.operand)) 0 r.aim r.operand 1 (omega arith) ∙ x.1)

pub aimed-long : (T : ℕ → ℕ) (next : ℕ) (a : Option ℕ) (o : List ℕ) (k : ℕ) → k < length o - 1 → k < suc (length (aimed_operand T next a o))
unfolding aimed_operand le16
aimed-long T next none o k lt = omega arith
aimed-long T next (some l) o k lt =
    omega (arith, length-append (take (length o - 2) o) (le16 (displacement (T l) next)), length-take-le (length o - 2) o (let c : length o - 2 ≤ length o = omega arith in c))

one-target : {Λ : ℕ → ℕ} {g : ℕ} {b : Bool} {a : Option ℕ} (T : ℕ → ℕ) (front : List ℕ) (op : ℕ) (o rest : List ℕ) (l : ℕ) → Leads Λ g b a → (b ≡ true → 2 ≤ length o) → a ≡ some l → IsNear (T l) (length front + suc (length o))
    → target (front ++ ((op ∷ aimed_operand T (length front + suc (length o)) a o) ++ rest)) (length front + suc (length o)) ≡ some (T l)
unfolding aimed_operand
one-target T front op o rest l nowhere two e t = never (cc)
one-target T front op o rest l (to {l = x} p) two e t =
    let w = two refl in
    let q : x ≡ l = cc in
    let k : ℕ = length o - 2 in
    let before : List ℕ = front ++ (op ∷ take k o) in
    let n : length before + 2 ≡ length front + suc (length o) =
    omega (arith, length-append front (op ∷ take k o), length-take-le k o (let c : k ≤ length o = omega arith in c)) in
    let D : ℕ → List ℕ = λ y. le16 (displacement (T x) y) in
    let split : front ++ ((op ∷ (take k o ++ D (length front + suc (length o)))) ++ rest) ≡ before ++ (D (length front + suc (length o)) ++ rest) =
    ap (λ y. front ++ (op ∷ y)) (append_assoc (take k o) (D (length front + suc (length o))) rest) ∙ sym (append_assoc front (op ∷ take k o) (D (length front + suc (length o)) ++ rest)) in
    ap (λ y. target y (length front + suc (length o))) split
    ∙ (subst (λ y. target (before ++ (D y ++ rest)) y ≡ some (T x)) n (target-back before rest (T x) (subst (λ y. IsNear (T x) y) (sym n) (subst (λ y. IsNear (T y) (length front + suc (length o))) (sym q) t))) ∙ ap (λ y. some (T y)) q)

pub row_target : {Λ : ℕ → ℕ} {D e : ℕ} (s : Sheet) (T : ℕ → ℕ) (front : List ℕ) {rs : List Row} → Linked Λ D rs e → (i l : ℕ) → aim_at rs i ≡ some l → IsNear (T l) (length front + place_at rs (suc i))
    → target (front ++ bytes_of s (aimed_rows T (length front) rs)) (length front + place_at rs (suc i)) ≡ some (T l)
unfolding aim_at place_at bytes_of aimed_rows aimed_row
row_target s T front finished i l e t = never (cc)
row_target s T front (follows {r = r} {rs = rs} k f x) zero l e t =
    let o : List ℕ = r.operand in
    let rest : List ℕ = bytes_of s (aimed_rows T (length front + suc (length o)) rs) in
    let o' : List ℕ = aimed_operand T (length front + suc (length o)) r.aim o in
    let p = place-first rs in
    let q : length front + (suc (length o) + place_at rs 0) ≡ length front + suc (length o) = omega arith in
    ap (λ y. target (front ++ ((opcode s r.role ∷ o') ++ rest)) y) q
    ∙ one-target T front (opcode s r.role) o rest l k.leads (λ b. branch-operand k b) e (subst (λ y. IsNear (T l) y) q t)
row_target s T front (follows {r = r} {rs = rs} k f x) (suc i) l e t =
    let o : List ℕ = r.operand in
    let op : ℕ = opcode s r.role in
    let o' : List ℕ = aimed_operand T (length front + suc (length o)) r.aim o in
    let n : length (front ++ (op ∷ o')) ≡ length front + suc (length o) = length-append front (op ∷ o') ∙ ap (λ y. length front + suc y) (row-length T (length front + suc (length o)) k) in
    let code : front ++ ((op ∷ o') ++ bytes_of s (aimed_rows T (length front + suc (length o)) rs)) ≡ (front ++ (op ∷ o')) ++ bytes_of s (aimed_rows T (length (front ++ (op ∷ o'))) rs) =
    sym (append_assoc front (op ∷ o') (bytes_of s (aimed_rows T (length (front ++ (op ∷ o'))) rs)) ∙ ap (λ y. front ++ ((op ∷ o') ++ bytes_of s (aimed_rows T y rs))) n) in
    let q : length front + (suc (length o) + place_at rs (suc i)) ≡ length (front ++ (op ∷ o')) + place_at rs (suc i) = omega arith in
    ap (λ y. target y (length front + (suc (length o) + place_at rs (suc i)))) code
    ∙ (ap (λ y. target ((front ++ (op ∷ o')) ++ bytes_of s (aimed_rows T (length (front ++ (op ∷ o'))) rs)) y) q
    ∙ row_target s T (front ++ (op ∷ o')) x i l e (subst (λ y. IsNear (T l) y) q t))

-- ---- the two bytes of each branch lie in the code

one_inside : {Λ : ℕ → ℕ} {g : ℕ} {b : Bool} {a : Option ℕ} (at : ℕ) (o : List ℕ) (more : List PendingPatch) (n : ℕ) → Leads Λ g b a → (b ≡ true → 2 ≤ length o) → at + suc (length o) ≤ n
    → Each (λ (p : PendingPatch). p.instruction_offset + p.operand_delta + 2 ≤ n) more → Each (λ (p : PendingPatch). p.instruction_offset + p.operand_delta + 2 ≤ n) (patch_here a at o ++ more)
unfolding patch_here
one_inside at o more n nowhere two le m = m
one_inside at o more n (to p) two le m = (let w = two refl in let q : at + (length o - 1) + 2 ≤ n = omega arith in q) also m

pub inside-rows : {Λ : ℕ → ℕ} {D e : ℕ} (s : Sheet) (base : ℕ) (f : ℕ → ℕ) {rs : List Row} → Linked Λ D rs e → ((i : ℕ) → f i ≡ base + place_at rs i) → (n : ℕ) → base + length (bytes_of s rs) ≤ n
    → Each (λ (p : PendingPatch). p.instruction_offset + p.operand_delta + 2 ≤ n) (patches_by f rs)
unfolding patches_by place_at bytes_of
inside-rows s base f finished h n le = empty
inside-rows s base f (follows {r = r} {rs = rs} k g l) h n le =
    let o : List ℕ = r.operand in
    let long : length ((opcode s r.role ∷ o) ++ bytes_of s rs) ≡ suc (length o) + length (bytes_of s rs) = length-append (opcode s r.role ∷ o) (bytes_of s rs) in
    let first : f 0 ≡ base + 0 = h 0 in
    one_inside (f 0) o (patches_by (λ i. f (suc i)) rs) n k.leads (λ b. branch-operand k b) (omega arith)
    (inside-rows s (base + suc (length o)) (λ i. f (suc i)) l (λ i. let q : f (suc i) ≡ base + (suc (length o) + place_at rs i) = h (suc i) in omega arith) n (omega arith))

-- ---- the place behind a branch, by its patch

aimed-branch : {Λ : ℕ → ℕ} {g l : ℕ} {b : Bool} {a : Option ℕ} → Leads Λ g b a → a ≡ some l → b ≡ true
aimed-branch nowhere e = never (cc)
aimed-branch (to p) e = refl

pub row_next : {Λ : ℕ → ℕ} {D e : ℕ} {rs : List Row} → Linked Λ D rs e → (i l : ℕ) (r : Row) → row_of rs i ≡ some r → r.aim ≡ some l → place_at rs i + (length r.operand - 1) + 2 ≡ place_at rs (suc i)
unfolding row_of place_at
row_next finished i l r p a = never (cc)
row_next (follows {r = q} {rs = rs} k f x) zero l r p a =
    let same : q ≡ r = some_is p in
    let w = branch-operand k (aimed-branch k.leads (ap (λ (y : Row). y.aim) same ∙ a)) in
    let z = place-first rs in
    subst (λ (y : Row). 0 + (length y.operand - 1) + 2 ≡ suc (length q.operand) + place_at rs 0) same (omega arith)
row_next (follows k f x) (suc i) l r p a = let n = row_next x i l r p a in omega arith
