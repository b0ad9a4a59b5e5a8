-- Pending patches of the book, one by one: where their labels are bound, and their bytes written.
use Rattle.std.proofs.Common.{◌≡◌, ℕ, zero, suc, ◌+◌, ◌-◌, ◌/◌, ◌%◌, ◌^◌, ◌<◌, ◌≤◌, Bool, true, false, eqb, List, [], ◌∷◌, ◌++◌, length, get_or, take, drop, set, sym, refl, ap, ◌∙◌, subst, append_assoc, add-one, arith, length-set, take_all, take-suc-set, eqb-true}
use mathlib.Core.Option.{Option}
use mathlib.Core.List.{map-append}
use borrow.Author.Tests.{eqb-false}
use lib.Seq.{sets-eq}
use Rattle.definition.specs.Limits.{max_code, far_branch}
use Rattle.definition.specs.Res.{Res, ok, refuse, ◌>>◌, demand}
use Rattle.definition.specs.Emit as def
use Rattle.definition.specs.Emit.{le16}
use Rattle.definition.specs.Rewrite.{OffsetMap, moved_to}
use Rattle.definition.specs.Compile.{bound_label, displacement, overwrite, patch_jump, patch_jumps, near, in_reach}
use Rattle.definition.specs.Claims.{Each, empty, ◌also◌}
use Rattle.store.specs.Store as store
use Rattle.store.specs.Store.{Store, push_all}
use Rattle.store.proofs.Stores.{length-push_all}
use Rattle.optimize.specs.View.{Small}
use Rattle.emit.specs.declared.patch.PendingPatch.{PendingPatch}
use Rattle.emit.specs.Book.{patch_base, patch_size, patch_in, row, rows, patches_in}
use Rattle.emit.specs.View.{patch_view}
use Rattle.emit.proofs.Tables.{pushed-sets}
use Rattle.compile.specs.declared.Branch.{Branch}
use Rattle.compile.specs.View.{targets_of, BoundIn, Inside, IsBranch, demanded}

-- ---- what holds of each

each-front : {A : Type 0} {P : A → Type 0} (xs ys : List A) → Each P (xs ++ ys) → Each P xs
each-front [] ys e = empty
each-front (x ∷ xs) ys (p also ps) = p also each-front xs ys ps

each_last : {A : Type 0} {P : A → Type 0} (xs : List A) (x : A) → Each P (xs ++ (x ∷ [])) → P x
each_last [] x (p also ps) = p
each_last (y ∷ xs) x (p also ps) = each_last xs x ps

module _ {A : Type 0} {P : A → Type 0} (f : List ℕ → A) (base size : ℕ) (book : List ℕ) where
  by_place_lem : (n i : ℕ) → i < suc n → (i < n → P (f (row base size book i))) → Each P (rows f base size book (suc n)) → (b : Bool) → eqb i n ≡ b → P (f (row base size book i))
  unfolding rows
  by_place_lem n i h rest e true q = subst (λ (k : ℕ). P (f (row base size book k))) (sym (eqb-true i n q)) (each_last (rows f base size book n) (f (row base size book n)) e)
  by_place_lem n i h rest e false q =
      let off = eqb-false i n q in
      rest (omega arith)

  pub each_row : (n i : ℕ) → i < n → Each P (rows f base size book n) → P (f (row base size book i))
  unfolding rows
  each_row zero i h e = absurd (omega arith)
  each_row (suc n) i h e = by_place_lem n i h (λ k. each_row n i k (each-front (rows f base size book n) (f (row base size book n) ∷ []) e)) e (eqb i n) refl

-- a patch read back
pub each-patch : {P : def.PendingPatch → Type 0} {p : PendingPatch} (book : List ℕ) (n i : ℕ) → Each P (patches_in book n) → i < n → patch_view p ≡ patch_in (row patch_base patch_size book i) → P (patch_view p)
each-patch {P} book n i e h is = subst P (sym is) (each_row patch_in patch_base patch_size book n i h e)

-- ---- where their labels are bound

module _ {size : ℕ} (labels : List (Option ℕ)) where
  pub bound-small : {p : PendingPatch} {place : ℕ} → size ≤ max_code → BoundIn size labels (patch_view p) → place ≡ bound_label labels p.label.0 → place < 2 ^ 16
  bound-small few near e = omega (arith, near.is)

  small_at : (ps : List def.PendingPatch) → Each (BoundIn size labels) ps → (i : ℕ) → get_or (targets_of labels ps) i 0 < suc size
  unfolding targets_of
  small_at [] empty i = omega arith
  small_at (p ∷ ps) (n also ns) zero = omega (arith, n.is)
  small_at (p ∷ ps) (n also ns) (suc i) = small_at ps ns i

  pub small-targets : (ps : List def.PendingPatch) → Each (BoundIn size labels) ps → Small (suc size) (targets_of labels ps)
  small-targets ps e = record { at = small_at ps e }

module _ (labels : List (Option ℕ)) where
  pub record Targeting (book : List ℕ) (n : ℕ) (targets : List ℕ) (i : ℕ) : Type 0 where
    pub head : take i targets ≡ targets_of labels (patches_in book i)
    pub room : length targets ≡ n
    pub within : i ≤ n

  module _ (book : List ℕ) (n : ℕ) where
    pub target-begins : (targets : List ℕ) → length targets ≡ n → Targeting book n targets 0
    unfolding targets_of rows
    target-begins targets e = record { head = refl; room = e; within = omega arith }

    pub target-goes-on : (targets : List ℕ) (i : ℕ) {p : PendingPatch} {place v : ℕ} → Targeting book n targets i → i < length targets → patch_view p ≡ patch_in (row patch_base patch_size book i)
        → place ≡ bound_label labels p.label.0 → v ≡ place → Targeting book n (set targets i v) (i + 1)
    unfolding targets_of rows
    target-goes-on targets i {p} {place} {v} g h is at e =
        let F : def.PendingPatch → ℕ = λ q. bound_label labels q.label in
        let here : v ≡ F (patch_in (row patch_base patch_size book i)) = e ∙ at ∙ ap F is in
        record {
          head = rw (add-one i, take-suc-set targets i v h, g.head, here) (sym (map-append F (patches_in book i) (patch_in (row patch_base patch_size book i) ∷ [])));
          room = length-set targets i v ∙ g.room;
          within = omega (arith, g.room);
        }

    pub targets-end : (targets : List ℕ) (i : ℕ) → Targeting book n targets i → length targets ≤ i → targets ≡ targets_of labels (patches_in book n)
    targets-end targets i g h =
        let same : i ≡ n = omega (arith, g.room, g.within) in
        sym (take_all i targets h) ∙ g.head ∙ ap (λ (k : ℕ). targets_of labels (patches_in book k)) same

-- ---- one branch

-- two bytes put at a place
put-over : (code : List ℕ) (at d : ℕ) → at + 2 ≤ length code → (push_all (store.at code at) (le16 d)).cells ≡ overwrite at (le16 d) code
unfolding le16 overwrite
put-over code at d h =
    let two : List ℕ = d % 256 ∷ d / 256 ∷ [] in
    pushed-sets two code at h ∙ sets-eq two code at h ∙ append_assoc (take at code) two (drop (at + 2) code)

-- where the passes moved it
pub is-branch : {labels : List (Option ℕ)} {m : OffsetMap} (p : PendingPatch) {from a b place low target : ℕ} → from ≡ moved_to m p.instruction_offset → a ≡ from → b ≡ p.operand_delta
    → place ≡ bound_label labels p.label.0 → low ≡ place → target ≡ moved_to m low → IsBranch labels m (patch_view p) (record { from = from; next = a + b + 2; target = target })
is-branch {labels} {m} p e f g at l t = record { from = e; next = omega arith; target = t ∙ ap (moved_to m) (l ∙ at) }

pub same-room : (code : List ℕ) (at d : ℕ) {code' : List ℕ} {used : ℕ} → store.at code' used ≡ push_all (store.at code at) (le16 d) → length code' ≡ length code
same-room code at d put = ap (λ (s : Store). length s.cells) put ∙ length-push_all (store.at code at) (le16 d)

module _ (labels : List (Option ℕ)) (m : OffsetMap) (p : PendingPatch) (code : List ℕ) where
  pub jumped : {b : Branch} {d used : ℕ} {code' : List ℕ} → Inside m (length code) (patch_view p) → IsBranch labels m (patch_view p) b → d ≡ displacement b.target b.next
      → store.at code' used ≡ push_all (store.at code (b.next - 2)) (le16 d) → code' ≡ patch_jump labels m (patch_view p) code
  unfolding patch_jump
  jumped {b} {d} {used} {code'} inside is bits put =
      let own : b.next - 2 ≡ moved_to m p.instruction_offset + p.operand_delta = omega (arith, is.next) in
      ap (λ (s : Store). s.cells) put ∙ put-over code (b.next - 2) d (omega (arith, is.next, inside.is)) ∙ rw (bits, is.target, own, is.next)

-- ---- all of them

module _ (labels : List (Option ℕ)) (m : OffsetMap) where
  patch-more : (ps : List def.PendingPatch) (p : def.PendingPatch) (code : List ℕ) → patch_jumps labels m (ps ++ (p ∷ [])) code ≡ patch_jump labels m p (patch_jumps labels m ps code)
  unfolding patch_jumps
  patch-more [] p code = refl
  patch-more (q ∷ ps) p code = patch-more ps p (patch_jump labels m q code)

  pub record Patching (book : List ℕ) (n : ℕ) (code₀ code : List ℕ) (i : ℕ) : Type 0 where
    pub is : code ≡ patch_jumps labels m (patches_in book i) code₀
    pub room : length code ≡ length code₀
    pub within : i ≤ n

  module _ (book : List ℕ) (n : ℕ) (code₀ : List ℕ) where
    pub patch-begins : Patching book n code₀ code₀ 0
    unfolding patch_jumps rows
    patch-begins = record { is = refl; room = refl; within = omega arith }

    pub patch-goes-on : {code code' : List ℕ} {i : ℕ} {p : PendingPatch} → Patching book n code₀ code i → i < n → patch_view p ≡ patch_in (row patch_base patch_size book i)
        → code' ≡ patch_jump labels m (patch_view p) code → length code' ≡ length code → Patching book n code₀ code' (i + 1)
    unfolding rows
    patch-goes-on {code} {code'} {i} {p} g h at e long = record {
      is = e ∙ rw (at, add-one i, g.is) (sym (patch-more (patches_in book i) (patch_in (row patch_base patch_size book i)) code₀));
      room = long ∙ g.room;
      within = omega arith;
    }

    pub patch-ends : {code : List ℕ} {i : ℕ} → Patching book n code₀ code i → n ≤ i → code ≡ patch_jumps labels m (patches_in book n) code₀
    patch-ends {code} {i} g h =
        let same : i ≡ n = omega (arith, g.within) in
        g.is ∙ ap (λ (k : ℕ). patch_jumps labels m (patches_in book k) code₀) same

-- a map that moves alike patches alike
pub same-patches : (labels : List (Option ℕ)) (m n : OffsetMap) (ps : List def.PendingPatch) (code : List ℕ) → ((x : ℕ) → moved_to m x ≡ moved_to n x) → patch_jumps labels m ps code ≡ patch_jumps labels n ps code
unfolding patch_jumps patch_jump
same-patches labels m n [] code h = refl
same-patches labels m n (p ∷ ps) code h = rw (h p.instruction_offset, h (bound_label labels p.label)) (same-patches labels m n ps (patch_jump labels n p code) h)

-- ---- 15

then-assoc : {A B C : Type 0} (a : Res A) (b : Res B) (c : Res C) → (a >> (b >> c)) ≡ ((a >> b) >> c)
unfolding ◌>>◌
then-assoc (ok x) b c = refl
then-assoc (refuse n p) b c = refl

then-done : (a : Res (Unit {0})) → (a >> ok tt) ≡ a
unfolding ◌>>◌
then-done (ok u) = refl
then-done (refuse n p) = refl

module _ (labels : List (Option ℕ)) (m : OffsetMap) where
  test : def.PendingPatch → Res (Unit {0})
  test p = demand (near (moved_to m (bound_label labels p.label)) (moved_to m p.instruction_offset + p.operand_delta + 2)) far_branch (moved_to m p.instruction_offset)

  reach-more : (ps : List def.PendingPatch) (p : def.PendingPatch) → in_reach labels m (ps ++ (p ∷ [])) ≡ (in_reach labels m ps >> test p)
  unfolding in_reach test ◌>>◌
  reach-more [] p = then-done _
  reach-more (q ∷ ps) p = ap (λ (x : Res (Unit {0})). test q >> x) (reach-more ps p) ∙ then-assoc (test q) (in_reach labels m ps) (test p)

  tested-is : {p : def.PendingPatch} {b : Branch} → IsBranch labels m p b → demanded b ≡ test p
  unfolding test
  tested-is is = rw (is.from, is.next, is.target)

  reach-here : (book : List ℕ) (i : ℕ) {p : PendingPatch} {b : Branch} → in_reach labels m (patches_in book i) ≡ ok tt → patch_view p ≡ patch_in (row patch_base patch_size book i) → IsBranch labels m (patch_view p) b
      → in_reach labels m (patches_in book (suc i)) ≡ demanded b
  unfolding rows ◌>>◌
  reach-here book i r at is = reach-more (patches_in book i) (patch_in (row patch_base patch_size book i)) ∙ rw r (ap (λ (q : def.PendingPatch). test q) (sym at) ∙ sym (tested-is is))

  -- none of the first is far
  pub reach-goes-on : (book : List ℕ) (i : ℕ) {p : PendingPatch} {b : Branch} → in_reach labels m (patches_in book i) ≡ ok tt → patch_view p ≡ patch_in (row patch_base patch_size book i) → IsBranch labels m (patch_view p) b
      → near b.target b.next ≡ true → in_reach labels m (patches_in book (i + 1)) ≡ ok tt
  unfolding demand
  reach-goes-on book i {b = b} r at is k = rw (add-one i) (reach-here book i r at is ∙ rw k refl)

  -- the first that is far stays
  reach-stays : (book : List ℕ) (i k : ℕ) {n x : ℕ} → in_reach labels m (patches_in book i) ≡ refuse n x → in_reach labels m (patches_in book (k + i)) ≡ refuse n x
  unfolding rows ◌>>◌
  reach-stays book i zero r = let e : 0 + i ≡ i = omega arith in rw e r
  reach-stays book i (suc k) r = let e : suc k + i ≡ suc (k + i) = omega arith in rw e (reach-more (patches_in book (k + i)) (patch_in (row patch_base patch_size book (k + i))) ∙ rw (reach-stays book i k r) refl)

  pub reach-far : (book : List ℕ) (i n : ℕ) {p : PendingPatch} {b : Branch} → in_reach labels m (patches_in book i) ≡ ok tt → i < n → patch_view p ≡ patch_in (row patch_base patch_size book i) → IsBranch labels m (patch_view p) b
      → near b.target b.next ≡ false → refuse far_branch b.from ≡ in_reach labels m (patches_in book n)
  unfolding demand
  reach-far book i n {b = b} r lt at is k =
      let e : n ≡ (n - suc i) + suc i = omega arith in
      rw e (sym (reach-stays book (suc i) (n - suc i) (reach-here book i r at is ∙ rw k refl)))

  pub reach-begins : (book : List ℕ) → in_reach labels m (patches_in book 0) ≡ ok tt
  unfolding in_reach rows
  reach-begins book = refl

-- a map that moves alike reaches alike
pub same-reach : (labels : List (Option ℕ)) (m n : OffsetMap) (ps : List def.PendingPatch) → ((x : ℕ) → moved_to m x ≡ moved_to n x) → in_reach labels m ps ≡ in_reach labels n ps
unfolding in_reach
same-reach labels m n [] h = refl
same-reach labels m n (p ∷ ps) h = rw (h p.instruction_offset, h (bound_label labels p.label), same-reach labels m n ps h)
