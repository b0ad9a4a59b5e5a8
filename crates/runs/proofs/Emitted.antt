-- What every call keeps of the emitter: its bytes are linked rows, its labels are bound where their heights stand, its patches are the rows'.
use Prim.Native.Nat.{ℕ, ◌+◌, ◌-◌, suc, zero, max, ◌≤◌, ◌<◌, zero-le, suc-le-suc}
use mathlib.Core.Path.{◌≡◌, refl, sym, ◌∙◌, ap, subst}
use mathlib.Core.List.{List, [], ◌∷◌, ◌++◌, append_assoc, append-nil}
use mathlib.Core.Bool.{Bool, true, false}
use mathlib.Core.Option.{Option, some, none}
use lib.Dec.{eqb}
use borrow.Author.Tests.{leb-true, ltb-true}
use lib.ListN.{length, get_or, set, take, drop, length-append, length-set}
use lib.Seq.{take-append_seam, drop-append_seam, get_or-set_same}
use native.Mathlib.Omega.{arith}
use native.Mathlib.Nat.{le-max_left, le-max_right, not-suc-le-zero}
use Rattle.definition.specs.Limits.{max_code}
use Rattle.definition.specs.Res.{ok}
use Rattle.definition.specs.Opcode.{Role, CompareOp, Sheet, opcode, comparison_byte, dup, load_var, store_var, load_const, jmp, jmp_if_not, cmp_br, down, effect, shift, needs, size, flow, traits_of, traits}
use Rattle.definition.specs.Tree.{Pos, Block}
use Rattle.definition.specs.Emit.{le16, Emitter, emitter_at, Last, other, loaded, stored, LineEntry, PendingPatch, added, add, folded, fold_store, load_after, with_constant, pooled_if, pooled, patched, labelled, settled, branch, act, acts, Call, create_label, bind_label, load_variable, store_variable, load_constant, add_constant, emit_opcode, emit_jmp, emit_jmp_if_not, emit_cmp_br, reset_stack_depth, set_position, refused}
use Rattle.definition.specs.Walk.{next}
use Rattle.definition.specs.Stmt.{emit_stmts}
use Rattle.field.proofs.Results.{never, ok-demand, ok-bind, ok-is}
use Rattle.runs.proofs.Heights.{falls, Stops, Held, Holds, aim, Step, Safe, ends, goes, Jumps, this, later, Bound, here, there}
use Rattle.runs.proofs.Emission.{program-sound, Nobody}
use Rattle.definition.specs.Claims.{Either, left, right, branches, Each, empty, ◌also◌}
use Rattle.runs.proofs.Rows.{Row, next-height, bytes_of, place_at, height-at, first-height, first-snoc, patch_here, patches_by, Leads, nowhere, to, RowOk, Compared, each_append, each-front, Linked, finished, bytes-snoc, place_end, height-end, place-snoc, height-snoc, patches-snoc, linked-snoc, linked-init, linked-mono}

pub add_ok : (s : Sheet) (r : Role) (o : List ℕ) (l : Last) (e e' : Emitter) → add s r o l e ≡ ok e'
    → (xs : List LineEntry) × (e' ≡ added s r o l xs e) × (length e.bytecode + suc (length o) ≤ max_code)
unfolding add
add_ok s r o l e e' p =
    let d = ok-demand _ _ _ _ e' p in
    let q = ok-bind _ _ e' d.1 in
    (q.0, ok-is q.2, leb-true _ _ d.0)

-- ---- the invariant

-- a label's place is a row's, or the end's, where that height stands
pub record Stands (rows : List Row) (h p g : ℕ) : Type 0 where
  pub index : ℕ
  pub within : index ≤ length rows
  pub place : p ≡ place_at rows index
  pub height : height-at rows h index ≡ g

pub record Labels (Λ : ℕ → ℕ) (ls : List (Option ℕ)) (rows : List Row) (h : ℕ) : Type 0 where
  pub stands : (l p : ℕ) → get_or ls l none ≡ some p → Stands rows h p (Λ l)

-- after a store into which a load may fold, its row is the last, and no label stands behind it
pub record LastStore (Λ : ℕ → ℕ) (ls : List (Option ℕ)) (rows : List Row) : Type 0 where
  pub front : List Row
  pub row : Row
  pub split : rows ≡ front ++ (row ∷ [])
  pub role : row.role ≡ store_var
  pub aim : row.aim ≡ none
  pub labels : Labels Λ ls front row.height

-- what a folding asks of the last instruction: its value is there, or it is the store
pub data Track (Λ : ℕ → ℕ) (ls : List (Option ℕ)) (rows : List Row) (h : ℕ) : Last → Type 0 where
  free : Track Λ ls rows h other
  value : {v : ℕ} → 1 ≤ h → Track Λ ls rows h (loaded v)
  store : {v : ℕ} → LastStore Λ ls rows → Track Λ ls rows h (stored v)

pub record Inv (Λ : ℕ → ℕ) (s : Sheet) (h : ℕ) (code : List ℕ) (ls : List (Option ℕ)) (ps : List PendingPatch) (last : Last) (D : ℕ) : Type 0 where
  pub rows : List Row
  pub bytes : code ≡ bytes_of s rows
  pub linked : Linked Λ D rows h
  pub labels : Labels Λ ls rows h
  pub track : Track Λ ls rows h last
  pub patches : ps ≡ patches_by (λ i. place_at rows i) rows
  pub short : length code ≤ max_code
  pub first : first-height rows h ≡ 0
  pub known : Each (λ r. Compared s r) rows

-- of an emitter that tracks the depth d, has these labels, and branches to labels of J only
pub record Kept (Λ : ℕ → ℕ) (J : ℕ → Type 0) (s : Sheet) (h d : ℕ) (ls : List (Option ℕ)) (e : Emitter) : Type 0 where
  pub inv : Inv Λ s h e.bytecode e.labels e.patches e.last e.max_depth
  pub depth : e.depth ≡ d
  pub table : e.labels ≡ ls
  pub jumps : Each (λ (p : PendingPatch). J p.label) e.patches

unfoldable pub row_for : Role → List ℕ → ℕ → Option ℕ → Row
row_for r o h a = record { role = r; operand = o; height = h; aim = a }

-- a byte put before the last three
pub fold-bytes : (F W c : List ℕ) (x : ℕ) → c ≡ F ++ W → length W ≡ 3 → take (length c - 3) c ++ (x ∷ drop (length c - 3) c) ≡ F ++ (x ∷ W)
fold-bytes F W c x p q =
    let n : length c - 3 ≡ length F = omega (arith, ap length p ∙ length-append F W) in
    ap (λ m. take m c ++ (x ∷ drop m c)) n ∙ (ap (λ b. take (length F) b ++ (x ∷ drop (length F) b)) p
    ∙ (ap (λ a. a ++ (x ∷ drop (length F) (F ++ W))) (take-append_seam F W) ∙ ap (λ b. F ++ (x ∷ b)) (drop-append_seam F W)))

down-suc : (g h : ℕ) → 1 ≤ g → h ≡ shift down g → g ≡ suc h
unfolding shift
down-suc zero h le q = absurd (not-suc-le-zero le)
down-suc (suc g) h le q = ap suc (sym q)

get_d-grown : (ls : List (Option ℕ)) (l : ℕ) → get_or (ls ++ (none ∷ [])) l none ≡ get_or ls l none
get_d-grown [] zero = refl
get_d-grown [] (suc l) = refl
get_d-grown (x ∷ xs) zero = refl
get_d-grown (x ∷ xs) (suc l) = get_d-grown xs l

set_cases : (ls : List (Option ℕ)) (l x m p : ℕ) → get_or (set ls l (some x)) m none ≡ some p → Either ((m ≡ l) × (p ≡ x)) (get_or ls m none ≡ some p)
set_cases [] l x m p e = right e
set_cases (y ∷ ys) zero x zero p e = left (refl, cc)
set_cases (y ∷ ys) zero x (suc m) p e = right e
set_cases (y ∷ ys) (suc l) x zero p e = right e
set_cases (y ∷ ys) (suc l) x (suc m) p e = elim (set_cases ys l x m p e) [ left q ↦ left (ap suc q.0, q.1) | right q ↦ right q ]

-- ---- one call

labels-snoc : {Λ : ℕ → ℕ} {ls : List (Option ℕ)} {rs : List Row} (r : Row) (h : ℕ) → Labels Λ ls rs r.height → Labels Λ ls (rs ++ (r ∷ [])) h
labels-snoc {rs = rs} r h b = record {
  stands = λ l p e.
      let x = b.stands l p e in
      record {
        index = x.index;
        within = omega (arith, length-append rs (r ∷ []));
        place = x.place ∙ sym (place-snoc rs r x.index x.within);
        height = height-snoc rs r h x.index x.within ∙ x.height;
      };
}

grown : {Λ : ℕ → ℕ} {ls : List (Option ℕ)} {rs : List Row} {h : ℕ} → Labels Λ ls rs h → Labels Λ (ls ++ (none ∷ [])) rs h
grown {ls = ls} b = record { stands = λ l p e. b.stands l p (sym (get_d-grown ls l) ∙ e) }

grown-track : {Λ : ℕ → ℕ} {ls : List (Option ℕ)} {rs : List Row} {h : ℕ} {x : Last} → Track Λ ls rs h x → Track Λ (ls ++ (none ∷ [])) rs h x
grown-track free = free
grown-track (value t) = value t
grown-track (store t) = store (record { front = t.front; row = t.row; split = t.split; role = t.role; aim = t.aim; labels = grown t.labels })

module _ {Λ : ℕ → ℕ} {s : Sheet} where
  -- an instruction more, with its patch
  added-inv : {code : List ℕ} {ls : List (Option ℕ)} {ps : List PendingPatch} {last : Last} {D : ℕ} (r : Row) (h' : ℕ) (l : Last) → (i : Inv Λ s r.height code ls ps last D) → RowOk Λ (max D (next-height r)) r → Compared s r
      → (falls (flow r.role) ≡ true → h' ≡ next-height r) → Track Λ ls (i.rows ++ (r ∷ [])) h' l → length code + suc (length r.operand) ≤ max_code
      → Inv Λ s h' (code ++ (opcode s r.role ∷ r.operand)) ls (ps ++ patch_here r.aim (length code) r.operand) l (max D (next-height r))
  added-inv {code = code} {ls = ls} {D = D} r h' l i k cmp f t m = record {
    rows = i.rows ++ (r ∷ []);
    bytes = ap (λ c. c ++ (opcode s r.role ∷ r.operand)) i.bytes ∙ sym (bytes-snoc s i.rows r);
    linked = linked-snoc r h' (linked-mono (le-max_left D (next-height r)) i.linked) k f;
    labels = labels-snoc r h' i.labels;
    track = t;
    patches = ap (λ x. x ++ patch_here r.aim (length code) r.operand) i.patches
        ∙ (ap (λ x. patches_by (λ j. place_at i.rows j) i.rows ++ patch_here r.aim (length x) r.operand) i.bytes ∙ sym (patches-snoc s i.rows r));
    short = omega (arith, length-append code (opcode s r.role ∷ r.operand));
    first = first-snoc i.rows r h' ∙ i.first;
    known = each_append i.known (cmp also empty);
  }

  -- DUP before the store that is last
  folded-inv : {code : List ℕ} {ls : List (Option ℕ)} {ps : List PendingPatch} {last : Last} {D h : ℕ} (i : Inv Λ s h code ls ps last D) → LastStore Λ ls i.rows → length code < max_code
      → Inv Λ s (suc h) (take (length code - 3) code ++ (opcode s dup ∷ drop (length code - 3) code)) ls ps other (max D (suc (suc h)))
  unfolding next-height needs effect flow size traits traits_of shift falls branches Stops row_for patch_here
  folded-inv {code = code} {ls = ls} {D = D} {h = h} i t m =
      let w : Row = t.row in
      let g : ℕ = w.height in
      let two : Row = row_for dup [] g none in
      let one : Row = row_for store_var w.operand (suc g) none in
      let low : D ≤ max D (suc (suc h)) = le-max_left D (suc (suc h)) in
      let high : suc (suc h) ≤ max D (suc (suc h)) = le-max_right D (suc (suc h)) in
      let k = linked-init t.front w h (subst (λ x. Linked Λ D x h) t.split i.linked) in
      let there : 1 ≤ g = subst (λ x. needs x ≤ g) t.role k.1.enough in
      let lead : h ≡ shift down g = subst (λ x. falls (flow x) ≡ true → h ≡ shift (effect x) g) t.role k.2 refl in
      let less : g ≡ suc h = down-suc g h there lead in
      let three : suc (length w.operand) ≡ 3 = k.1.sized ∙ ap size t.role in
      let F : List ℕ = bytes_of s t.front in
      let W : List ℕ = opcode s store_var ∷ w.operand in
      let c : code ≡ F ++ W = i.bytes ∙ (ap (λ x. bytes_of s x) t.split ∙ (bytes-snoc s t.front w ∙ ap (λ x. F ++ (opcode s x ∷ w.operand)) t.role)) in
      let new : take (length code - 3) code ++ (opcode s dup ∷ drop (length code - 3) code) ≡ F ++ (opcode s dup ∷ W) = fold-bytes F W code (opcode s dup) c three in
      record {
        rows = (t.front ++ (two ∷ [])) ++ (one ∷ []);
        bytes = new ∙ sym (bytes-snoc s (t.front ++ (two ∷ [])) one ∙ (ap (λ x. x ++ W) (bytes-snoc s t.front two) ∙ append_assoc F (opcode s dup ∷ []) W));
        linked = linked-snoc one (suc h) (linked-snoc two (suc g) (linked-mono low k.0)
            (record { sized = refl; enough = there; low = omega arith; leads = nowhere; stops = λ x. absurd x }) (λ x. refl))
            (record { sized = three; enough = suc-le-suc zero-le; low = omega arith; leads = nowhere; stops = λ x. absurd x }) (λ x. sym less);
        labels = labels-snoc one (suc h) (labels-snoc two (suc g) t.labels);
        track = free;
        patches = i.patches ∙ (ap (λ x. patches_by (λ j. place_at x j) x) t.split ∙ (patches-snoc s t.front w ∙ (ap (λ x. patches_by (λ j. place_at t.front j) t.front ++ patch_here x (length F) w.operand) t.aim
            ∙ sym (patches-snoc s (t.front ++ (two ∷ [])) one ∙ (append-nil _ ∙ patches-snoc s t.front two)))));
        short = omega (arith, ap length new, ap length c, length-append F W, length-append F (opcode s dup ∷ W));
        first = first-snoc (t.front ++ (two ∷ [])) one (suc h) ∙ (first-snoc t.front two (suc g) ∙ (sym (first-snoc t.front w h) ∙ (ap (λ x. first-height x h) (sym t.split) ∙ i.first)));
        known = each_append (each_append (each-front t.front (w ∷ []) (subst (λ x. Each (λ r. Compared s r) x) t.split i.known)) ((λ q. never (cc)) also empty)) ((λ q. never (cc)) also empty);
      }

  set-labels : {h : ℕ} {ps : List PendingPatch} {last : Last} {code : List ℕ} {ls : List (Option ℕ)} {D : ℕ} (i : Inv Λ s h code ls ps last D) (l : ℕ) → Λ l ≡ h → Labels Λ (set ls l (some (length code))) i.rows h
  set-labels {h = h} {code = code} {ls = ls} i l t = record {
    stands = λ m p q. elim (set_cases ls l (length code) m p q) [
      | left x ↦ record {
        index = length i.rows;
        within = omega arith;
        place = x.1 ∙ (ap length i.bytes ∙ place_end s i.rows);
        height = height-end i.rows h ∙ (sym t ∙ ap Λ (sym x.0));
      }
      | right x ↦ i.labels.stands m p x
    ];
  }

each_snoc : {A : Type 0} {P : A → Type 0} {xs : List A} {x : A} → Each P xs → P x → Each P (xs ++ (x ∷ []))
each_snoc empty q = q also empty
each_snoc (p also ps) q = p also each_snoc ps q

module _ {Λ : ℕ → ℕ} {J : ℕ → Type 0} {s : Sheet} where
  moves-to : {h d h' d' : ℕ} {ls : List (Option ℕ)} {e : Emitter} → h ≡ h' → d ≡ d' → Kept Λ J s h d ls e → Kept Λ J s h' d' ls e
  moves-to {h = h} {d' = d'} {ls = ls} {e = e} p q k = subst (λ x. Kept Λ J s x d' ls e) p (subst (λ x. Kept Λ J s h x ls e) q k)

  becomes : {h d : ℕ} {ls : List (Option ℕ)} {e e' : Emitter} → ok e ≡ ok e' → Kept Λ J s h d ls e → Kept Λ J s h d ls e'
  becomes {h = h} {d = d} {ls = ls} q k = subst (λ x. Kept Λ J s h d ls x) (sym (ok-is q)) k

  -- an instruction that is no branch
  add_kept : {h d : ℕ} {ls : List (Option ℕ)} (r : Role) (o : List ℕ) (l : Last) (e e' : Emitter) (k : Kept Λ J s h d ls e) → d ≡ h → suc (length o) ≡ size r → needs r ≤ h → branches (flow r) ≡ false → (Stops (flow r) → h ≡ 0)
      → Track Λ e.labels (k.inv.rows ++ (row_for r o h none ∷ [])) (shift (effect r) h) l → add s r o l e ≡ ok e' → Kept Λ J s (shift (effect r) h) (shift (effect r) h) ls e'
  unfolding added row_for next-height patch_here branches flow traits traits_of
  add_kept {h = h} {ls = ls} r o l e e' k dh z n b st t p =
      let q = add_ok s r o l e e' p in
      let x : e.depth ≡ h = k.depth ∙ dh in
      let i = added-inv (row_for r o h none) (shift (effect r) h) l k.inv
      (record { sized = z; enough = n; low = le-max_right e.max_depth (shift (effect r) h); leads = subst (λ c. Leads Λ (shift (effect r) h) c none) (sym b) nowhere; stops = st }) (λ c. let z : branches (flow cmp_br) ≡ false = ap (λ x. branches (flow x)) (sym c) ∙ b in never (cc)) (λ c. refl) t q.2 in
      subst (λ y. Kept Λ J s (shift (effect r) h) (shift (effect r) h) ls y) (sym q.1) (record {
        inv = subst (λ y. Inv Λ s (shift (effect r) h) (e.bytecode ++ (opcode s r ∷ o)) e.labels y l (max e.max_depth (shift (effect r) e.depth))) (append-nil e.patches)
            (subst (λ y. Inv Λ s (shift (effect r) h) (e.bytecode ++ (opcode s r ∷ o)) e.labels (e.patches ++ []) l (max e.max_depth (shift (effect r) y))) (sym x) i);
        depth = ap (λ y. shift (effect r) y) x;
        table = k.table;
        jumps = k.jumps;
      })

  -- a branch and its patch; behind it h' may stand
  branch_kept : {h d : ℕ} {ls : List (Option ℕ)} (r : Role) (o : List ℕ) (delta m h' : ℕ) (e e' : Emitter) → Kept Λ J s h d ls e → (r ≡ cmp_br → (c : CompareOp) × (get_or (o ++ le16 0) 0 0 ≡ comparison_byte s c)) → J m → d ≡ h → suc (length (o ++ le16 0)) ≡ size r → delta ≡ length (o ++ le16 0) - 1 → needs r ≤ h
      → branches (flow r) ≡ true → (Stops (flow r) → ⊥) → Λ m ≡ shift (effect r) h → (falls (flow r) ≡ true → h' ≡ shift (effect r) h) → branch s r o delta m e ≡ ok e' → Kept Λ J s h' (shift (effect r) h) ls e'
  unfolding branch added patched row_for next-height patch_here
  branch_kept {h = h} {ls = ls} r o delta m h' e e' k cmp j dh z dl n b st am f p =
      let a = ok-bind _ _ e' p in
      let q = add_ok s r (o ++ le16 0) other e a.0 a.1 in
      let x : e.depth ≡ h = k.depth ∙ dh in
      let i = added-inv (row_for r (o ++ le16 0) h (some m)) h' other k.inv
      (record { sized = z; enough = n; low = le-max_right e.max_depth (shift (effect r) h); leads = subst (λ c. Leads Λ (shift (effect r) h) c (some m)) (sym b) (to am); stops = λ c. absurd (st c) }) cmp f free q.2 in
      let P : ℕ → PendingPatch = λ y. record { instruction_offset = length e.bytecode; operand_delta = y; label = m } in
      becomes (ap (λ y. ok (patched (P delta) y)) (sym q.1) ∙ a.2) (record {
        inv = subst (λ y. Inv Λ s h' (e.bytecode ++ (opcode s r ∷ (o ++ le16 0))) e.labels (e.patches ++ (P y ∷ [])) other (max e.max_depth (shift (effect r) e.depth))) (sym dl)
            (subst (λ y. Inv Λ s h' (e.bytecode ++ (opcode s r ∷ (o ++ le16 0))) e.labels (e.patches ++ (P (length (o ++ le16 0) - 1) ∷ [])) other (max e.max_depth (shift (effect r) y))) (sym x) i);
        depth = ap (λ y. shift (effect r) y) x;
        table = k.table;
        jumps = each_snoc k.jumps j;
      })

  load_kept : {h d : ℕ} {ls : List (Option ℕ)} (v : ℕ) (e e' : Emitter) (k : Kept Λ J s h d ls e) (x : Last) → Track Λ e.labels k.inv.rows h x → d ≡ h → load_after x s v e ≡ ok e' → Kept Λ J s (suc h) (suc h) ls e'
  unfolding load_after needs effect size flow traits traits_of shift fold_store folded branches Stops le16
  load_kept v e e' k other free d p = add_kept load_var (le16 v) (loaded v) e e' k d refl zero-le refl (λ x. absurd x) (value (suc-le-suc zero-le)) p
  load_kept {h = h} {ls = ls} v e e' k (loaded w) (value t) d p =
      (elim (eqb w v) as (λ b. elim b [ true ↦ add s dup [] other e | false ↦ add s load_var (le16 v) (loaded v) e ] ≡ ok e' → Kept Λ J s (suc h) (suc h) ls e') [
        | true ↦ λ q. add_kept dup [] other e e' k d refl t refl (λ x. absurd x) free q
        | false ↦ λ q. add_kept load_var (le16 v) (loaded v) e e' k d refl zero-le refl (λ x. absurd x) (value (suc-le-suc zero-le)) q
      ]) p
  load_kept {h = h} {ls = ls} v e e' k (stored w) (store t) d p =
      (elim (eqb w v) as (λ b. elim b [ true ↦ fold_store s e | false ↦ add s load_var (le16 v) (loaded v) e ] ≡ ok e' → Kept Λ J s (suc h) (suc h) ls e') [
        | true ↦ λ q. let m = ok-demand _ _ _ _ e' q in let x : e.depth ≡ h = k.depth ∙ d in becomes m.1 (record {
          inv = subst (λ y. Inv Λ s (suc h) (take (length e.bytecode - 3) e.bytecode ++ (opcode s dup ∷ drop (length e.bytecode - 3) e.bytecode)) e.labels e.patches other (max e.max_depth (suc (suc y)))) (sym x)
              (folded-inv k.inv t (ltb-true _ _ m.0));
          depth = ap suc x;
          table = k.table;
          jumps = k.jumps;
        })
        | false ↦ λ q. add_kept load_var (le16 v) (loaded v) e e' k d refl zero-le refl (λ x. absurd x) (value (suc-le-suc zero-le)) q
      ]) p

  -- the pool plays no part
  pool-kept : {h d : ℕ} {ls : List (Option ℕ)} (b : Bool) (k : ℕ) (e e' : Emitter) → Kept Λ J s h d ls e → pooled_if b k e ≡ ok e' → Kept Λ J s h d ls e'
  unfolding pooled_if with_constant
  pool-kept true k e e' i p = becomes p i
  pool-kept false k e e' i p = becomes (ok-demand _ _ _ _ e' p).1 (record { inv = i.inv; depth = i.depth; table = i.table; jumps = i.jumps })

-- what a call makes of the label table, where the code has the length `at`
unfoldable pub relabelled : Call → ℕ → List (Option ℕ) → List (Option ℕ)
relabelled (create_label h) at ls = ls ++ (none ∷ [])
relabelled (bind_label l) at ls = set ls l (some at)
relabelled (load_variable v) at ls = ls
relabelled (store_variable v) at ls = ls
relabelled (load_constant k) at ls = ls
relabelled (add_constant k) at ls = ls
relabelled (emit_opcode r) at ls = ls
relabelled (emit_jmp l) at ls = ls
relabelled (emit_jmp_if_not l) at ls = ls
relabelled (emit_cmp_br c v k l) at ls = ls
relabelled (reset_stack_depth h) at ls = ls
relabelled (set_position p) at ls = ls
relabelled (refused f) at ls = ls

module _ {Λ : ℕ → ℕ} {J : ℕ → Type 0} {s : Sheet} where
  -- every call keeps the invariant
  act-kept : {h d h' d' : ℕ} {ls : List (Option ℕ)} (c : Call) → ((l : ℕ) → aim c ≡ some l → J l) → (e e' : Emitter) → Kept Λ J s h d ls e → Step Λ c h d h' d' → act s c e ≡ ok e' → Kept Λ J s h' d' (relabelled c (length e.bytecode) ls) e'
  unfolding act aim Step relabelled needs effect size flow traits traits_of shift falls branches Stops labelled settled pooled row_for le16
  act-kept {h = h} {d = d} (create_label g) j e e' k t p = becomes (ok-demand _ _ _ _ e' p).1 (moves-to t.0 t.1 (record {
    inv = record { rows = k.inv.rows; bytes = k.inv.bytes; linked = k.inv.linked; labels = grown k.inv.labels; track = grown-track k.inv.track; patches = k.inv.patches; short = k.inv.short; first = k.inv.first; known = k.inv.known };
    depth = k.depth;
    table = ap (λ x. x ++ (none ∷ [])) k.table;
    jumps = k.jumps;
  }))
  act-kept (bind_label l) j e e' k t p = becomes p (moves-to t.0 t.1 (record {
    inv = record { rows = k.inv.rows; bytes = k.inv.bytes; linked = k.inv.linked; labels = set-labels k.inv l t.2; track = free; patches = k.inv.patches; short = k.inv.short; first = k.inv.first; known = k.inv.known };
    depth = k.depth;
    table = ap (λ x. set x l (some (length e.bytecode))) k.table;
    jumps = k.jumps;
  }))
  act-kept (load_variable v) j e e' k t p = moves-to (sym t.1) (sym t.2) (load_kept v e e' k e.last k.inv.track (sym t.0) p)
  act-kept {h = h} (store_variable v) j e e' k t p = moves-to (ap (λ x. shift down x) t.1) (ap (λ x. shift down x) t.1 ∙ sym t.2)
      (add_kept store_var (le16 v) (stored v) e e' k (sym t.0) refl (subst (λ x. 1 ≤ x) (sym t.1) (suc-le-suc zero-le)) refl (λ x. absurd x)
      (store (record { front = k.inv.rows; row = row_for store_var (le16 v) h none; split = refl; role = refl; aim = refl; labels = k.inv.labels })) p)
  act-kept (load_constant c) j e e' k t p =
      let b = ok-bind _ _ e' p in
      moves-to (sym t.1) (sym t.2) (add_kept load_const _ other b.0 e' (pool-kept _ c e b.0 k b.1) (sym t.0) refl zero-le refl (λ x. absurd x) free b.2)
  act-kept (add_constant c) j e e' k t p = moves-to t.0 t.1 (pool-kept _ c e e' k p)
  act-kept (emit_opcode r) j e e' k t p = moves-to (sym t.1) (sym t.1 ∙ sym t.2)
      (add_kept r [] other e e' k (sym t.0) (sym t.3.size) t.3.enough t.3.plain t.3.stops free p)
  act-kept {h' = h'} (emit_jmp l) j e e' k t p = moves-to refl (t.0 ∙ t.1)
      (branch_kept jmp [] 1 l h' e e' k (λ x. never (cc)) (j l refl) (sym t.0) refl refl zero-le refl (λ x. x) t.2 (λ x. never (cc)) p)
  act-kept {h' = h'} (emit_jmp_if_not l) j e e' k t p = moves-to refl (ap (λ x. shift down x) t.1 ∙ sym t.2)
      (branch_kept jmp_if_not [] 1 l h' e e' k (λ x. never (cc)) (j l refl) (sym t.0) refl refl (subst (λ x. 1 ≤ x) (sym t.1) (suc-le-suc zero-le)) refl (λ x. x)
      (t.3 ∙ sym (ap (λ x. shift down x) t.1)) (λ x. sym (ap (λ y. shift down y) t.1)) p)
  act-kept {h' = h'} (emit_cmp_br c v m l) j e e' k t p =
      let b = ok-bind _ _ e' p in
      moves-to refl (sym t.2) (branch_kept cmp_br _ 6 l h' b.0 e' (pool-kept _ m e b.0 k b.1) (λ x. (c, refl)) (j l refl) (sym t.0) refl refl zero-le refl (λ x. x) t.3 (λ x. t.1) b.2)
  act-kept (reset_stack_depth x) j e e' k t p = becomes p (moves-to t.0 (sym t.1) (record { inv = k.inv; depth = refl; table = k.table; jumps = k.jumps }))
  act-kept (set_position x) j e e' k t p = becomes p (moves-to t.0 t.1 (record { inv = k.inv; depth = k.depth; table = k.table; jumps = k.jumps }))
  act-kept (refused f) j e e' k t p = never (cc)

-- ---- the label table

-- a label that is bound
pub record Placed (ls : List (Option ℕ)) (l : ℕ) : Type 0 where
  pub place : ℕ
  pub is : get_or ls l none ≡ some place

set-placed : (ls : List (Option ℕ)) (m x l : ℕ) → Placed ls l → Placed (set ls m (some x)) l
set-placed [] m x l p = p
set-placed (y ∷ ys) zero x zero p = record { place = x; is = refl }
set-placed (y ∷ ys) zero x (suc l) p = record { place = p.place; is = p.is }
set-placed (y ∷ ys) (suc m) x zero p = record { place = p.place; is = p.is }
set-placed (y ∷ ys) (suc m) x (suc l) p = let q = set-placed ys m x l (record { place = p.place; is = p.is }) in record { place = q.place; is = q.is }

stays : (c : Call) (at : ℕ) (ls : List (Option ℕ)) (l : ℕ) → Placed ls l → Placed (relabelled c at ls) l
unfolding relabelled
stays (create_label h) at ls l p = record { place = p.place; is = get_d-grown ls l ∙ p.is }
stays (bind_label m) at ls l p = set-placed ls m at l p
stays (load_variable v) at ls l p = p
stays (store_variable v) at ls l p = p
stays (load_constant k) at ls l p = p
stays (add_constant k) at ls l p = p
stays (emit_opcode r) at ls l p = p
stays (emit_jmp m) at ls l p = p
stays (emit_jmp_if_not m) at ls l p = p
stays (emit_cmp_br c v k m) at ls l p = p
stays (reset_stack_depth h) at ls l p = p
stays (set_position q) at ls l p = p
stays (refused f) at ls l p = p

pub count : (c : Call) (at : ℕ) (ls : List (Option ℕ)) → length (relabelled c at ls) ≡ next c (length ls)
unfolding relabelled next
count (create_label h) at ls = omega (arith, length-append ls (none ∷ []))
count (bind_label l) at ls = length-set ls l (some at)
count (load_variable v) at ls = refl
count (store_variable v) at ls = refl
count (load_constant k) at ls = refl
count (add_constant k) at ls = refl
count (emit_opcode r) at ls = refl
count (emit_jmp l) at ls = refl
count (emit_jmp_if_not l) at ls = refl
count (emit_cmp_br c v k l) at ls = refl
count (reset_stack_depth h) at ls = refl
count (set_position p) at ls = refl
count (refused f) at ls = refl

-- ---- some calls

pub record Acted (Λ : ℕ → ℕ) (J : ℕ → Type 0) (s : Sheet) (cs : List Call) (h : ℕ) (ls : List (Option ℕ)) (e : Emitter) : Type 0 where
  pub inv : Inv Λ s h e.bytecode e.labels e.patches e.last e.max_depth
  pub stay : (l : ℕ) → Placed ls l → Placed e.labels l
  pub binds : (l : ℕ) → Bound l (length ls) cs → Placed e.labels l
  pub jumps : Each (λ (p : PendingPatch). J p.label) e.patches

acts-kept : {Λ : ℕ → ℕ} {J : ℕ → Type 0} {s : Sheet} {cs : List Call} {h d h' d' : ℕ} {ls : List (Option ℕ)} (e e' : Emitter) → ((l : ℕ) → Jumps l cs → J l) → Kept Λ J s h d ls e → Safe Λ cs h d h' d' → acts s cs e ≡ ok e' → Acted Λ J s cs h' ls e'
unfolding acts relabelled
acts-kept {Λ = Λ} {J = J} {s = s} {ls = ls} e e' j k (ends {h = h} {d = d}) p =
    let q : Kept Λ J s h d ls e' = becomes p k in
    record { inv = q.inv; stay = λ l x. subst (λ y. Placed y l) (sym q.table) x; binds = λ l b. elim b [ ]; jumps = q.jumps }
acts-kept {Λ = Λ} {J = J} {s = s} {h' = h'} {ls = ls} e e' j k (goes {c = c} {cs = cs} t r) p =
    let b = ok-bind (act s c e) (λ x. acts s cs x) e' p in
    let a = acts-kept b.0 e' (λ l q. j l (later q)) (act-kept c (λ l q. j l (this q)) e b.0 k t b.1) r b.2 in
    record { inv = a.inv; stay = λ l x. a.stay l (stays c (length e.bytecode) ls l x); binds = λ l x. bound c cs (length e.bytecode) a l x; jumps = a.jumps }
  where
    bound : (c : Call) (cs : List Call) (at : ℕ) → Acted Λ J s cs h' (relabelled c at ls) e' → (l : ℕ) → Bound l (length ls) (c ∷ cs) → Placed e'.labels l
    bound c cs at a l (here lt) = a.stay l (record { place = at; is = get_or-set_same ls l (some at) none lt })
    bound c cs at a l (there x) = a.binds l (subst (λ n. Bound l n cs) (sym (count c at ls)) x)

-- ---- a program

-- the heights that the labels were created with, in order
unfoldable pub created : List Call → ℕ → ℕ
created [] l = 0
created (create_label g ∷ cs) zero = g
created (create_label g ∷ cs) (suc l) = created cs l
created (bind_label x ∷ cs) l = created cs l
created (load_variable x ∷ cs) l = created cs l
created (store_variable x ∷ cs) l = created cs l
created (load_constant x ∷ cs) l = created cs l
created (add_constant x ∷ cs) l = created cs l
created (emit_opcode x ∷ cs) l = created cs l
created (emit_jmp x ∷ cs) l = created cs l
created (emit_jmp_if_not x ∷ cs) l = created cs l
created (emit_cmp_br a b c x ∷ cs) l = created cs l
created (reset_stack_depth x ∷ cs) l = created cs l
created (set_position x ∷ cs) l = created cs l
created (refused x ∷ cs) l = created cs l

created-holds : (cs : List Call) (n : ℕ) (Λ : ℕ → ℕ) → ((l : ℕ) → Λ (n + l) ≡ created cs l) → Holds Λ n cs
unfolding created Holds Held next
created-holds [] n Λ f = tt
created-holds (create_label g ∷ cs) n Λ f =
    (ap Λ (let q : n ≡ n + 0 = omega arith in q) ∙ f 0, created-holds cs (suc n) Λ (λ l. ap Λ (let q : suc n + l ≡ n + suc l = omega arith in q) ∙ f (suc l)))
created-holds (bind_label x ∷ cs) n Λ f = (tt, created-holds cs n Λ f)
created-holds (load_variable x ∷ cs) n Λ f = (tt, created-holds cs n Λ f)
created-holds (store_variable x ∷ cs) n Λ f = (tt, created-holds cs n Λ f)
created-holds (load_constant x ∷ cs) n Λ f = (tt, created-holds cs n Λ f)
created-holds (add_constant x ∷ cs) n Λ f = (tt, created-holds cs n Λ f)
created-holds (emit_opcode x ∷ cs) n Λ f = (tt, created-holds cs n Λ f)
created-holds (emit_jmp x ∷ cs) n Λ f = (tt, created-holds cs n Λ f)
created-holds (emit_jmp_if_not x ∷ cs) n Λ f = (tt, created-holds cs n Λ f)
created-holds (emit_cmp_br a b c x ∷ cs) n Λ f = (tt, created-holds cs n Λ f)
created-holds (reset_stack_depth x ∷ cs) n Λ f = (tt, created-holds cs n Λ f)
created-holds (set_position x ∷ cs) n Λ f = (tt, created-holds cs n Λ f)
created-holds (refused x ∷ cs) n Λ f = (tt, created-holds cs n Λ f)

pub program-holds : (b : Block) → Holds (created (emit_stmts b 0).1) 0 (emit_stmts b 0).1
program-holds b = let cs : List Call = (emit_stmts b 0).1 in created-holds cs 0 (created cs) (λ l. ap (created cs) (let z : 0 + l ≡ l = omega arith in z))

-- a program's calls are safe from height 0 to height 0
pub program-safe : (b : Block) → Safe (created (emit_stmts b 0).1) (emit_stmts b 0).1 0 0 0 0
program-safe b = (program-sound b).safe 0 (program-holds b)

-- every program that is emitted is linked rows that end at height 0
pub emitted : (s : Sheet) (b : Block) (p : Pos) (e : Emitter) → acts s (emit_stmts b 0).1 (emitter_at p) ≡ ok e
    → Acted (created (emit_stmts b 0).1) (λ l. Bound l 0 (emit_stmts b 0).1) s (emit_stmts b 0).1 0 [] e
unfolding emitter_at bytes_of patches_by first-height Nobody
emitted s b p e q =
    acts-kept (emitter_at p) e (λ l j. elim ((program-sound b).closed 0 l (program-holds b) j) [ left x ↦ absurd x | right x ↦ x ]) (record {
      inv = record { rows = []; bytes = refl; linked = finished; labels = record { stands = λ m x y. never (cc) }; track = free; patches = refl; short = zero-le; first = refl; known = empty };
      depth = refl;
      table = refl;
      jumps = empty;
    }) (program-safe b) q
