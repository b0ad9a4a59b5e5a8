-- What calls do to rows and labels; and that rows before an instruction other than a store never change again.
use Prim.Native.Nat.{ℕ, ◌-◌, ◌<◌}
use mathlib.Core.Path.{◌≡◌, refl, sym, ◌∙◌, ap, subst}
use mathlib.Core.List.{List, [], ◌∷◌, ◌++◌, append_assoc, append-nil}
use mathlib.Core.Bool.{Bool, true, false}
use mathlib.Core.Option.{Option, some, none}
use native.Mathlib.Omega.{arith}
use lib.Dec.{eqb, ltb}
use lib.ListN.{length, get_or, take, drop, length-append, get_or-append}
use lib.Seq.{get_or-set_other}
use borrow.Author.Tests.{ltb-true, eq-eqb}
use Rattle.definition.specs.Limits.{max_code}
use Rattle.definition.specs.Res.{ok, ◌>>=◌}
use Rattle.definition.specs.Opcode.{Sheet, opcode, comparison_byte, dup, load_var, store_var, load_const, jmp, jmp_if_not, cmp_br, size, traits, traits_of}
use Rattle.definition.specs.Emit.{le16, Emitter, Last, other, loaded, stored, PendingPatch, add, folded, fold_store, load_after, with_constant, pooled_if, pooled, labelled, settled, index_of, act, acts, Call, create_label, bind_label, load_variable, store_variable, load_constant, add_constant, emit_opcode, emit_jmp, emit_jmp_if_not, emit_cmp_br, reset_stack_depth, set_position, refused}
use Rattle.definition.specs.Walk.{next, after}
use Rattle.definition.specs.Count.{one_if}
use Rattle.counting.proofs.Once.{OneByte, OneBytes, closes, closed, is_bind, binds}
use Rattle.field.proofs.Results.{never, ok-demand, ok-bind, ok-is}
use Rattle.runs.proofs.Heights.{next-mono}
use Rattle.runs.proofs.Emitted.{fold-bytes, relabelled, count}
use Rattle.runs.proofs.Rows.{patch_here}
use Rattle.runs.proofs.Conditions.{index-last}
use Rattle.counting.proofs.Rows.{Row, row_of, unpatched, operand_of, bytes_of, code_of, patches_of, Sized, code-append, patches-append, sized-append, sized-left, Formed, FormedBy, Adds, add-adds, branch-adds}

-- ---- the pool

-- entering a constant: the pool holds it
pub record Pools (k : ℕ) (e e' : Emitter) : Type 0 where
  pub found : index_of k e'.constants < length e'.constants
  pub bytecode : e'.bytecode ≡ e.bytecode
  pub patches : e'.patches ≡ e.patches
  pub labels : e'.labels ≡ e.labels
  pub last : e'.last ≡ e.last

pools-if : (b : Bool) (k : ℕ) (e e' : Emitter) → ltb (index_of k e.constants) (length e.constants) ≡ b → pooled_if b k e ≡ ok e' → Pools k e e'
unfolding pooled_if with_constant
pools-if true k e e' t p = subst (λ x. Pools k e x) (sym (ok-is p)) (record {
  found = ltb-true _ _ t;
  bytecode = refl;
  patches = refl;
  labels = refl;
  last = refl;
})
pools-if false k e e' t p =
    let d = ok-demand _ _ _ _ e' p in
    subst (λ x. Pools k e x) (sym (ok-is d.1)) (record {
      found = index-last k e.constants;
      bytecode = refl;
      patches = refl;
      labels = refl;
      last = refl;
    })

pools : (k : ℕ) (e e' : Emitter) → pooled k e ≡ ok e' → Pools k e e'
unfolding pooled
pools k e e' p = pools-if (ltb (index_of k e.constants) (length e.constants)) k e e' refl p

-- ---- what a call adds, where it is no load that folds

unfoldable pub rows_of : Sheet → Call → List ℕ → List Row
rows_of s (create_label h) ks = []
rows_of s (bind_label k) ks = []
rows_of s (load_variable v) ks = row_of load_var (le16 v) none ∷ []
rows_of s (store_variable v) ks = row_of store_var (le16 v) none ∷ []
rows_of s (load_constant k) ks = row_of load_const (le16 (index_of k ks)) none ∷ []
rows_of s (add_constant k) ks = []
rows_of s (emit_opcode r) ks = row_of r [] none ∷ []
rows_of s (emit_jmp l) ks = row_of jmp [] (some l) ∷ []
rows_of s (emit_jmp_if_not l) ks = row_of jmp_if_not [] (some l) ∷ []
rows_of s (emit_cmp_br c v k l) ks = row_of cmp_br (comparison_byte s c ∷ le16 v ++ le16 (index_of k ks)) (some l) ∷ []
rows_of s (reset_stack_depth h) ks = []
rows_of s (set_position p) ks = []
rows_of s (refused f) ks = []

unfoldable pub last_of : Call → Last → Last
last_of (create_label h) l = l
last_of (bind_label k) l = other
last_of (load_variable v) l = loaded v
last_of (store_variable v) l = stored v
last_of (load_constant k) l = other
last_of (add_constant k) l = l
last_of (emit_opcode r) l = other
last_of (emit_jmp k) l = other
last_of (emit_jmp_if_not k) l = other
last_of (emit_cmp_br c v k m) l = other
last_of (reset_stack_depth h) l = l
last_of (set_position p) l = l
last_of (refused f) l = other

-- the constant that a call names stands in the pool
unfoldable pub Names : Call → List ℕ → Type 0
Names (create_label h) ks = Unit {0}
Names (bind_label k) ks = Unit {0}
Names (load_variable v) ks = Unit {0}
Names (store_variable v) ks = Unit {0}
Names (load_constant k) ks = index_of k ks < length ks
Names (add_constant k) ks = Unit {0}
Names (emit_opcode r) ks = Unit {0}
Names (emit_jmp k) ks = Unit {0}
Names (emit_jmp_if_not k) ks = Unit {0}
Names (emit_cmp_br c v k m) ks = index_of k ks < length ks
Names (reset_stack_depth h) ks = Unit {0}
Names (set_position p) ks = Unit {0}
Names (refused f) ks = Unit {0}

-- does a load of v fold into the last instruction?
unfoldable pub folds_into : Last → ℕ → Bool
folds_into other v = false
folds_into (loaded w) v = eqb w v
folds_into (stored w) v = eqb w v

unfoldable pub folds : Call → Last → Bool
folds (create_label h) l = false
folds (bind_label k) l = false
folds (load_variable v) l = folds_into l v
folds (store_variable v) l = false
folds (load_constant k) l = false
folds (add_constant k) l = false
folds (emit_opcode r) l = false
folds (emit_jmp k) l = false
folds (emit_jmp_if_not k) l = false
folds (emit_cmp_br c v k m) l = false
folds (reset_stack_depth h) l = false
folds (set_position p) l = false
folds (refused f) l = false

pub record Acts (s : Sheet) (rows : List Row) (c : Call) (l : Last) (e e' : Emitter) : Type 0 where
  pub formed : FormedBy s rows e'
  pub last : e'.last ≡ l
  pub names : Names c e'.constants
  pub labels : e'.labels ≡ relabelled c (length e.bytecode) e.labels

-- an instruction that names no constant
plainly : {s : Sheet} {rows : List Row} {c : Call} {l : Last} {e e' : Emitter} → Names c e'.constants → relabelled c (length e.bytecode) e.labels ≡ e.labels → Adds s rows l e e' → Acts s rows c l e e'
plainly n q a = record {
  formed = a.formed;
  last = a.last;
  names = n;
  labels = a.labels ∙ sym q;
}

-- an instruction after its constant entered the pool
pooled-then : {s : Sheet} {rows : List Row} {c : Call} {l : Last} {e e' : Emitter} (k : ℕ) (u : Emitter) → (index_of k e'.constants < length e'.constants → Names c e'.constants) → relabelled c (length e.bytecode) e.labels ≡ e.labels
    → Pools k e u → Adds s rows l u e' → Acts s rows c l e e'
pooled-then k u n q p a = record {
  formed = a.formed;
  last = a.last;
  names = n (subst (λ ks. index_of k ks < length ks) (sym a.constants) p.found);
  labels = a.labels ∙ (p.labels ∙ sym q);
}

unpooled : {s : Sheet} {rows : List Row} {k : ℕ} {e u : Emitter} → Pools k e u → FormedBy s rows e → FormedBy s rows u
unpooled {s = s} {rows = rows} {e = e} {u = u} p f = subst (λ c. Formed s rows c u.patches) (sym p.bytecode) (subst (λ ps. Formed s rows e.bytecode ps) (sym p.patches) f)

-- nothing but labels or position
still : {s : Sheet} {rows : List Row} (c : Call) (l : Last) (e e' u : Emitter) → rows_of s c u.constants ≡ [] → FormedBy s rows u → u.last ≡ l → Names c u.constants
    → u.labels ≡ relabelled c (length e.bytecode) e.labels → ok u ≡ ok e' → Acts s (rows ++ rows_of s c e'.constants) c l e e'
still {s = s} {rows = rows} c l e e' u r f h n q p = subst (λ x. Acts s (rows ++ rows_of s c x.constants) c l e x) (sym (ok-is p)) (record {
  formed = subst (λ rs. FormedBy s rs u) (sym (ap (λ t. rows ++ t) r ∙ append-nil rows)) f;
  last = h;
  names = n;
  labels = q;
})

load-plain : (s : Sheet) (rows : List Row) (v : ℕ) (l : Last) (e e' : Emitter) → FormedBy s rows e → folds_into l v ≡ false → load_after l s v e ≡ ok e' → Adds s (rows ++ (row_of load_var (le16 v) none ∷ [])) (loaded v) e e'
unfolding load_after folds_into size traits traits_of le16
load-plain s rows v other e e' f n p = add-adds s rows load_var (le16 v) (loaded v) e e' f refl p
load-plain s rows v (loaded w) e e' f n p =
    add-adds s rows load_var (le16 v) (loaded v) e e' f refl (sym (ap (λ b. elim b [ true ↦ add s dup [] other e | false ↦ add s load_var (le16 v) (loaded v) e ]) n) ∙ p)
load-plain s rows v (stored w) e e' f n p =
    add-adds s rows load_var (le16 v) (loaded v) e e' f refl (sym (ap (λ b. elim b [ true ↦ fold_store s e | false ↦ add s load_var (le16 v) (loaded v) e ]) n) ∙ p)

pub acted : (s : Sheet) (rows : List Row) (c : Call) (e e' : Emitter) → FormedBy s rows e → OneByte c → folds c e.last ≡ false → act s c e ≡ ok e' → Acts s (rows ++ rows_of s c e'.constants) c (last_of c e.last) e e'
unfolding act rows_of last_of relabelled Names folds OneByte size traits traits_of labelled settled le16
acted s rows (create_label h) e e' f o n p = still (create_label h) e.last e e' _ refl f refl tt refl (ok-demand _ _ _ _ e' p).1
acted s rows (bind_label k) e e' f o n p = still (bind_label k) other e e' _ refl f refl tt refl p
acted s rows (load_variable v) e e' f o n p = plainly tt refl (load-plain s rows v e.last e e' f n p)
acted s rows (store_variable v) e e' f o n p = plainly tt refl (add-adds s rows store_var (le16 v) (stored v) e e' f refl p)
acted s rows (load_constant k) e e' f o n p =
    let q = ok-bind (pooled k e) _ e' p in
    let u = pools k e q.0 q.1 in
    let a = add-adds s rows load_const (le16 (index_of k q.0.constants)) other q.0 e' (unpooled u f) refl q.2 in
    subst (λ ks. Acts s (rows ++ (row_of load_const (le16 (index_of k ks)) none ∷ [])) (load_constant k) other e e') (sym a.constants) (pooled-then k q.0 (λ h. h) refl u a)
acted s rows (add_constant k) e e' f o n p =
    let u = pools k e e' p in
    record {
      formed = subst (λ rs. FormedBy s rs e') (sym (append-nil rows)) (unpooled u f);
      last = u.last;
      names = tt;
      labels = u.labels;
    }
acted s rows (emit_opcode r) e e' f o n p = plainly tt refl (add-adds s rows r [] other e e' f (sym o) p)
acted s rows (emit_jmp l) e e' f o n p = plainly tt refl (branch-adds s rows jmp [] 1 l e e' f refl refl p)
acted s rows (emit_jmp_if_not l) e e' f o n p = plainly tt refl (branch-adds s rows jmp_if_not [] 1 l e e' f refl refl p)
acted s rows (emit_cmp_br c v k l) e e' f o n p =
    let q = ok-bind (pooled k e) _ e' p in
    let u = pools k e q.0 q.1 in
    let operand : List ℕ → List ℕ = λ ks. comparison_byte s c ∷ le16 v ++ le16 (index_of k ks) in
    let a = branch-adds s rows cmp_br (operand q.0.constants) 6 l q.0 e' (unpooled u f) refl refl q.2 in
    subst (λ ks. Acts s (rows ++ (row_of cmp_br (operand ks) (some l) ∷ [])) (emit_cmp_br c v k l) other e e') (sym a.constants) (pooled-then k q.0 (λ h. h) refl u a)
acted s rows (reset_stack_depth h) e e' f o n p = still (reset_stack_depth h) e.last e e' _ refl f refl tt refl p
acted s rows (set_position p') e e' f o n p = still (set_position p') e.last e e' _ refl f refl tt refl p
acted s rows (refused x) e e' f o n p = never (cc)

-- ---- any call: rows R at the front stay

-- after a store into which a load may fold, its row is the last behind R
unfoldable pub Tail : Last → List Row → Type 0
Tail other more = Unit {0}
Tail (loaded v) more = Unit {0}
Tail (stored v) more = (front : List Row) × (more ≡ front ++ (row_of store_var (le16 v) none ∷ []))

unfoldable pub NotLoaded : Last → Type 0
NotLoaded other = Unit {0}
NotLoaded (loaded v) = ⊥
NotLoaded (stored v) = Unit {0}

pub record Within (s : Sheet) (R : List Row) (e : Emitter) : Type 0 where
  pub more : List Row
  pub formed : FormedBy s (R ++ more) e
  pub tail : Tail e.last more

-- what calls leave of labels and tracker
pub record Changed (cs : List Call) (e e' : Emitter) : Type 0 where
  pub table : length e'.labels ≡ after (length e.labels) cs
  pub kept : (l : ℕ) → l < length e.labels → binds l cs ≡ 0 → get_or e'.labels l none ≡ get_or e.labels l none
  pub tracks : (b : Bool) → (b ≡ true → NotLoaded e.last) → closed b cs ≡ true → NotLoaded e'.last

-- the labels of one call
not-bound : (k l : ℕ) → one_if (eqb k l) ≡ 0 → l ≡ k → ⊥
unfolding one_if
not-bound k l e q = let z = sym (ap one_if (eq-eqb k l (sym q))) ∙ e in omega arith

labels-kept : (c : Call) (p l : ℕ) (ls : List (Option ℕ)) → l < length ls → is_bind l c ≡ 0 → get_or (relabelled c p ls) l none ≡ get_or ls l none
unfolding relabelled is_bind
labels-kept (create_label h) p l ls b n = get_or-append ls (none ∷ []) none l b
labels-kept (bind_label k) p l ls b n = get_or-set_other ls k l (some p) none (not-bound k l n)
labels-kept (load_variable v) p l ls b n = refl
labels-kept (store_variable v) p l ls b n = refl
labels-kept (load_constant k) p l ls b n = refl
labels-kept (add_constant k) p l ls b n = refl
labels-kept (emit_opcode r) p l ls b n = refl
labels-kept (emit_jmp k) p l ls b n = refl
labels-kept (emit_jmp_if_not k) p l ls b n = refl
labels-kept (emit_cmp_br c v k m) p l ls b n = refl
labels-kept (reset_stack_depth h) p l ls b n = refl
labels-kept (set_position q) p l ls b n = refl
labels-kept (refused f) p l ls b n = refl

-- the tracker of one call that folds nothing
last-closed : (c : Call) (l : Last) (b : Bool) → (b ≡ true → NotLoaded l) → closes c b ≡ true → NotLoaded (last_of c l)
unfolding closes last_of NotLoaded
last-closed (create_label h) l b f e = f e
last-closed (bind_label k) l b f e = tt
last-closed (load_variable v) l b f e = let z : ◌≡◌ {A = ℕ} 0 1 = cc in omega arith
last-closed (store_variable v) l b f e = tt
last-closed (load_constant k) l b f e = tt
last-closed (add_constant k) l b f e = f e
last-closed (emit_opcode r) l b f e = tt
last-closed (emit_jmp k) l b f e = tt
last-closed (emit_jmp_if_not k) l b f e = tt
last-closed (emit_cmp_br c v k m) l b f e = tt
last-closed (reset_stack_depth h) l b f e = f e
last-closed (set_position q) l b f e = f e
last-closed (refused x) l b f e = tt

last-tail : (s : Sheet) (c : Call) (l : Last) (ks : List ℕ) (more : List Row) → Tail l more → Tail (last_of c l) (more ++ rows_of s c ks)
unfolding Tail last_of rows_of
last-tail s (create_label h) l ks more t = subst (λ m. Tail l m) (sym (append-nil more)) t
last-tail s (bind_label k) l ks more t = tt
last-tail s (load_variable v) l ks more t = tt
last-tail s (store_variable v) l ks more t = (more, refl)
last-tail s (load_constant k) l ks more t = tt
last-tail s (add_constant k) l ks more t = subst (λ m. Tail l m) (sym (append-nil more)) t
last-tail s (emit_opcode r) l ks more t = tt
last-tail s (emit_jmp k) l ks more t = tt
last-tail s (emit_jmp_if_not k) l ks more t = tt
last-tail s (emit_cmp_br c v k m) l ks more t = tt
last-tail s (reset_stack_depth h) l ks more t = subst (λ m. Tail l m) (sym (append-nil more)) t
last-tail s (set_position q) l ks more t = subst (λ m. Tail l m) (sym (append-nil more)) t
last-tail s (refused x) l ks more t = tt

-- one call, and what it leaves
pub record Goes (s : Sheet) (R : List Row) (cs : List Call) (e e' : Emitter) : Type 0 where
  pub within : Within s R e'
  pub changed : Changed cs e e'

goes-plain : (s : Sheet) (R : List Row) (c : Call) (e e' : Emitter) → Within s R e → OneByte c → folds c e.last ≡ false → act s c e ≡ ok e' → Goes s R (c ∷ []) e e'
unfolding after binds closed
goes-plain s R c e e' w o n p =
    let a = acted s (R ++ w.more) c e e' w.formed o n p in
    let rows = rows_of s c e'.constants in
    record {
      within = record {
        more = w.more ++ rows;
        formed = subst (λ rs. FormedBy s rs e') (append_assoc R w.more rows) a.formed;
        tail = subst (λ l. Tail l (w.more ++ rows)) (sym a.last) (last-tail s c e.last e'.constants w.more w.tail);
      };
      changed = record {
        table = ap length a.labels ∙ count c (length e.bytecode) e.labels;
        kept = λ l h z. ap (λ ls. get_or ls l none) a.labels ∙ labels-kept c (length e.bytecode) l e.labels h (omega arith);
        tracks = λ b f z. subst (λ l. NotLoaded l) (sym a.last) (last-closed c e.last b f z);
      };
    }

-- a DUP put before the store that is last
pub folded-formed : (s : Sheet) (v : ℕ) (front : List Row) (code : List ℕ) (ps : List PendingPatch) → Formed s (front ++ (row_of store_var (le16 v) none ∷ [])) code ps → length code < max_code
    → Formed s (front ++ (row_of dup [] none ∷ row_of store_var (le16 v) none ∷ [])) (take (length code - 3) code ++ (opcode s dup ∷ drop (length code - 3) code)) ps
unfolding code_of patches_of patch_here bytes_of operand_of unpatched row_of Sized size traits traits_of le16
folded-formed s v front code ps f m =
    let w : List Row = row_of store_var (le16 v) none ∷ [] in
    let d : List Row = row_of dup [] none ∷ w in
    let F : List ℕ = code_of s front in
    let W : List ℕ = code_of s w in
    let c : code ≡ F ++ W = f.is ∙ code-append s front w in
    let new = fold-bytes F W code (opcode s dup) c refl in
    record {
      is = new ∙ sym (code-append s front d);
      patches = f.patches ∙ (patches-append s 0 front w ∙ sym (patches-append s 0 front d));
      sized = sized-append s front d (sized-left s front w f.sized) (refl, (refl, tt));
      short = omega (arith, ap length new, length-append F (opcode s dup ∷ W), ap length c, length-append F W);
    }

same-state : (cs : List Call) (e e' : Emitter) → e'.labels ≡ e.labels → after (length e.labels) cs ≡ length e.labels → NotLoaded e'.last → Changed cs e e'
same-state cs e e' l n t = record {
  table = ap length l ∙ sym n;
  kept = λ j h z. ap (λ ls. get_or ls j none) l;
  tracks = λ b f z. t;
}

goes-folded : (s : Sheet) (R : List Row) (v : ℕ) (l : Last) (e e' : Emitter) → (w : Within s R e) → Tail l w.more → folds_into l v ≡ true → load_after l s v e ≡ ok e' → Goes s R (load_variable v ∷ []) e e'
unfolding folds_into load_after Tail NotLoaded after next size traits traits_of fold_store folded
goes-folded s R v other e e' w t n p = absurd (let z : ◌≡◌ {A = ℕ} 0 1 = cc in omega arith)
goes-folded s R v (loaded w') e e' w t n p =
    let a = add-adds s (R ++ w.more) dup [] other e e' w.formed refl (sym (ap (λ b. elim b [ true ↦ add s dup [] other e | false ↦ add s load_var (le16 v) (loaded v) e ]) n) ∙ p) in
    record {
      within = record {
        more = w.more ++ (row_of dup [] none ∷ []);
        formed = subst (λ rs. FormedBy s rs e') (append_assoc R w.more (row_of dup [] none ∷ [])) a.formed;
        tail = subst (λ l. Tail l (w.more ++ (row_of dup [] none ∷ []))) (sym a.last) tt;
      };
      changed = same-state (load_variable v ∷ []) e e' a.labels refl (subst (λ l. NotLoaded l) (sym a.last) tt);
    }
goes-folded s R v (stored w') e e' w t n p =
    let d = ok-demand _ _ _ _ e' (sym (ap (λ b. elim b [ true ↦ fold_store s e | false ↦ add s load_var (le16 v) (loaded v) e ]) n) ∙ p) in
    let store : List Row = row_of store_var (le16 w') none ∷ [] in
    let two : List Row = row_of dup [] none ∷ store in
    let same : R ++ w.more ≡ (R ++ t.0) ++ store = ap (λ m. R ++ m) t.1 ∙ sym (append_assoc R t.0 store) in
    let f = folded-formed s w' (R ++ t.0) e.bytecode e.patches (subst (λ rs. FormedBy s rs e) same w.formed) (ltb-true _ _ d.0) in
    subst (λ x. Goes s R (load_variable v ∷ []) e x) (sym (ok-is d.1)) (record {
      within = record { more = t.0 ++ two; formed = subst (λ rs. FormedBy s rs (folded s e)) (append_assoc R t.0 two) f; tail = tt };
      changed = same-state (load_variable v ∷ []) e (folded s e) refl refl tt;
    })

pub goes_one : (s : Sheet) (R : List Row) (c : Call) (e e' : Emitter) → Within s R e → OneByte c → act s c e ≡ ok e' → Goes s R (c ∷ []) e e'
unfolding folds act
goes_one s R c e e' w o p = go (folds c e.last) refl
  where
    fold : (c : Call) → folds c e.last ≡ true → act s c e ≡ ok e' → Goes s R (c ∷ []) e e'
    fold (create_label h) n p = absurd (let z : ◌≡◌ {A = ℕ} 0 1 = cc in omega arith)
    fold (bind_label k) n p = absurd (let z : ◌≡◌ {A = ℕ} 0 1 = cc in omega arith)
    fold (load_variable v) n p = goes-folded s R v e.last e e' w w.tail n p
    fold (store_variable v) n p = absurd (let z : ◌≡◌ {A = ℕ} 0 1 = cc in omega arith)
    fold (load_constant k) n p = absurd (let z : ◌≡◌ {A = ℕ} 0 1 = cc in omega arith)
    fold (add_constant k) n p = absurd (let z : ◌≡◌ {A = ℕ} 0 1 = cc in omega arith)
    fold (emit_opcode r) n p = absurd (let z : ◌≡◌ {A = ℕ} 0 1 = cc in omega arith)
    fold (emit_jmp k) n p = absurd (let z : ◌≡◌ {A = ℕ} 0 1 = cc in omega arith)
    fold (emit_jmp_if_not k) n p = absurd (let z : ◌≡◌ {A = ℕ} 0 1 = cc in omega arith)
    fold (emit_cmp_br x v k m) n p = absurd (let z : ◌≡◌ {A = ℕ} 0 1 = cc in omega arith)
    fold (reset_stack_depth h) n p = absurd (let z : ◌≡◌ {A = ℕ} 0 1 = cc in omega arith)
    fold (set_position q) n p = absurd (let z : ◌≡◌ {A = ℕ} 0 1 = cc in omega arith)
    fold (refused f) n p = absurd (let z : ◌≡◌ {A = ℕ} 0 1 = cc in omega arith)

    go : (b : Bool) → folds c e.last ≡ b → Goes s R (c ∷ []) e e'
    go true n = fold c n p
    go false n = goes-plain s R c e e' w o n p

-- ---- any calls

changed-none : (e : Emitter) → Changed [] e e
unfolding after closed
changed-none e = record {
  table = refl;
  kept = λ l h z. refl;
  tracks = λ b f z. f z;
}

changed_then : (c : Call) (cs : List Call) (e u e' : Emitter) → Changed (c ∷ []) e u → Changed cs u e' → Changed (c ∷ cs) e e'
unfolding after binds closed next
changed_then c cs e u e' x y = record {
  table = y.table ∙ ap (λ n. after n cs) x.table;
  kept = λ l h z. y.kept l (subst (λ n. l < n) (sym x.table) (let m = next-mono c (length e.labels) in omega arith)) (omega arith) ∙ x.kept l h (omega arith);
  tracks = λ b f z. y.tracks (closes c b) (λ t. x.tracks b f t) z;
}

pub goes-all : (s : Sheet) (R : List Row) (cs : List Call) (e e' : Emitter) → Within s R e → OneBytes cs → acts s cs e ≡ ok e' → Goes s R cs e e'
unfolding acts OneBytes
goes-all s R [] e e' w o p = subst (λ x. Goes s R [] e x) (sym (ok-is p)) (record { within = w; changed = changed-none e })
goes-all s R (c ∷ cs) e e' w o p =
    let q = ok-bind (act s c e) _ e' p in
    let g = goes_one s R c e q.0 w o.0 q.1 in
    let h = goes-all s R cs q.0 e' g.within o.1 q.2 in
    record { within = h.within; changed = changed_then c cs e q.0 e' g.changed h.changed }

pub acts-append : (s : Sheet) (a b : List Call) (e e' : Emitter) → acts s (a ++ b) e ≡ ok e' → (u : Emitter) × (acts s a e ≡ ok u) × (acts s b u ≡ ok e')
unfolding acts ◌>>=◌
acts-append s [] b e e' p = (e, refl, p)
acts-append s (c ∷ a) b e e' p =
    let q = ok-bind (act s c e) _ e' p in
    let r = acts-append s a b q.0 e' q.2 in
    (r.0, ap (λ m. m >>= λ x. acts s a x) q.1 ∙ r.1, r.2)
