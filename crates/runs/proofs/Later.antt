-- What later calls leave alone: the code up to an instruction behind which no store waits to be folded, the patches and the constants.
use Prim.Native.Nat.{ℕ, ◌-◌, ◌≤◌}
use mathlib.Core.Path.{◌≡◌, refl, sym, ◌∙◌, ap, subst}
use mathlib.Core.List.{List, [], ◌∷◌, ◌++◌, append_assoc, append-nil}
use mathlib.Core.Bool.{Bool, true, false}
use lib.Dec.{eqb}
use lib.ListN.{length, take, drop, length-append, length-drop, take-append-drop}
use native.Mathlib.Omega.{arith}
use Rattle.definition.specs.Res.{ok}
use Rattle.definition.specs.Opcode.{Role, Sheet, opcode, dup, load_var}
use Rattle.definition.specs.Emit.{le16, Emitter, Last, other, loaded, stored, PendingPatch, added, add, folded, fold_store, load_after, with_constant, pooled_if, pooled, patched, labelled, settled, branch, act, acts, Call, create_label, bind_label, load_variable, store_variable, load_constant, add_constant, emit_opcode, emit_jmp, emit_jmp_if_not, emit_cmp_br, reset_stack_depth, set_position, refused}
use Rattle.field.proofs.Results.{never, ok-demand, ok-bind, ok-is}
use Rattle.runs.proofs.Emitted.{add_ok, fold-bytes}

-- an emitter whose code, patches and constants start with these; a store that a load may fold stands behind that code
pub record Grown (code : List ℕ) (ps : List PendingPatch) (ks : List ℕ) (e : Emitter) : Type 0 where
  pub tail : List ℕ
  pub bytes : e.bytecode ≡ code ++ tail
  pub folds : (v : ℕ) → e.last ≡ stored v → 3 ≤ length tail
  pub more_patches : List PendingPatch
  pub patches : e.patches ≡ ps ++ more_patches
  pub more_constants : List ℕ
  pub constants : e.constants ≡ ks ++ more_constants

pub grown-here : (e : Emitter) → e.last ≡ other → Grown e.bytecode e.patches e.constants e
grown-here e l = record {
  tail = [];
  bytes = sym (append-nil e.bytecode);
  folds = λ v q. never (let w : other ≡ stored v = sym l ∙ q in cc);
  more_patches = [];
  patches = sym (append-nil e.patches);
  more_constants = [];
  constants = sym (append-nil e.constants);
}

module _ {code : List ℕ} {ps : List PendingPatch} {ks : List ℕ} (s : Sheet) where
  becomes : {e e' : Emitter} → ok e ≡ ok e' → Grown code ps ks e → Grown code ps ks e'
  becomes q g = subst (λ x. Grown code ps ks x) (sym (ok-is q)) g

  add-grown : (r : Role) (o : List ℕ) (l : Last) (e e' : Emitter) → ((v : ℕ) → l ≡ stored v → 2 ≤ length o) → Grown code ps ks e → add s r o l e ≡ ok e' → Grown code ps ks e'
  unfolding added
  add-grown r o l e e' two g p =
      let q = add_ok s r o l e e' p in
      subst (λ x. Grown code ps ks x) (sym q.1) (record {
        tail = g.tail ++ (opcode s r ∷ o);
        bytes = ap (λ x. x ++ (opcode s r ∷ o)) g.bytes ∙ append_assoc code g.tail (opcode s r ∷ o);
        folds = λ v w. let z = two v w in omega (arith, length-append g.tail (opcode s r ∷ o));
        more_patches = g.more_patches;
        patches = g.patches;
        more_constants = g.more_constants;
        constants = g.constants;
      })

  plainly : {e e' : Emitter} (r : Role) (o : List ℕ) → Grown code ps ks e → add s r o other e ≡ ok e' → Grown code ps ks e'
  plainly {e = e} {e' = e'} r o g p = add-grown r o other e e' (λ v q. never (cc)) g p

  loads : {e e' : Emitter} (v : ℕ) → Grown code ps ks e → add s load_var (le16 v) (loaded v) e ≡ ok e' → Grown code ps ks e'
  loads {e = e} {e' = e'} v g p = add-grown load_var (le16 v) (loaded v) e e' (λ w q. never (cc)) g p

  fold-grown : (e e' : Emitter) (g : Grown code ps ks e) → 3 ≤ length g.tail → fold_store s e ≡ ok e' → Grown code ps ks e'
  unfolding fold_store folded
  fold-grown e e' g three p =
      let k : ℕ = length g.tail - 3 in
      let W : List ℕ = drop k g.tail in
      let F : List ℕ = code ++ take k g.tail in
      let split : e.bytecode ≡ F ++ W = g.bytes ∙ (ap (λ x. code ++ x) (sym (take-append-drop k g.tail)) ∙ sym (append_assoc code (take k g.tail) W)) in
      let w : length W ≡ 3 = length-drop k g.tail ∙ omega arith in
      becomes (ok-demand _ _ _ _ e' p).1 (record {
        tail = take k g.tail ++ (opcode s dup ∷ W);
        bytes = fold-bytes F W e.bytecode (opcode s dup) split w ∙ append_assoc code (take k g.tail) (opcode s dup ∷ W);
        folds = λ v q. never (cc);
        more_patches = g.more_patches;
        patches = g.patches;
        more_constants = g.more_constants;
        constants = g.constants;
      })

  load-grown : (x : Last) (v : ℕ) (e e' : Emitter) → e.last ≡ x → Grown code ps ks e → load_after x s v e ≡ ok e' → Grown code ps ks e'
  unfolding load_after
  load-grown other v e e' l g p = loads v g p
  load-grown (loaded w) v e e' l g p = (elim (eqb w v) as (λ b. elim b [ true ↦ add s dup [] other e | false ↦ add s load_var (le16 v) (loaded v) e ] ≡ ok e' → Grown code ps ks e') [
    | true ↦ λ q. plainly dup [] g q
    | false ↦ λ q. loads v g q
  ]) p
  load-grown (stored w) v e e' l g p = (elim (eqb w v) as (λ b. elim b [ true ↦ fold_store s e | false ↦ add s load_var (le16 v) (loaded v) e ] ≡ ok e' → Grown code ps ks e') [
    | true ↦ λ q. fold-grown e e' g (g.folds w l) q
    | false ↦ λ q. loads v g q
  ]) p

  pool-grown : (b : Bool) (k : ℕ) (e e' : Emitter) → Grown code ps ks e → pooled_if b k e ≡ ok e' → Grown code ps ks e'
  unfolding pooled_if with_constant
  pool-grown true k e e' g p = becomes p g
  pool-grown false k e e' g p = becomes (ok-demand _ _ _ _ e' p).1 (record {
    tail = g.tail;
    bytes = g.bytes;
    folds = g.folds;
    more_patches = g.more_patches;
    patches = g.patches;
    more_constants = g.more_constants ++ (k ∷ []);
    constants = ap (λ x. x ++ (k ∷ [])) g.constants ∙ append_assoc ks g.more_constants (k ∷ []);
  })

  branch-grown : (r : Role) (o : List ℕ) (d l : ℕ) (e e' : Emitter) → Grown code ps ks e → branch s r o d l e ≡ ok e' → Grown code ps ks e'
  unfolding branch patched
  branch-grown r o d l e e' g p =
      let a = ok-bind _ _ e' p in
      let P : PendingPatch = record { instruction_offset = length e.bytecode; operand_delta = d; label = l } in
      let h = plainly r _ g a.1 in
      becomes a.2 (record {
        tail = h.tail;
        bytes = h.bytes;
        folds = h.folds;
        more_patches = h.more_patches ++ (P ∷ []);
        patches = ap (λ x. x ++ (P ∷ [])) h.patches ∙ append_assoc ps h.more_patches (P ∷ []);
        more_constants = h.more_constants;
        constants = h.constants;
      })

  -- a call that changes neither code nor patches nor constants, and leaves no store to be folded but one that was there
  same : (e e' : Emitter) → e'.bytecode ≡ e.bytecode → e'.patches ≡ e.patches → e'.constants ≡ e.constants → ((v : ℕ) → e'.last ≡ stored v → e.last ≡ stored v) → Grown code ps ks e → Grown code ps ks e'
  same e e' b p c l g = record {
    tail = g.tail;
    bytes = b ∙ g.bytes;
    folds = λ v q. g.folds v (l v q);
    more_patches = g.more_patches;
    patches = p ∙ g.patches;
    more_constants = g.more_constants;
    constants = c ∙ g.constants;
  }

  act-grown : (c : Call) (e e' : Emitter) → Grown code ps ks e → act s c e ≡ ok e' → Grown code ps ks e'
  unfolding act pooled labelled settled le16
  act-grown (create_label h) e e' g p = becomes (ok-demand _ _ _ _ e' p).1 (same e _ refl refl refl (λ v q. q) g)
  act-grown (bind_label l) e e' g p = becomes p (same e _ refl refl refl (λ v q. never (cc)) g)
  act-grown (load_variable v) e e' g p = load-grown e.last v e e' refl g p
  act-grown (store_variable v) e e' g p = add-grown _ (le16 v) (stored v) e e' (λ w q. omega arith) g p
  act-grown (load_constant k) e e' g p = let b = ok-bind _ _ e' p in plainly _ _ (pool-grown _ k e b.0 g b.1) b.2
  act-grown (add_constant k) e e' g p = pool-grown _ k e e' g p
  act-grown (emit_opcode r) e e' g p = plainly r [] g p
  act-grown (emit_jmp l) e e' g p = branch-grown _ _ _ l e e' g p
  act-grown (emit_jmp_if_not l) e e' g p = branch-grown _ _ _ l e e' g p
  act-grown (emit_cmp_br c v k l) e e' g p = let b = ok-bind _ _ e' p in branch-grown _ _ _ l b.0 e' (pool-grown _ k e b.0 g b.1) b.2
  act-grown (reset_stack_depth h) e e' g p = becomes p (same e _ refl refl refl (λ v q. q) g)
  act-grown (set_position q) e e' g p = becomes p (same e _ refl refl refl (λ v q. q) g)
  act-grown (refused f) e e' g p = never (cc)

  pub acts-grown : (cs : List Call) (e e' : Emitter) → Grown code ps ks e → acts s cs e ≡ ok e' → Grown code ps ks e'
  unfolding acts
  acts-grown [] e e' g p = becomes p g
  acts-grown (c ∷ cs) e e' g p = let b = ok-bind (act s c e) (λ x. acts s cs x) e' p in acts-grown cs b.0 e' (act-grown c e b.0 g b.1) b.2
