-- Calls one after another: what a `do` of the definition's walks does, one call at a time.
use Rattle.std.proofs.Common.{Option, Some, None}
use Rattle.definition.specs.declared.Refused.{Refused}
use mathlib.Core.Path.{◌≡◌, refl, ap, sym, ◌∙◌}
use mathlib.Core.Bool.{Bool, true, false}
use mathlib.Core.List.{List, [], ◌∷◌, ◌++◌}
use Prim.Native.Nat.{ℕ, suc}
use native.Mathlib.Omega.{arith}
use lib.ListN.{length, length-set, length-append}
use lib.Dec.{eqb, ltb}
use Rattle.definition.specs.Limits.{code_full, labels_full, constants_full}
use Rattle.definition.specs.Res.{Res, ok, refuse, ◌>>=◌, ◌>>◌, demand}
use Rattle.definition.specs.Tree.{Pos}
use Rattle.definition.specs.Opcode.{Sheet, Role, dup, load_var, load_const, cmp_br, comparison_byte}
use Rattle.definition.specs.Emit.{emitter_at, le16, cmp_br_operand_delta, Emitter, Last, other, loaded, stored, LineEntry, Call, create_label, bind_label, load_variable, store_variable, load_constant, add_constant, emit_opcode, emit_jmp, emit_jmp_if_not, emit_cmp_br, reset_stack_depth, set_position, refused, act, acts, add, added, recorded, load_after, fold_store, folded, pooled, pooled_if, with_constant, index_of, labelled, settled, patched, branch}
use Rattle.definition.specs.Walk.{Calls, next, after, say, nothing, new_label, when}
use Rattle.definition.specs.Walk as walk
use Rattle.emit.specs.Book.{label_size, label_base, label_in}
use Rattle.emit.specs.declared.Emitter as code
use Rattle.emit.specs.View.{World, world, state, standing, view, Stage, going, halted, stage_of, stage}
use Rattle.emit.specs.Steps.{◌>->◌, Did, met_at, once, call, calls, Ready, Filled, Begun, run}
use Rattle.emit.proofs.Tables.{length-rows}
use Rattle.emit.proofs.Kept.{kept_self, kept_then}
use Rattle.emit.proofs.Steps.{then, by-step}

calls-append : (s : Sheet) (a b : List Call) (e : Emitter) → calls s (a ++ b) e ≡ calls s a e >-> (λ x. calls s b x)
unfolding calls ◌>->◌
calls-append s [] b e = refl
calls-append s (c ∷ a) b e = go (call s c e) (λ x. calls-append s a b x)
  where
    go : (m : Stage) → ((x : Emitter) → calls s (a ++ b) x ≡ calls s a x >-> (λ y. calls s b y)) → m >-> (λ x. calls s (a ++ b) x) ≡ (m >-> (λ x. calls s a x)) >-> (λ x. calls s b x)
    go (going x) h = h x
    go (halted n p x) h = refl

-- so many labels, unless it is refused
abbrev Counts : ℕ → Res Emitter → Type 0
Counts n (ok e) = length e.labels ≡ n
Counts n (refuse a b) = Unit {0}

abbrev Counted : ℕ → Stage → Type 0
Counted n (going e) = length e.labels ≡ n
Counted n (halted a b e) = Unit {0}

counts-bind : (n k : ℕ) (m : Res Emitter) (f : Emitter → Res Emitter) → Counts n m → ((e : Emitter) → length e.labels ≡ n → Counts k (f e)) → Counts k (m >>= f)
unfolding ◌>>=◌
counts-bind n k (ok e) f h g = g e h
counts-bind n k (refuse a b) f h g = tt

counts-at : (m : Res Emitter) {k n : ℕ} → k ≡ n → Counts k m → Counts n m
counts-at (ok e) h c = c ∙ h
counts-at (refuse a b) h c = tt

counts-demand : (b : Bool) (x y n : ℕ) (m : Res Emitter) → Counts n m → Counts n (demand b x y >> m)
unfolding demand ◌>>◌
counts-demand true x y n m h = h
counts-demand false x y n m h = tt

module _ (s : Sheet) where
  counts-add : (r : Role) (operand : List ℕ) (l : Last) (e : Emitter) → Counts (length e.labels) (add s r operand l e)
  unfolding add added ◌>>=◌
  counts-add r operand l e = counts-demand _ code_full 0 _ _ (go (recorded e))
    where
      go : (q : Res (List LineEntry)) → Counts (length e.labels) (q >>= λ entries. ok (added s r operand l entries e))
      go (ok x) = refl
      go (refuse n p) = tt

  counts-fold : (e : Emitter) → Counts (length e.labels) (fold_store s e)
  unfolding fold_store folded
  counts-fold e = counts-demand _ code_full 0 _ _ refl

  counts-load : (l : Last) (v : ℕ) (e : Emitter) → Counts (length e.labels) (load_after l s v e)
  unfolding load_after
  counts-load other v e = counts-add _ _ _ e
  counts-load (loaded w) v e = go (eqb w v)
    where
      go : (b : Bool) → Counts (length e.labels) (elim b [ true ↦ add s dup [] other e | false ↦ add s load_var (le16 v) (loaded v) e ])
      go true = counts-add _ _ _ e
      go false = counts-add _ _ _ e
  counts-load (stored w) v e = go (eqb w v)
    where
      go : (b : Bool) → Counts (length e.labels) (elim b [ true ↦ fold_store s e | false ↦ add s load_var (le16 v) (loaded v) e ])
      go true = counts-fold e
      go false = counts-add _ _ _ e

  counts-pool : (k : ℕ) (e : Emitter) → Counts (length e.labels) (pooled k e)
  unfolding pooled pooled_if with_constant
  counts-pool k e = go (ltb (index_of k e.constants) (length e.constants))
    where
      go : (b : Bool) → Counts (length e.labels) (pooled_if b k e)
      go true = refl
      go false = counts-demand _ constants_full 0 _ _ refl

  counts-branch : (r : Role) (operand : List ℕ) (d l : ℕ) (e : Emitter) → Counts (length e.labels) (branch s r operand d l e)
  unfolding branch patched
  counts-branch r operand d l e = counts-bind _ _ _ _ (counts-add r _ _ e) (λ x h. h)

  counts-act : (c : Call) (e : Emitter) → Counts (next c (length e.labels)) (act s c e)
  unfolding act next labelled settled
  counts-act (create_label h) e = counts-demand _ labels_full 0 _ _ (rw length-append (omega arith))
  counts-act (bind_label l) e = rw length-set
  counts-act (load_variable v) e = counts-load e.last v e
  counts-act (store_variable v) e = counts-add _ _ _ e
  counts-act (load_constant k) e = counts-bind _ _ _ _ (counts-pool k e) (λ x h. counts-at (add s load_const (le16 (index_of k x.constants)) other x) h (counts-add load_const (le16 (index_of k x.constants)) other x))
  counts-act (add_constant k) e = counts-pool k e
  counts-act (emit_opcode r) e = counts-add _ _ _ e
  counts-act (emit_jmp l) e = counts-branch _ _ _ _ e
  counts-act (emit_jmp_if_not l) e = counts-branch _ _ _ _ e
  counts-act (emit_cmp_br c v k l) e = counts-bind _ _ _ _ (counts-pool k e) (λ x h. counts-at (branch s cmp_br (comparison_byte s c ∷ le16 v ++ le16 (index_of k x.constants)) cmp_br_operand_delta l x) h (counts-branch cmp_br (comparison_byte s c ∷ le16 v ++ le16 (index_of k x.constants)) cmp_br_operand_delta l x))
  counts-act (reset_stack_depth h) e = refl
  counts-act (set_position p) e = refl
  counts-act (refused f) e = tt

  counts-calls : (cs : List Call) (n : ℕ) (e : Emitter) → length e.labels ≡ n → Counted (after n cs) (calls s cs e)
  unfolding calls after once met_at ◌>->◌
  counts-calls [] n e h = h
  counts-calls (c ∷ cs) n e h = go (act s c e) (rw h at (counts-act c e)) (λ x k. counts-calls cs (next c n) x k)
    where
      go : (m : Res Emitter) → Counts (next c n) m → ((x : Emitter) → length x.labels ≡ next c n → Counted (after (next c n) cs) (calls s cs x)) → Counted (after (next c n) cs) (met_at e m >-> λ x. calls s cs x)
      go (ok x) h k = k x h
      go (refuse a b) h k = tt

-- ---- what is answered of a stage

unfoldable answer_of : Stage → Res Emitter
answer_of (going x) = ok x
answer_of (halted n p x) = refuse n p

view-is : (w : World) → view w ≡ answer_of (stage w)
unfolding standing stage_of answer_of
view-is w = go w.e.refused
  where
    go : (o : Option Refused) → standing o (state w) ≡ answer_of (stage_of o (state w))
    go None = refl
    go (Some r) = refl

answer-then : (m : Stage) (f : Emitter → Stage) → answer_of (m >-> f) ≡ answer_of m >>= λ x. answer_of (f x)
unfolding ◌>->◌ ◌>>=◌ answer_of
answer-then (going x) f = refl
answer-then (halted n p x) f = refl

-- ---- walks

module _ (s : Sheet) where
  pub run-then : (m k : Calls) (e : Emitter) → run s (walk.◌>>◌ m k) e ≡ run s m e >-> run s k
  unfolding run walk.◌>>◌ ◌>->◌
  run-then m k e = calls-append s (m n).1 (k (after n (m n).1)).1 e ∙ go (calls s (m n).1 e) (counts-calls s (m n).1 n e refl)
    where
      n : ℕ
      n = length e.labels

      go : (r : Stage) → Counted (after n (m n).1) r → r >-> (λ x. calls s (k (after n (m n).1)).1 x) ≡ r >-> (λ x. calls s (k (length x.labels)).1 x)
      go (going x) h = rw h
      go (halted a b x) h = refl

  run-label : (h : ℕ) (f : ℕ → Calls) (e : Emitter) → run s (walk.◌>>=◌ (new_label h) f) e ≡ call s (create_label h) e >-> run s (f (length e.labels))
  unfolding run walk.◌>>=◌ new_label after next calls once met_at ◌>->◌
  run-label h f e = go (act s (create_label h) e) (counts-act s (create_label h) e)
    where
      n : ℕ
      n = length e.labels

      go : (r : Res Emitter) → Counts (suc n) r → met_at e r >-> (λ x. calls s (f n (suc n)).1 x) ≡ met_at e r >-> (λ x. calls s (f n (length x.labels)).1 x)
      go (ok x) h = rw h
      go (refuse a b) h = refl

  bind-going : (m : Stage) → m >-> (λ x. going x) ≡ m
  unfolding ◌>->◌
  bind-going (going x) = refl
  bind-going (halted n p x) = refl

  run-say : (c : Call) (e : Emitter) → run s (say c) e ≡ call s c e
  unfolding run say calls
  run-say c e = bind-going (call s c e)

  -- one walk, and another
  pub seq : (m k : Calls) {w v u : World} → Did (run s m) w v → Did (run s k) v u → Did (run s (walk.◌>>◌ m k)) w u
  seq m k a b = by-step (λ on. run-then m k _) (then a b)

  pub said : (c : Call) {w v : World} → Did (call s c) w v → Did (run s (say c)) w v
  said c a = by-step (λ on. run-say c _) a

  -- a new label of the number that code gave it, and the rest
  pub fresh : (h l : ℕ) (f : ℕ → Calls) {w v u : World} → l ≡ w.e.labels → Did (call s (create_label h)) w v → Did (run s (f l)) v u → Did (run s (walk.◌>>=◌ (new_label h) f)) w u
  fresh h l f {w} is a b = by-step (λ on. run-label h f (state w) ∙ rw (length-rows label_in label_base label_size w.book w.e.labels, ← is)) (then a b)

  pub none_done : (w : World) → Did (run s nothing) w w
  unfolding run nothing calls
  none_done w = record { is = sym (bind-going (stage w)) }

  -- the same with what is ready for the next step
  pub seq-filled : (m k : Calls) {w v u : World} → Filled (run s m) w v → Filled (run s k) v u → Filled (run s (walk.◌>>◌ m k)) w u
  seq-filled m k a b = record { ready = b.ready; kept = kept_then a.kept b.kept; did = seq m k a.did b.did }

  pub said-filled : (c : Call) {w v : World} → Filled (call s c) w v → Filled (run s (say c)) w v
  said-filled c a = record { ready = a.ready; kept = a.kept; did = said c a.did }

  pub fresh-filled : (h l : ℕ) (f : ℕ → Calls) {w v u : World} → l ≡ w.e.labels → Filled (call s (create_label h)) w v → Filled (run s (f l)) v u → Filled (run s (walk.◌>>=◌ (new_label h) f)) w u
  fresh-filled h l f is a b = record { ready = b.ready; kept = kept_then a.kept b.kept; did = fresh h l f is a.did b.did }

  pub none_filled : (w : World) → Ready w → Filled (run s nothing) w w
  none_filled w r = record { ready = r; kept = kept_self w; did = none_done w }

  answer-calls : (cs : List Call) (e : Emitter) → answer_of (calls s cs e) ≡ acts s cs e
  unfolding calls acts once answer_of met_at ◌>>=◌
  answer-calls [] e = refl
  answer-calls (c ∷ cs) e = answer-then (call s c e) (λ x. calls s cs x) ∙ go (act s c e) (λ x. answer-calls cs x)
    where
      go : (m : Res Emitter) → ((x : Emitter) → answer_of (calls s cs x) ≡ acts s cs x) → answer_of (met_at e m) >>= (λ x. answer_of (calls s cs x)) ≡ m >>= λ x. acts s cs x
      go (ok x) h = h x
      go (refuse n p) h = refl

  -- a walk from the first state on: its labels are numbered from 0
  pub begun-acts : (m : Calls) {p : Pos} {r : code.Emitter} {bytes book pool : List ℕ} {v : World} → Begun p r → Did (run s m) (world r bytes book pool) v → view v ≡ acts s (m 0).1 (emitter_at p)
  unfolding run ◌>>=◌ emitter_at
  begun-acts m {r = r} {bytes = bytes} {book = book} {pool = pool} {v = v} b d =
      let w = world r bytes book pool in
      view-is v ∙ ap answer_of d.is ∙ answer-then (stage w) (run s m) ∙ rw (← (view-is w), b.is bytes book pool) (answer-calls (m 0).1 (emitter_at _))
