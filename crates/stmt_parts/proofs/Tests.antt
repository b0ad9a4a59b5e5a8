-- Conditions.
use mathlib.Core.Path.{◌≡◌}
use mathlib.Core.Bool.{true, false}
use mathlib.Core.Option.{Option, some, none}
use mathlib.Core.List.{List}
use Prim.Native.Nat.{ℕ}
use Rattle.definition.specs.Opcode.{Sheet, CompareOp, Add}
use Rattle.definition.specs.Opcode as role
use Rattle.definition.specs.Tree.{Expr}
use Rattle.definition.specs.Program as def
use Rattle.definition.specs.CompileExpr.{ClassifiedCmp, classify, emit_classified_cmp_br}
use Rattle.definition.specs.Emit.{bind_label, add_constant, load_variable, load_constant, store_variable, emit_opcode, emit_jmp, emit_jmp_if_not}
use Rattle.definition.specs.Expr.{emit_expr}
use Rattle.definition.specs.Stmt.{branch_unless, branch_unless_by, end_test_by}
use Rattle.program.specs.declared.Cursor.{Cursor}
use Rattle.program.specs.Walk.{Skipped}
use Rattle.emit.specs.declared.Emitter.{Emitter}
use Rattle.emit.specs.Pool.{Held}
use Rattle.emit.specs.View.{World, world}
use Rattle.emit.specs.Steps.{run, call, Ready, Fine, Booked, Created, Coded, Pooled, Filled}
use Rattle.emit.proofs.Calls.{seq-filled, said-filled, fresh-filled}
use Rattle.expr.specs.Went.{Went}
use Rattle.expr.proofs.Laws.{went, place, filled}
use Rattle.stmt_parts.specs.Parts.{Enters, PoolsFirst, for_end, while_from, while_end, pool_first}
use Rattle.stmt_parts.proofs.Walks.{booked-on, created-on, pooled-on, coded-on}

-- ---- conditions

module _ (s : Sheet) (text : List ℕ) (x : Expr) (l : ℕ) {d : def.Cursor} {end : Cursor} where
  pub fused-done : (f : ClassifiedCmp) {w u : World} → some f ≡ classify x → Skipped text d end → Filled (run s (emit_classified_cmp_br f false l)) w u → Went s (branch_unless x l) text d w u end
  unfolding branch_unless branch_unless_by
  fused-done f is_f on k = rw (← is_f) (went on k)

  pub jumps-done : {w u : World} {r : Emitter} {code' book' : List ℕ} → none ≡ classify x → Went s (emit_expr x 0) text d w u end → Coded (call s (emit_jmp_if_not l)) u.e u.code u.book r code' book'
      → Went s (branch_unless x l) text d w (world r code' book' u.pool) end
  unfolding branch_unless branch_unless_by
  jumps-done is_f a k = rw (← is_f) (went (place a) (seq-filled s _ _ (filled a) (said-filled s _ (coded-on a.ready k))))

-- ---- FOR

module _ (s : Sheet) (text : List ℕ) (v : ℕ) (x : Expr) (l : ℕ) {d : def.Cursor} {end : Cursor} where
  pub end-fused : {o : Option ℕ} (k : ℕ) {op to : CompareOp} {w u : World} → some k ≡ o → op ≡ to → Skipped text d end
      → Filled (run s (emit_classified_cmp_br (record { op = op; variable = v; constant = k }) false l)) w u → Went s (end_test_by o to v x l) text d w u end
  unfolding end_test_by
  end-fused k is-k is-op on f = rw (← is-k, ← is-op) (went on f)

  pub test-done : (op : CompareOp) {e e₁ e₃ r : Emitter} {code book pool k₁ b₁ k₃ b₃ k₄ b₄ : List ℕ} {u : World} → Ready (world e code book pool) → Coded (call s (load_variable v)) e code book e₁ k₁ b₁ → Went s (emit_expr x 1) text d (world e₁ k₁ b₁ pool) u end
      → Coded (call s (emit_opcode (role.compare op))) u.e u.code u.book e₃ k₃ b₃ → Coded (call s (emit_jmp_if_not l)) e₃ k₃ b₃ r k₄ b₄ → Went s (end_test_by none op v x l) text d (world e code book pool) (world r k₄ b₄ u.pool) end
  unfolding end_test_by
  test-done op ready a b k j =
      let x₃ = coded-on b.ready k in
      went (place b) (seq-filled s _ _ (said-filled s _ (coded-on ready a)) (seq-filled s _ _ (filled b) (seq-filled s _ _ (said-filled s _ x₃) (said-filled s _ (coded-on x₃.ready j)))))

pub counts-on : (s : Sheet) (v step head end : ℕ) {e e₁ e₃ e₄ e₅ r : Emitter} {code book pool k₁ b₁ k₃ b₃ k₄ b₄ k₅ b₅ b₆ : List ℕ} {w₂ : World} → Ready (world e code book pool) → Coded (call s (load_variable v)) e code book e₁ k₁ b₁ → Filled (call s (load_constant step)) (world e₁ k₁ b₁ pool) w₂
    → Coded (call s (emit_opcode (role.arithmetic Add))) w₂.e w₂.code w₂.book e₃ k₃ b₃ → Coded (call s (store_variable v)) e₃ k₃ b₃ e₄ k₄ b₄ → Coded (call s (emit_jmp head)) e₄ k₄ b₄ e₅ k₅ b₅ → Booked (bind_label end) e₅ b₅ r b₆
    → Filled (run s (for_end v step head end)) (world e code book pool) (world r k₅ b₆ w₂.pool)
unfolding for_end
counts-on s v step head end ready a b k d j o =
    let x₃ = coded-on b.ready k in
    let x₄ = coded-on x₃.ready d in
    let x₅ = coded-on x₄.ready j in
    seq-filled s _ _ (said-filled s _ (coded-on ready a)) (seq-filled s _ _ (said-filled s _ b) (seq-filled s _ _ (said-filled s _ x₃) (seq-filled s _ _ (said-filled s _ x₄) (seq-filled s _ _ (said-filled s _ x₅) (said-filled s _ (booked-on x₅.ready s o))))))

-- ---- WHILE and REPEAT

module _ (s : Sheet) (x : Expr) (end : ℕ) where
  pub head-fused : (f : ClassifiedCmp) {e e₁ e₂ r : Emitter} {code book pool p₁ b₂ b₄ : List ℕ} {w₃ : World} {start : ℕ} → some f ≡ classify x → Ready (world e code book pool)
      → Pooled (add_constant f.constant) e pool e₁ p₁ → Created e₁ book e₂ b₂ start → Filled (run s (emit_classified_cmp_br f false end)) (world e₂ code b₂ p₁) w₃ → Booked (bind_label start) w₃.e w₃.book r b₄
      → Enters s (while_from (classify x) x end) (world e code book pool) (world r w₃.code b₄ w₃.pool) start
  unfolding while_from
  head-fused f {start = start} is_f ready a m k b =
      let x₁ = pooled-on ready s a in
      let x₂ = created-on x₁.ready s 0 m in
      let x₄ = booked-on k.ready s b in
      rw (← is_f) (record {
        ready = x₄.ready;
        did = λ q u d. seq-filled s _ _ (said-filled s _ x₁) (fresh-filled s 0 start _ m.label x₂ (seq-filled s _ _ k (seq-filled s _ _ (said-filled s _ x₄) d)));
      })

  pub head-tested : {text : List ℕ} {d : def.Cursor} {c : Cursor} {e e₁ e₂ r : Emitter} {code book pool b₁ b₂ k₄ b₄ : List ℕ} {u : World} {head : ℕ} → none ≡ classify x → Ready (world e code book pool)
      → Created e book e₁ b₁ head → Booked (bind_label head) e₁ b₁ e₂ b₂ → Went s (emit_expr x 0) text d (world e₂ code b₂ pool) u c → Coded (call s (emit_jmp_if_not end)) u.e u.code u.book r k₄ b₄
      → Enters s (while_from (classify x) x end) (world e code book pool) (world r k₄ b₄ u.pool) head
  unfolding while_from
  head-tested {head = head} is_f ready m b a j =
      let x₁ = created-on ready s 0 m in
      let x₂ = booked-on x₁.ready s b in
      let x₄ = coded-on a.ready j in
      rw (← is_f) (record {
        ready = x₄.ready;
        did = λ q v d. fresh-filled s 0 head _ m.label x₁ (seq-filled s _ _ (said-filled s _ x₂) (seq-filled s _ _ (filled a) (seq-filled s _ _ (said-filled s _ x₄) d)));
      })

  -- `end` is here the label that the loop goes back to
  pub back-fused : (f : ClassifiedCmp) {w u : World} → some f ≡ classify x → Filled (run s (emit_classified_cmp_br f true end)) w u → Filled (run s (while_end (classify x) end)) w u
  unfolding while_end
  back-fused f is_f k = rw (← is_f) k

  pub back-jumps : {e r : Emitter} {code book pool code' book' : List ℕ} → none ≡ classify x → Ready (world e code book pool) → Coded (call s (emit_jmp end)) e code book r code' book' → Filled (run s (while_end (classify x) end)) (world e code book pool) (world r code' book' pool)
  unfolding while_end
  back-jumps is_f ready f = rw (← is_f) (said-filled s _ (coded-on ready f))

pub pools : (x : Expr) (f : ClassifiedCmp) {e r : Emitter} {pool pool' : List ℕ} → some f ≡ classify x → Pooled (add_constant f.constant) e pool r pool' → PoolsFirst (classify x) e pool r pool'
unfolding pool_first
pools x f is_f a = rw (← is_f) (record { fine = a.fine; held = a.held; did = λ s code book q u y d. seq-filled s _ _ (said-filled s _ (pooled-on y s a)) d })

pub pools-none : (x : Expr) {e : Emitter} {pool : List ℕ} → none ≡ classify x → Fine e → Held pool → PoolsFirst (classify x) e pool e pool
unfolding pool_first
pools-none x is_f fine held = rw (← is_f) (record { fine = fine; held = held; did = λ s code book q u y d. d })
