-- What emission of an expression has done, line by line.
use mathlib.Core.Path.{◌≡◌, refl, ap, sym, ◌∙◌}
use mathlib.Core.Bool.{Bool, true, false}
use mathlib.Core.List.{List}
use Prim.Native.Nat.{ℕ, suc, ◌+◌, ◌-◌}
use native.Mathlib.Numerals.{add-one}
use Rattle.definition.specs.Opcode.{Sheet, Role, BinaryOp, UnaryOp, CompareOp, ShortCircuitOp, AndThen, OrElse, load_true, load_false, binary_role, unary_role}
use Rattle.definition.specs.Opcode as role
use Rattle.definition.specs.Tree.{Expr, const, bool, read, short_circuit}
use Rattle.definition.specs.Program as def
use Rattle.definition.specs.Program.{Line, is, not, K, B, D, O, U, C, H, ExprLine, Reader, line_at, next_line, fault_at, expr_forms, expr_of, expr_at}
use Rattle.definition.specs.Emit as emit
use Rattle.definition.specs.Emit.{Call, bind_label, load_variable, load_constant, emit_opcode, emit_jmp, emit_jmp_if_not, reset_stack_depth, refused}
use Rattle.definition.specs.Walk.{Calls, say}
use Rattle.definition.specs.Walk as walk
use Rattle.definition.specs.Expr.{emit_expr}
use Rattle.opcode.specs.declared.ShortCircuitOp as circuit
use Rattle.opcode.specs.View.{short_circuit_view}
use Rattle.program_line.specs.declared.ExprLine as code
use Rattle.program_line.specs.declared.ExprLine.TheVariants as expr-line
use Rattle.program_line.specs.View.{expr_line}
use Rattle.program.specs.declared.Cursor.{Cursor}
use Rattle.program.specs.Walk.{cursor_of, Near, Skipped}
use Rattle.program.proofs.Laws.{expr-bad, expr-is}
use Rattle.emit.specs.declared.Emitter.{Emitter}
use Rattle.emit.specs.View.{World, world, Stage, going, halted}
use Rattle.emit.specs.Steps.{◌>->◌, run, call, Ready, Bare, Booked, Created, Coded, Filled}
use Rattle.emit.proofs.Steps.{filled-by, bare-filled, booked-filled, created-filled, coded-filled}
use Rattle.emit.proofs.Calls.{run-then, seq-filled, said-filled, fresh-filled}
use Rattle.expr.specs.declared.Walked.{Walked}
use Rattle.expr.specs.Went.{Went, WentExpr, WentTwo, emit_two, bool_role, Operated}

-- ---- parts of a walk

pub went : {s : Sheet} {m : Calls} {text : List ℕ} {d : def.Cursor} {w v : World} {c : Cursor} → Skipped text d c → Filled (run s m) w v → Went s m text d w v c
went p f = record { is = p.is; near = p.near; ready = f.ready; kept = f.kept; did = f.did }

pub place : {s : Sheet} {m : Calls} {text : List ℕ} {d : def.Cursor} {w v : World} {c : Cursor} → Went s m text d w v c → Skipped text d c
place x = record { is = x.is; near = x.near }

pub filled : {s : Sheet} {m : Calls} {text : List ℕ} {d : def.Cursor} {w v : World} {c : Cursor} → Went s m text d w v c → Filled (run s m) w v
filled x = record { ready = x.ready; kept = x.kept; did = x.did }

module _ (s : Sheet) where
  -- the first two of three are one part
  regroup : (a b k : Calls) (e : emit.Emitter) → run s (walk.◌>>◌ a (walk.◌>>◌ b k)) e ≡ run s (walk.◌>>◌ (walk.◌>>◌ a b) k) e
  unfolding ◌>->◌
  regroup a b k e = run-then s a (walk.◌>>◌ b k) e ∙ go (run s a e) ∙ sym (run-then s (walk.◌>>◌ a b) k e ∙ ap (λ (m : Stage). m >-> run s k) (run-then s a b e))
    where
      go : (m : Stage) → m >-> run s (walk.◌>>◌ b k) ≡ (m >-> run s b) >-> run s k
      go (going x) = run-then s b k x
      go (halted n p x) = refl

  pub operated : (m : Calls) (text : List ℕ) (d : def.Cursor) {w : World} {a r : Walked} {o : Role} {code book pool code' book' : List ℕ}
      → Went s m text d w (world a.emitter code book pool) a.cursor → Operated s o a code book r code' book'
      → Went s (walk.◌>>◌ m (say (emit_opcode o))) text d w (world r.emitter code' book' pool) r.cursor
  operated m text d x k = rw k.there (went (place x) (seq-filled s _ _ (filled x) (said-filled s _ (coded-filled x.ready k.coded))))

  -- the operation of two operands
  two-operated : (h : ℕ) (a b : Expr) (o : Role) (text : List ℕ) (d : def.Cursor) {w v : World} {c : Cursor} → Went s (walk.◌>>◌ (emit_two h a b) (say (emit_opcode o))) text d w v c
      → Went s (walk.◌>>◌ (emit_expr a h) (walk.◌>>◌ (emit_expr b (suc h)) (say (emit_opcode o)))) text d w v c
  unfolding emit_two
  two-operated h a b o text d x = went (place x) (filled-by (λ on. regroup _ _ _ _) (filled x))

-- ---- a line, and what follows it

module _ (s : Sheet) (h left v : ℕ) (text : List ℕ) (c : Cursor) where
  abbrev pub Reads : ExprLine → Type 0
  Reads l = line_at (expr_forms v) left text c.at ≡ is l

  -- the expression here was emitted
  abbrev pub Emits : World → World → Cursor → Type 0
  Emits w u d = WentExpr s h (expr_at left v text (cursor_of c)) text w u d

  pub went-bad : (n : ℕ) {e r : Emitter} {code book pool : List ℕ} → Near text c.at c.row → Ready (world e code book pool) → line_at (expr_forms v) left text c.at ≡ not n
      → Bare (refused (record { number = n; place = c.row })) e r → Emits (world e code book pool) (world r code book pool) c
  unfolding emit_expr fault_at
  went-bad n near ready line d = rw (expr-bad left v text (cursor_of c) n line) (went (record { is = refl; near = near }) (said-filled s _ (bare-filled ready s d)))

  emit-bool : (b : Bool) → emit_expr (bool b) h ≡ say (emit_opcode (bool_role b))
  unfolding emit_expr bool_role
  emit-bool true = refl
  emit-bool false = refl

  module _ {next : Cursor} (on : Skipped text (next_line text (cursor_of c)) next) where
    -- a line with nothing behind it, which one call emits
    abbrev Leaf : Call → World → World → Type 0
    Leaf k w u = Filled (call s k) w u → Emits w u next

    leaf : (l : ExprLine) (x : Expr) (k : Call) {w u : World} → ((r : Reader Expr) (d : def.Cursor) → expr_of r d l ≡ (x, d)) → emit_expr x h ≡ say k → Reads l → Leaf k w u
    leaf l x k reads says line d = rw (expr-is left v text (cursor_of c) l line, reads _ _, says) (went on (said-filled s k d))

    module _ {w u : World} where
      pub went-const : (k : ℕ) → Reads (K k) → Leaf (load_constant k) w u
      unfolding expr_of emit_expr
      went-const k line = leaf (K k) (const k) (load_constant k) (λ r d. refl) refl line

      pub went-read : (i : ℕ) → Reads (D i) → Leaf (load_variable i) w u
      unfolding expr_of emit_expr
      went-read i line = leaf (D i) (read i) (load_variable i) (λ r d. refl) refl line

      pub went-bool : (b : Bool) {o : Role} → Reads (B b) → o ≡ bool_role b → Leaf (emit_opcode o) w u
      unfolding expr_of
      went-bool b line e = leaf (B b) (bool b) _ (λ r d. refl) (rw e (emit-bool b)) line

    -- operands stand behind it
    abbrev Two : (Expr → Expr → Calls) → World → World → Cursor → Type 0
    Two m w u d = WentTwo s m (left - 1) v text (cursor_of next) w u d

    module _ {a r : Walked} {w : World} {code book pool code' book' : List ℕ} where
      pub went-unary : (o : UnaryOp) {x : Role} → Reads (U o) → x ≡ unary_role o → WentExpr s h (expr_at (left - 1) v text (cursor_of next)) text w (world a.emitter code book pool) a.cursor → Operated s x a code book r code' book'
          → Emits w (world r.emitter code' book' pool) r.cursor
      unfolding emit_expr expr_of
      went-unary o line e x k = rw (expr-is left v text (cursor_of c) (U o) line, ← on.is, ← e) (operated s _ _ _ x k)

      pub went-binary : (o : BinaryOp) {x : Role} → Reads (O o) → x ≡ binary_role o → Two (emit_two h) w (world a.emitter code book pool) a.cursor → Operated s x a code book r code' book'
          → Emits w (world r.emitter code' book' pool) r.cursor
      unfolding emit_expr expr_of
      went-binary o line e x k = rw (expr-is left v text (cursor_of c) (O o) line, ← on.is, ← e) (two-operated s h _ _ _ _ _ (operated s _ _ _ x k))

      pub went-compare : (o : CompareOp) → Reads (C o) → Two (emit_two h) w (world a.emitter code book pool) a.cursor → Operated s (role.compare o) a code book r code' book'
          → Emits w (world r.emitter code' book' pool) r.cursor
      unfolding emit_expr expr_of
      went-compare o line x k = rw (expr-is left v text (cursor_of c) (C o) line, ← on.is) (two-operated s h _ _ _ _ _ (operated s _ _ _ x k))

    pub went-short : (o : ShortCircuitOp) {w u : World} {d : Cursor} → Reads (H o) → Two (λ a b. emit_expr (short_circuit o a b) h) w u d → Emits w u d
    unfolding expr_of
    went-short o line d = rw (expr-is left v text (cursor_of c) (H o) line, ← on.is) d

-- ---- operands

module _ (s : Sheet) (h left v : ℕ) (text : List ℕ) (c : Cursor) where
  abbrev First : World → World → Cursor → Type 0
  First w u d = WentExpr s h (expr_at left v text (cursor_of c)) text w u d

  pub two-done : {w u x : World} {c₁ c₂ : Cursor} → First w u c₁ → WentExpr s (h + 1) (expr_at left v text (cursor_of c₁)) text u x c₂
      → WentTwo s (emit_two h) left v text (cursor_of c) w x c₂
  unfolding emit_two
  two-done a b' = let b = rw (a.is, add-one) at b' in went (place b) (seq-filled s _ _ (filled a) (filled b))

  module _ {e e₁ e₂ e₃ e₄ e₅ e₆ e₇ e₈ e₉ e₁₀ : Emitter} {code book pool k₃ k₄ k₅ k₆ k₉ b₁ b₂ b₃ b₄ b₅ b₆ b₇ b₉ b₁₀ p₃ p₅ : List ℕ} {l₁ l₂ : ℕ} {c₁ c₂ : Cursor}
      (y : Ready (world e code book pool)) (m₁ : Created e book e₁ b₁ l₁) (m₂ : Created e₁ b₁ e₂ b₂ l₂)
      (a : First (world e₂ code b₂ pool) (world e₃ k₃ b₃ p₃) c₁) (j : Coded (call s (emit_jmp_if_not l₁)) e₃ k₃ b₃ e₄ k₄ b₄) where
    pub and-done : WentExpr s h (expr_at left v text (cursor_of c₁)) text (world e₄ k₄ b₄ p₃) (world e₅ k₅ b₅ p₅) c₂
        → Coded (call s (emit_jmp l₂)) e₅ k₅ b₅ e₆ k₆ b₆
        → Booked (bind_label l₁) e₆ b₆ e₇ b₇
        → Bare (reset_stack_depth h) e₇ e₈
        → Coded (call s (emit_opcode load_false)) e₈ k₆ b₇ e₉ k₉ b₉
        → Booked (bind_label l₂) e₉ b₉ e₁₀ b₁₀
        → WentTwo s (λ a b. emit_expr (short_circuit AndThen a b) h) left v text (cursor_of c) (world e code book pool) (world e₁₀ k₉ b₁₀ p₅) c₂
    unfolding emit_expr
    and-done b' k n d f o =
        let b = rw a.is at b' in
        let x₁ = created-filled y s h m₁ in
        let x₂ = created-filled x₁.ready s (suc h) m₂ in
        let x₄ = coded-filled a.ready j in
        let x₆ = coded-filled b.ready k in
        let x₇ = booked-filled x₆.ready s n in
        let x₈ = bare-filled x₇.ready s d in
        let x₉ = coded-filled x₈.ready f in
        let x₁₀ = booked-filled x₉.ready s o in
        went (place b)
        (fresh-filled s h l₁ _ m₁.label x₁
        (fresh-filled s (suc h) l₂ _ m₂.label x₂
        (seq-filled s _ _ (filled a)
        (seq-filled s _ _ (said-filled s _ x₄)
        (seq-filled s _ _ (filled b)
        (seq-filled s _ _ (said-filled s _ x₆)
        (seq-filled s _ _ (said-filled s _ x₇)
        (seq-filled s _ _ (said-filled s _ x₈)
        (seq-filled s _ _ (said-filled s _ x₉)
        (said-filled s _ x₁₀))))))))))

    pub or-done : Coded (call s (emit_opcode load_true)) e₄ k₄ b₄ e₅ k₅ b₅
        → Coded (call s (emit_jmp l₂)) e₅ k₅ b₅ e₆ k₆ b₆
        → Booked (bind_label l₁) e₆ b₆ e₇ b₇
        → Bare (reset_stack_depth h) e₇ e₈
        → WentExpr s h (expr_at left v text (cursor_of c₁)) text (world e₈ k₆ b₇ p₃) (world e₉ k₉ b₉ p₅) c₂
        → Booked (bind_label l₂) e₉ b₉ e₁₀ b₁₀
        → WentTwo s (λ a b. emit_expr (short_circuit OrElse a b) h) left v text (cursor_of c) (world e code book pool) (world e₁₀ k₉ b₁₀ p₅) c₂
    unfolding emit_expr
    or-done t k n d b' o =
        let b = rw a.is at b' in
        let x₁ = created-filled y s h m₁ in
        let x₂ = created-filled x₁.ready s (suc h) m₂ in
        let x₄ = coded-filled a.ready j in
        let x₅ = coded-filled x₄.ready t in
        let x₆ = coded-filled x₅.ready k in
        let x₇ = booked-filled x₆.ready s n in
        let x₈ = bare-filled x₇.ready s d in
        let x₁₀ = booked-filled b.ready s o in
        went (place b)
        (fresh-filled s h l₁ _ m₁.label x₁
        (fresh-filled s (suc h) l₂ _ m₂.label x₂
        (seq-filled s _ _ (filled a)
        (seq-filled s _ _ (said-filled s _ x₄)
        (seq-filled s _ _ (said-filled s _ x₅)
        (seq-filled s _ _ (said-filled s _ x₆)
        (seq-filled s _ _ (said-filled s _ x₇)
        (seq-filled s _ _ (said-filled s _ x₈)
        (seq-filled s _ _ (filled b)
        (said-filled s _ x₁₀))))))))))

-- what a line was read as
pub reads : {line x : code.ExprLine} {l : Line ExprLine} → is (expr_line line) ≡ l → line ≡ x → l ≡ is (expr_line x)
reads e told = rw told at (sym e)

pub reads-short : {line : code.ExprLine} {o x : circuit.ShortCircuitOp} {l : Line ExprLine} → is (expr_line line) ≡ l → line ≡ expr-line.ShortCircuit o → o ≡ x → l ≡ is (H (short_circuit_view x))
reads-short e told op = rw (told, op) at (sym e)
