-- Sequences of statements, IF and FOR.
use mathlib.Core.Path.{◌≡◌, refl, ap, sym, ◌∙◌}
use mathlib.Core.Bool.{Bool, false}
use mathlib.Core.List.{List}
use Prim.Native.Nat.{ℕ, zero, suc, ◌-◌, ◌≤◌, ◌<◌}
use native.Mathlib.Numerals.{sub-one}
use native.Mathlib.Omega.{arith}
use Rattle.definition.specs.Limits.{width}
use Rattle.definition.specs.Opcode.{Sheet}
use Rattle.definition.specs.Tree.{done, ◌then◌, Pos, is_done, counts_down, bound}
use Rattle.definition.specs.Program as def
use Rattle.definition.specs.Program.{Line, is, not, I, F, L, StmtLine, line_at, next_line, stmt_forms, stmt_of, block_of}
use Rattle.definition.specs.CompileExpr.{constant_of}
use Rattle.definition.specs.Emit.{bind_label, store_variable, emit_jmp, refused}
use Rattle.definition.specs.Stmt.{continues, continues_stmt, branch_unless, else_part, end_test_by, emit_for, emit_stmt}
use Rattle.program.specs.declared.Cursor.{Cursor}
use Rattle.program.specs.Walk.{cursor_of, Near, Skipped}
use Rattle.program.proofs.Laws.{stmt-is}
use Rattle.program.specs.Ends.{Sound}
use Rattle.emit.specs.declared.Emitter.{Emitter}
use Rattle.emit.specs.View.{World, world}
use Rattle.emit.specs.Steps.{run, call, Ready, Bare, Booked, Created, Coded, Filled}
use Rattle.emit.proofs.Calls.{seq-filled, said-filled, fresh-filled, none_filled}
use Rattle.expr.specs.Went.{Went, WentExpr}
use Rattle.expr.proofs.Laws.{filled}
use Rattle.stmt_parts.specs.declared.Context.{Context}
use Rattle.stmt_parts.specs.declared.loops.OpenLoop.{OpenLoop}
use Rattle.stmt_parts.specs.Context.{expr_in, stmt_in, block_in, inner_of}
use Rattle.stmt_parts.specs.Loops.{opens_in, loops_of, marked}
use Rattle.stmt.specs.Blocks.{Placed, emit_sequence, emit_if, loop_calls}
use Rattle.stmt_parts.specs.Parts.{for_end}
use Rattle.stmt.specs.declared.Lent.{Lent}
use Rattle.stmt.specs.Ran.{RanSequence, RanBlock, RanStmt, RanIf, RanElse, RanFor, RanLoop, RanBody}
use Rattle.stmt_parts.proofs.Marks.{marked-off, marked-then, loops-marked}
use Rattle.stmt_parts.proofs.Walks.{booked-on, created-on, coded-on}
use Rattle.stmt.proofs.Walks.{at-loops, re}
use Rattle.stmt.proofs.Simple.{source-here, unplaced, quiet, Reads, ran-bad}

-- ---- sequences

module _ (s : Sheet) (ctx : Context) (text : List ℕ) (b : Bool) where
  pub record Doing (n : ℕ) (c : def.Cursor) (w₀ : World) (ls₀ : List OpenLoop) (w : World) (ls : Lent) (more : ℕ) (here : Cursor) : Type 0 where
    pub did : (u : World) → Filled (run s (emit_sequence b (block_in ctx text more (cursor_of here)).0 (loops_of (opens_in ls₀ ctx.inside)))) w u → Filled (run s (emit_sequence b (block_in ctx text n c).0 (loops_of (opens_in ls₀ ctx.inside)))) w₀ u
    pub marks : marked (λ i. continues i (block_in ctx text more (cursor_of here)).0) (opens_in ls.loops ctx.inside) ≡ marked (λ i. continues i (block_in ctx text n c).0) (opens_in ls₀ ctx.inside)
    pub loops : loops_of (opens_in ls.loops ctx.inside) ≡ loops_of (opens_in ls₀ ctx.inside)
    pub noted : Sound text ctx.variables ls.ends
    pub end : (block_in ctx text more (cursor_of here)).1 ≡ (block_in ctx text n c).1
    pub near : Near text here.at here.row
    pub ready : Ready w

  pub begins : (n : ℕ) (c : Cursor) (w : World) (ls : Lent) → Sound text ctx.variables ls.ends → Near text c.at c.row → Ready w → {more : ℕ} → more ≡ n → Doing n (cursor_of c) w ls.loops w ls more c
  begins n c w ls noted near ready all = rw all (record { did = λ u d. d; marks = refl; loops = refl; noted = noted; end = refl; near = near; ready = ready })

block_more : (ctx : Context) (text : List ℕ) (more : ℕ) (c : def.Cursor) → 0 < more
    → block_in ctx text more c ≡ ((stmt_in ctx text c).0 then (block_in ctx text (more - 1) (stmt_in ctx text c).1).0, (block_in ctx text (more - 1) (stmt_in ctx text c).1).1)
unfolding block_of
block_more ctx text zero c h = absurd (omega arith)
block_more ctx text (suc n) c h = rw sub-one

module _ {s : Sheet} {ctx : Context} {text : List ℕ} {b : Bool} {n : ℕ} {c : def.Cursor} {w₀ w : World} {ls₀ : List OpenLoop} {ls : Lent} {more : ℕ} {here : Cursor} (d : Doing s ctx text b n c w₀ ls₀ w ls more here) where
  pub goes_on : (x : Line StmtLine) {p : Emitter} {u : World} {ls' : Lent} {here' : Cursor} → x ≡ line_at (stmt_forms ctx.variables) ctx.left text here.at → Placed b x w.e p
      → RanStmt s ctx text (cursor_of here) (world p w.code w.book w.pool) u ls.loops ls' here' → 0 < more → {rest : ℕ} → rest ≡ more - 1 → Doing s ctx text b n c w₀ ls₀ u ls' rest here'
  unfolding emit_sequence continues
  goes_on x line q r h is-rest =
      let at = cursor_of here in
      let st = stmt_in ctx text at in
      let rest = (block_in ctx text (more - 1) st.1).0 in
      let e = block_more ctx text more at h in
      rw is-rest (record {
        did = λ u k. d.did u (rw (e, source-here x ctx text at (sym line)) (q.did s here.row w.code w.book w.pool _ u d.ready (seq-filled s _ _ (at-loops r d.loops) (rw r.place.is at k))));
        marks = rw (r.place.is, r.marks) (marked-then (λ i. continues_stmt i st.0) (λ i. continues i rest) (opens_in ls.loops ctx.inside) ∙ (rw e at d.marks));
        loops = rw r.marks (loops-marked _ _ ∙ d.loops);
        noted = r.noted;
        end = rw r.place.is (rw e at d.end);
        near = r.place.near;
        ready = r.filled.ready;
      })

  -- a line at fault: the walk stays
  pub stays : (k : ℕ) {r : Emitter} → line_at (stmt_forms ctx.variables) ctx.left text here.at ≡ not k → Bare (refused (record { number = k; place = here.row })) w.e r → 0 < more → {rest : ℕ} → rest ≡ more - 1
      → Doing s ctx text b n c w₀ ls₀ (world r w.code w.book w.pool) ls rest here
  stays k line q h is-rest = goes_on (not k) (sym line) (unplaced b k d.ready.fine) (ran-bad s ctx text here k d.noted d.near d.ready line q) h is-rest

  pub ends : more ≤ 0 → RanSequence s ctx text b n c w₀ w ls₀ ls here
  unfolding block_of emit_sequence continues
  ends z =
      let e : more ≡ 0 = omega arith in
      let d' = rw e at d in
      record {
        place = record { is = d'.end; near = d'.near };
        filled = d'.did w (none_filled s w d'.ready);
        noted = d'.noted;
        marks = sym (marked-off (λ i. false) (opens_in ls.loops ctx.inside) (λ i. refl)) ∙ d'.marks;
      }

-- ---- statements with parts: what is behind the line was emitted

module _ (s : Sheet) (ctx : Context) (text : List ℕ) (c : Cursor) {k : Context} (deep : k ≡ inner_of ctx) {w u : World} {ls : List OpenLoop} {ls' : Lent} {d : Cursor} where
  pub ran-if : (p : Pos) (n m : ℕ) → Reads s ctx text c (I p n m) → RanIf s k text n m (next_line text (cursor_of c)) w u ls ls' d → RanStmt s ctx text (cursor_of c) w u ls ls' d
  unfolding stmt_of emit_stmt continues_stmt emit_if
  ran-if p n m line r' = let r = rw deep at r' in rw (stmt-is ctx.left ctx.variables text (cursor_of c) (I p n m) line) (record { place = r.place; filled = r.filled; noted = r.noted; marks = r.marks })

  pub ran-loop : (p : Pos) (i n m : ℕ) → Reads s ctx text c (L p i n m) → RanLoop s k text i n m (next_line text (cursor_of c)) w u ls ls' d → RanStmt s ctx text (cursor_of c) w u ls ls' d
  unfolding stmt_of emit_stmt continues_stmt loop_calls
  ran-loop p i n m line r' = let r = rw deep at r' in rw (stmt-is ctx.left ctx.variables text (cursor_of c) (L p i n m) line) (record { place = r.place; filled = r.filled; noted = r.noted; marks = r.marks })

  pub ran-for : (p : Pos) (i x step n : ℕ) → Reads s ctx text c (F p i x step n) → RanFor s k text i x step n (next_line text (cursor_of c)) w u ls ls' d → RanStmt s ctx text (cursor_of c) w u ls ls' d
  unfolding stmt_of emit_stmt continues_stmt
  ran-for p i x step n line r' = let r = rw deep at r' in rw (stmt-is ctx.left ctx.variables text (cursor_of c) (F p i x step n) line) (record { place = r.place; filled = r.filled; noted = r.noted; marks = r.marks })

-- ---- IF

done_none : (ctx : Context) (text : List ℕ) (n : ℕ) (c : def.Cursor) → n ≡ 0 → block_in ctx text n c ≡ (done, c)
unfolding block_of
done_none ctx text n c e = rw e

done-not : (ctx : Context) (text : List ℕ) (n : ℕ) (c : def.Cursor) → (n ≡ 0 → ⊥) → is_done (block_in ctx text n c).0 ≡ false
unfolding block_of is_done
done-not ctx text zero c h = absurd (h refl)
done-not ctx text (suc n) c h = refl

module _ (s : Sheet) (ctx : Context) (text : List ℕ) (m : ℕ) (c : Cursor) (l : ℕ) where
  pub else-none : {e r : Emitter} {code book pool book' : List ℕ} {ls : Lent} → Sound text ctx.variables ls.ends → Near text c.at c.row → Ready (world e code book pool) → m ≡ 0 → Booked (bind_label l) e book r book'
      → RanElse s ctx text m l (cursor_of c) (world e code book pool) (world r code book' pool) ls.loops ls c
  unfolding is_done else_part continues
  else-none {ls = ls} noted near ready z d = rw (done_none ctx text m (cursor_of c) z) (quiet (λ i. false) ctx.inside ls noted (λ i. refl) (record { is = refl; near = near }) (said-filled s _ (booked-on ready s d)))

  pub else-some : {e e₁ e₂ e₃ r : Emitter} {code book pool b₁ k₂ b₂ b₃ book' : List ℕ} {ls : List OpenLoop} {ls' : Lent} {w₄ : World} {end : ℕ} {c' : Cursor} → Ready (world e code book pool) → (m ≡ 0 → ⊥)
      → Created e book e₁ b₁ end → Coded (call s (emit_jmp end)) e₁ code b₁ e₂ k₂ b₂ → Booked (bind_label l) e₂ b₂ e₃ b₃
      → RanBlock s ctx text m (cursor_of c) (world e₃ k₂ b₃ pool) w₄ ls ls' c'
      → Booked (bind_label end) w₄.e w₄.book r book'
      → RanElse s ctx text m l (cursor_of c) (world e code book pool) (world r w₄.code book' w₄.pool) ls ls' c'
  unfolding else_part
  else-some {end = end} ready z x j k b o =
      let x₁ = created-on ready s 0 x in
      let x₂ = coded-on x₁.ready j in
      let x₃ = booked-on x₂.ready s k in
      record {
        place = b.place;
        noted = b.noted;
        marks = b.marks;
        filled = rw (done-not ctx text m (cursor_of c) z)
            (fresh-filled s 0 end _ x.label x₁
            (seq-filled s _ _ (said-filled s _ x₂)
            (seq-filled s _ _ (said-filled s _ x₃)
            (seq-filled s _ _ b.filled
            (said-filled s _ (booked-on b.filled.ready s o))))));
      }

module _ (s : Sheet) (ctx : Context) (text : List ℕ) (n m : ℕ) {d : def.Cursor} {c : Cursor} (on : Skipped text d c) where
  pub if-done : {e e₁ : Emitter} {code book pool b₁ : List ℕ} {ls : List OpenLoop} {ls₃ ls₄ : Lent} {l : ℕ} {w₂ w₃ w₄ : World} {c₁ c₂ c₃ : Cursor} → Ready (world e code book pool) → Created e book e₁ b₁ l
      → Went s (branch_unless (expr_in ctx text (cursor_of c)).0 l) text (expr_in ctx text (cursor_of c)).1 (world e₁ code b₁ pool) w₂ c₁
      → RanBlock s ctx text n (cursor_of c₁) w₂ w₃ ls ls₃ c₂
      → RanElse s ctx text m l (cursor_of c₂) w₃ w₄ ls₃.loops ls₄ c₃
      → RanIf s ctx text n m d (world e code book pool) w₄ ls ls₄ c₃
  unfolding emit_if
  if-done {ls = ls} {l = l} ready x a' t' f' =
      let a = rw on.is at a' in
      let t = rw a.is at t' in
      let f = rw t.place.is at f' in
      record {
        place = f.place;
        noted = f.noted;
        marks = f.marks ∙ re _ t.marks ∙ marked-then _ _ (opens_in ls ctx.inside);
        filled = fresh-filled s 0 l _ x.label (created-on ready s 0 x)
            (seq-filled s _ _ (filled a)
            (seq-filled s _ _ t.filled
            (at-loops f (ap loops_of t.marks ∙ loops-marked _ _))));
      }

-- ---- FOR

module _ (s : Sheet) (ctx : Context) (text : List ℕ) (i v step n : ℕ) {d : def.Cursor} {c : Cursor} (on : Skipped text d c) {to : Cursor} (seen : Skipped text (expr_in ctx text (cursor_of c)).1 to) where
  pub for-done : {e e₂ e₃ e₄ e₅ : Emitter} {code book pool k₂ b₂ b₃ b₄ b₅ : List ℕ} {ls : List OpenLoop} {ls₇ : Lent} {head end : ℕ} {w₁ w₆ w₇ w₈ : World} {c₁ c₆ c₇ : Cursor}
      → WentExpr s 0 (expr_in ctx text (cursor_of c)) text (world e code book pool) w₁ c₁ → Coded (call s (store_variable v)) w₁.e w₁.code w₁.book e₂ k₂ b₂
      → Created e₂ b₂ e₃ b₃ head → Created e₃ b₃ e₄ b₄ end → Booked (bind_label head) e₄ b₄ e₅ b₅
      → Went s (end_test_by (constant_of (expr_in ctx text (cursor_of to)).0) (bound (counts_down width step)) v (expr_in ctx text (cursor_of to)).0 end) text (expr_in ctx text (cursor_of to)).1 (world e₅ k₂ b₅ w₁.pool) w₆ c₆
      → RanBody s ctx text i end n (cursor_of c₆) w₆ w₇ ls ls₇ c₇
      → Filled (run s (for_end v step head end)) w₇ w₈
      → RanFor s ctx text i v step n d (world e code book pool) w₈ ls ls₇ c₇
  unfolding emit_for for_end
  for-done {head = head} {end = end} a' k m₁ m₂ o t' b' f =
      let a = rw on.is at a' in
      let t = rw (seen.is, on.is) at t' in
      let b = rw t.is at b' in
      let x₂ = coded-on a.ready k in
      let x₃ = created-on x₂.ready s 0 m₁ in
      let x₄ = created-on x₃.ready s 0 m₂ in
      let x₅ = booked-on x₄.ready s o in
      record {
        place = b.place;
        noted = b.noted;
        marks = b.marks;
        filled = seq-filled s _ _ (filled a)
            (seq-filled s _ _ (said-filled s _ x₂)
            (fresh-filled s 0 head _ m₁.label x₃
            (fresh-filled s 0 end _ m₂.label x₄
            (seq-filled s _ _ (said-filled s _ x₅)
            (seq-filled s _ _ (filled t)
            (seq-filled s _ _ b.filled
            f))))));
      }
