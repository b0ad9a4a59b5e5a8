-- CASE.
use mathlib.Core.Path.{◌≡◌, refl, ap, sym, ◌∙◌}
use mathlib.Core.Bool.{false, ◌||◌}
use mathlib.Core.List.{List, [], ◌∷◌}
use Prim.Native.Nat.{ℕ, zero, suc, ◌-◌, ◌≤◌, ◌<◌}
use native.Mathlib.Numerals.{sub-one}
use native.Mathlib.Omega.{arith}
use Rattle.definition.specs.Opcode.{Sheet, pop}
use Rattle.definition.specs.Tree.{CaseLabel, Block, Arms, arm, bad_arm, Pos}
use Rattle.definition.specs.Program as def
use Rattle.definition.specs.Program.{Line, is, not, S, M, line_at, next_line, fault_at, arm_forms, label_forms, label_by, labels_at, stmt_of, arm_by, arms_at}
use Rattle.definition.specs.Emit.{bind_label, emit_opcode, refused}
use Rattle.definition.specs.Walk.{Calls, say, new_label}
use Rattle.definition.specs.Walk as walk
use Rattle.definition.specs.Stmt.{continues, continues_stmt, continues_arms, arm_body, emit_arm, emit_stmt, emit_arms}
use Rattle.program.specs.declared.Cursor.{Cursor}
use Rattle.program.specs.Walk.{cursor_of, Near, Skipped}
use Rattle.program.proofs.Laws.{stmt-is}
use Rattle.program.specs.Ends.{Sound}
use Rattle.emit.specs.declared.Emitter.{Emitter}
use Rattle.emit.specs.View.{World, world}
use Rattle.emit.specs.Steps.{run, call, Ready, Bare, Booked, Created, Coded, Filled}
use Rattle.emit.proofs.Calls.{seq-filled, said-filled, fresh-filled, none_filled}
use Rattle.expr.specs.Went.{WentExpr}
use Rattle.expr.proofs.Laws.{filled}
use Rattle.stmt_parts.specs.declared.Context.{Context}
use Rattle.stmt_parts.specs.declared.loops.OpenLoop.{OpenLoop}
use Rattle.stmt_parts.specs.Context.{expr_in, block_in, inner_of}
use Rattle.stmt_parts.specs.Loops.{opens_in, loops_of, marked}
use Rattle.stmt_parts.specs.Parts.{Leads, arm_tests, arm_end}
use Rattle.stmt.specs.Blocks.{arm_continues, arms_here, emit_case}
use Rattle.stmt.specs.declared.Lent.{Lent}
use Rattle.stmt.specs.Ran.{RanStmt, RanBlock, RanArm, RanArms, RanCase}
use Rattle.stmt_parts.proofs.Marks.{marked-same, marked-off, marked-then, loops-marked}
use Rattle.stmt_parts.proofs.Walks.{bare-on, booked-on, created-on, coded-on}
use Rattle.stmt.proofs.Walks.{at-loops, re}
use Rattle.stmt.proofs.Simple.{Reads}

module _ (ctx : Context) (text : List ℕ) (c : def.Cursor) (end : ℕ) where
  arm_is : (n : ℕ) → (n ≡ 0 → ⊥) → (body : Calls) → emit_arm (labels_at ctx.left text n c).0 end body ≡ walk.◌>>=◌ (new_label 1) (λ a. arm_tests (labels_at ctx.left text n c).0 a (walk.◌>>◌ (say (emit_opcode pop)) (walk.◌>>◌ body (arm_end a end))))
  unfolding labels_at emit_arm arm_tests arm_body arm_end
  arm_is zero z body = absurd (z refl)
  arm_is (suc zero) z body = refl
  arm_is (suc (suc n)) z body = refl

  arm-continues : (n i : ℕ) (b : Block) → (n ≡ 0 → ⊥) → arm_continues i (labels_at ctx.left text n c).0 b ≡ continues i b
  unfolding labels_at arm_continues
  arm-continues zero i b z = absurd (z refl)
  arm-continues (suc n) i b z = refl

module _ (s : Sheet) (ctx : Context) (text : List ℕ) (n m end : ℕ) (c : Cursor) where
  pub arm-none : {w : World} {ls' : Lent} {there : Cursor} → n ≡ 0 → Ready w → Skipped text (block_in ctx text m (cursor_of c)).1 there → Sound text ctx.variables ls'.ends → RanArm s ctx text n m end (cursor_of c) w w ls'.loops ls' there
  unfolding labels_at emit_arm arm_continues
  arm-none {w} e ready on noted = rw e (record { place = on; filled = none_filled s w ready; noted = noted; marks = sym (marked-off (λ i. false) _ (λ i. refl)) })

  pub arm-some : {e e₁ e₃ r : Emitter} {code book pool b₁ k₃ b₃ k₅ b₅ : List ℕ} {ls : List OpenLoop} {ls' : Lent} {w₂ w₄ : World} {c₂ c₄ : Cursor} {next : ℕ} → Ready (world e code book pool) → (n ≡ 0 → ⊥) → Created e book e₁ b₁ next
      → Leads s (arm_tests (labels_at ctx.left text n (cursor_of c)).0 next) text (labels_at ctx.left text n (cursor_of c)).1 (world e₁ code b₁ pool) w₂ c₂
      → Coded (call s (emit_opcode pop)) w₂.e w₂.code w₂.book e₃ k₃ b₃
      → RanBlock s ctx text m (cursor_of c₂) (world e₃ k₃ b₃ w₂.pool) w₄ ls ls' c₄
      → Coded (run s (arm_end next end)) w₄.e w₄.code w₄.book r k₅ b₅
      → RanArm s ctx text n m end (cursor_of c) (world e code book pool) (world r k₅ b₅ w₄.pool) ls ls' c₄
  arm-some {next = next} ready z x t p b' d =
      let b = rw t.place.is at b' in
      let x₃ = coded-on t.ready p in
      record {
        place = b.place;
        noted = b.noted;
        marks = b.marks ∙ marked-same _ _ _ (λ i. sym (arm-continues ctx text (cursor_of c) end n i _ z));
        filled = rw (arm_is ctx text (cursor_of c) end n z _)
            (fresh-filled s 1 next _ x.label (created-on ready s 1 x)
            (t.did _ _
            (seq-filled s _ _ (said-filled s _ x₃)
            (seq-filled s _ _ b.filled
            (coded-on b.filled.ready d)))));
      }

-- ---- arms

module _ (ctx : Context) (text : List ℕ) (c : def.Cursor) where
  abbrev body_of : ℕ → ℕ → Block × def.Cursor
  body_of i j = block_in ctx text j (labels_at ctx.left text i (next_line text c)).1

  arms_more : (n i j : ℕ) → line_at arm_forms ctx.left text c.at ≡ is (M i j) → 0 < n
      → arms_here ctx text n c ≡ (arm (labels_at ctx.left text i (next_line text c)).0 (body_of i j).0 (arms_here ctx text (n - 1) (body_of i j).1).0, (arms_here ctx text (n - 1) (body_of i j).1).1)
  unfolding arms_at arm_by
  arms_more zero i j e h = absurd (omega arith)
  arms_more (suc n) i j e h = rw (sub-one, arms_at, e)

  arms-fault : (n k : ℕ) → line_at arm_forms ctx.left text c.at ≡ not k → 0 < n → arms_here ctx text n c ≡ (bad_arm (fault_at c k), c)
  unfolding arms_at arm_by
  arms-fault zero k e h = absurd (omega arith)
  arms-fault (suc n) k e h = rw (arms_at, e)

continues-arms : (i : ℕ) (ls : List CaseLabel) (b : Block) (xs : Arms) → continues_arms i (arm ls b xs) ≡ arm_continues i ls b || continues_arms i xs
unfolding continues_arms arm_continues
continues-arms i [] b xs = refl
continues-arms i (l ∷ ls) b xs = refl

module _ (s : Sheet) (ctx : Context) (text : List ℕ) (end : ℕ) where
  pub record Arming (n : ℕ) (c : def.Cursor) (w₀ : World) (ls₀ : List OpenLoop) (w : World) (ls : Lent) (more : ℕ) (here : Cursor) : Type 0 where
    pub did : (u : World) → Filled (run s (emit_arms (arms_here ctx text more (cursor_of here)).0 end (loops_of (opens_in ls₀ ctx.inside)))) w u → Filled (run s (emit_arms (arms_here ctx text n c).0 end (loops_of (opens_in ls₀ ctx.inside)))) w₀ u
    pub marks : marked (λ i. continues_arms i (arms_here ctx text more (cursor_of here)).0) (opens_in ls.loops ctx.inside) ≡ marked (λ i. continues_arms i (arms_here ctx text n c).0) (opens_in ls₀ ctx.inside)
    pub loops : loops_of (opens_in ls.loops ctx.inside) ≡ loops_of (opens_in ls₀ ctx.inside)
    pub noted : Sound text ctx.variables ls.ends
    pub end_is : (arms_here ctx text more (cursor_of here)).1 ≡ (arms_here ctx text n c).1
    pub near : Near text here.at here.row
    pub ready : Ready w

  pub arms-begin : (n : ℕ) (c : Cursor) (w : World) (ls : Lent) → Sound text ctx.variables ls.ends → Near text c.at c.row → Ready w → {more : ℕ} → more ≡ n → Arming n (cursor_of c) w ls.loops w ls more c
  arms-begin n c w ls noted near ready all = rw all (record { did = λ u d. d; marks = refl; loops = refl; noted = noted; end_is = refl; near = near; ready = ready })

module _ {s : Sheet} {ctx : Context} {text : List ℕ} {end n : ℕ} {c : def.Cursor} {w₀ w : World} {ls₀ : List OpenLoop} {ls : Lent} {more : ℕ} {here : Cursor} (a : Arming s ctx text end n c w₀ ls₀ w ls more here) where
  pub arms-on : (x y : ℕ) {next here' : Cursor} {u : World} {ls' : Lent} → line_at arm_forms ctx.left text here.at ≡ is (M x y) → Skipped text (next_line text (cursor_of here)) next
      → RanArm s ctx text x y end (cursor_of next) w u ls.loops ls' here' → 0 < more → {left : ℕ} → left ≡ more - 1 → Arming s ctx text end n c w₀ ls₀ u ls' left here'
  unfolding emit_arms
  arms-on x y line on r' h is-left =
      let r = rw on.is at r' in
      let b = arms_more ctx text (cursor_of here) more x y line h in
      let lbs = (labels_at ctx.left text x (next_line text (cursor_of here))).0 in
      let blk = body_of ctx text (cursor_of here) x y in
      let rest = (arms_here ctx text (more - 1) blk.1).0 in
      rw is-left (record {
        did = λ u d. a.did u (rw b (seq-filled s _ _ (at-loops r a.loops) (rw r.place.is at d)));
        marks = rw (r.place.is, r.marks) (marked-then (λ k. arm_continues k lbs blk.0) (λ k. continues_arms k rest) (opens_in ls.loops ctx.inside) ∙ marked-same _ _ _ (λ k. sym (continues-arms k lbs blk.0 rest)) ∙ (rw b at a.marks));
        loops = rw r.marks (loops-marked _ _ ∙ a.loops);
        noted = r.noted;
        end_is = rw r.place.is (rw b at a.end_is);
        near = r.place.near;
        ready = r.filled.ready;
      })

  pub arms-bad : (k : ℕ) {r : Emitter} → line_at arm_forms ctx.left text here.at ≡ not k → 0 < more → Bare (refused (record { number = k; place = here.row })) w.e r
      → RanArms s ctx text n end c w₀ (world r w.code w.book w.pool) ls₀ ls here
  unfolding emit_arms continues_arms fault_at
  arms-bad k line h d =
      let b = arms-fault ctx text (cursor_of here) more k line h in
      let a' = rw b at a.marks in
      record {
        place = record { is = rw b at a.end_is; near = a.near };
        noted = a.noted;
        marks = sym (marked-off (λ i. false) (opens_in ls.loops ctx.inside) (λ i. refl)) ∙ a';
        filled = a.did _ (rw b (said-filled s _ (bare-on a.ready s d)));
      }

  pub arms_end_lem : more ≤ 0 → RanArms s ctx text n end c w₀ w ls₀ ls here
  unfolding arms_at emit_arms continues_arms
  arms_end_lem z =
      let e : more ≡ 0 = omega arith in
      let d = rw e at a in
      record {
        place = record { is = d.end_is; near = d.near };
        noted = d.noted;
        marks = sym (marked-off (λ i. false) (opens_in ls.loops ctx.inside) (λ i. refl)) ∙ d.marks;
        filled = d.did w (none_filled s w d.ready);
      }

-- ---- the statement

module _ (s : Sheet) (ctx : Context) (text : List ℕ) (n m : ℕ) {d : def.Cursor} {c : Cursor} (on : Skipped text d c) where
  pub case-done : {e e₂ e₄ r : Emitter} {code book pool b₂ k₄ b₄ b₆ : List ℕ} {ls : List OpenLoop} {ls₃ ls₅ : Lent} {w₁ w₃ w₅ : World} {c₁ c₃ c₅ : Cursor} {end : ℕ} → WentExpr s 0 (expr_in ctx text (cursor_of c)) text (world e code book pool) w₁ c₁
      → Created w₁.e w₁.book e₂ b₂ end
      → RanArms s ctx text n end (cursor_of c₁) (world e₂ w₁.code b₂ w₁.pool) w₃ ls ls₃ c₃
      → Coded (call s (emit_opcode pop)) w₃.e w₃.code w₃.book e₄ k₄ b₄
      → RanBlock s ctx text m (cursor_of c₃) (world e₄ k₄ b₄ w₃.pool) w₅ ls₃.loops ls₅ c₅
      → Booked (bind_label end) w₅.e w₅.book r b₆
      → RanCase s ctx text n m d (world e code book pool) (world r w₅.code b₆ w₅.pool) ls ls₅ c₅
  unfolding emit_case
  case-done {ls = ls} {end = end} a' x b' p f' o =
      let a = rw on.is at a' in
      let b = rw a.is at b' in
      let f = rw b.place.is at f' in
      record {
        place = f.place;
        noted = f.noted;
        marks = f.marks ∙ re _ b.marks ∙ marked-then _ _ (opens_in ls ctx.inside);
        filled = seq-filled s _ _ (filled a)
            (fresh-filled s 0 end _ x.label (created-on a.ready s 0 x)
            (seq-filled s _ _ b.filled
            (seq-filled s _ _ (said-filled s _ (coded-on b.filled.ready p))
            (seq-filled s _ _ (at-loops f (ap loops_of b.marks ∙ loops-marked _ _))
            (said-filled s _ (booked-on f.filled.ready s o))))));
      }

pub ran-case : (s : Sheet) (ctx : Context) (text : List ℕ) (c : Cursor) {k : Context} → k ≡ inner_of ctx → (p : Pos) (n m : ℕ) {w u : World} {ls : List OpenLoop} {ls' : Lent} {d : Cursor} → Reads s ctx text c (S p n m)
    → RanCase s k text n m (next_line text (cursor_of c)) w u ls ls' d → RanStmt s ctx text (cursor_of c) w u ls ls' d
unfolding stmt_of emit_stmt continues_stmt emit_case
ran-case s ctx text c deep p n m line r' = let r = rw deep at r' in rw (stmt-is ctx.left ctx.variables text (cursor_of c) (S p n m) line) (record { place = r.place; filled = r.filled; noted = r.noted; marks = r.marks })
