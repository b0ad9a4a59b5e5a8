-- The body of a loop; a plain loop, WHILE and REPEAT.
use mathlib.Core.Path.{◌≡◌, refl, ap, sym, ◌∙◌}
use mathlib.Core.Bool.{Bool, true, false, ◌&&◌, ◌||◌}
use mathlib.Core.Bool as bool
use mathlib.Core.Option.{Option, some, none}
use mathlib.Core.List.{List, ◌∷◌}
use Prim.Native.Nat.{ℕ, zero, suc, ◌+◌, ◌-◌}
use native.Mathlib.Numerals.{add-one}
use native.Mathlib.Omega.{arith}
use lib.Dec.{eqb}
use Rattle.definition.specs.Opcode.{Sheet}
use Rattle.definition.specs.Tree.{Expr, Stmt, Block, done, ◌then◌, shape, while, repeat, plain}
use Rattle.definition.specs.Program as def
use Rattle.definition.specs.Program.{next_line, stmt_at, block_of}
use Rattle.definition.specs.CompileExpr.{ClassifiedCmp, classify}
use Rattle.definition.specs.Emit.{bind_label, emit_jmp}
use Rattle.definition.specs.Walk.{Calls, say}
use Rattle.definition.specs.Walk as walk
use Rattle.definition.specs.Stmt.{Loops, continues, branch_unless, branch_unless_by, loop_body, while_by, emit_while, repeat_by, emit_repeat, emit_plain, emit_loop, emit_block, emit_rest}
use Rattle.field.proofs.Tests.{or-none}
use Rattle.program.specs.declared.Cursor.{Cursor}
use Rattle.program.specs.Walk.{cursor_of, Near, Skipped}
use Rattle.program_shape.specs.Shape.{block_at, Shaped}
use Rattle.program_shape.specs.declared.Shape.{Shape}
use Rattle.program_shape.specs.declared.Shape.TheVariants as loop-shape
use Rattle.emit.specs.declared.Emitter.{Emitter}
use Rattle.emit.specs.View.{World, world}
use Rattle.emit.specs.Steps.{run, call, Ready, Booked, Created, Coded, Filled}
use Rattle.emit.proofs.Calls.{seq-filled, said-filled, fresh-filled}
use Rattle.expr.specs.Went.{Went}
use Rattle.expr.proofs.Laws.{filled}
use Rattle.stmt_parts.specs.declared.Context.{Context}
use Rattle.stmt_parts.specs.declared.loops.OpenLoop.{OpenLoop}
use Rattle.stmt_parts.specs.Context.{expr_in, stmt_in, block_in, inner_of, in_loop}
use Rattle.stmt_parts.specs.Loops.{Open, open_at, opens_in, loops_of, marked, Opened}
use Rattle.stmt.specs.Blocks.{loop_calls}
use Rattle.stmt_parts.specs.Parts.{Enters, PoolsFirst, BindsNext, while_from, while_end, pool_first}
use Rattle.stmt.specs.declared.Lent.{Lent}
use Rattle.stmt.specs.Ran.{Ran, RanBlock, RanBody, RanPlain, RanWhile, RanRepeat, RanLoop}
use Rattle.stmt_parts.proofs.Marks.{marked-same, marked-then, loops-marked}
use Rattle.stmt.proofs.Shapes.{while-shape, while-exits, unless-quiet, repeat-quiet}
use Rattle.stmt_parts.proofs.Walks.{booked-on, created-on, coded-on}
use Rattle.stmt.proofs.Walks.{at-loops, re}

-- ---- a loop's body

head_of : {a b : Open} {xs ys : List Open} → ◌≡◌ {A = List Open} (a ∷ xs) (b ∷ ys) → a ≡ b
head_of e = cc

tail_of : {a b : Open} {xs ys : List Open} → ◌≡◌ {A = List Open} (a ∷ xs) (b ∷ ys) → xs ≡ ys
tail_of e = cc

-- the flag that a body leaves is what the definition says of it, and the loops around it are marked as it says
module _ (i end next : ℕ) (used : ℕ → Bool) (ls ls₁ ls₂ : List OpenLoop) (inside : ℕ)
    (made : opens_in ls₁ (suc inside) ≡ record { labels = record { loop = i; exit = end; next = next }; used = false } ∷ opens_in ls inside)
    (ran : opens_in ls₂ (suc inside) ≡ marked used (opens_in ls₁ (suc inside))) where
  after-body : open_at ls₂ inside ∷ opens_in ls₂ inside ≡ record { labels = record { loop = i; exit = end; next = next }; used = false || used i } ∷ marked (λ j. bool.not (eqb j i) && used j) (opens_in ls inside)
  unfolding opens_in marked
  after-body = ran ∙ ap (λ (os : List Open). marked used os) made

  flag_is : (open_at ls₂ inside).used ≡ used i
  flag_is = ap (λ (o : Open). o.used) (head_of after-body)

  outer-marks : opens_in ls₂ inside ≡ marked (λ j. bool.not (eqb j i) && used j) (opens_in ls inside)
  outer-marks = tail_of after-body

module _ (s : Sheet) (ctx : Context) (text : List ℕ) (i end n : ℕ) (c : Cursor) {k : Context} (deep : k ≡ in_loop ctx) where
  pub body-done : {e e₁ r : Emitter} {code book pool b₁ book' : List ℕ} {ls ls₁ : List OpenLoop} {ls₂ : Lent} {next : ℕ} {used : Bool} {w₂ : World} {c₁ : Cursor} → Ready (world e code book pool) → Created e book e₁ b₁ next → Opened ctx.inside i end next ls ls₁
      → RanBlock s k text n (cursor_of c) (world e₁ code b₁ pool) w₂ ls₁ ls₂ c₁
      → used ≡ (open_at ls₂.loops ctx.inside).used
      → BindsNext used next w₂.e w₂.book r book'
      → RanBody s ctx text i end n (cursor_of c) (world e code book pool) (world r w₂.code book' w₂.pool) ls ls₂ c₁
  unfolding loop_body
  body-done {ls = ls} {ls₁ = ls₁} {ls₂ = ls₂} {next = next} {w₂ = w₂} ready x o b' is-used f =
      let b = rw deep at b' in
      let blk = (block_in ctx text n (cursor_of c)).0 in
      let ran-marks : opens_in ls₂.loops (suc ctx.inside) ≡ marked (λ j. continues j blk) (opens_in ls₁ (suc ctx.inside)) = rw (add-one) at b.marks in
      let flag : (open_at ls₂.loops ctx.inside).used ≡ continues i blk = flag_is i end next _ ls ls₁ ls₂.loops ctx.inside o.opens ran-marks in
      let inner : loops_of (opens_in ls₁ (ctx.inside + 1)) ≡ record { loop = i; exit = end; next = next } ∷ loops_of (opens_in ls ctx.inside) = unfold loops_of in rw (add-one, o.opens) in
      record {
        place = b.place;
        noted = b.noted;
        marks = outer-marks i end next _ ls ls₁ ls₂.loops ctx.inside o.opens ran-marks;
        filled = fresh-filled s 0 next _ x.label (created-on ready s 0 x) (seq-filled s _ _ (at-loops b inner) (rw (is-used, flag) at (f.did s w₂.code w₂.pool b.filled.ready)));
      }

-- ---- a loop of no shape

module _ (s : Sheet) (ctx : Context) (text : List ℕ) (i n m : ℕ) (c : Cursor) where
  pub plain_done : {e e₁ e₂ e₃ e₆ r : Emitter} {code book pool b₁ b₂ b₃ k₆ b₆ book' : List ℕ} {ls : List OpenLoop} {ls₄ ls₅ : Lent} {head end : ℕ} {w₄ w₅ : World} {c₁ c₂ : Cursor} → Ready (world e code book pool)
      → Created e book e₁ b₁ head → Created e₁ b₁ e₂ b₂ end → Booked (bind_label head) e₂ b₂ e₃ b₃
      → RanBody s ctx text i end n (cursor_of c) (world e₃ code b₃ pool) w₄ ls ls₄ c₁
      → RanBlock s ctx text m (cursor_of c₁) w₄ w₅ ls₄.loops ls₅ c₂
      → Coded (call s (emit_jmp head)) w₅.e w₅.code w₅.book e₆ k₆ b₆
      → Booked (bind_label end) e₆ b₆ r book'
      → RanPlain s ctx text i n m (cursor_of c) (world e code book pool) (world r k₆ book' w₅.pool) ls ls₅ c₂
  unfolding emit_plain
  plain_done {ls = ls} {head = head} {end = end} ready x y k b d' j o =
      let d = rw b.place.is at d' in
      let x₁ = created-on ready s 0 x in
      let x₂ = created-on x₁.ready s 0 y in
      let x₃ = booked-on x₂.ready s k in
      let x₆ = coded-on d.filled.ready j in
      record {
        place = d.place;
        noted = d.noted;
        marks = d.marks ∙ re _ b.marks ∙ marked-then _ _ (opens_in ls ctx.inside);
        filled = fresh-filled s 0 head _ x.label x₁
            (fresh-filled s 0 end _ y.label x₂
            (seq-filled s _ _ (said-filled s _ x₃)
            (seq-filled s _ _ b.filled
            (seq-filled s _ _ (at-loops d (ap loops_of b.marks ∙ loops-marked _ _))
            (seq-filled s _ _ (said-filled s _ x₆)
            (said-filled s _ (booked-on x₆.ready s o)))))));
      }

-- ---- the definition, in these parts

while-parts : (o : Option ClassifiedCmp) (i : ℕ) (c : Expr) (end : ℕ) (used : Bool) (body : Loops → Calls) (loops : Loops)
    → while_by o i c end used body loops ≡ while_from o c end (λ start. walk.◌>>◌ (loop_body i end used body loops) (while_end o start))
unfolding while_by while_from while_end
while-parts (some f) i c end used body loops = refl
while-parts none i c end used body loops = refl

repeat-parts : (o : Option ClassifiedCmp) (i : ℕ) (c : Expr) (head end : ℕ) (used : Bool) (body : Loops → Calls) (loops : Loops)
    → repeat_by o i c head end used body loops ≡ pool_first o (walk.◌>>◌ (say (bind_label head)) (walk.◌>>◌ (loop_body i end used body loops) (branch_unless_by o c head)))
unfolding repeat_by pool_first branch_unless_by
repeat-parts (some f) i c head end used body loops = refl
repeat-parts none i c head end used body loops = refl

module _ (s : Sheet) (ctx : Context) (text : List ℕ) (i n : ℕ) (q : Cursor) {k : Context} (deep : k ≡ inner_of ctx) where
  pub while-done : (rest : Cursor) {e e₁ r : Emitter} {code book pool b₁ b₅ : List ℕ} {ls : List OpenLoop} {ls₃ : Lent} {end back : ℕ} {w₂ w₃ w₄ : World} {c₃ : Cursor} → Ready (world e code book pool) → Created e book e₁ b₁ end
      → Enters s (while_from (classify (expr_in k text (cursor_of q)).0) (expr_in k text (cursor_of q)).0 end) (world e₁ code b₁ pool) w₂ back
      → RanBody s ctx text i end n (cursor_of rest) w₂ w₃ ls ls₃ c₃
      → Filled (run s (while_end (classify (expr_in k text (cursor_of q)).0) back)) w₃ w₄
      → Booked (bind_label end) w₄.e w₄.book r b₅
      → RanWhile s ctx text i n (cursor_of q) (cursor_of rest) (world e code book pool) (world r w₄.code b₅ w₄.pool) ls ls₃ c₃
  unfolding emit_while
  while-done rest {e₁ = e₁} {code = code} {pool = pool} {b₁ = b₁} {ls = ls} {end = end} {w₄ = w₄} ready m h' b t' o =
      let h = rw deep at h' in
      let t = rw deep at t' in
      let x = (expr_in (inner_of ctx) text (cursor_of q)).0 in
      let blk = (block_in ctx text n (cursor_of rest)).0 in
      let os = loops_of (opens_in ls ctx.inside) in
      let whole : Filled (run s (while_by (classify x) i x end (continues i blk) (λ o. emit_block blk o) os)) (world e₁ code b₁ pool) w₄ =
      rw (while-parts (classify x) i x end (continues i blk) (λ o. emit_block blk o) os) (h.did (λ start. walk.◌>>◌ (loop_body i end (continues i blk) (λ o. emit_block blk o) os) (while_end (classify x) start)) _ (seq-filled s _ _ b.filled t)) in
      record {
        place = b.place;
        noted = b.noted;
        marks = b.marks;
        filled = fresh-filled s 0 end _ m.label (created-on ready s 0 m) (seq-filled s _ _ whole (said-filled s _ (booked-on t.ready s o)));
      }

  pub repeat-done : (c last : Cursor) {e e₁ e₂ e₃ e₄ r : Emitter} {code book pool b₁ b₂ p₃ b₄ b₇ : List ℕ} {ls : List OpenLoop} {ls₅ : Lent} {head end : ℕ} {w₅ w₆ : World} {c₅ c₆ : Cursor} → Ready (world e code book pool) → Near text last.at last.row
      → Created e book e₁ b₁ head → Created e₁ b₁ e₂ b₂ end → PoolsFirst (classify (expr_in k text (cursor_of q)).0) e₂ pool e₃ p₃ → Booked (bind_label head) e₃ b₂ e₄ b₄
      → RanBody s ctx text i end n (cursor_of c) (world e₄ code b₄ p₃) w₅ ls ls₅ c₅
      → Went s (branch_unless (expr_in k text (cursor_of q)).0 head) text (expr_in k text (cursor_of q)).1 w₅ w₆ c₆
      → Booked (bind_label end) w₆.e w₆.book r b₇
      → RanRepeat s ctx text i n (cursor_of q) (cursor_of c) (cursor_of last) (world e code book pool) (world r w₆.code b₇ w₆.pool) ls ls₅ last
  unfolding emit_repeat branch_unless
  repeat-done c last {e₂ = e₂} {e₃ = e₃} {code = code} {pool = pool} {b₂ = b₂} {p₃ = p₃} {ls = ls} {head = head} {end = end} {w₆ = w₆} ready near m₁ m₂ p' f b t' o =
      let p = rw deep at p' in
      let t = rw deep at t' in
      let x = (expr_in (inner_of ctx) text (cursor_of q)).0 in
      let blk = (block_in ctx text n (cursor_of c)).0 in
      let os = loops_of (opens_in ls ctx.inside) in
      let x₁ = created-on ready s 0 m₁ in
      let x₂ = created-on x₁.ready s 0 m₂ in
      let y₃ : Ready (world e₃ code b₂ p₃) = record { fine = p.fine; room = ready.room; slots = x₂.ready.slots; held = p.held } in
      let whole : Filled (run s (repeat_by (classify x) i x head end (continues i blk) (λ o. emit_block blk o) os)) (world e₂ code b₂ pool) w₆ =
      rw (repeat-parts (classify x) i x head end (continues i blk) (λ o. emit_block blk o) os) (p.did s code b₂ (walk.◌>>◌ (say (bind_label head)) (walk.◌>>◌ (loop_body i end (continues i blk) (λ o. emit_block blk o) os) (branch_unless_by (classify x) x head))) _ x₂.ready (seq-filled s _ _ (said-filled s _ (booked-on y₃ s f)) (seq-filled s _ _ b.filled (filled t)))) in
      record {
        place = record { is = refl; near = near };
        noted = b.noted;
        marks = b.marks;
        filled = fresh-filled s 0 head _ m₁.label x₁ (fresh-filled s 0 end _ m₂.label x₂ (seq-filled s _ _ whole (said-filled s _ (booked-on t.ready s o))));
      }

-- ---- a loop by its shape

while-calls : {s : Sheet} (i : ℕ) (first : Stmt) (rest : Block) (x : Expr) {inside vars : ℕ} {text : List ℕ} {d : def.Cursor} {w u : World} {ls : List OpenLoop} {ls' : Lent} {p : Cursor} → while x ≡ shape i (first then rest) done
    → Ran s (emit_while i x (continues i rest) (λ o. emit_block rest o)) (λ j. bool.not (eqb j i) && continues j rest) inside vars text d w u ls ls' p
    → Ran s (loop_calls i (first then rest) done) (λ j. (bool.not (eqb j i) && continues j (first then rest)) || continues j done) inside vars text d w u ls ls' p
unfolding loop_calls emit_loop emit_rest continues
while-calls i first rest x e r = record {
  place = r.place;
  noted = r.noted;
  marks = r.marks ∙ marked-same _ _ _ (λ j. rw (unless-quiet i j first x (while-exits i first rest x e)) (sym (or-none _)));
  filled = rw (← e, unless-quiet i i first x (while-exits i first rest x e)) r.filled;
}

module _ (s : Sheet) (ctx : Context) (text : List ℕ) (i : ℕ) (c q : Cursor) where
  loop-while : (n m : ℕ) {k : ℕ} {rest p : Cursor} {w u : World} {ls : List OpenLoop} {ls' : Lent} → k ≡ n - 1
      → while (expr_in (inner_of ctx) text (cursor_of q)).0 ≡ shape i (block_in ctx text n (cursor_of c)).0 (block_in ctx text m (block_in ctx text n (cursor_of c)).1).0
      → Skipped text (stmt_in ctx text (cursor_of c)).1 rest
      → RanWhile s ctx text i k (cursor_of q) (cursor_of rest) w u ls ls' p
      → RanLoop s ctx text i n m (cursor_of c) w u ls ls' p
  unfolding block_of
  loop-while zero zero is-k e on r = absurd (let h = (while-shape i _ _ _ e).is in let q : ◌≡◌ {A = ℕ} 0 1 = cc in omega arith)
  loop-while n (suc m) is-k e on r = absurd (let h = (while-shape i _ _ _ e).none in let q : ◌≡◌ {A = ℕ} 0 1 = cc in omega arith)
  loop-while (suc n) zero {k} is-k e on r = while-calls i _ _ _ e (let z : k ≡ n = omega arith in rw (z, on.is) at r)

loop-repeat : (s : Sheet) (inside vars : ℕ) (text : List ℕ) (i : ℕ) (b d : Block) {x : Expr} {end : def.Cursor} {last p : Cursor} {w u : World} {ls : List OpenLoop} {ls' : Lent} → repeat x ≡ shape i b d → Skipped text end last
    → Ran s (emit_repeat i x (continues i b) (λ o. emit_block b o)) (λ j. bool.not (eqb j i) && continues j b) inside vars text (cursor_of last) w u ls ls' p
    → Ran s (loop_calls i b d) (λ j. (bool.not (eqb j i) && continues j b) || continues j d) inside vars text end w u ls ls' p
unfolding loop_calls emit_loop
loop-repeat s inside vars text i b d {x} e on r = record {
  place = record { is = r.place.is ∙ on.is; near = r.place.near };
  noted = r.noted;
  marks = r.marks ∙ marked-same _ _ _ (λ j. rw (repeat-quiet i j b d x e) (sym (or-none _)));
  filled = rw (← e) r.filled;
}

-- as its shape was seen
module _ {i n m left v : ℕ} {text : List ℕ} {c : def.Cursor} {r : Shape} (seen : Shaped i n m left v text c r) where
  pub while-places : {q rest : Cursor} → r ≡ loop-shape.While q rest → Skipped text (next_line text c) q × Skipped text (stmt_at left v text c).1 rest
  while-places e = rw e at seen.places

  pub repeat-places : {q last : Cursor} → r ≡ loop-shape.Repeat q last → Skipped text (next_line text (block_at left v text n c).1) q × Skipped text (block_at left v text m (block_at left v text n c).1).1 last
  repeat-places e = rw e at seen.places

-- behind its line
module _ (s : Sheet) (ctx : Context) (text : List ℕ) (i n m : ℕ) {d : def.Cursor} {c : Cursor} (on : Skipped text d c) {r : Shape} (seen : Shaped i n m ctx.left ctx.variables text (cursor_of c) r) {w u : World} {ls : List OpenLoop} {ls' : Lent} {p : Cursor} where
  pub is-while : {q rest : Cursor} {k : ℕ} → r ≡ loop-shape.While q rest → k ≡ n - 1 → RanWhile s ctx text i k (cursor_of q) (cursor_of rest) w u ls ls' p → RanLoop s ctx text i n m d w u ls ls' p
  is-while {q} e is-k f = rw (← on.is) (loop-while s ctx text i c q n m is-k (rw e at seen.condition) (while-places seen e).1 f)

  pub is-repeat : {q last : Cursor} → r ≡ loop-shape.Repeat q last → RanRepeat s ctx text i n (cursor_of q) (cursor_of c) (cursor_of last) w u ls ls' p → RanLoop s ctx text i n m d w u ls ls' p
  is-repeat e f = rw (← on.is) (loop-repeat s ctx.inside ctx.variables text i _ _ (rw e at seen.condition) (repeat-places seen e).1 f)

  pub is_plain : r ≡ loop-shape.Plain → RanPlain s ctx text i n m (cursor_of c) w u ls ls' p → RanLoop s ctx text i n m d w u ls ls' p
  unfolding loop_calls emit_loop
  is_plain e f =
      let none : plain ≡ shape i (block_in ctx text n (cursor_of c)).0 (block_in ctx text m (block_in ctx text n (cursor_of c)).1).0 = rw e at seen.condition in
      rw (← on.is) (record { place = f.place; noted = f.noted; marks = f.marks; filled = rw (← none) f.filled })
