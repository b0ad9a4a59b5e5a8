-- Positions, and statements without blocks.
use mathlib.Core.Path.{◌≡◌, refl, sym}
use mathlib.Core.Bool.{Bool, true, false}
use mathlib.Core.Option.{Option, some, none}
use mathlib.Core.List.{List}
use Prim.Native.Nat.{ℕ}
use Rattle.definition.specs.Opcode.{Sheet, ret}
use Rattle.definition.specs.Tree.{Source, Expr, Pos}
use Rattle.definition.specs.Program as def
use Rattle.definition.specs.Program.{Line, is, not, A, I, S, F, L, X, N, R, StmtLine, line_at, next_line, fault_at, stmt_forms, stmt_of}
use Rattle.definition.specs.Emit.{store_variable, emit_opcode, set_position, refused}
use Rattle.definition.specs.Walk.{Calls, say}
use Rattle.definition.specs.Expr.{emit_expr}
use Rattle.definition.specs.Stmt.{labels, jump_to, exit_of, continues_stmt, source_of, record_position, emit_stmt}
use Rattle.program.specs.declared.Cursor.{Cursor}
use Rattle.program.specs.Walk.{cursor_of, Near, Skipped}
use Rattle.program.proofs.Laws.{stmt-bad, stmt-is}
use Rattle.program.specs.Ends.{Sound}
use Rattle.emit.specs.declared.Emitter.{Emitter}
use Rattle.emit.specs.View.{World, world}
use Rattle.emit.specs.Steps.{run, call, Ready, Fine, Bare, Coded, Filled}
use Rattle.emit.proofs.Calls.{seq-filled, said-filled, none_filled}
use Rattle.expr.specs.declared.Walked.{Walked}
use Rattle.expr.specs.Went.{Went}
use Rattle.expr.proofs.Laws.{went, place, filled}
use Rattle.stmt_parts.specs.declared.Context.{Context}
use Rattle.stmt_parts.specs.declared.loops.OpenLoop.{OpenLoop}
use Rattle.stmt_parts.specs.Context.{expr_in, stmt_in, inner_of}
use Rattle.stmt_parts.specs.Loops.{opens_in, loops_of}
use Rattle.stmt_parts.specs.Parts.{jump_row, Stepped, Continued}
use Rattle.stmt_parts.proofs.Marks.{marked-off}
use Rattle.stmt_parts.proofs.Walks.{bare-on, coded-on}
use Rattle.stmt_parts.proofs.Jumps.{coded-run}
use Rattle.stmt.specs.Blocks.{recorded_by, position, line_source, Placed, emit_assign}
use Rattle.stmt.specs.declared.Lent.{Lent}
use Rattle.stmt.specs.Ran.{Ran, RanStmt}

-- ---- positions

pub unrecorded : (x : Line StmtLine) {e : Emitter} {b : Bool} → b ≡ false → Fine e → Placed b x e e
unfolding recorded_by
unrecorded x off h = rw off (record { fine = h; did = λ s row code book pool k u y d. d })

-- a line at fault has none
pub unplaced : (b : Bool) (n : ℕ) {e : Emitter} → Fine e → Placed b (not n) e e
unfolding recorded_by line_source record_position
unplaced true n h = record { fine = h; did = λ s row code book pool k u y d. seq-filled s _ _ (none_filled s _ y) d }
unplaced false n h = record { fine = h; did = λ s row code book pool k u y d. d }

pub placed : (l : StmtLine) {b : Bool} {p : Pos} {e r : Emitter} → b ≡ true → p ≡ position l → Bare (set_position p) e r → Placed b (is l) e r
unfolding recorded_by record_position line_source
placed l on src d' = let d = rw src at d' in rw on (record { fine = d.fine; did = λ s row code book pool k u y q. seq-filled s _ _ (said-filled s _ (bare-on y s d)) q })

-- the source of the statement here is its line's
pub source-here : (x : Line StmtLine) (ctx : Context) (text : List ℕ) (c : def.Cursor) → line_at (stmt_forms ctx.variables) ctx.left text c.at ≡ x → source_of (stmt_in ctx text c).0 ≡ line_source c.row x
unfolding source_of line_source position stmt_of
source-here (is (A p i)) ctx text c e = rw (stmt-is ctx.left ctx.variables text c (A p i) e)
source-here (is (I p n m)) ctx text c e = rw (stmt-is ctx.left ctx.variables text c (I p n m) e)
source-here (is (S p n m)) ctx text c e = rw (stmt-is ctx.left ctx.variables text c (S p n m) e)
source-here (is (F p i j k n)) ctx text c e = rw (stmt-is ctx.left ctx.variables text c (F p i j k n) e)
source-here (is (L p i n m)) ctx text c e = rw (stmt-is ctx.left ctx.variables text c (L p i n m) e)
source-here (is (X p i)) ctx text c e = rw (stmt-is ctx.left ctx.variables text c (X p i) e)
source-here (is (N p i)) ctx text c e = rw (stmt-is ctx.left ctx.variables text c (N p i) e)
source-here (is (R p)) ctx text c e = rw (stmt-is ctx.left ctx.variables text c (R p) e)
source-here (not n) ctx text c e = rw (stmt-bad ctx.left ctx.variables text c n e)

-- ---- statements without blocks

-- what leaves the open loops alone
pub quiet : {s : Sheet} {m : Calls} {text : List ℕ} {d : def.Cursor} {w v : World} {c : Cursor} (used : ℕ → Bool) (inside : ℕ) {vars : ℕ} (ls : Lent) → Sound text vars ls.ends → ((i : ℕ) → used i ≡ false) → Skipped text d c → Filled (run s m) w v → Ran s (λ loops. m) used inside vars text d w v ls.loops ls c
quiet used inside ls noted off a f = record { place = a; filled = f; noted = noted; marks = sym (marked-off used _ off) }

pub assigned : (s : Sheet) (v : ℕ) (x : Expr) (text : List ℕ) {d : def.Cursor} {c : Cursor} {w u : World} {r : Emitter} {code' book' : List ℕ} → Went s (emit_expr x 0) text d w u c → Coded (call s (store_variable v)) u.e u.code u.book r code' book'
    → Went s (emit_assign v x) text d w (world r code' book' u.pool) c
unfolding emit_assign
assigned s v x text a k = went (place a) (seq-filled s _ _ (filled a) (said-filled s _ (coded-on a.ready k)))

pub returned : (s : Sheet) (text : List ℕ) {d : def.Cursor} {c : Cursor} {e r : Emitter} {code book code' book' : List ℕ} → Skipped text d c → Coded (call s (emit_opcode ret)) e code book r code' book'
    → Stepped s (say (emit_opcode ret)) text d e code book (record { cursor = c; emitter = r }) code' book'
returned s text on k = record { place = on; coded = coded-run s _ k }

jump-row : (x : Source) (o : Option ℕ) → jump_to x o ≡ jump_row x.row o
unfolding jump_to jump_row
jump-row x (some l) = refl
jump-row x none = refl

module _ (s : Sheet) (ctx : Context) (text : List ℕ) (c : Cursor) where
  abbrev pub Reads : StmtLine → Type 0
  Reads l = line_at (stmt_forms ctx.variables) ctx.left text c.at ≡ is l

  pub ran-bad : (n : ℕ) {e r : Emitter} {code book pool : List ℕ} {ls : Lent} → Sound text ctx.variables ls.ends → Near text c.at c.row → Ready (world e code book pool) → line_at (stmt_forms ctx.variables) ctx.left text c.at ≡ not n
      → Bare (refused (record { number = n; place = c.row })) e r → RanStmt s ctx text (cursor_of c) (world e code book pool) (world r code book pool) ls.loops ls c
  unfolding emit_stmt continues_stmt fault_at
  ran-bad n {ls = ls} noted near ready line d = rw (stmt-bad ctx.left ctx.variables text (cursor_of c) n line) (quiet (λ i. false) ctx.inside ls noted (λ i. refl) (record { is = refl; near = near }) (said-filled s _ (bare-on ready s d)))

  pub ran-assign : {k : Context} → k ≡ inner_of ctx → (p : Pos) (i : ℕ) {w u : World} {ls : Lent} {d : Cursor} → Sound text ctx.variables ls.ends → Reads (A p i)
      → Went s (emit_assign i (expr_in k text (next_line text (cursor_of c))).0) text (expr_in k text (next_line text (cursor_of c))).1 w u d → RanStmt s ctx text (cursor_of c) w u ls.loops ls d
  unfolding stmt_of emit_stmt continues_stmt emit_assign
  ran-assign {k} deep p i {ls = ls} noted line a' = let a = rw deep at a' in rw (stmt-is ctx.left ctx.variables text (cursor_of c) (A p i) line) (quiet (λ i. false) ctx.inside ls noted (λ i. refl) (place a) (filled a))

  module _ {e : Emitter} {code book pool : List ℕ} (ready : Ready (world e code book pool)) {r : Walked} {code' book' : List ℕ} {ls : Lent} where
    pub ran-return : (p : Pos) → Sound text ctx.variables ls.ends → Reads (R p) → Stepped s (say (emit_opcode ret)) text (next_line text (cursor_of c)) e code book r code' book'
        → RanStmt s ctx text (cursor_of c) (world e code book pool) (world r.emitter code' book' pool) ls.loops ls r.cursor
    unfolding stmt_of emit_stmt continues_stmt
    ran-return p noted line k = rw (stmt-is ctx.left ctx.variables text (cursor_of c) (R p) line) (quiet (λ i. false) ctx.inside ls noted (λ i. refl) k.place (coded-on ready k.coded))

    pub ran-exit : {k : Context} → k ≡ inner_of ctx → (p : Pos) (i : ℕ) → Sound text ctx.variables ls.ends → Reads (X p i) → Stepped s (jump_row c.row (exit_of (labels i (loops_of (opens_in ls.loops k.inside))))) text (next_line text (cursor_of c)) e code book r code' book'
        → RanStmt s ctx text (cursor_of c) (world e code book pool) (world r.emitter code' book' pool) ls.loops ls r.cursor
    unfolding stmt_of emit_stmt continues_stmt
    ran-exit deep p i noted line k' = let k = rw deep at k' in rw (stmt-is ctx.left ctx.variables text (cursor_of c) (X p i) line) (record { place = k.place; filled = rw jump-row (coded-on ready k.coded); noted = noted; marks = sym (marked-off (λ i. false) _ (λ i. refl)) })

    pub ran-continue : {before' : List OpenLoop} {k : Context} → k ≡ inner_of ctx → (p : Pos) (i : ℕ) → Sound text ctx.variables ls.ends → Reads (N p i) → Continued s k.inside i text (cursor_of c) e code book ls.loops r code' book' before'
        → RanStmt s ctx text (cursor_of c) (world e code book pool) (world r.emitter code' book' pool) ls.loops (record { loops = before'; ends = ls.ends }) r.cursor
    unfolding stmt_of emit_stmt continues_stmt
    ran-continue deep p i noted line k' = let k = rw deep at k' in rw (stmt-is ctx.left ctx.variables text (cursor_of c) (N p i) line) (record { place = k.stepped.place; filled = rw jump-row (coded-on ready k.stepped.coded); noted = noted; marks = k.marks })
