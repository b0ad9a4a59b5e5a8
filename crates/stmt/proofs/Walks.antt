-- What was done inside open loops; and sequences of statements as the definition's blocks.
use mathlib.Core.Path.{◌≡◌, refl, ap, sym}
use mathlib.Core.Bool.{Bool, true, false}
use mathlib.Core.List.{List, []}
use Prim.Native.Nat.{ℕ}
use Rattle.definition.specs.Opcode.{Sheet}
use Rattle.definition.specs.Tree.{Block, done, ◌then◌}
use Rattle.definition.specs.Program as def
use Rattle.definition.specs.Program.{Line, is, StmtLine}
use Rattle.definition.specs.Walk.{Calls}
use Rattle.definition.specs.Walk as walk
use Rattle.definition.specs.Stmt.{Loops, record_position, source_of, emit_stmt, emit_block, emit_stmts}
use Rattle.program_line.specs.declared.StmtLine as code
use Rattle.program_line.specs.View.{stmt_line}
use Rattle.program.specs.declared.Cursor.{Cursor}
use Rattle.program.specs.Walk.{cursor_of, Near, Skipped}
use Rattle.program.specs.declared.Ends.{Ends}
use Rattle.program.specs.Ends.{Sound}
use Rattle.emit.specs.View.{World}
use Rattle.emit.specs.Steps.{run, Filled}
use Rattle.expr.specs.Went.{Went}
use Rattle.expr.proofs.Laws.{went}
use Rattle.stmt_parts.specs.declared.Context.{Context}
use Rattle.stmt_parts.specs.Context.{inner_of}
use Rattle.stmt_parts.specs.declared.loops.OpenLoop.{OpenLoop}
use Rattle.stmt_parts.specs.Loops.{Open, opens_in, loops_of, marked}
use Rattle.stmt.specs.declared.Lent.{Lent}
use Rattle.stmt.specs.Blocks.{recorded_by, emit_sequence}
use Rattle.stmt.specs.Ran.{Ran}

-- a place that stands where it is
pub stands_here : {text : List ℕ} {c : Cursor} → Near text c.at c.row → Skipped text (cursor_of c) c
stands_here near = record { is = refl; near = near }

-- what a line was read as
pub reads : {line x : code.StmtLine} {l : Line StmtLine} → is (stmt_line line) ≡ l → line ≡ x → l ≡ is (stmt_line x)
reads e told = rw told at (sym e)

-- what is noted is so for a statement's parts too
pub inner-noted : (ctx : Context) {text : List ℕ} {k : Context} {ends : Ends} → k ≡ inner_of ctx → Sound text ctx.variables ends → Sound text k.variables ends
inner-noted ctx e l = rw e l

-- ---- open loops

-- what was done, inside these loops
pub at-loops : {s : Sheet} {m : Loops → Calls} {used : ℕ → Bool} {inside vars : ℕ} {text : List ℕ} {d : def.Cursor} {w v : World} {ls : List OpenLoop} {ls' : Lent} {c : Cursor} {os : Loops} → Ran s m used inside vars text d w v ls ls' c → loops_of (opens_in ls inside) ≡ os → Filled (run s (m os)) w v
at-loops r e = rw e at r.filled

-- open loops that are the same, marked
pub re : (c : ℕ → Bool) {xs ys : List Open} → xs ≡ ys → marked c xs ≡ marked c ys
re c e = ap (λ (os : List Open). marked c os) e

-- ---- sequences

sequence-block : (b : Block) (loops : Loops) → emit_sequence true b loops ≡ emit_block b loops
unfolding emit_sequence recorded_by emit_block
sequence-block done loops = refl
sequence-block (s then b) loops = ap (λ (k : Calls). walk.◌>>◌ (record_position (source_of s)) (walk.◌>>◌ (emit_stmt s loops) k)) (sequence-block b loops)

sequence-top : (b : Block) → emit_sequence false b [] ≡ emit_stmts b
unfolding emit_sequence recorded_by emit_stmts
sequence-top done = refl
sequence-top (s then b) = ap (λ (k : Calls). walk.◌>>◌ (emit_stmt s []) k) (sequence-top b)

-- a sequence that records positions is a block
pub nested : {s : Sheet} (b : Block) {used : ℕ → Bool} {inside vars : ℕ} {text : List ℕ} {d : def.Cursor} {w v : World} {ls : List OpenLoop} {ls' : Lent} {c : Cursor} → Ran s (emit_sequence true b) used inside vars text d w v ls ls' c → Ran s (emit_block b) used inside vars text d w v ls ls' c
nested b r = record { place = r.place; filled = rw (sequence-block b) at r.filled; noted = r.noted; marks = r.marks }

no-loops : (ls : List OpenLoop) → loops_of (opens_in ls 0) ≡ []
unfolding opens_in loops_of
no-loops ls = refl

-- the top statements, inside no loop
pub top-done : {s : Sheet} (b : Block) {used : ℕ → Bool} {vars : ℕ} {text : List ℕ} {d : def.Cursor} {w v : World} {ls : List OpenLoop} {ls' : Lent} {c : Cursor} → Ran s (emit_sequence false b) used 0 vars text d w v ls ls' c → Went s (emit_stmts b) text d w v c
top-done b {ls = ls} r = went r.place (rw (sequence-top b) at (at-loops r (no-loops ls)))
