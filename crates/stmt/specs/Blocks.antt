-- Blocks and statements of the definition's walk, as code has them in functions of their own.
use Rattle.std.specs.Prelude.{Bool, true, false, List, [], ◌∷◌, ℕ}
use Rattle.std.proofs.Math.Option.{Option, some, none}
use Rattle.definition.specs.Opcode.{Sheet}
use Rattle.definition.specs.Opcode as role
use Rattle.definition.specs.Tree.{Pos, Source, Expr, Block, done, ◌then◌, Arms, CaseLabel, is_done, shape}
use Rattle.definition.specs.Program as def
use Rattle.definition.specs.Program.{Line, is, not, A, I, S, F, L, X, N, R, arms_at, stmt_at}
use Rattle.definition.specs.Expr.{emit_expr}
use Rattle.definition.specs.Emit.{store_variable, emit_opcode, bind_label}
use Rattle.definition.specs.Walk.{Calls, ◌>>=◌, ◌>>◌, say, nothing, new_label}
use Rattle.definition.specs.Stmt.{Loops, continues, branch_unless, else_part, emit_stmt, emit_block, emit_rest, emit_loop, record_position, source_of, emit_arms}
use Rattle.emit.specs.declared.Emitter.{Emitter}
use Rattle.emit.specs.View.{World, world}
use Rattle.emit.specs.Steps.{run, Ready, Fine, Filled}
use Rattle.stmt_parts.specs.declared.Context.{Context}

-- ---- statements in order: a nested block records each position, the top does not

unfoldable pub recorded_by : Bool → Option Source → Calls → Calls
recorded_by true o k = record_position o >> k
recorded_by false o k = k

unfoldable pub emit_sequence : Bool → Block → Loops → Calls
emit_sequence b done loops = nothing
emit_sequence b (s then rest) loops = recorded_by b (source_of s) (emit_stmt s loops >> emit_sequence b rest loops)

-- where a statement stands in its source
unfoldable pub position : def.StmtLine → Pos
position (A p v) = p
position (I p n m) = p
position (S p n m) = p
position (F p i v k n) = p
position (L p i n m) = p
position (X p i) = p
position (N p i) = p
position (R p) = p

-- the source of a statement's line
unfoldable pub line_source : ℕ → Line def.StmtLine → Option Source
line_source row (is l) = some (record { pos = position l; row = row })
line_source row (not n) = none

-- the position of a line was recorded, if it is to be
pub record Placed (b : Bool) (x : Line def.StmtLine) (e r : Emitter) : Type 0 where
  pub fine : Fine r
  pub did : (s : Sheet) (row : ℕ) (code book pool : List ℕ) (k : Calls) (u : World) → Ready (world e code book pool) → Filled (run s k) (world r code book pool) u → Filled (run s (recorded_by b (line_source row x) k)) (world e code book pool) u

-- ---- statements, each behind its line

unfoldable pub emit_assign : ℕ → Expr → Calls
emit_assign v e = emit_expr e 0 >> say (store_variable v)

unfoldable pub emit_if : Expr → Block → Block → Loops → Calls
emit_if c t e loops = do
  next ← new_label 0
  branch_unless c next
  emit_block t loops
  else_part (is_done e) next (emit_block e loops)

unfoldable pub loop_calls : ℕ → Block → Block → Loops → Calls
loop_calls i b c loops = emit_loop (shape i b c) i (continues i b) (λ o. emit_block b o) (λ o. emit_rest b o) (λ o. emit_block c o) loops

unfoldable pub emit_case : Expr → Arms → Block → Loops → Calls
emit_case e xs b loops = do
  emit_expr e 0
  end ← new_label 0
  emit_arms xs end loops
  say (emit_opcode role.pop)
  emit_block b loops
  say (bind_label end)

-- ---- CASE

unfoldable pub arm_continues : ℕ → List CaseLabel → Block → Bool
arm_continues i [] b = false
arm_continues i (l ∷ ls) b = continues i b

-- n arms at a place
abbrev pub arms_here : Context → List ℕ → ℕ → def.Cursor → Arms × def.Cursor
arms_here ctx text n c = arms_at ctx.left text (λ d. stmt_at ctx.left ctx.variables text d) n c
