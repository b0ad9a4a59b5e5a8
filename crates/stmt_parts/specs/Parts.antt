-- Parts of the definition's walk that code has in functions of their own. One that stands before the rest of a walk takes that rest: with it, it is what the
-- definition says.
use Rattle.std.specs.Prelude.{◌≡◌, Bool, true, false, List, [], ◌∷◌, ℕ, length, eqb}
use Rattle.std.proofs.Math.Option.{Option, some, none}
use Rattle.definition.specs.Limits.{no_loop}
use Rattle.definition.specs.Opcode.{Sheet, Add}
use Rattle.definition.specs.Opcode as role
use Rattle.definition.specs.Tree.{Expr, CaseLabel}
use Rattle.definition.specs.Program as def
use Rattle.definition.specs.Program.{line_at, next_line, label_by, label_forms}
use Rattle.definition.specs.CompileExpr.{ClassifiedCmp, emit_classified_cmp_br}
use Rattle.definition.specs.Expr.{emit_expr}
use Rattle.definition.specs.Emit.{load_variable, load_constant, store_variable, emit_opcode, emit_jmp, emit_jmp_if_not, bind_label, add_constant, reset_stack_depth, refused}
use Rattle.definition.specs.Walk.{Calls, ◌>>=◌, ◌>>◌, say, nothing, new_label, when}
use Rattle.definition.specs.Stmt.{labels, next_of, test_label, test_labels}
use Rattle.program.specs.declared.Cursor.{Cursor}
use Rattle.program.specs.Walk.{Skipped}
use Rattle.emit.specs.declared.Emitter.{Emitter}
use Rattle.emit.specs.Book.{book_size}
use Rattle.emit.specs.Pool.{Held}
use Rattle.emit.specs.View.{World, world}
use Rattle.emit.specs.Steps.{run, Ready, Fine, Coded, Filled}
use Rattle.expr.specs.declared.Walked.{Walked}
use Rattle.stmt_parts.specs.declared.loops.OpenLoop.{OpenLoop}
use Rattle.stmt_parts.specs.Loops.{opens_in, loops_of, marked, led_to}

-- m was emitted, and whatever is emitted next stands where m has it
pub record Leads (s : Sheet) (m : Calls → Calls) (text : List ℕ) (d : def.Cursor) (w v : World) (c : Cursor) : Type 0 where
  pub place : Skipped text d c
  pub ready : Ready v
  pub did : (k : Calls) (u : World) → Filled (run s k) v u → Filled (run s (m k)) w u

-- the same for a part that hands on a label
pub record Enters (s : Sheet) (m : (ℕ → Calls) → Calls) (w v : World) (l : ℕ) : Type 0 where
  pub ready : Ready v
  pub did : (k : ℕ → Calls) (u : World) → Filled (run s (k l)) v u → Filled (run s (m k)) w u

-- ---- EXIT and CONTINUE

-- at a row
unfoldable pub jump_row : ℕ → Option ℕ → Calls
jump_row row (some l) = say (emit_jmp l)
jump_row row none = say (refused (record { number = no_loop; place = row }))

-- m was emitted of a statement without blocks, the pool and the open loops left alone
pub record Stepped (s : Sheet) (m : Calls) (text : List ℕ) (d : def.Cursor) (e : Emitter) (code book : List ℕ) (r : Walked) (code' book' : List ℕ) : Type 0 where
  pub place : Skipped text d r.cursor
  pub coded : Coded (run s m) e code book r.emitter code' book'

-- a CONTINUE of loop i was emitted, its line at c
pub record Continued (s : Sheet) (inside i : ℕ) (text : List ℕ) (c : def.Cursor) (e : Emitter) (code book : List ℕ) (ls : List OpenLoop) (r : Walked) (code' book' : List ℕ) (ls' : List OpenLoop) : Type 0 where
  pub stepped : Stepped s (jump_row c.row (next_of (labels i (loops_of (opens_in ls inside))))) text (next_line text c) e code book r code' book'
  pub is : ls' ≡ led_to i ls inside
  pub marks : opens_in ls' inside ≡ marked (λ j. eqb j i) (opens_in ls inside)

-- ---- FOR

unfoldable pub for_end : ℕ → ℕ → ℕ → ℕ → Calls
for_end v step head end = do
  say (load_variable v)
  say (load_constant step)
  say (emit_opcode (role.arithmetic Add))
  say (store_variable v)
  say (emit_jmp head)
  say (bind_label end)

-- ---- WHILE and REPEAT

unfoldable pub while_from : Option ClassifiedCmp → Expr → ℕ → (ℕ → Calls) → Calls
while_from (some f) c end k = do
  say (add_constant f.constant)
  start ← new_label 0
  emit_classified_cmp_br f false end
  say (bind_label start)
  k start
while_from none c end k = do
  head ← new_label 0
  say (bind_label head)
  emit_expr c 0
  say (emit_jmp_if_not end)
  k head

unfoldable pub while_end : Option ClassifiedCmp → ℕ → Calls
while_end (some f) start = emit_classified_cmp_br f true start
while_end none start = say (emit_jmp start)

unfoldable pub pool_first : Option ClassifiedCmp → Calls → Calls
pool_first (some f) k = do
  say (add_constant f.constant)
  k
pool_first none k = k

pub record PoolsFirst (o : Option ClassifiedCmp) (e : Emitter) (pool : List ℕ) (r : Emitter) (pool' : List ℕ) : Type 0 where
  pub fine : Fine r
  pub held : Held pool'
  pub did : (s : Sheet) (code book : List ℕ) (k : Calls) (u : World) → Ready (world e code book pool) → Filled (run s k) (world r code book pool') u → Filled (run s (pool_first o k)) (world e code book pool) u

-- the label of a loop's CONTINUEs was bound, if one leads there
pub record BindsNext (used : Bool) (next : ℕ) (e : Emitter) (book : List ℕ) (r : Emitter) (book' : List ℕ) : Type 0 where
  pub fine : Fine r
  pub slots : length book' ≡ book_size
  pub did : (s : Sheet) (code pool : List ℕ) → Ready (world e code book pool) → Filled (run s (when used (say (bind_label next)))) (world e code book pool) (world r code book' pool)

-- ---- CASE

abbrev pub label_here : ℕ → List ℕ → def.Cursor → CaseLabel × def.Cursor
label_here left text c = label_by text c (line_at label_forms left text c.at)

unfoldable pub test_jump : CaseLabel → ℕ → Calls → Calls
test_jump l body k = do
  next_label ← new_label 1
  test_label l next_label
  say (emit_jmp body)
  say (bind_label next_label)
  k

unfoldable pub test_all : List CaseLabel → ℕ → ℕ → Calls
test_all [] body fail = nothing
test_all (l ∷ ls) body fail = test_labels l ls body fail

unfoldable pub arm_tests : List CaseLabel → ℕ → Calls → Calls
arm_tests [] next_arm k = k
arm_tests (l ∷ []) next_arm k = do
  test_label l next_arm
  k
arm_tests (l ∷ m ∷ ms) next_arm k = do
  start ← new_label 1
  test_labels l (m ∷ ms) start next_arm
  say (bind_label start)
  k

unfoldable pub arm_end : ℕ → ℕ → Calls
arm_end next_arm end = do
  say (emit_jmp end)
  say (bind_label next_arm)
  say (reset_stack_depth 1)
