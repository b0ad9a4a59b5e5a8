-- Emission of statements (body/stmt.rs), in its order of label creation. Between statements the stack is empty.
use Rattle.std.specs.Prelude.{ℕ, List, [], ◌∷◌, Bool, true, false, not, ◌&&◌, ◌||◌, eqb}
use Rattle.std.proofs.Math.Option.{Option, some, none}
use Rattle.definition.specs.Limits.{width, no_loop}
use Rattle.definition.specs.Opcode.{Eq, Le, Ge, CompareOp, Add, dup, pop, ret}
use Rattle.definition.specs.Opcode as role
use Rattle.definition.specs.Tree.{Constant, Source, Expr, CaseLabel, value, range, bad_label, Stmt, assign, if, case, for, loop, exit, continue, return, bad_stmt, Block, done, ◌then◌, Arms, no_arms, arm, bad_arm, is_done, Shape, while, repeat, plain, shape, counts_down, bound}
use Rattle.definition.specs.Emit.{bind_label, load_variable, store_variable, load_constant, add_constant, emit_opcode, emit_jmp, emit_jmp_if_not, reset_stack_depth, set_position, refused}
use Rattle.definition.specs.Walk.{Calls, ◌>>=◌, ◌>>◌, say, nothing, new_label, when}
use Rattle.definition.specs.CompileExpr.{ClassifiedCmp, constant_of, classify, emit_classified_cmp_br}
use Rattle.definition.specs.Expr.{emit_expr}

-- ---- open loops (`LoopLabels`), innermost first

pub record LoopLabels : Type 0 where
  pub loop : ℕ
  pub exit : ℕ
  pub next : ℕ

abbrev pub Loops : Type 0
Loops = List LoopLabels

-- the innermost open loop of a number
unfoldable pub labels : ℕ → Loops → Option LoopLabels
labels i [] = none
labels i (o ∷ os) = elim (eqb o.loop i) [ true ↦ some o | false ↦ labels i os ]

unfoldable pub jump_to : Source → Option ℕ → Calls
jump_to s (some l) = say (emit_jmp l)
jump_to s none = say (refused (record { number = no_loop; place = s.row }))

unfoldable pub exit_of : Option LoopLabels → Option ℕ
exit_of none = none
exit_of (some o) = some o.exit

unfoldable pub next_of : Option LoopLabels → Option ℕ
next_of none = none
next_of (some o) = some o.next

-- ---- does a CONTINUE that is emitted here lead to loop i outside (`next_used`)?

unfoldable mutual
  pub continues_stmt : ℕ → Stmt → Bool
  continues_stmt i (assign s v e) = false
  continues_stmt i (if s c t e) = continues i t || continues i e
  continues_stmt i (case s e xs b) = continues_arms i xs || continues i b
  continues_stmt i (for s j v k a b c) = not (eqb i j) && continues i c
  continues_stmt i (loop s j b c) = (not (eqb i j) && continues i b) || continues i c
  continues_stmt i (exit s j) = false
  continues_stmt i (continue s j) = eqb i j
  continues_stmt i (return s) = false
  continues_stmt i (bad_stmt f) = false

  pub continues : ℕ → Block → Bool
  continues i done = false
  continues i (s then b) = continues_stmt i s || continues i b

  -- an arm without labels is not emitted
  pub continues_arms : ℕ → Arms → Bool
  continues_arms i no_arms = false
  continues_arms i (arm [] b xs) = continues_arms i xs
  continues_arms i (arm (l ∷ ls) b xs) = continues i b || continues_arms i xs
  continues_arms i (bad_arm f) = false

-- ---- conditions

-- jumps to the target unless the condition holds
unfoldable pub branch_unless_by : Option ClassifiedCmp → Expr → ℕ → Calls
branch_unless_by (some f) c target = emit_classified_cmp_br f false target
branch_unless_by none c target = do
  emit_expr c 0
  say (emit_jmp_if_not target)

unfoldable pub branch_unless : Expr → ℕ → Calls
branch_unless c target = branch_unless_by (classify c) c target

-- the ELSE of an IF is jumped over only where there is one
unfoldable pub else_part : Bool → ℕ → Calls → Calls
else_part true next otherwise = say (bind_label next)
else_part false next otherwise = do
  end ← new_label 0
  say (emit_jmp end)
  say (bind_label next)
  otherwise
  say (bind_label end)

-- ---- CASE: the selector stays on the stack while labels are tested

-- one test of a copy of the selector
unfoldable pub test_against : CompareOp → Constant → ℕ → Calls
test_against c k fail = do
  say (emit_opcode dup)
  say (load_constant k)
  say (emit_opcode (role.compare c))
  say (emit_jmp_if_not fail)

unfoldable pub test_label : CaseLabel → ℕ → Calls
test_label (value k) fail = test_against Eq k fail
test_label (range low high) fail = do
  test_against Ge low fail
  test_against Le high fail
test_label (bad_label f) fail = say (refused f)

-- the tests of two labels or more: each but the last jumps to the body
unfoldable pub test_labels : CaseLabel → List CaseLabel → ℕ → ℕ → Calls
test_labels l [] body fail = test_label l fail
test_labels l (m ∷ ms) body fail = do
  next_label ← new_label 1
  test_label l next_label
  say (emit_jmp body)
  say (bind_label next_label)
  test_labels m ms body fail

unfoldable pub arm_body : ℕ → ℕ → Calls → Calls
arm_body next_arm end body = do
  say (emit_opcode pop)
  body
  say (emit_jmp end)
  say (bind_label next_arm)
  say (reset_stack_depth 1)

-- an arm without labels emits nothing
unfoldable pub emit_arm : List CaseLabel → ℕ → Calls → Calls
emit_arm [] end body = nothing
emit_arm (l ∷ []) end body = do
  next_arm ← new_label 1
  test_label l next_arm
  arm_body next_arm end body
emit_arm (l ∷ m ∷ ms) end body = do
  next_arm ← new_label 1
  start ← new_label 1
  test_labels l (m ∷ ms) start next_arm
  say (bind_label start)
  arm_body next_arm end body

-- ---- loops. `body` and `continuing` are given the open loops around them

-- `loop_body` and `bind_next`: the label of the loop's CONTINUEs is bound after the body only if one leads there
unfoldable pub loop_body : ℕ → ℕ → Bool → (Loops → Calls) → Loops → Calls
loop_body i end next_used body loops = do
  next ← new_label 0
  body (record { loop = i; exit = end; next = next } ∷ loops)
  when next_used (say (bind_label next))

-- a FOR's end test: leaves the loop unless the control is within the end
unfoldable pub end_test_by : Option Constant → CompareOp → ℕ → Expr → ℕ → Calls
end_test_by (some k) within v to end = emit_classified_cmp_br (record { op = within; variable = v; constant = k }) false end
end_test_by none within v to end = do
  say (load_variable v)
  emit_expr to 1
  say (emit_opcode (role.compare within))
  say (emit_jmp_if_not end)

unfoldable pub emit_for : ℕ → ℕ → Constant → Expr → Expr → Bool → (Loops → Calls) → Loops → Calls
emit_for i v step from to next_used body loops = do
  emit_expr from 0
  say (store_variable v)
  head ← new_label 0
  end ← new_label 0
  say (bind_label head)
  end_test_by (constant_of to) (bound (counts_down width step)) v to end
  loop_body i end next_used body loops
  say (load_variable v)
  say (load_constant step)
  say (emit_opcode (role.arithmetic Add))
  say (store_variable v)
  say (emit_jmp head)
  say (bind_label end)

unfoldable pub while_by : Option ClassifiedCmp → ℕ → Expr → ℕ → Bool → (Loops → Calls) → Loops → Calls
while_by (some f) i c end next_used body loops = do
  say (add_constant f.constant)
  start ← new_label 0
  emit_classified_cmp_br f false end
  say (bind_label start)
  loop_body i end next_used body loops
  emit_classified_cmp_br f true start
while_by none i c end next_used body loops = do
  head ← new_label 0
  say (bind_label head)
  emit_expr c 0
  say (emit_jmp_if_not end)
  loop_body i end next_used body loops
  say (emit_jmp head)

unfoldable pub emit_while : ℕ → Expr → Bool → (Loops → Calls) → Loops → Calls
emit_while i c next_used body loops = do
  end ← new_label 0
  while_by (classify c) i c end next_used body loops
  say (bind_label end)

-- a fused REPEAT's constant enters the pool before the body's
unfoldable pub repeat_by : Option ClassifiedCmp → ℕ → Expr → ℕ → ℕ → Bool → (Loops → Calls) → Loops → Calls
repeat_by (some f) i c head end next_used body loops = do
  say (add_constant f.constant)
  say (bind_label head)
  loop_body i end next_used body loops
  emit_classified_cmp_br f false head
repeat_by none i c head end next_used body loops = do
  say (bind_label head)
  loop_body i end next_used body loops
  emit_expr c 0
  say (emit_jmp_if_not head)

unfoldable pub emit_repeat : ℕ → Expr → Bool → (Loops → Calls) → Loops → Calls
emit_repeat i c next_used body loops = do
  head ← new_label 0
  end ← new_label 0
  repeat_by (classify c) i c head end next_used body loops
  say (bind_label end)

unfoldable pub emit_plain : ℕ → Bool → (Loops → Calls) → (Loops → Calls) → Loops → Calls
emit_plain i next_used body continuing loops = do
  head ← new_label 0
  end ← new_label 0
  say (bind_label head)
  loop_body i end next_used body loops
  continuing loops
  say (emit_jmp head)
  say (bind_label end)

-- a WHILE's body leaves out its first statement
unfoldable pub emit_loop : Shape → ℕ → Bool → (Loops → Calls) → (Loops → Calls) → (Loops → Calls) → Loops → Calls
emit_loop (while c) i next_used body rest continuing loops = emit_while i c next_used rest loops
emit_loop (repeat c) i next_used body rest continuing loops = emit_repeat i c next_used body loops
emit_loop plain i next_used body rest continuing loops = emit_plain i next_used body continuing loops

-- ---- statements and blocks

unfoldable pub source_of : Stmt → Option Source
source_of (assign s v e) = some s
source_of (if s c t e) = some s
source_of (case s e xs b) = some s
source_of (for s i v k a b c) = some s
source_of (loop s i b c) = some s
source_of (exit s i) = some s
source_of (continue s i) = some s
source_of (return s) = some s
source_of (bad_stmt f) = none

unfoldable pub record_position : Option Source → Calls
record_position none = nothing
record_position (some s) = say (set_position s.pos)

unfoldable mutual
  pub emit_stmt : Stmt → Loops → Calls
  emit_stmt (assign s v e) loops = do
    emit_expr e 0
    say (store_variable v)
  emit_stmt (if s c t e) loops = do
    next ← new_label 0
    branch_unless c next
    emit_block t loops
    else_part (is_done e) next (emit_block e loops)
  emit_stmt (case s e xs b) loops = do
    emit_expr e 0
    end ← new_label 0
    emit_arms xs end loops
    say (emit_opcode pop)
    emit_block b loops
    say (bind_label end)
  emit_stmt (for s i v step from to b) loops = emit_for i v step from to (continues i b) (λ o. emit_block b o) loops
  emit_stmt (loop s i b c) loops =
      emit_loop (shape i b c) i (continues i b) (λ o. emit_block b o) (λ o. emit_rest b o) (λ o. emit_block c o) loops
  emit_stmt (exit s i) loops = jump_to s (exit_of (labels i loops))
  emit_stmt (continue s i) loops = jump_to s (next_of (labels i loops))
  emit_stmt (return s) loops = say (emit_opcode ret)
  emit_stmt (bad_stmt f) loops = say (refused f)

  -- a nested block: each statement at its own position
  pub emit_block : Block → Loops → Calls
  emit_block done loops = nothing
  emit_block (s then b) loops = do
    record_position (source_of s)
    emit_stmt s loops
    emit_block b loops

  -- a block without its first statement
  pub emit_rest : Block → Loops → Calls
  emit_rest done loops = nothing
  emit_rest (s then b) loops = emit_block b loops

  pub emit_arms : Arms → ℕ → Loops → Calls
  emit_arms no_arms end loops = nothing
  emit_arms (arm ls b xs) end loops = do
    emit_arm ls end (emit_block b loops)
    emit_arms xs end loops
  emit_arms (bad_arm f) end loops = say (refused f)

-- the top statements set no position
unfoldable pub emit_stmts : Block → Calls
emit_stmts done = nothing
emit_stmts (s then b) = do
  emit_stmt s []
  emit_stmts b

-- `unfolding open-Stmt` names all of this module's definitions at once
unfoldable pub open-Stmt : Unit {0}
unfolding labels jump_to exit_of next_of continues branch_unless_by branch_unless else_part test_against test_label test_labels arm_body emit_arm loop_body end_test_by emit_for while_by emit_while repeat_by emit_repeat emit_plain emit_loop source_of record_position emit_stmt emit_stmts
open-Stmt = tt
