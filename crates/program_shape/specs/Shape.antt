-- What is seen of a part of the text before it is emitted: where it ends, and which shape it has. The total reading decides.
use Rattle.std.specs.Prelude as code
use Rattle.std.specs.Prelude.{ℕ, ◌-◌, ◌<◌, ◌≡◌, List, Bool, true, false, ◌&&◌, eqb, Some, None}
use Rattle.std.proofs.Math.Option.{Option, some, none}
use Rattle.definition.specs.Limits.{max_nesting}
use Rattle.definition.specs.Tree.{Expr, Stmt, Block, exit_when, exit_unless}
use Rattle.definition.specs.Program as def
use Rattle.definition.specs.Program.{A, I, S, F, L, X, N, R, K, B, D, O, U, C, H, next_line, expr_at, stmt_at, block_of}
use Rattle.definition.specs.Opcode.{CompareOp, commute}
use Rattle.definition.specs.CompileExpr.{ClassifiedCmp, read_of, constant_of, zip, or_classified}
use Rattle.definition.specs.Tree as shapes
use Rattle.opcode.specs.View.{compare_view}
use Rattle.program.specs.declared.Cursor.{Cursor}
use Rattle.program.specs.declared.Body.{Body}
use Rattle.program.specs.declared.Ends.{Ends}
use Rattle.program.specs.Walk.{cursor_of, place_of, Skipped}
use Rattle.program.specs.Ends.{start_of, end_of, Noted}
use Rattle.program_shape.specs.declared.Operand.{Operand}
use Rattle.program_shape.specs.declared.Operand.TheVariants as operand
use Rattle.program_shape.specs.declared.ClassifiedCmp as cmp
use Rattle.program_shape.specs.declared.ExitIf.{ExitIf}
use Rattle.program_shape.specs.declared.Shape.{Shape}
use Rattle.program_shape.specs.declared.Shape.TheVariants as loop-shape

-- ---- ends of bodies that were noted

-- an end is known only if a body of n statements from c on is noted at this level with that end
abbrev pub Knows : Ends → ℕ → ℕ → def.Cursor → code.Option Cursor → Type 0
Knows ends left n c (Some e) = (x : Body) × (left < max_nesting) × Noted ends left x × (start_of x ≡ c) × (x.count ≡ n) × (e ≡ end_of x)
Knows ends left n c None = Unit {0}

-- ---- conditions

-- what a line makes of a side: a variable or a constant
unfoldable pub operand_of : def.ExprLine → Operand
operand_of (K k) = operand.Constant k
operand_of (B b) = operand.Other
operand_of (D v) = operand.Variable v
operand_of (O o) = operand.Other
operand_of (U o) = operand.Other
operand_of (C o) = operand.Other
operand_of (H o) = operand.Other

abbrev pub variable_in : Operand → Option ℕ
variable_in (operand.Variable v) = some v
variable_in (operand.Constant k) = none
variable_in operand.Other = none

abbrev pub constant_in : Operand → Option ℕ
constant_in (operand.Variable v) = none
constant_in (operand.Constant k) = some k
constant_in operand.Other = none

-- the operand at a place is the expression's there
pub record Sided (e : Expr) (r : Operand) : Type 0 where
  pub variable : variable_in r ≡ read_of e
  pub constant : constant_in r ≡ constant_of e

abbrev pub cmp_view : cmp.ClassifiedCmp → ClassifiedCmp
cmp_view f = record { op = compare_view f.op; variable = f.variable; constant = f.constant }

abbrev pub classified : code.Option cmp.ClassifiedCmp → Option ClassifiedCmp
classified (Some f) = some (cmp_view f)
classified None = none

-- what `classify` makes of a comparison's sides
abbrev pub fused : CompareOp → Option ℕ → Option ℕ → Option ℕ → Option ℕ → Option ClassifiedCmp
fused c v k w l = or_classified (zip c v l) (zip (commute c) w k)

-- the condition of IF c THEN EXIT i, or of IF c ELSE EXIT i
unfoldable pub exit_if : Bool → ℕ → Stmt → Option Expr
exit_if true i s = exit_when i s
exit_if false i s = exit_unless i s

-- do an IF's branches hold so many statements?
unfoldable pub sizes_fit : Bool → ℕ → ℕ → Bool
sizes_fit true n m = eqb m 0 && eqb n 1
sizes_fit false n m = eqb n 0 && eqb m 1

unfoldable pub if_fits : Bool → def.StmtLine → Bool
if_fits when (A p v) = false
if_fits when (I p n m) = sizes_fit when n m
if_fits when (S p n m) = false
if_fits when (F p i v k n) = false
if_fits when (L p i n m) = false
if_fits when (X p i) = false
if_fits when (N p i) = false
if_fits when (R p) = false

unfoldable pub exit_line : ℕ → def.StmtLine → Bool
exit_line i (A p v) = false
exit_line i (I p n m) = false
exit_line i (S p n m) = false
exit_line i (F p j v k n) = false
exit_line i (L p j n m) = false
exit_line i (X p j) = eqb i j
exit_line i (N p j) = false
exit_line i (R p) = false

-- the IF at c, which ends at `end`, by the condition of its EXIT: the condition stands on the next line
unfoldable pub exit_by : List ℕ → def.Cursor → def.Cursor → Option Expr → code.Option ExitIf
exit_by text c end (some x) = Some (record { condition = place_of (next_line text c); end = place_of end })
exit_by text c end none = None

-- the expression at a place below a statement of so many levels left
abbrev pub condition_at : ℕ → ℕ → List ℕ → Cursor → Expr
condition_at left v text c = (expr_at (left - 1) v text (cursor_of c)).0

abbrev pub exit_condition : ℕ → ℕ → List ℕ → code.Option ExitIf → Option Expr
exit_condition left v text (Some e) = some (condition_at left v text e.condition)
exit_condition left v text None = none

abbrev pub exit_places : List ℕ → def.Cursor → def.Cursor → code.Option ExitIf → Type 0
exit_places text c d (Some e) = Skipped text (next_line text c) e.condition × Skipped text d e.end
exit_places text c d None = Unit {0}

-- the statement at a place, as an IF that exits loop i. `is` gives the answer; what follows from it for callers is that the condition stands there, and its places
pub record Exiting (when : Bool) (i left v : ℕ) (text : List ℕ) (c : def.Cursor) (r : code.Option ExitIf) : Type 0 where
  pub is : r ≡ exit_by text c (stmt_at left v text c).1 (exit_if when i (stmt_at left v text c).0)
  pub condition : exit_condition left v text r ≡ exit_if when i (stmt_at left v text c).0
  pub places : exit_places text c (stmt_at left v text c).1 r

-- the shape that such an IF makes of a loop, at its front or as its `continuing`
abbrev pub while_by : code.Option ExitIf → Shape
while_by (Some e) = loop-shape.While e.condition e.end
while_by None = loop-shape.Plain

abbrev pub repeat_by : code.Option ExitIf → Shape
repeat_by (Some e) = loop-shape.Repeat e.condition e.end
repeat_by None = loop-shape.Plain

-- a loop from c on, whose first statement ends at `first`, its body at d and its `continuing` at `last`, by its shape: a WHILE's IF is the body's first
-- statement and a REPEAT's is its `continuing`; the condition stands on the line behind the IF's
unfoldable pub shape_by : List ℕ → def.Cursor → def.Cursor → def.Cursor → def.Cursor → shapes.Shape → Shape
shape_by text c first d last (shapes.while x) = loop-shape.While (place_of (next_line text c)) (place_of first)
shape_by text c first d last (shapes.repeat x) = loop-shape.Repeat (place_of (next_line text d)) (place_of last)
shape_by text c first d last shapes.plain = loop-shape.Plain

-- n statements from c on
abbrev pub block_at : ℕ → ℕ → List ℕ → ℕ → def.Cursor → Block × def.Cursor
block_at left v text n c = block_of (λ d. stmt_at left v text d) n c

-- the shape of the loop i whose body of n and whose `continuing` of m statements stand from c on
abbrev pub shape_at : ℕ → ℕ → ℕ → ℕ → ℕ → List ℕ → def.Cursor → shapes.Shape
shape_at i n m left v text c = shapes.shape i (block_at left v text n c).0 (block_at left v text m (block_at left v text n c).1).0

abbrev pub shape_of : ℕ → ℕ → List ℕ → Shape → shapes.Shape
shape_of left v text (loop-shape.While c rest) = shapes.while (condition_at left v text c)
shape_of left v text (loop-shape.Repeat c end) = shapes.repeat (condition_at left v text c)
shape_of left v text loop-shape.Plain = shapes.plain

abbrev pub shape_places : List ℕ → def.Cursor → def.Cursor → def.Cursor → def.Cursor → Shape → Type 0
shape_places text c first d last (loop-shape.While q rest) = Skipped text (next_line text c) q × Skipped text first rest
shape_places text c first d last (loop-shape.Repeat q end) = Skipped text (next_line text d) q × Skipped text last end
shape_places text c first d last loop-shape.Plain = Unit {0}

-- `is` gives the answer; what follows from it for callers is that the condition stands there, and its places
pub record Shaped (i n m left v : ℕ) (text : List ℕ) (c : def.Cursor) (r : Shape) : Type 0 where
  pub is : r ≡ shape_by text c (stmt_at left v text c).1 (block_at left v text n c).1 (block_at left v text m (block_at left v text n c).1).1 (shape_at i n m left v text c)
  pub condition : shape_of left v text r ≡ shape_at i n m left v text c
  pub places : shape_places text c (stmt_at left v text c).1 (block_at left v text n c).1 (block_at left v text m (block_at left v text n c).1).1 r

-- `unfolding open_shape` names the definitions that code mirrors
unfoldable pub open_shape : Unit {0}
unfolding operand_of zip or_classified sizes_fit if_fits exit_line
open_shape = tt
