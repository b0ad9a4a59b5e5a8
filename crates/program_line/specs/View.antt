-- What this crate's types stand for in the definition.
use Rattle.std.specs.Prelude.{Result, Ok, Err}
use Rattle.definition.specs.Tree as tree
use Rattle.definition.specs.Program as def
use Rattle.definition.specs.Program.{Line, is, not}
use Rattle.definition.specs.View.{refusal_number}
use Rattle.definition.specs.declared.Refusal.{Refusal}
use Rattle.line_map.specs.View.{pos_view}
use Rattle.opcode.specs.View.{binary_view, unary_view, compare_view, short_circuit_view}
use Rattle.program_line.specs.declared.Next.{Next}
use Rattle.program_line.specs.declared.HeaderLine.{HeaderLine}
use Rattle.program_line.specs.declared.StmtLine as stmt
use Rattle.program_line.specs.declared.StmtLine.TheVariants as stmt-line
use Rattle.program_line.specs.declared.ExprLine as expr
use Rattle.program_line.specs.declared.ExprLine.TheVariants as Expr-line
use Rattle.program_line.specs.declared.ArmLine.{ArmLine}
use Rattle.program_line.specs.declared.LabelLine as label
use Rattle.program_line.specs.declared.LabelLine.TheVariants as label-line

abbrev pub header_line : HeaderLine → def.Header
header_line l = record { variables = l.variables; statements = l.statements; pos = pos_view l.pos }

abbrev pub stmt_line : stmt.StmtLine → def.StmtLine
stmt_line (stmt-line.Assign p v) = def.A (pos_view p) v
stmt_line (stmt-line.If p n m) = def.I (pos_view p) n m
stmt_line (stmt-line.Case p n m) = def.S (pos_view p) n m
stmt_line (stmt-line.For p i v k n) = def.F (pos_view p) i v k n
stmt_line (stmt-line.Loop p i n m) = def.L (pos_view p) i n m
stmt_line (stmt-line.Exit p i) = def.X (pos_view p) i
stmt_line (stmt-line.Continue p i) = def.N (pos_view p) i
stmt_line (stmt-line.Return p) = def.R (pos_view p)

abbrev pub expr_line : expr.ExprLine → def.ExprLine
expr_line (Expr-line.Const k) = def.K k
expr_line (Expr-line.Bool b) = def.B b
expr_line (Expr-line.Read v) = def.D v
expr_line (Expr-line.Binary o) = def.O (binary_view o)
expr_line (Expr-line.Unary o) = def.U (unary_view o)
expr_line (Expr-line.Compare c) = def.C (compare_view c)
expr_line (Expr-line.ShortCircuit o) = def.H (short_circuit_view o)

abbrev pub arm_line : ArmLine → def.ArmLine
arm_line l = def.M l.labels l.statements

abbrev pub label_line : label.LabelLine → tree.CaseLabel
label_line (label-line.Value k) = tree.value k
label_line (label-line.Range a b) = tree.range a b

-- a line that was read, or its refusal
abbrev pub line_of : {T L : Type 0} → (T → L) → Result (Next T) Refusal → Line L
line_of view (Ok n) = is (view n.line)
line_of view (Err e) = not (refusal_number e)
