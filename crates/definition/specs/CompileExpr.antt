-- The fused compare and branch (compile_expr.rs; `classify` of stmt.rs): variable against constant.
use Rattle.std.specs.Prelude.{ℕ, Bool, true, false}
use Rattle.std.proofs.Math.Option.{Option, some, none}
use Rattle.definition.specs.Opcode.{CompareOp, negate, commute}
use Rattle.definition.specs.Tree.{Constant, Expr, const, bool, read, binary, unary, compare, short_circuit, bad}
use Rattle.definition.specs.Emit.{emit_cmp_br}
use Rattle.definition.specs.Walk.{Calls, say}

-- a condition that one CMP_BR tests, the variable on the left
pub record ClassifiedCmp : Type 0 where
  pub op : CompareOp
  pub variable : ℕ
  pub constant : Constant

unfoldable pub read_of : Expr → Option ℕ
read_of (const k) = none
read_of (bool b) = none
read_of (read v) = some v
read_of (binary o a b) = none
read_of (unary o a) = none
read_of (compare c a b) = none
read_of (short_circuit o a b) = none
read_of (bad f) = none

unfoldable pub constant_of : Expr → Option Constant
constant_of (const k) = some k
constant_of (bool b) = none
constant_of (read v) = none
constant_of (binary o a b) = none
constant_of (unary o a) = none
constant_of (compare c a b) = none
constant_of (short_circuit o a b) = none
constant_of (bad f) = none

unfoldable pub zip : CompareOp → Option ℕ → Option Constant → Option ClassifiedCmp
zip c (some v) (some k) = some (record { op = c; variable = v; constant = k })
zip c (some v) none = none
zip c none k = none

unfoldable pub or_classified : Option ClassifiedCmp → Option ClassifiedCmp → Option ClassifiedCmp
or_classified (some f) g = some f
or_classified none g = g

-- a constant on the left exchanges the sides; B is never fused (a stand-in)
unfoldable pub classify : Expr → Option ClassifiedCmp
classify (const k) = none
classify (bool b) = none
classify (read v) = none
classify (binary o a b) = none
classify (unary o a) = none
classify (compare c a b) = or_classified (zip c (read_of a) (constant_of b)) (zip (commute c) (read_of b) (constant_of a))
classify (short_circuit o a b) = none
classify (bad f) = none

-- `emit_classified_cmp_br`: branching on false negates
unfoldable pub emit_classified_cmp_br : ClassifiedCmp → Bool → ℕ → Calls
emit_classified_cmp_br f true target = say (emit_cmp_br f.op f.variable f.constant target)
emit_classified_cmp_br f false target = say (emit_cmp_br (negate f.op) f.variable f.constant target)

-- `unfolding open-CompileExpr` names all of this module's definitions at once
unfoldable pub open-Compile_expr : Unit {0}
unfolding read_of constant_of zip or_classified classify emit_classified_cmp_br
open-Compile_expr = tt
