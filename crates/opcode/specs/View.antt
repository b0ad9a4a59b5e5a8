-- What this crate's types stand for in the definition.
use Rattle.std.specs.Prelude.{◌≡◌}
use Rattle.definition.specs.Opcode as def
use Rattle.definition.specs.Rules.{role_numbered}
use Rattle.opcode.specs.declared.BinaryOp.{BinaryOp}
use Rattle.opcode.specs.declared.BinaryOp.TheVariants as binary
use Rattle.opcode.specs.declared.ArithmeticOp.{ArithmeticOp}
use Rattle.opcode.specs.declared.ArithmeticOp.TheVariants.{Add, Sub, Mul, Div, Mod}
use Rattle.opcode.specs.declared.BoolOp.{BoolOp}
use Rattle.opcode.specs.declared.BoolOp.TheVariants.{BoolAnd, BoolOr, BoolXor}
use Rattle.opcode.specs.declared.UnaryOp.{UnaryOp}
use Rattle.opcode.specs.declared.UnaryOp.TheVariants as unary
use Rattle.opcode.specs.declared.CompareOp.{CompareOp}
use Rattle.opcode.specs.declared.CompareOp.TheVariants.{Eq, Ne, Lt, Le, Gt, Ge}
use Rattle.opcode.specs.declared.ShortCircuitOp.{ShortCircuitOp}
use Rattle.opcode.specs.declared.ShortCircuitOp.TheVariants.{AndThen, OrElse}
use Rattle.opcode.specs.declared.Role.{Role}
use Rattle.opcode.specs.declared.Role.TheVariants.{Dup, Pop, LoadVar, StoreVar, LoadConst, LoadTrue, LoadFalse, Arithmetic, Logic, Neg, BoolNot, Compare, Jmp, JmpIfNot, CmpBr, Ret}
use Rattle.opcode.specs.declared.Effect.{Effect}
use Rattle.opcode.specs.declared.Effect.TheVariants.{Up, Down, Same}
use Rattle.opcode.specs.declared.Flow.{Flow}
use Rattle.opcode.specs.declared.Flow.TheVariants.{Onward, Away, Either, Stop}
use Rattle.opcode.specs.declared.Traits.{Traits}

abbrev pub arithmetic_view : ArithmeticOp → def.ArithmeticOp
arithmetic_view Add = def.Add
arithmetic_view Sub = def.Sub
arithmetic_view Mul = def.Mul
arithmetic_view Div = def.Div
arithmetic_view Mod = def.Mod

abbrev pub bool_view : BoolOp → def.BoolOp
bool_view BoolAnd = def.BoolAnd
bool_view BoolOr = def.BoolOr
bool_view BoolXor = def.BoolXor

abbrev pub binary_view : BinaryOp → def.BinaryOp
binary_view (binary.Arithmetic o) = def.Arithmetic (arithmetic_view o)
binary_view (binary.Logic o) = def.Logic (bool_view o)

abbrev pub unary_view : UnaryOp → def.UnaryOp
unary_view unary.Neg = def.Neg
unary_view unary.BoolNot = def.BoolNot

abbrev pub compare_view : CompareOp → def.CompareOp
compare_view Eq = def.Eq
compare_view Ne = def.Ne
compare_view Lt = def.Lt
compare_view Le = def.Le
compare_view Gt = def.Gt
compare_view Ge = def.Ge

abbrev pub short_circuit_view : ShortCircuitOp → def.ShortCircuitOp
short_circuit_view AndThen = def.AndThen
short_circuit_view OrElse = def.OrElse

abbrev pub role_view : Role → def.Role
role_view Dup = def.dup
role_view Pop = def.pop
role_view LoadVar = def.load_var
role_view StoreVar = def.store_var
role_view LoadConst = def.load_const
role_view LoadTrue = def.load_true
role_view LoadFalse = def.load_false
role_view (Arithmetic o) = def.arithmetic (arithmetic_view o)
role_view (Logic o) = def.logic (bool_view o)
role_view Neg = def.neg
role_view BoolNot = def.bool_not
role_view (Compare c) = def.compare (compare_view c)
role_view Jmp = def.jmp
role_view JmpIfNot = def.jmp_if_not
role_view CmpBr = def.cmp_br
role_view Ret = def.ret

abbrev pub effect_view : Effect → def.Effect
effect_view Up = def.up
effect_view Down = def.down
effect_view Same = def.same

abbrev pub flow_view : Flow → def.Flow
flow_view Onward = def.onward
flow_view Away = def.away
flow_view Either = def.either
flow_view Stop = def.stop

-- what code gives of a role's traits
pub record AreTraits (t : def.Traits) (r : Traits) : Type 0 where
  pub size : r.size ≡ t.size
  pub needs : r.needs ≡ t.needs
  pub effect : effect_view r.effect ≡ t.effect
  pub flow : flow_view r.flow ≡ t.flow

-- what the tables of roles and comparisons are unfolded by
unfoldable pub open_opcode : Unit {0}
unfolding def.open-Opcode role_numbered
open_opcode = tt
