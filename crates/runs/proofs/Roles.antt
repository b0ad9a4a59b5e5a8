-- Laws of the roles' table, each for every role.
use Prim.Native.Nat.{◌≤◌}
use mathlib.Core.Path.{◌≡◌}
use mathlib.Core.Bool.{true}
use native.Mathlib.Omega.{arith}
use Rattle.definition.specs.Opcode.{Role, dup, pop, load_var, store_var, load_const, load_true, load_false, arithmetic, logic, neg, bool_not, compare, jmp, jmp_if_not, cmp_br, ret, traits_of, traits, size, flow}
use Rattle.definition.specs.Claims.{branches}
use Rattle.field.proofs.Results.{never}

-- a branch has two operand bytes at least
pub branch-size : (r : Role) → branches (flow r) ≡ true → 3 ≤ size r
unfolding size flow traits traits_of branches
branch-size dup e = never (cc)
branch-size pop e = never (cc)
branch-size load_var e = never (cc)
branch-size store_var e = never (cc)
branch-size load_const e = never (cc)
branch-size load_true e = never (cc)
branch-size load_false e = never (cc)
branch-size (arithmetic o) e = never (cc)
branch-size (logic o) e = never (cc)
branch-size neg e = never (cc)
branch-size bool_not e = never (cc)
branch-size (compare c) e = never (cc)
branch-size jmp e = omega arith
branch-size jmp_if_not e = omega arith
branch-size cmp_br e = omega arith
branch-size ret e = never (cc)
