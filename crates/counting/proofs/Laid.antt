-- A FOR over constants as it stands in finished code, instruction by instruction.
use Prim.Native.Nat.{ℕ, ◌+◌, ◌≤◌, ◌<◌}
use mathlib.Core.Path.{◌≡◌}
use mathlib.Core.Bool.{true}
use mathlib.Core.Option.{some}
use lib.ListN.{length, get_or}
use Rattle.definition.specs.Opcode.{Role, load_var, store_var, load_const, arithmetic, jmp, cmp_br, Add, Gt, comparison_of}
use Rattle.definition.specs.Runs.{target}
use Rattle.definition.specs.Machine.{Image, operand_at, constant_at, is_start, role_at}
use Rattle.definition.specs.For.{Places}

-- an instruction of role r starts at place p
pub record Stands (m : Image) (p : ℕ) (r : Role) : Type 0 where
  pub before : p < length m.bytecode
  pub start : is_start m p ≡ true
  pub role : role_at m p ≡ some r

-- LOAD_CONST from, STORE_VAR v
pub record Begins (m : Image) (p v from : ℕ) : Type 0 where
  pub load : Stands m p load_const
  pub loads : constant_at m (p + 1) ≡ from
  pub store : Stands m (p + 3) store_var
  pub stores : operand_at m.bytecode (p + 3 + 1) ≡ v

-- CMP_BR GT v to, and an offset
pub record Tests (m : Image) (p v to : ℕ) : Type 0 where
  pub test : Stands m p cmp_br
  pub comparison : comparison_of m.sheet (get_or m.bytecode (p + 1) 0) ≡ some Gt
  pub tests : operand_at m.bytecode (p + 2) ≡ v
  pub against : constant_at m (p + 4) ≡ to

-- LOAD_VAR v, LOAD_CONST step, ADD, STORE_VAR v, JMP head
pub record Counts (m : Image) (p v by head : ℕ) : Type 0 where
  pub load : Stands m p load_var
  pub loads : operand_at m.bytecode (p + 1) ≡ v
  pub step : Stands m (p + 3) load_const
  pub steps : constant_at m (p + 3 + 1) ≡ by
  pub add : Stands m (p + 3 + 3) (arithmetic Add)
  pub store : Stands m (p + 3 + 3 + 1) store_var
  pub stores : operand_at m.bytecode (p + 3 + 3 + 1 + 1) ≡ v
  pub jump : Stands m (p + 3 + 3 + 1 + 3) jmp
  pub jumps : target m.bytecode (p + 3 + 3 + 1 + 3 + 3) ≡ some head

-- a FOR up to its body
pub record Opening (m : Image) (f : Places) (v from to : ℕ) : Type 0 where
  pub begins : Begins m f.first v from
  pub test_next : f.end_test ≡ f.first + 3 + 3
  pub tests : Tests m f.end_test v to
  pub body_next : f.body ≡ f.end_test + 8

-- all of it: the end test leads to the end, and the body is followed by the counting up
pub record Laid (m : Image) (f : Places) (v from to by : ℕ) : Type 0 where
  pub opening : Opening m f v from to
  pub leaves : target m.bytecode (f.end_test + 8) ≡ some f.end
  pub body_ends : f.body ≤ f.increment
  pub counts : Counts m f.increment v by f.end_test
  pub end_next : f.end ≡ f.increment + 13
