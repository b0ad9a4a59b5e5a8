-- The definition's call, from a part on.
use Rattle.std.specs.Prelude.{◌≡◌, ℕ, List}
use Rattle.definition.specs.Res.{Res, ok, ◌>>=◌}
use Rattle.definition.specs.Opcode.{Sheet}
use Rattle.definition.specs.Rules.{Rule, read_rules}
use Rattle.definition.specs.Program.{read_program}
use Rattle.definition.specs.Compile.{FinalizedFunction, compile_program, compile_into, Free}
use Rattle.definition.specs.declared.Refused.{Refused}
use Rattle.std.specs.Prelude.{Result}
use Rattle.compile.specs.declared.call.Compiled.{Compiled}
use Rattle.compile.specs.Call.{room, Ends}

-- rules that some rule file gives
pub record FromFile (rs : List Rule) : Type 0 where
  pub file : List ℕ
  pub is : read_rules file ≡ ok rs

-- behind 9, and behind the sheet
unfoldable pub behind_rules : Sheet → List Rule → List ℕ → Res FinalizedFunction
behind_rules s rs text = read_program text >>= λ p. compile_program s rs p

unfoldable pub behind_sheet : Sheet → List ℕ → List ℕ → Res FinalizedFunction
behind_sheet s rules text = read_rules rules >>= λ rs. behind_rules s rs text

-- the whole call, but that nothing is zeroed yet
pub record Finds (sheet rules program bytes words numbers bytes' words' numbers' : List ℕ) (r : Result Compiled Refused) : Type 0 where
  pub place : ℕ
  pub free : Free sheet place
  pub ends : Ends (compile_into place (room bytes words numbers) sheet rules program) bytes words numbers bytes' words' numbers' r
