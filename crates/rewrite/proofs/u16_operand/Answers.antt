use native.Mathlib.Omega.{arith}
use Rattle.definition.specs.Rewrite.{operand_of}
use Rattle.rewrite.proofs.u16_operand.Goals as goal

pub returns : goal.returns
unfolding operand_of
returns c = omega arith
