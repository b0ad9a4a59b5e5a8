-- The comparison that a CMP_BR tests.
use Rattle.std.specs.Prelude.{Bool, true, false}
use Rattle.definition.specs.Opcode.{CompareOp, negate}

-- branching where the comparison holds, or where it does not
unfoldable pub branching_on : CompareOp → Bool → CompareOp
branching_on c true = c
branching_on c false = negate c
