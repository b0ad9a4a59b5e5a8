use Rattle.program_shape.proofs.Laws.{sided, unsided}
use Rattle.program_shape.proofs.operand_at.Goals as goal

pub returns-in-Ok : goal.returns-in-Ok
returns-in-Ok c = rw c.operand_of.ensures (sided _ _ _ _ _ c.in-Ok.ensures.is)

pub returns-in-Err : goal.returns-in-Err
returns-in-Err c = unsided _ _ _ _ _ c.in-Err.ensures.is
