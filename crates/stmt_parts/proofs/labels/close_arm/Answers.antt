use Rattle.stmt_parts.proofs.Arms.{arm-ends}
use Rattle.stmt_parts.proofs.labels.close_arm.Goals as goal

pub returns : goal.returns
returns c = arm-ends _ _ _ c.emit_jmp-e.ensures c.bind_label-e.ensures c.reset_stack_depth.ensures
