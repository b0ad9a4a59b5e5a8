use Rattle.stmt_parts.proofs.Tests.{head-fused, head-tested}
use Rattle.stmt_parts.proofs.conditions.while_head.Goals as goal

pub returns-in-Some : goal.returns-in-Some
returns-in-Some c = head-fused _ _ _ _ c.in-Some.ensures c.requires.ready c.add_constant-e.ensures c.create_label.ensures c.emit_classified_cmp_br-e.ensures c.bind_label-emitter.ensures

pub returns-in-None : goal.returns-in-None
returns-in-None c = head-tested _ _ _ c.in-None.ensures c.requires.ready c.create_label-in-None.ensures c.bind_label-e.ensures c.emit_expr.ensures c.emit_jmp_if_not-emitter.ensures
