use Rattle.stmt_parts.proofs.Tests.{back-fused, back-jumps}
use Rattle.stmt_parts.proofs.conditions.while_end.Goals as goal

pub returns-in-Some : goal.returns-in-Some
returns-in-Some c = back-fused _ _ _ _ c.in-Some.ensures c.emit_classified_cmp_br.ensures

pub returns-in-None : goal.returns-in-None
returns-in-None c = back-jumps _ _ _ c.in-None.ensures c.requires.ready c.emit_jmp.ensures
