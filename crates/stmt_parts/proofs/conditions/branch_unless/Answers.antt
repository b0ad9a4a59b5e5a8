use Rattle.stmt_parts.proofs.Tests.{fused-done, jumps-done}
use Rattle.stmt_parts.proofs.conditions.branch_unless.Goals as goal

pub returns-in-Some : goal.returns-in-Some
returns-in-Some c = fused-done _ _ _ _ _ c.in-Some.ensures c.skip_expr-cursor.ensures c.emit_classified_cmp_br-emitter.ensures

pub returns-in-None : goal.returns-in-None
returns-in-None c = jumps-done _ _ _ _ c.in-None.ensures c.emit_expr.ensures c.emit_jmp_if_not-emitter.ensures
