use Rattle.stmt_parts.proofs.Tests.{test-done}
use Rattle.stmt_parts.proofs.conditions.end_loaded.Goals as goal

pub returns : goal.returns
returns c = test-done _ _ _ _ _ _ c.requires.ready c.emit_load_var-e.ensures c.emit_expr.ensures c.emit_typed-e.ensures c.emit_jmp_if_not-emitter.ensures
