use Rattle.stmt_parts.proofs.Arms.{jump-done}
use Rattle.stmt_parts.proofs.labels.test_jump.Goals as goal

pub returns : goal.returns
returns c = jump-done _ _ _ c.requires.ready c.create_label.ensures c.test_label.ensures c.emit_jmp-e.ensures c.bind_label-emitter.ensures
