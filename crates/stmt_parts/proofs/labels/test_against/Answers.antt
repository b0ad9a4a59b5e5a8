use Rattle.stmt_parts.proofs.Arms.{against}
use Rattle.stmt_parts.proofs.labels.test_against.Goals as goal

pub returns : goal.returns
returns c = against _ _ _ _ c.requires c.emit_opcode-e.ensures c.load_constant-e.ensures c.emit_typed-e.ensures c.emit_jmp_if_not.ensures
