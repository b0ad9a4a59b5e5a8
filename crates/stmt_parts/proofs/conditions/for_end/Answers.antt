use Rattle.stmt_parts.proofs.Tests.{counts-on}
use Rattle.stmt_parts.proofs.conditions.for_end.Goals as goal

pub returns : goal.returns
returns c = counts-on _ _ _ _ _ c.requires c.emit_load_var-e.ensures c.load_constant-e.ensures c.emit_typed-e.ensures c.emit_store_var-e.ensures c.emit_jmp-e.ensures c.bind_label.ensures
