use Rattle.stmt.proofs.Simple.{assigned}
use Rattle.stmt.proofs.assign.Goals as goal

pub returns : goal.returns
returns c = assigned _ _ _ _ c.emit_expr.ensures c.emit_store_var-emitter.ensures
