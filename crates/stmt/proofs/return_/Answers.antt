use Rattle.stmt.proofs.Simple.{returned}
use Rattle.stmt.proofs.Walks.{stands_here}
use Rattle.stmt.proofs.return_.Goals as goal

pub returns : goal.returns
returns c = returned _ _ (stands_here c.requires.near) c.emit_opcode-emitter.ensures
