use Rattle.program.proofs.Noted.{sound_none}
use Rattle.stmt.proofs.Walks.{top-done}
use Rattle.stmt.proofs.emit_stmts.Goals as goal

pub sequence-requires-clause-noted : goal.sequence-requires-clause-noted
sequence-requires-clause-noted c = rw c.new.ensures (sound_none _ _ c.requires.near.short)

pub returns : goal.returns
returns c = top-done _ c.sequence.ensures
