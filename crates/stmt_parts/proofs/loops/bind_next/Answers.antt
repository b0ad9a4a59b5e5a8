use Rattle.stmt_parts.proofs.Jumps.{binds-none, binds-some}
use Rattle.stmt_parts.proofs.loops.bind_next.Goals as goal

pub returns-then-used : goal.returns-then-used
returns-then-used c = binds-some _ c.if-used.true c.bind_label.ensures

pub returns-else-used : goal.returns-else-used
returns-else-used c = binds-none _ c.if-used.false c.requires.fine c.told-book
