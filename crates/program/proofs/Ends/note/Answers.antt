use Rattle.std.proofs.Common.{rules}
use Rattle.program.proofs.Noted.{noted-first}
use Rattle.program.proofs.Ends.note.Goals as goal

pub returns-then-replaces : goal.returns-then-replaces
returns-then-replaces c = noted-first c.set_aside.ensures (search rules) c.in-Some.ensures
