use Rattle.program_line.proofs.Laws.{took-position}
use Rattle.program_line.proofs.Scan.position.Goals as goal

pub returns : goal.returns
returns c = took-position c.count-line.ensures c.count-column.ensures
