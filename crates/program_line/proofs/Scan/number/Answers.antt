use Rattle.program_line.proofs.Laws.{unwrapped, took, took-none}
use Rattle.program_line.proofs.Scan.number.Goals as goal

pub returns-in-Field : goal.returns-in-Field
returns-in-Field c = rw (c.unwrap_or.ensures, unwrapped, c.behind-self.ensures, c.worse-self.ensures) (took _ _ c.in-Field.is c.next_field-next.ensures)

pub returns-in-End : goal.returns-in-End
returns-in-End c = took-none _ c.in-End.is
