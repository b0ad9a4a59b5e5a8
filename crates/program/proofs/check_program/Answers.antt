use mathlib.Core.Path.{sym}
use Rattle.program.proofs.Check.{check-bad, check-header, headed}
use Rattle.program.proofs.check_program.Goals as goal

pub returns-then-not-is_text : goal.returns-then-not-is_text
returns-then-not-is_text c = check-bad _ (sym c.if-not-is_text.ensures)

pub check_body-requires-clause-headed : goal.check_body-requires-clause-headed
check_body-requires-clause-headed c = headed _ (sym c.if-not-is_text.ensures) (sym c.in-Ok.ensures.is)

pub returns-in-Err : goal.returns-in-Err
returns-in-Err c = check-header _ (sym c.if-not-is_text.ensures) _ (sym c.in-Err.ensures.is)
