use Rattle.expr.specs.Went.{bool_role}
use Rattle.expr.proofs.bool_role.Goals as goal

pub returns-then-b : goal.returns-then-b
unfolding bool_role
returns-then-b c = rw c.if-b.true

pub returns-else-b : goal.returns-else-b
unfolding bool_role
returns-else-b c = rw c.if-b.false
