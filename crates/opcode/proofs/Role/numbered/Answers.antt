use mathlib.Core.Path.{sym}
use Rattle.definition.specs.Opcode.{roles}
use Rattle.definition.specs.Rules.{role_numbered}
use Rattle.opcode.specs.View.{role_view}
use Rattle.opcode.proofs.Roles.{seen_at, table, past-roles}
use Rattle.opcode.proofs.Role.numbered.Goals as goal

pub returns-then-i-lt-ROLE_COUNT : goal.returns-then-i-lt-ROLE_COUNT
unfolding role_numbered roles
returns-then-i-lt-ROLE_COUNT c = rw c.from-i.ensures (seen_at role_view table _ _ _ (rw c.from-i.ensures at c.if-i-lt-ROLE_COUNT.true))

pub returns-else-i-lt-ROLE_COUNT : goal.returns-else-i-lt-ROLE_COUNT
returns-else-i-lt-ROLE_COUNT c = sym (past-roles _ (rw c.from-i.ensures at c.if-i-lt-ROLE_COUNT.false))
