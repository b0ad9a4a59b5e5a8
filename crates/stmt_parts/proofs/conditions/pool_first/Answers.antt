use Rattle.stmt_parts.proofs.Tests.{pools, pools-none}
use Rattle.stmt_parts.proofs.conditions.pool_first.Goals as goal

pub returns-in-Some : goal.returns-in-Some
returns-in-Some c = pools _ _ c.in-Some.ensures c.add_constant.ensures

pub returns-in-None : goal.returns-in-None
returns-in-None c = pools-none _ c.in-None.ensures c.requires.fine c.requires.held
