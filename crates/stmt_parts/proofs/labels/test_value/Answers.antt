use Rattle.stmt_parts.proofs.Arms.{value-tested}
use Rattle.stmt_parts.proofs.labels.test_value.Goals as goal

pub returns : goal.returns
returns c = value-tested _ _ _ c.test_against.ensures
