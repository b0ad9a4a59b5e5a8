use Rattle.stmt_parts.proofs.Arms.{range-tested}
use Rattle.stmt_parts.proofs.labels.test_range.Goals as goal

pub returns : goal.returns
returns c = range-tested _ _ _ _ c.test_against-e.ensures c.test_against.ensures
