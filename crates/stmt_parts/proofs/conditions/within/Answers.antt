use Rattle.definition.specs.Tree.{bound, counts_down}
use borrow.Author.Tests.{le-leb, lt-leb}
use Rattle.stmt_parts.proofs.conditions.within.Goals as goal

pub returns-then-step-ge-NEGATIVE : goal.returns-then-step-ge-NEGATIVE
unfolding bound counts_down
returns-then-step-ge-NEGATIVE c = rw (le-leb _ _ c.if-step-ge-NEGATIVE.true)

pub returns-else-step-ge-NEGATIVE : goal.returns-else-step-ge-NEGATIVE
unfolding bound counts_down
returns-else-step-ge-NEGATIVE c = rw (lt-leb _ _ c.if-step-ge-NEGATIVE.false)
