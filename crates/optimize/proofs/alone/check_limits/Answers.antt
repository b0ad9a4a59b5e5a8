use borrow.Author.Tests.{le-leb, lt-leb}
use Rattle.definition.specs.Res.{◌>>◌, demand}
use Rattle.optimize.specs.View.{limited}
use Rattle.optimize.proofs.alone.check_limits.Goals as goal

pub returns-then-code-gt-MAX_CODE : goal.returns-then-code-gt-MAX_CODE
unfolding limited ◌>>◌ demand
returns-then-code-gt-MAX_CODE c = rw (limited, lt-leb _ _ c.if-code-gt-MAX_CODE.true)

pub returns-then-protected-gt-MAX_PROTECTED : goal.returns-then-protected-gt-MAX_PROTECTED
unfolding limited ◌>>◌ demand
returns-then-protected-gt-MAX_PROTECTED c = rw (limited, le-leb _ _ c.if-code-gt-MAX_CODE.false, lt-leb _ _ c.if-protected-gt-MAX_PROTECTED.true)

pub returns-then-entries-gt-MAX_LINES : goal.returns-then-entries-gt-MAX_LINES
unfolding limited ◌>>◌ demand
returns-then-entries-gt-MAX_LINES c = rw (limited, le-leb _ _ c.if-code-gt-MAX_CODE.false, le-leb _ _ c.if-protected-gt-MAX_PROTECTED.false, lt-leb _ _ c.if-entries-gt-MAX_LINES.true)

pub returns-else-entries-gt-MAX_LINES : goal.returns-else-entries-gt-MAX_LINES
unfolding limited ◌>>◌ demand
returns-else-entries-gt-MAX_LINES c = rw (limited, le-leb _ _ c.if-code-gt-MAX_CODE.false, le-leb _ _ c.if-protected-gt-MAX_PROTECTED.false, le-leb _ _ c.if-entries-gt-MAX_LINES.false)
