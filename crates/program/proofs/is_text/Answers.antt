use mathlib.Core.Path.{◌∙◌}
use borrow.Author.Tests.{le-leb}
use Rattle.program.proofs.Check.{ends-lf}
use Rattle.program.proofs.is_text.Goals as goal

pub returns-then-text-le-MAX_PROGRAM : goal.returns-then-text-le-MAX_PROGRAM
returns-then-text-le-MAX_PROGRAM c = rw (le-leb _ _ c.if-text-le-MAX_PROGRAM.true) (c.ends_with.ensures.value ∙ ends-lf _)
