use mathlib.Core.Path.{refl, ◌∙◌}
use borrow.Author.Tests.{eq-eqb, ne_eqb}
use Rattle.optimize.proofs.Tables.{is-fixed}
use Rattle.optimize.proofs.check_offset.Goals as goal

pub returns-then-moved_to-x : goal.returns-then-moved_to-x
returns-then-moved_to-x c = is-fixed _ _ c.requires c.moved_to.ensures ∙ eq-eqb _ _ c.if-moved_to-x.true

pub returns-else-moved_to-x : goal.returns-else-moved_to-x
returns-else-moved_to-x c = (refl, is-fixed _ _ c.requires c.moved_to.ensures ∙ ne_eqb _ _ c.if-moved_to-x.false)
