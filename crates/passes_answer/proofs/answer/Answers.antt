use Rattle.std.proofs.Common.{ap, ◌∙◌, arith}
use Rattle.input_reader.specs.View.{phase_view}
use Rattle.passes_answer.proofs.Printing.{answered}
use borrow.Author.Rules.{rules}
use Rattle.passes_answer.proofs.answer.Goals as goal

pub returns : goal.returns
returns c = answered _ _ _ _ _ _ (ap phase_view c.start-intake.ensures.follows) c.start-intake.ensures.starts (c.read.ensures.state ∙ c.feed.ensures.fed) (search rules) (search rules) (search rules) (search rules) (search rules) (omega (arith, c.well_formed)) c.finish.ensures
