use mathlib.Core.Path.{refl, ◌∙◌}
use Rattle.text.proofs.Lines.{constants-on, constants-end}
use Rattle.text.proofs.Text.put_constants.Goals as goal

pub loop-bits-preserved : goal.loop-bits-preserved
loop-bits-preserved c = record { put = constants-on _ _ c.loop-bits.invariant.put refl c.put_constant.ensures.is c.loop-bits-test.true; same = c.put_constant.ensures.same ∙ c.loop-bits.invariant.same }

pub returns-clause-is : goal.returns-clause-is
returns-clause-is c = constants-end _ _ c.loop-bits.invariant.put c.loop-bits-test.false
