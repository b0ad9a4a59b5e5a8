use mathlib.Core.Path.{◌∙◌}
use Rattle.text.proofs.Lines.{offsets-on, offsets-end}
use Rattle.text.proofs.Text.put_offsets.Goals as goal

pub loop-x-preserved : goal.loop-x-preserved
loop-x-preserved c = record { put = offsets-on _ _ c.loop-x.invariant.put c.from.ensures c.push.ensures.is c.put_last.ensures.is c.loop-x-test.true; same = c.put_last.ensures.same ∙ c.push.ensures.same ∙ c.loop-x.invariant.same }

pub returns-clause-is : goal.returns-clause-is
returns-clause-is c = offsets-end _ _ c.loop-x.invariant.put c.loop-x-test.false
