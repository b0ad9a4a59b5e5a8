use mathlib.Core.Path.{refl, ◌∙◌}
use Rattle.text.proofs.Lines.{decoded-on, decoded-end}
use Rattle.text.proofs.Text.put_decoded.Goals as goal

pub loop-i-preserved : goal.loop-i-preserved
loop-i-preserved c = record { put = decoded-on _ _ _ c.loop-i.invariant.put _ c.in-Some.ensures.is c.put_instruction.ensures.is c.in-Some.ensures.full; same = c.put_instruction.ensures.same ∙ c.loop-i.invariant.same }

pub returns-clause-is : goal.returns-clause-is
returns-clause-is c = decoded-end _ _ _ c.loop-i.invariant.put _ c.in_default.ensures.is refl
