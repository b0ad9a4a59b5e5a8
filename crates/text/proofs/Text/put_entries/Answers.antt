use mathlib.Core.Path.{◌∙◌}
use native.Mathlib.Omega.{arith}
use Rattle.text.proofs.Lines.{entries-on, entries-end}
use Rattle.text.proofs.Text.put_entries.Goals as goal

pub loop-numbers-preserved : goal.loop-numbers-preserved
loop-numbers-preserved c = record {
  size = c.in-Some.ensures.steps.0 ∙ c.loop-numbers.invariant.size;
  put = c.loop-numbers.invariant.put ∙ entries-on _ _ _ c.in-Some.ensures.steps.1.0 (c.in-Some.ensures.steps.1.1 ∙ c.loop-numbers.invariant.size) _ c.push.ensures.is c.put_fields.ensures.is;
  same = c.put_fields.ensures.same ∙ c.push.ensures.same ∙ c.loop-numbers.invariant.same;
}

pub returns-clause-is : goal.returns-clause-is
returns-clause-is c = entries-end _ _ _ c.loop-numbers.invariant.put (omega (arith, c.in-None.ensures.steps.1.0, c.loop-numbers.invariant.size))
