use mathlib.Core.Path.{◌∙◌}
use lib.ListN.{length-map}
use Rattle.text.proofs.Lines.{fields-on, fields-end, value-at}
use Rattle.text.proofs.Text.put_fields.Goals as goal

pub loop-n-preserved : goal.loop-n-preserved
loop-n-preserved g c = record { put = fields-on _ _ c.loop-n.invariant.put (c.wide.ensures ∙ value-at g.T.Number.value c.args.list.now c.loop-n.n-index c.n-item.result c.loop-n-test.true c.n-item.is) c.put_field.ensures.is (rw length-map c.loop-n-test.true); same = c.put_field.ensures.same ∙ c.loop-n.invariant.same }

pub returns-clause-is : goal.returns-clause-is
returns-clause-is g c = fields-end _ _ c.loop-n.invariant.put c.push.ensures.is (rw length-map c.loop-n-test.false)
