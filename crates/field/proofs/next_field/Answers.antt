use Rattle.std.proofs.Common.{ap, ◌∙◌, ◌+◌, arith}
use Rattle.field.specs.View.{kind_of}
use Rattle.field.proofs.Fields.{reads-next, past-is, sign-there}
use Rattle.field.proofs.next_field.Goals as goal

pub overflow_add-at : goal.overflow_add-at
overflow_add-at c = omega (arith, c.well_formed, c.from.ensures, sign-there (kind_of c.args.kind) c.args.text.now c.args.at c.has_minus-minus.ensures)

pub returns : goal.returns
returns c = reads-next (kind_of c.args.kind) c.has_minus-minus.ensures (ap (λ k. c.args.at + k) c.from.ensures ∙ past-is _ _) c.count-number.ensures c.decide.ensures.1 c.decide.ensures.0
