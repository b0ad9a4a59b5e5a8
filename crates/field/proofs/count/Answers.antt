use Rattle.field.proofs.Fields.{digits-pass, sums-whole, sums-broken}
use Rattle.field.specs.View.{separates}
use Rattle.field.proofs.count.Goals as goal

pub returns-then-field-digits_end : goal.returns-then-field-digits_end
returns-then-field-digits_end c = sums-whole (c.digits-n.ensures.made separates digits-pass) c.next_end-field.ensures c.if-field-digits_end.true c.spell.ensures

pub returns-else-field-digits_end : goal.returns-else-field-digits_end
returns-else-field-digits_end c = sums-broken (c.digits-n.ensures.made separates digits-pass) c.next_end-field.ensures c.if-field-digits_end.false c.digits-n.ensures.stopped
