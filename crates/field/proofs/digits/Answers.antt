use Rattle.std.proofs.Common.{rules}
use Rattle.field.proofs.Fields.{sums_next}
use Rattle.field.proofs.digits.Goals as goal

pub loop-i-preserved : goal.loop-i-preserved
loop-i-preserved c stops p = sums_next (c.loop-i.invariant stops p) p (search rules) (search rules) c.add_digit-n.ensures
