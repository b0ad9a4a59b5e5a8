use Rattle.std.proofs.Common.{rules, eqb}
use Rattle.definition.specs.Field.{comma}
use Rattle.field.proofs.field_end.Goals as goal

pub returns : goal.returns
returns c = c.end_where.ensures (λ b. eqb b comma) (λ b r p. search rules)
