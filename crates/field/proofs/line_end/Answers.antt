use Rattle.std.proofs.Common.{rules, eqb}
use Rattle.definition.specs.Field.{lf}
use Rattle.field.proofs.Parts.{part-line}
use Rattle.field.proofs.line_end.Goals as goal

pub returns : goal.returns
returns c = part-line (c.end_where.ensures (λ b. eqb b lf) (λ b r p. search rules))
