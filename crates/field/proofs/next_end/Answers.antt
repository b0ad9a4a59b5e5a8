use Rattle.std.proofs.Common.{rules}
use Rattle.field.specs.View.{separates}
use Rattle.field.proofs.next_end.Goals as goal

pub returns : goal.returns
returns c = record { ends = c.end_where-end.ensures separates (λ b r p. search rules); byte = search rules }
