use Rattle.std.proofs.Common.{◌-◌}
use Rattle.field.specs.View.{line_fields}
use Rattle.field.proofs.Fields.{Walked}
use Rattle.rules.specs.View.{row_size}
use Rattle.rules.proofs.Lines.{Reading}
use Rattle.rules.proofs.line_numbers.Given as goal

abbrev pub invariant-loop-k : goal.invariant-loop-k
invariant-loop-k l = Walked l.text l.at (row_size - 1) l.k l.place × Reading (line_fields l.text l.at) l.numbers l.k
