use Rattle.std.proofs.Common.{◌-◌}
use Rattle.definition.specs.View.{res_of}
use Rattle.definition.specs.Sheet.{field_count}
use Rattle.field.proofs.Fields.{Walked}
use Rattle.opcode.proofs.Readings.{Taking}
use Rattle.opcode.proofs.sheet.read_fields.Given as goal

abbrev pub invariant-loop-i : goal.invariant-loop-i
invariant-loop-i l = Walked l.text 0 (field_count - 1) l.i l.at × Taking l.text l.sheet l.i (res_of (λ u. u) l.taken)
