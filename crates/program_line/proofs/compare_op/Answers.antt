use mathlib.Core.Path.{sym}
use Rattle.std.proofs.lemmas.List.{get_or-map}
use Rattle.definition.specs.Opcode.{Eq}
use Rattle.opcode.specs.View.{compare_view}
use Rattle.program_line.specs.declared.TheConstants.{COMPARE_OPS}
use Rattle.program_line.proofs.compare_op.Goals as goal

pub returns : goal.returns
returns c = rw c.from.ensures (sym (get_or-map compare_view COMPARE_OPS _ _ Eq c.requires))
