use mathlib.Core.Path.{sym}
use Rattle.std.proofs.lemmas.List.{get_or-map}
use Rattle.definition.specs.Opcode.{Neg}
use Rattle.opcode.specs.View.{unary_view}
use Rattle.program_line.specs.declared.TheConstants.{UNARY_OPS}
use Rattle.program_line.proofs.unary_op.Goals as goal

pub returns : goal.returns
returns c = rw c.from.ensures (sym (get_or-map unary_view UNARY_OPS _ _ Neg c.requires))
