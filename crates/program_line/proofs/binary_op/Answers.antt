use mathlib.Core.Path.{sym}
use Rattle.std.proofs.lemmas.List.{get_or-map}
use Rattle.definition.specs.Opcode.{Add, Arithmetic}
use Rattle.opcode.specs.View.{binary_view}
use Rattle.program_line.specs.declared.TheConstants.{BINARY_OPS}
use Rattle.program_line.proofs.binary_op.Goals as goal

pub returns : goal.returns
returns c = rw c.from.ensures (sym (get_or-map binary_view BINARY_OPS _ _ (Arithmetic Add) c.requires))
