use mathlib.Core.Path.{sym}
use Rattle.std.proofs.lemmas.List.{get_or-map}
use Rattle.definition.specs.Opcode.{AndThen}
use Rattle.opcode.specs.View.{short_circuit_view}
use Rattle.program_line.specs.declared.TheConstants.{SHORT_CIRCUIT_OPS}
use Rattle.program_line.proofs.short_circuit_op.Goals as goal

pub returns : goal.returns
returns c = rw c.from.ensures (sym (get_or-map short_circuit_view SHORT_CIRCUIT_OPS _ _ AndThen c.requires))
