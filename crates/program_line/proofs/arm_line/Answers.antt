use mathlib.Core.Path.{refl}
use Rattle.definition.specs.Program.{arm_forms, open-Program}
use Rattle.program_line.specs.View.{arm_line}
use Rattle.program_line.proofs.Laws.{line-found, ran-none, ran-number}
use Rattle.program_line.proofs.arm_line.Goals as goal

pub returns : goal.returns
unfolding open-Program
returns c = rw c.finish.ensures (line-found arm_line arm_forms 0x4D c.requires (ran-number c.count-labels.ensures (ran-number c.count-statements.ensures ran-none)) (record { is = λ fs. refl }) _ refl)
