use mathlib.Core.Path.{refl}
use Rattle.definition.specs.Program.{label_forms, open-Program}
use Rattle.program_line.specs.View.{label_line}
use Rattle.program_line.proofs.Laws.{line-found, ran-none, ran-number}
use Rattle.program_line.proofs.value_line.Goals as goal

pub returns : goal.returns
unfolding open-Program
returns c = rw c.finish.ensures (line-found label_line label_forms 0x51 c.requires (ran-number c.number-value.ensures ran-none) (record { is = λ fs. refl }) _ refl)
