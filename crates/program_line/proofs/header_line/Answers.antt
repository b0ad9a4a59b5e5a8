use mathlib.Core.Path.{refl}
use Rattle.definition.specs.Program.{header_forms, open-Program}
use Rattle.program_line.specs.View.{header_line}
use Rattle.program_line.proofs.Laws.{line-found, ran-none, ran-number, ran-position}
use Rattle.program_line.proofs.header_line.Goals as goal

pub returns : goal.returns
unfolding open-Program
returns c = rw c.finish.ensures (line-found header_line header_forms 0x50 c.requires (ran-number c.up_to-variables.ensures (ran-number c.count-statements.ensures (ran-position c.position-pos.ensures ran-none))) (record { is = λ fs. refl }) _ refl)
