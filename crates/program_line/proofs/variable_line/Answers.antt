use mathlib.Core.Path.{refl}
use Rattle.definition.specs.Program.{expr_forms, open-Program}
use Rattle.program_line.specs.View.{expr_line}
use Rattle.program_line.proofs.Laws.{line-found, ran-none, ran-number}
use Rattle.program_line.proofs.variable_line.Goals as goal

pub returns : goal.returns
unfolding open-Program
returns c = rw c.finish.ensures (line-found expr_line (expr_forms c.args.variables) 0x44 c.requires (ran-number c.index-k.ensures ran-none) (record { is = λ fs. refl }) _ refl)
