use mathlib.Core.Path.{refl}
use Rattle.definition.specs.Program.{stmt_forms, open-Program}
use Rattle.program_line.specs.View.{stmt_line}
use Rattle.program_line.proofs.Laws.{line-found, ran-none, ran-number, ran-position}
use Rattle.program_line.proofs.if_line.Goals as goal

pub returns : goal.returns
unfolding open-Program
returns c = rw c.finish.ensures (line-found stmt_line (stmt_forms c.args.variables) 0x49 c.requires (ran-position c.position-pos.ensures (ran-number c.count-then.ensures (ran-number c.count-otherwise.ensures ran-none))) (record { is = λ fs. refl }) _ refl)
