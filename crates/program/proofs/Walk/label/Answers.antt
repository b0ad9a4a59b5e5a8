use mathlib.Core.Path.{sym}
use Rattle.definition.specs.Program.{label_forms}
use Rattle.program_line.specs.View.{label_line}
use Rattle.program.proofs.Laws.{fails, goes_over, line-inside, label-fault, label-over, walked_none}
use Rattle.program.proofs.Walk.label.Goals as goal

pub next_line-requires-clause-at_in_bounds : goal.next_line-requires-clause-at_in_bounds
next_line-requires-clause-at_in_bounds c = (line-inside label_line label_forms _ _ _ _ c.in-Ok.ensures).0

pub returns-in-Err : goal.returns-in-Err
returns-in-Err c = rw c.fail.ensures (fails _ _ c.requires (label-fault _ _ _ _ _ (sym c.in-Err.ensures.is)))

pub returns-in-Ok : goal.returns-in-Ok
returns-in-Ok c = goes_over c.next_line.ensures (label-over _ _ _ _ _ (sym c.in-Ok.ensures.is)) _ (walked_none c.next_line.ensures.near)
