use Rattle.line_run.proofs.Going.{Going}
use Rattle.line_run.proofs.remap_line_map.Given as goal

abbrev pub invariant-loop-i : goal.invariant-loop-i
invariant-loop-i l = Going l.moves l.end l.initial.entries l.count l.i l.kept l.last l.entries
