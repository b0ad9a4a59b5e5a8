use Rattle.replay.proofs.Parts.{Reading}
use Rattle.replay.proofs.part_end.Given as goal

abbrev pub invariant-loop-at : goal.invariant-loop-at
invariant-loop-at l = Reading l.input l.from l.at l.starts
