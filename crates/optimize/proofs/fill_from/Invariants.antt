use Rattle.optimize.proofs.Copying.{Copying}
use Rattle.optimize.proofs.fill_from.Given as goal

abbrev pub invariant-loop-i : goal.invariant-loop-i
invariant-loop-i g l = Copying l.from l.initial.out l.out l.i
