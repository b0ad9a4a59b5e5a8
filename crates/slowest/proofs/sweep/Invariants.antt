use Rattle.slowest.specs.View.{Sweeping}
use Rattle.slowest.proofs.sweep.Given as goal

abbrev pub invariant-loop-p : goal.invariant-loop-p
invariant-loop-p l = Sweeping l.image.sheet.now l.image.code.now l.counts l.p
