use Rattle.program.specs.Walk.{over_label}
use Rattle.program.proofs.Laws.{Going}
use Rattle.program.proofs.Walk.labels.Given as goal

abbrev pub invariant-loop : goal.invariant-loop
invariant-loop l = Going l.n (over_label l.self.heed l.left l.self.text.now) l.self.text.now l.initial.on l.on l.counter
