use Prim.Native.Nat.{◌+◌, ◌*◌}
use Rattle.program.specs.Walk.{over_arm, over_stmt}
use Rattle.program.specs.Ends.{Sound}
use Rattle.program.proofs.Laws.{Going}
use Rattle.program.proofs.Walk.+stmts.Given as goal

-- stmt at `left` calls the others at one level less; there arms calls arm, which calls stmts, which calls stmt
abbrev pub decreases-arm : goal.decreases-arm
decreases-arm l = 4 * l.left + 2

abbrev pub decreases-arms : goal.decreases-arms
decreases-arms l = 4 * l.left + 3

abbrev pub decreases-stmt : goal.decreases-stmt
decreases-stmt l = 4 * l.left

abbrev pub decreases-stmts : goal.decreases-stmts
decreases-stmts l = 4 * l.left + 1

abbrev pub invariant-arms-loop : goal.invariant-arms-loop
invariant-arms-loop l = Going l.n (over_arm l.self.heed l.left l.self.variables l.self.text.now) l.self.text.now l.initial.on l.on l.counter × Sound l.self.text.now l.self.variables l.ends

abbrev pub invariant-stmts-loop : goal.invariant-stmts-loop
invariant-stmts-loop l = Going l.n (over_stmt l.self.heed l.left l.self.variables l.self.text.now) l.self.text.now l.initial.on l.on l.counter × Sound l.self.text.now l.self.variables l.ends
