use Prim.Native.Nat.{◌+◌, ◌*◌}
use Rattle.program.specs.Walk.{over_expr}
use Rattle.program.proofs.Laws.{Going}
use Rattle.program.proofs.Walk.+exprs.Given as goal

-- expr at `left` calls exprs at one level less, which calls expr there
abbrev pub decreases-expr : goal.decreases-expr
decreases-expr l = 2 * l.left

abbrev pub decreases-exprs : goal.decreases-exprs
decreases-exprs l = 2 * l.left + 1

abbrev pub invariant-exprs-loop : goal.invariant-exprs-loop
invariant-exprs-loop l = Going l.n (over_expr l.self.heed l.left l.self.variables l.self.text.now) l.self.text.now l.initial.on l.on l.counter
