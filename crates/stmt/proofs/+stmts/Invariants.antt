use Prim.Native.Nat.{◌+◌, ◌-◌, ◌*◌}
use Rattle.opcode.specs.Table.{sheet_in}
use Rattle.program.specs.Walk.{cursor_of}
use Rattle.emit.specs.View.{world}
use Rattle.stmt.proofs.Laws.{Doing}
use Rattle.stmt.proofs.Cases.{Arming}
use Rattle.stmt.proofs.+stmts.Given as goal

-- stmt at `left` calls the others at one level less; there loop_ calls while_, repeat and plain, which call loop_body, case calls arms, arms arm, if_ else_; these
-- and all call sequence, which calls stmt
abbrev pub decreases-arm : goal.decreases-arm
decreases-arm l = 5 * l.ctx.left + 2

abbrev pub decreases-arms : goal.decreases-arms
decreases-arms l = 5 * l.ctx.left + 3

abbrev pub decreases-case : goal.decreases-case
decreases-case l = 5 * l.ctx.left + 4

abbrev pub decreases-else_ : goal.decreases-else_
decreases-else_ l = 5 * l.ctx.left + 2

abbrev pub decreases-for_ : goal.decreases-for_
decreases-for_ l = 5 * l.ctx.left + 3

abbrev pub decreases-if_ : goal.decreases-if_
decreases-if_ l = 5 * l.ctx.left + 3

abbrev pub decreases-loop_ : goal.decreases-loop_
decreases-loop_ l = 5 * l.ctx.left + 4

abbrev pub decreases-loop_body : goal.decreases-loop_body
decreases-loop_body l = 5 * l.ctx.left + 2

abbrev pub decreases-plain : goal.decreases-plain
decreases-plain l = 5 * l.ctx.left + 3

abbrev pub decreases-repeat : goal.decreases-repeat
decreases-repeat l = 5 * l.ctx.left + 3

abbrev pub decreases-sequence : goal.decreases-sequence
decreases-sequence l = 5 * l.ctx.left + 1

abbrev pub decreases-stmt : goal.decreases-stmt
decreases-stmt l = 5 * l.ctx.left

abbrev pub decreases-while_ : goal.decreases-while_
decreases-while_ l = 5 * l.ctx.left + 3

-- so many are left
abbrev pub invariant-arms-loop : goal.invariant-arms-loop
invariant-arms-loop l = Arming (sheet_in l.sheet) l.ctx l.text l.end.0 l.n (cursor_of l.initial.here) (world l.initial.on l.initial.code l.initial.book l.initial.pool) l.initial.lent.loops (world l.on l.code l.book l.pool) l.lent (l.n - l.counter) l.here

abbrev pub invariant-sequence-loop : goal.invariant-sequence-loop
invariant-sequence-loop l = Doing (sheet_in l.sheet) l.ctx l.text l.recording l.n (cursor_of l.initial.here) (world l.initial.on l.initial.code l.initial.book l.initial.pool) l.initial.lent.loops (world l.on l.code l.book l.pool) l.lent (l.n - l.counter) l.here
