use mathlib.Core.Path.{sym}
use native.Mathlib.Omega.{arith}
use Rattle.program.proofs.Laws.{line-there}
use Rattle.stmt_parts.proofs.Walks.{inner-left, inner-inside}
use Rattle.stmt.proofs.Walks.{nested, stands_here, reads, inner-noted}
use Rattle.stmt.proofs.Simple.{ran-assign, ran-return, ran-exit, ran-continue}
use Rattle.stmt.proofs.Laws.{begins, goes_on, stays, ends, ran-if, ran-loop, ran-for, else-none, else-some, if-done, for-done}
use Rattle.stmt.proofs.Looping.{body-done, plain_done, while-done, repeat-done, is-while, is-repeat, is_plain}
use Rattle.stmt.proofs.Cases.{arm-none, arm-some, arms-begin, arms-on, arms-bad, arms_end_lem, case-done, ran-case}
use Rattle.stmt.proofs.+stmts.Goals as goal
use Rattle.stmt.proofs.+stmts.Goals.{sequence-in-Ok, sequence-in-Err}

pub arm-returns-then-n-eq0 : goal.arm-returns-then-n-eq0
arm-returns-then-n-eq0 t c = rw (← c.from-n.ensures, ← c.from-m.ensures) (arm-none _ _ _ _ _ _ _ c.if-n-eq0.true c.requires.ready c.skip_block-cursor.ensures.skipped c.skip_block-cursor.ensures.sound_2)

pub arm-returns : goal.arm-returns
arm-returns t c = rw (← c.from-n.ensures, ← c.from-m.ensures) (arm-some _ _ _ _ _ _ _ c.requires.ready c.if-n-eq0.false c.create_label.ensures c.open_arm.ensures c.emit_opcode-e.ensures (nested _ c.sequence.ensures) c.close_arm-emitter.ensures)

pub arms-loop-init : goal.arms-loop-init
arms-loop-init t c = arms-begin _ _ _ _ _ _ _ _ c.requires.noted c.requires.near c.requires.ready (omega arith)

pub arms-returns : goal.arms-returns
arms-returns t c = arms_end_lem c.loop.invariant (omega (arith, c.loop-test.false))

pub case-returns : goal.case-returns
case-returns t c = rw (← c.from-n.ensures, ← c.from-m.ensures) (case-done _ _ _ _ _ (stands_here c.requires.near) c.emit_expr.ensures c.create_label.ensures c.arms.ensures c.emit_opcode-e.ensures (nested _ c.sequence.ensures) c.bind_label-emitter.ensures)

pub else_-returns-then-m-eq0 : goal.else_-returns-then-m-eq0
else_-returns-then-m-eq0 t c = else-none _ _ _ _ _ _ c.requires.noted c.requires.near c.requires.ready c.if-m-eq0.true c.bind_label-emitter.ensures

pub else_-returns : goal.else_-returns
else_-returns t c = else-some _ _ _ _ _ _ c.requires.ready c.if-m-eq0.false c.create_label.ensures c.emit_jmp-e.ensures c.bind_label-e.ensures (nested _ c.sequence.ensures) c.bind_label-emitter-2.ensures

pub for_-returns : goal.for_-returns
for_-returns t c = rw (← c.from.ensures) (for-done _ _ _ _ _ _ _ (stands_here c.requires.near) c.skip_expr-to.ensures c.emit_expr.ensures c.emit_store_var-e.ensures c.create_label.ensures c.create_label-2.ensures c.bind_label-e.ensures c.end_test.ensures c.loop_body.ensures c.for_end-emitter.ensures)

pub if_-returns : goal.if_-returns
if_-returns t c = rw (← c.from-n.ensures, ← c.from-m.ensures) (if-done _ _ _ _ _ (stands_here c.requires.near) c.requires.ready c.create_label.ensures c.branch_unless.ensures (nested _ c.sequence.ensures) c.else_.ensures)

pub loop_-returns-in-While : goal.loop_-returns-in-While
loop_-returns-in-While t c = is-while _ _ _ _ _ _ (stands_here c.requires.near) c.loop_shape.ensures.shaped c.in-While.is (omega (arith, c.saturating_sub-k.ensures, c.from.ensures)) c.while_.ensures

pub loop_-returns-in-Repeat : goal.loop_-returns-in-Repeat
loop_-returns-in-Repeat t c = is-repeat _ _ _ _ _ _ (stands_here c.requires.near) c.loop_shape.ensures.shaped c.in-Repeat.is (rw c.from-k.ensures at c.repeat.ensures)

pub loop_-returns-in-Plain : goal.loop_-returns-in-Plain
loop_-returns-in-Plain t c = is_plain _ _ _ _ _ _ (stands_here c.requires.near) c.loop_shape.ensures.shaped c.in-Plain.is c.plain.ensures

pub loop_body-returns : goal.loop_body-returns
loop_body-returns t c = body-done _ _ _ _ _ _ _ c.in_loop-within.ensures c.requires.ready c.create_label.ensures c.open_loop.ensures (nested _ c.sequence.ensures) c.next_used-used.ensures c.bind_next-emitter.ensures

pub plain-returns : goal.plain-returns
plain-returns t c = rw (← c.from-n.ensures, ← c.from-m.ensures) (plain_done _ _ _ _ _ _ _ c.requires.ready c.create_label.ensures c.create_label-2.ensures c.bind_label-e.ensures c.loop_body.ensures (nested _ c.sequence.ensures) c.emit_jmp-e.ensures c.bind_label-emitter.ensures)

pub repeat-returns : goal.repeat-returns
repeat-returns t c = repeat-done _ _ _ _ _ _ c.inner-inner.ensures _ _ c.requires.ready c.requires.near_3 c.create_label.ensures c.create_label-2.ensures c.pool_first-e.ensures c.bind_label-e.ensures c.loop_body.ensures c.branch_unless.ensures c.bind_label-emitter.ensures

pub sequence-loop-init : goal.sequence-loop-init
sequence-loop-init t c = begins _ _ _ _ _ _ _ _ c.requires.noted c.requires.near c.requires.ready (omega arith)

pub sequence-returns : goal.sequence-returns
sequence-returns t c = ends c.loop.invariant (omega (arith, c.loop-test.false))

pub stmt-returns-in-Assign : goal.stmt-returns-in-Assign
stmt-returns-in-Assign t c = ran-assign _ _ _ _ c.inner-ctx.ensures _ _ c.requires.noted (reads c.requires.line_value c.in-Assign.is) (rw (← c.requires.skipped.is) c.assign.ensures)

pub stmt-returns-in-If : goal.stmt-returns-in-If
stmt-returns-in-If t c = ran-if _ _ _ _ c.inner-ctx.ensures _ _ _ (reads c.requires.line_value c.in-If.is) (rw (← c.requires.skipped.is) c.if_.ensures)

pub stmt-returns-in-Case : goal.stmt-returns-in-Case
stmt-returns-in-Case t c = ran-case _ _ _ _ c.inner-ctx.ensures _ _ _ (reads c.requires.line_value c.in-Case.is) (rw (← c.requires.skipped.is) c.case.ensures)

pub stmt-returns-in-For : goal.stmt-returns-in-For
stmt-returns-in-For t c = ran-for _ _ _ _ c.inner-ctx.ensures _ _ _ _ _ (reads c.requires.line_value c.in-For.is) (rw (← c.requires.skipped.is) c.for_.ensures)

pub stmt-returns-in-Loop : goal.stmt-returns-in-Loop
stmt-returns-in-Loop t c = ran-loop _ _ _ _ c.inner-ctx.ensures _ _ _ _ (reads c.requires.line_value c.in-Loop.is) (rw (← c.requires.skipped.is) c.loop_.ensures)

pub stmt-returns-in-Exit : goal.stmt-returns-in-Exit
stmt-returns-in-Exit t c = ran-exit _ _ _ _ c.requires.ready c.inner-ctx.ensures _ _ c.requires.noted (reads c.requires.line_value c.in-Exit.is) c.exit.ensures

pub stmt-returns-in-Continue : goal.stmt-returns-in-Continue
stmt-returns-in-Continue t c = ran-continue _ _ _ _ c.requires.ready c.inner-ctx.ensures _ _ c.requires.noted (reads c.requires.line_value c.in-Continue.is) c.continue_.ensures

pub stmt-returns-in-Return : goal.stmt-returns-in-Return
stmt-returns-in-Return t c = ran-return _ _ _ _ c.requires.ready _ c.requires.noted (reads c.requires.line_value c.in-Return.is) (rw (← c.requires.skipped.is) c.return_.ensures)

pub while_-returns : goal.while_-returns
while_-returns t c = while-done _ _ _ _ _ _ c.inner-inner.ensures _ c.requires.ready c.create_label.ensures c.while_head.ensures c.loop_body.ensures c.while_end-e.ensures c.bind_label-emitter.ensures

pub stmt-if_-requires : goal.stmt-if_-requires
stmt-if_-requires t c = (omega (arith, c.decreases, (line-there _ _ _ _ _ (reads c.requires.line_value c.in-If.is)).1, inner-left _ c.inner-ctx.ensures), (inner-noted _ c.inner-ctx.ensures c.requires.noted, (c.requires.skipped.near, (c.requires.ready, omega (arith, c.requires.left_bound, (line-there _ _ _ _ _ (reads c.requires.line_value c.in-If.is)).1, inner-left _ c.inner-ctx.ensures, inner-inside _ c.inner-ctx.ensures)))))

pub stmt-case-requires : goal.stmt-case-requires
stmt-case-requires t c = (omega (arith, c.decreases, (line-there _ _ _ _ _ (reads c.requires.line_value c.in-Case.is)).1, inner-left _ c.inner-ctx.ensures), (inner-noted _ c.inner-ctx.ensures c.requires.noted, (c.requires.skipped.near, (c.requires.ready, omega (arith, c.requires.left_bound, (line-there _ _ _ _ _ (reads c.requires.line_value c.in-Case.is)).1, inner-left _ c.inner-ctx.ensures, inner-inside _ c.inner-ctx.ensures)))))

pub stmt-for_-requires : goal.stmt-for_-requires
stmt-for_-requires t c = (omega (arith, c.decreases, (line-there _ _ _ _ _ (reads c.requires.line_value c.in-For.is)).1, inner-left _ c.inner-ctx.ensures), (inner-noted _ c.inner-ctx.ensures c.requires.noted, (c.requires.skipped.near, (c.requires.ready, omega (arith, c.requires.left_bound, (line-there _ _ _ _ _ (reads c.requires.line_value c.in-For.is)).1, inner-left _ c.inner-ctx.ensures, inner-inside _ c.inner-ctx.ensures)))))

pub stmt-loop_-requires : goal.stmt-loop_-requires
stmt-loop_-requires t c = (omega (arith, c.decreases, (line-there _ _ _ _ _ (reads c.requires.line_value c.in-Loop.is)).1, inner-left _ c.inner-ctx.ensures), (inner-noted _ c.inner-ctx.ensures c.requires.noted, (c.requires.skipped.near, (c.requires.ready, omega (arith, c.requires.left_bound, (line-there _ _ _ _ _ (reads c.requires.line_value c.in-Loop.is)).1, inner-left _ c.inner-ctx.ensures, inner-inside _ c.inner-ctx.ensures)))))

pub arms-returns-in-Err : goal.arms-returns-in-Err
arms-returns-in-Err t c = arms-bad c.loop.invariant _ (sym c.in-Err.ensures.is) (omega (arith, c.loop-test.true)) c.fail-emitter.ensures

pub arms-loop-preserved : goal.arms-loop-preserved
arms-loop-preserved t c = arms-on c.loop.invariant _ _ (sym c.in-Ok.ensures.is) c.next_line-to.ensures c.arm-done.ensures (omega (arith, c.loop-test.true)) (omega arith)

pub sequence-loop-preserved : goal.sequence-loop-preserved
sequence-loop-preserved t c =
    elim c.match-next_stmt.branch [
      | sequence-in-Ok w ↦ rw (w.on-is, w.code-is, w.book-is, w.pool-is, w.lent-is, w.here-is) (goes_on c.loop.invariant _ w.in-Ok.ensures.is w.record_position-on.ensures w.stmt-done.ensures (omega (arith, c.loop-test.true)) (omega arith))
      | sequence-in-Err w ↦ rw (w.on-is, w.code-is, w.book-is, w.pool-is, w.lent-is, w.here-is) (stays c.loop.invariant _ (sym w.in-Err.ensures.is) w.fail-on.ensures (omega (arith, c.loop-test.true)) (omega arith))
    ]

pub arms-next_line-to-requires-clause-at_in_bounds : goal.arms-next_line-to-requires-clause-at_in_bounds
arms-next_line-to-requires-clause-at_in_bounds t c = (line-there _ _ _ _ _ (sym c.in-Ok.ensures.is)).0

pub sequence-next_line-to-requires-clause-at_in_bounds : goal.sequence-next_line-to-requires-clause-at_in_bounds
sequence-next_line-to-requires-clause-at_in_bounds t c = (line-there _ _ _ _ _ (sym c.in-Ok.ensures.is)).0
