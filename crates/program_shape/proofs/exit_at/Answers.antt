use mathlib.Core.Path.{sym}
use Rattle.definition.specs.Program.{stmt_forms}
use Rattle.program_line.specs.View.{stmt_line}
use Rattle.program.proofs.Laws.{line-inside}
use Rattle.program_shape.proofs.Laws.{found-some, found-none, exits-fault, exits-not, exits-unread, exits-other, exits-here}
use Rattle.program_shape.proofs.exit_at.Goals as goal

pub returns-in_err-head : goal.returns-in_err-head
returns-in_err-head c = rw c.from_residual.ensures (exits-fault _ _ _ _ _ _ _ (found-none _ c.in_err-head.ensures.value c.next_stmt.ensures).1)

pub returns-then-not-if_fits : goal.returns-then-not-if_fits
returns-then-not-if_fits c = exits-not _ _ _ _ _ _ _ (found-some _ _ c.in_ok-head.ensures.value c.next_stmt.ensures).is (sym c.if-not-if_fits.ensures)

pub next_line-condition-requires-clause-at_in_bounds : goal.next_line-condition-requires-clause-at_in_bounds
next_line-condition-requires-clause-at_in_bounds c = (line-inside stmt_line (stmt_forms c.args.variables) _ _ _ _ (found-some _ _ c.in_ok-head.ensures.value c.next_stmt.ensures)).0

pub overflow_sub-left : goal.overflow_sub-left
overflow_sub-left c = (line-inside stmt_line (stmt_forms c.args.variables) _ _ _ _ (found-some _ _ c.in_ok-head.ensures.value c.next_stmt.ensures)).1

pub overflow_sub-left-2 : goal.overflow_sub-left-2
overflow_sub-left-2 c = (line-inside stmt_line (stmt_forms c.args.variables) _ _ _ _ (found-some _ _ c.in_ok-head.ensures.value c.next_stmt.ensures)).1

pub returns-in_err-sole : goal.returns-in_err-sole
returns-in_err-sole c = rw c.from_residual-in_err-sole.ensures (exits-unread _ _ _ _ _ _ _ (found-some _ _ c.in_ok-head.ensures.value c.next_stmt.ensures).is (sym c.if-not-if_fits.ensures) c.next_line-condition.ensures c.skip_expr-then.ensures _ (found-none _ c.in_err-sole.ensures.value c.next_stmt-2.ensures).1)

pub returns-then-not-exits : goal.returns-then-not-exits
returns-then-not-exits c = exits-other _ _ _ _ _ _ _ (found-some _ _ c.in_ok-head.ensures.value c.next_stmt.ensures).is (sym c.if-not-if_fits.ensures) c.next_line-condition.ensures c.skip_expr-then.ensures _ (found-some _ _ c.in_ok-sole.ensures.value c.next_stmt-2.ensures).is (sym c.if-not-exits.ensures)

pub next_line-end-requires-clause-at_in_bounds : goal.next_line-end-requires-clause-at_in_bounds
next_line-end-requires-clause-at_in_bounds c = (line-inside stmt_line (stmt_forms c.args.variables) _ _ _ _ (found-some _ _ c.in_ok-sole.ensures.value c.next_stmt-2.ensures)).0

pub returns : goal.returns
returns c = exits-here _ _ _ _ _ _ _ (found-some _ _ c.in_ok-head.ensures.value c.next_stmt.ensures).is (sym c.if-not-if_fits.ensures) c.next_line-condition.ensures c.skip_expr-then.ensures _ (found-some _ _ c.in_ok-sole.ensures.value c.next_stmt-2.ensures).is (sym c.if-not-exits.ensures) c.next_line-end.ensures
