use mathlib.Core.Path.{◌∙◌, ap, sym}
use Rattle.definition.specs.Program.{is, expr_forms}
use Rattle.program_line.specs.View.{expr_line}
use Rattle.program.proofs.Laws.{line-inside}
use Rattle.program_shape.specs.Shape.{classified}
use Rattle.program_shape.proofs.Laws.{found-some, found-none, unread, not-compared, classified-sides}
use Rattle.program_shape.proofs.classify.Goals as goal

pub returns-in_err-next : goal.returns-in_err-next
returns-in_err-next c = ap classified c.from_residual.ensures ∙ unread _ _ _ _ _ (found-none _ c.in_err-next.ensures.value c.next_expr.ensures).1

pub returns-in_default : goal.returns-in_default
returns-in_default c = not-compared _ _ _ _ _ c.in_default.not-Compare (found-some _ _ c.in_ok-next.ensures.value c.next_expr.ensures).is

pub next_line-first-requires-clause-at_in_bounds : goal.next_line-first-requires-clause-at_in_bounds
next_line-first-requires-clause-at_in_bounds c = (line-inside expr_line (expr_forms c.args.variables) _ _ _ _ (found-some _ _ c.in_ok-next.ensures.value c.next_expr.ensures)).0

pub overflow_sub-left : goal.overflow_sub-left
overflow_sub-left c = (line-inside expr_line (expr_forms c.args.variables) _ _ _ _ (found-some _ _ c.in_ok-next.ensures.value c.next_expr.ensures)).1

pub overflow_sub-left-2 : goal.overflow_sub-left-2
overflow_sub-left-2 c = (line-inside expr_line (expr_forms c.args.variables) _ _ _ _ (found-some _ _ c.in_ok-next.ensures.value c.next_expr.ensures)).1

pub overflow_sub-left-3 : goal.overflow_sub-left-3
overflow_sub-left-3 c = (line-inside expr_line (expr_forms c.args.variables) _ _ _ _ (found-some _ _ c.in_ok-next.ensures.value c.next_expr.ensures)).1

pub returns : goal.returns
returns c = classified-sides _ _ _ _ _ (sym (ap is (ap expr_line c.in-Compare.is)) ∙ (found-some _ _ c.in_ok-next.ensures.value c.next_expr.ensures).is) _ c.next_line-first.ensures c.operand_at-a.ensures c.skip_expr-second.ensures c.operand_at-b.ensures c.fuse.ensures
