use mathlib.Core.Path.{sym}
use native.Mathlib.Omega.{arith}
use Rattle.std.proofs.lemmas.Result.{err_from_is_err_and}
use Rattle.definition.specs.Program.{expr_forms}
use Rattle.program_line.specs.View.{expr_line}
use Rattle.program.proofs.Laws.{begins, goes_on, ends, breaks, fails, goes_over, line-inside, expr-fault, expr-over}
use Rattle.program.proofs.Walk.+exprs.Goals as goal

pub expr-next_line-on-requires-clause-at_in_bounds : goal.expr-next_line-on-requires-clause-at_in_bounds
expr-next_line-on-requires-clause-at_in_bounds t c = (line-inside expr_line (expr_forms c.args.self.now.variables) _ _ _ _ c.in-Ok.ensures).0

pub expr-overflow_sub-left : goal.expr-overflow_sub-left
expr-overflow_sub-left t c = (line-inside expr_line (expr_forms c.args.self.now.variables) _ _ _ _ c.in-Ok.ensures).1

pub expr-exprs-requires : goal.expr-exprs-requires
expr-exprs-requires t c = (omega (arith, c.decreases, line-inside expr_line (expr_forms c.args.self.now.variables) _ _ _ _ c.in-Ok.ensures), c.next_line-on.ensures.near)

pub expr-returns-in-Err : goal.expr-returns-in-Err
expr-returns-in-Err t c = rw c.fail.ensures (fails _ _ c.requires (expr-fault _ _ _ _ _ _ (sym c.in-Err.ensures.is)))

pub expr-returns-in-Ok : goal.expr-returns-in-Ok
expr-returns-in-Ok t c = goes_over c.next_line-on.ensures (expr-over _ _ _ _ _ _ (sym c.in-Ok.ensures.is)) _ (rw c.operands_of.ensures at c.exprs.ensures)

pub exprs-loop-init : goal.exprs-loop-init
exprs-loop-init t c = begins _ _ c.requires

pub exprs-returns-in_err-on : goal.exprs-returns-in_err-on
exprs-returns-in_err-on t c = let p = err_from_is_err_and c.from_residual.result c.from_residual.ensures.1 in rw (p.1, p.2) (breaks c.loop.invariant c.loop-test.true _ c.in_err-on.ensures)

pub exprs-loop-preserved : goal.exprs-loop-preserved
exprs-loop-preserved t c = goes_on c.loop.invariant c.loop-test.true _ c.in_ok-on.ensures

pub exprs-returns : goal.exprs-returns
exprs-returns t c = ends c.loop.invariant c.loop-test.false
