use Rattle.std.proofs.lemmas.Result.{err_from_is_err_and}
use Rattle.program.proofs.Laws.{begins, goes_on, ends, breaks}
use Rattle.program.proofs.Walk.labels.Goals as goal

pub loop-init : goal.loop-init
loop-init c = begins _ _ c.requires

pub returns-in_err-on : goal.returns-in_err-on
returns-in_err-on c = let p = err_from_is_err_and c.from_residual.result c.from_residual.ensures.1 in rw (p.1, p.2) (breaks c.loop.invariant c.loop-test.true _ c.in_err-on.ensures)

pub loop-preserved : goal.loop-preserved
loop-preserved c = goes_on c.loop.invariant c.loop-test.true _ c.in_ok-on.ensures

pub returns : goal.returns
returns c = ends c.loop.invariant c.loop-test.false
