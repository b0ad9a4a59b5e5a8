use Rattle.std.proofs.lemmas.Result.{err_from_is_err_and}
use Rattle.slowest.specs.View.{Sweeps, refuses, loops}
use Rattle.slowest.proofs.Followed.{works-measured}
use Rattle.slowest.proofs.measure_over.Goals as goal

pub returns-in_err-check_over : goal.returns-in_err-check_over
returns-in_err-check_over c =
    let p = err_from_is_err_and c.from_residual.result c.from_residual.ensures.1 in
    rw (p.1, p.2) (refuses c.in_err-check_over.ensures)

pub returns-then-sweep : goal.returns-then-sweep
unfolding Sweeps
returns-then-sweep c = loops c.in_ok-check_over.ensures (rw c.if-sweep.true at c.sweep.ensures)

pub follow-n-requires-clause-counted : goal.follow-n-requires-clause-counted
unfolding Sweeps
follow-n-requires-clause-counted c = rw c.if-sweep.false at c.sweep.ensures

pub returns : goal.returns
unfolding Sweeps
returns c = works-measured _ _ _ _ _ c.args.image.image.small c.in_ok-check_over.ensures (rw c.if-sweep.false at c.sweep.ensures) c.from.ensures c.follow-n.ensures
