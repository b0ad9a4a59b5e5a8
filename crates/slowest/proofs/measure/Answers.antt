use native.Mathlib.Omega.{arith}
use Rattle.std.proofs.lemmas.Result.{err_from_is_err_and}
use Rattle.slowest.proofs.Followed.{fronts-short, fronts-unfit, fronts-worked}
use Rattle.slowest.proofs.measure.Goals as goal

pub returns-then-outcomes-lt-MAX_OUTCOMES : goal.returns-then-outcomes-lt-MAX_OUTCOMES
returns-then-outcomes-lt-MAX_OUTCOMES c = fronts-short _ _ _ _ c.if-outcomes-lt-MAX_OUTCOMES.true

pub returns-in_err-admit : goal.returns-in_err-admit
returns-in_err-admit c =
    let p = err_from_is_err_and c.from_residual.result c.from_residual.ensures.1 in
    rw (p.1, p.2) (fronts-unfit _ _ _ _ c.if-outcomes-lt-MAX_OUTCOMES.false c.in_err-admit.field-0.0 c.in_err-admit.ensures)

pub returns-in-Ok : goal.returns-in-Ok
returns-in-Ok c = fronts-worked _ _ _ _ (omega (arith, c.measure_table.auto.outcomes, c.if-outcomes-lt-MAX_OUTCOMES.false)) c.in_ok-admit.ensures c.in-Ok.ensures

pub returns-in-Err : goal.returns-in-Err
returns-in-Err c = fronts-worked _ _ _ _ (omega (arith, c.measure_table.auto.outcomes, c.if-outcomes-lt-MAX_OUTCOMES.false)) c.in_ok-admit.ensures c.in-Err.ensures
