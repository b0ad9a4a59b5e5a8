use mathlib.Core.Path.{◌≡◌}
use borrow.Author.Rules.{rules}
use Rattle.std.specs.Prelude.{Err}
use Rattle.optimize.proofs.Checks.{check-goes-on, check-bad, check-ends}
use Rattle.optimize.proofs.check_protected.Goals as goal

pub loop-x-preserved : goal.loop-x-preserved
loop-x-preserved c = check-goes-on _ _ _ c.requires c.loop-x.invariant c.loop-x-test.true c.in_ok-check_offset.ensures

pub returns-in_err-check_offset : goal.returns-in_err-check_offset
returns-in_err-check_offset c =
    let e : c.from_residual.result ≡ Err c.in_err-check_offset.field-0.0 = search rules in
    rw (e, c.in_err-check_offset.ensures.0) (check-bad _ _ _ c.loop-x.invariant c.loop-x-test.true c.in_err-check_offset.ensures.1)

pub returns : goal.returns
returns c = check-ends _ _ _ c.requires c.loop-x.invariant c.loop-x-test.false
