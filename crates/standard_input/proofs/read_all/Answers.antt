use Rattle.std.proofs.Common.{ap, rules, arith}
use Rattle.std.specs.Result.{is_err}
use Rattle.std.proofs.lemmas.Result.{err_from_is_err_and}
use Rattle.standard_input.proofs.Going.{goes-from, goes_on, ends, fails, spent}
use Rattle.standard_input.proofs.read_all.Goals as goal

pub loop-init : goal.loop-init
loop-init g c = record { buffers = search rules; going = goes-from _ _ _ }

pub returns-in_err-read_some-clause-turned : goal.returns-in_err-read_some-clause-turned
returns-in_err-read_some-clause-turned g c = let p = err_from_is_err_and c.from_residual.result c.from_residual.ensures.1 in
    fails c.loop.invariant.going _ _ (ap is_err p.1) (rw c.loop.invariant.buffers.follows at c.read_some.ensures.turned)

pub returns-then-not-branch-clause-turned : goal.returns-then-not-branch-clause-turned
returns-then-not-branch-clause-turned g c = ends c.loop.invariant.going _ (rw (c.loop.invariant.buffers.follows, c.if-not-branch.true) at c.in_ok-read_some.ensures.turned)

pub loop-preserved : goal.loop-preserved
loop-preserved g c = record {
  buffers = search rules;
  going = goes_on c.loop.invariant.going (rw (c.loop.invariant.buffers.follows, c.if-not-branch.false) at c.in_ok-read_some.ensures.turned);
}

pub returns-clause-turned : goal.returns-clause-turned
returns-clause-turned g c = spent _ (omega arith) c.loop.invariant.going
