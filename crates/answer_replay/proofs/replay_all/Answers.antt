use native.Mathlib.Omega.{arith}
use mathlib.Core.Path.{◌∙◌}
use Rattle.std.proofs.lemmas.Result.{IfOk-weaker}
use Rattle.replay.proofs.Parts.{at_most_one, count-begins, count-on, count-ends}
use Rattle.answer_replay.proofs.replay_all.Goals as goal

pub loop-at-init : goal.loop-at-init
loop-at-init g c = (omega arith, omega arith, omega arith, count-begins _)

pub loop-at-preserved : goal.loop-at-preserved
loop-at-preserved g c =
    (omega arith, omega arith, omega (arith, at_most_one _ c.in_ok-differ.ensures.ok), count-on _ c.loop-at.invariant.3 c.loop-at-test.true c.case_at-case.ensures.is c.case_at-case.ensures.lies.ahead)

pub returns : goal.returns
returns g c = IfOk-weaker c.total.result _ _ (λ n e. e ∙ count-ends _ c.loop-at.invariant.3 c.loop-at-test.false) c.total.ensures.ok
