use native.Mathlib.Omega.{arith}
use Rattle.stmt_parts.proofs.Arms.{tests, tests-on, tests-end}
use Rattle.stmt_parts.proofs.labels.test_labels.Goals as goal

pub loop-init : goal.loop-init
loop-init c = tests _ _ _ _ _ _ _ _ c.requires.near c.requires.ready c.requires.n_nonzero (omega arith)

pub loop-preserved : goal.loop-preserved
loop-preserved c = tests-on c.loop.invariant c.test_jump-next.ensures (omega (arith, c.loop-test.true)) (omega arith)

pub returns : goal.returns
returns c = tests-end c.loop.invariant (omega (arith, c.loop-test.false)) c.test_label.ensures
