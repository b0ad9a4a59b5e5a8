use Rattle.stmt_parts.proofs.Arms.{arm-one, arm_more}
use Rattle.stmt_parts.proofs.labels.open_arm.Goals as goal

pub returns-then-n-eq1 : goal.returns-then-n-eq1
returns-then-n-eq1 c = arm-one _ _ _ _ _ _ c.if-n-eq1.true c.test_label.ensures

pub returns : goal.returns
returns c = arm_more _ _ _ _ _ _ c.requires.ready c.requires.n_nonzero c.if-n-eq1.false c.create_label.ensures c.test_labels.ensures c.bind_label-emitter.ensures
