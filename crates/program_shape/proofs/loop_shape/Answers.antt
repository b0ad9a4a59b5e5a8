use native.Mathlib.Omega.{arith}
use Rattle.program_shape.proofs.Laws.{shape-repeat, shape-while, shape_plain}
use Rattle.program_shape.proofs.loop_shape.Goals as goal

pub returns-in-0-clause-shaped : goal.returns-in-0-clause-shaped
returns-in-0-clause-shaped c = rw c.while_by.ensures (shape-while _ _ _ _ _ _ c.in-0.is _ (λ z. omega arith) _ c.exit_at.ensures)

pub returns-in-1-clause-shaped : goal.returns-in-1-clause-shaped
returns-in-1-clause-shaped c = rw c.repeat_by.ensures (shape-repeat _ _ _ _ _ _ _ c.in-1.is c.body_end-p.ensures.skipped _ c.exit_at-in-1.ensures)

pub returns-in_default-clause-shaped : goal.returns-in_default-clause-shaped
returns-in_default-clause-shaped c = shape_plain _ _ _ _ _ _ _ (λ z. omega arith) (λ z. omega arith)

pub returns-in_default-2-clause-shaped : goal.returns-in_default-2-clause-shaped
returns-in_default-2-clause-shaped c = shape_plain _ _ _ _ _ _ _ (λ z. omega (arith, c.in_default)) (λ z. omega (arith, c.in_default))
