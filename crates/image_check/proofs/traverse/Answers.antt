use native.Mathlib.Omega.{arith}
use Prim.Native.Nat.{◌-◌}
use lib.ListN.{length}
use Rattle.image_check.proofs.Going.{ends-spent, ends-empty, goes_on, goes-astray}
use Rattle.image_check.proofs.traverse.Goals as goal

pub returns-then-t-eq0 : goal.returns-then-t-eq0
returns-then-t-eq0 c = ends-empty _ _ _ _ _ _ _ _ _ _ _ c.loop-step.invariant c.if-t-eq0.true

pub returns-in_err-t : goal.returns-in_err-t
returns-in_err-t c = rw c.from_residual.ensures (goes-astray _ _ _ _ _ _ _ _ _ _ _ c.loop-step.invariant c.if-t-eq0.false (length c.args.image.code.now - c.loop-step._step) (omega arith) _ _ (rw c.from-p.ensures at c.in_err-t.ensures))

pub loop-step-preserved : goal.loop-step-preserved
loop-step-preserved c = goes_on _ _ _ _ _ _ _ _ _ _ _ c.loop-step.invariant c.if-t-eq0.false _ (omega arith) _ _ _ (rw c.from-p.ensures at c.in_ok-t.ensures)

pub returns : goal.returns
returns c = ends-spent _ _ _ _ _ _ _ _ _ _ _ c.loop-step.invariant (omega arith)

pub returns-in_ok-t : goal.returns-in_ok-t
returns-in_ok-t c = ends-spent _ _ _ _ _ _ _ _ _ _ _ (goes_on _ _ _ _ _ _ _ _ _ _ _ c.loop-step.invariant c.if-t-eq0.false 0 (omega arith) _ _ _ (rw c.from-p.ensures at c.in_ok-t.ensures)) (omega arith)
