use Prim.Native.Nat.{◌+◌, ◌-◌}
use lib.ListN.{length}
use Rattle.image_check.specs.View.{Going}
use Rattle.image_check.proofs.traverse.Given as goal

abbrev pub invariant-loop-step : goal.invariant-loop-step
invariant-loop-step l = Going l.image.sheet.now l.image.code.now l.image.flags.now l.initial.marks l.initial.work l.initial.t l.depth l.marks l.work l.t (length l.image.code.now + 1 - l._step)
