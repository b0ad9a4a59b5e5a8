use Rattle.std.proofs.Common.{refl, arith}
use Rattle.compile.proofs.Patches.{each-patch, bound-small, target-begins, target-goes-on}
use Rattle.compile.proofs.jump_targets.Goals as goal

pub loop-i-init : goal.loop-i-init
loop-i-init c = target-begins _ _ _ _ c.requires

pub overflow_cast-target : goal.overflow_cast-target
overflow_cast-target c = omega (arith, bound-small _ c.args.emitted.fine.size (each-patch c.args.emitted.book.now c.args.emitted.emitter.patches c.loop-i.i c.args.emitted.bound (omega (arith, c.loop-i.invariant.room, c.loop-i-test.true)) c.patch_at-patch.ensures) c.bound_label-place.ensures)

pub loop-i-preserved : goal.loop-i-preserved
loop-i-preserved c = target-goes-on _ _ _ _ _ c.loop-i.invariant (omega (arith, c.loop-i.invariant.room, c.requires, c.loop-i-test.true)) c.patch_at-patch.ensures c.bound_label-place.ensures refl
