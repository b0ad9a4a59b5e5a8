use Rattle.compile.proofs.Patches.{each-patch, patch-begins, patch-goes-on}
use Rattle.compile.proofs.patch_jumps.Goals as goal

pub loop-i-init : goal.loop-i-init
loop-i-init c = patch-begins _ _ _ _ _

pub patch_jump-requires-clause-bound_in : goal.patch_jump-requires-clause-bound_in
patch_jump-requires-clause-bound_in c = each-patch _ _ _ c.args.emitted.bound c.loop-i-test.true c.patch_at-patch.ensures

pub patch_jump-requires-clause-inside : goal.patch_jump-requires-clause-inside
patch_jump-requires-clause-inside c = rw c.loop-i.invariant.room (each-patch _ _ _ c.requires.inside c.loop-i-test.true c.patch_at-patch.ensures)

pub loop-i-preserved : goal.loop-i-preserved
loop-i-preserved c = patch-goes-on _ _ _ _ _ c.loop-i.invariant c.loop-i-test.true c.patch_at-patch.ensures c.patch_jump.ensures.code_after c.patch_jump.ensures.code_len_unchanged
