use Rattle.std.proofs.Common.{sym, ◌∙◌}
use Rattle.compile.proofs.Patches.{each-patch, reach-begins, reach-goes-on, reach-far}
use Rattle.compile.proofs.first_far.Goals as goal

pub loop-i-init : goal.loop-i-init
loop-i-init c = reach-begins _ _ _

pub branch_of-branch-requires : goal.branch_of-branch-requires
branch_of-branch-requires c = each-patch _ _ _ c.args.emitted.bound c.loop-i-test.true c.patch_at-patch.ensures

pub returns-then-not-is_near : goal.returns-then-not-is_near
returns-then-not-is_near c = reach-far _ _ _ _ _ c.loop-i.invariant c.loop-i-test.true c.patch_at-patch.ensures c.branch_of-branch.ensures (sym c.is_near.ensures ∙ c.if-not-is_near.true)

pub loop-i-preserved : goal.loop-i-preserved
loop-i-preserved c = reach-goes-on _ _ _ _ c.loop-i.invariant c.patch_at-patch.ensures c.branch_of-branch.ensures (sym c.is_near.ensures ∙ c.if-not-is_near.false)
