use native.Mathlib.Omega.{arith}
use Rattle.rewrite.proofs.Pass.{begins}
use Rattle.rewrite.proofs.Plans.{turns, turn-within, finishes, still-ready}
use Rattle.rewrite.proofs.apply_peephole.Goals as goal

pub loop-plan-init : goal.loop-plan-init
loop-plan-init c = begins _ _ _ _ _ c.requires.clear.slots c.requires.clear.none

pub decide-requires : goal.decide-requires
decide-requires c = record { ready = still-ready c.requires.ready c.loop-plan.invariant.room; fitting_next = c.loop-plan.invariant.later }

pub apply-to-requires : goal.apply-to-requires
apply-to-requires c = record { to_le_from = (c.loop-plan.invariant.behind, turn-within c.in-Some.ensures); fitting = c.in-Some.ensures.fits }

pub overflow_add-at : goal.overflow_add-at
overflow_add-at c = omega (arith, turn-within c.in-Some.ensures, c.loop-plan.invariant.room)

pub loop-plan-smaller : goal.loop-plan-smaller
loop-plan-smaller c = omega (arith, turn-within c.in-Some.ensures, c.loop-plan.invariant.room, c.in-Some.ensures.full)

pub loop-plan-preserved : goal.loop-plan-preserved
loop-plan-preserved c = turns c.loop-plan.invariant c.in-Some.ensures c.apply-to.ensures

pub returns : goal.returns
returns c = rw (c.new-matcher.ensures.rules, c.new-matcher.ensures.pass) at (finishes c.loop-plan.invariant c.in_default.ensures c.set_from.ensures)
