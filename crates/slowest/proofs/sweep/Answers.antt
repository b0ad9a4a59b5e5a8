use native.Mathlib.Omega.{arith}
use mathlib.Core.Path.{ap}
use Rattle.slowest.specs.View.{is_back_way}
use Rattle.slowest.proofs.Swept.{not-back, sweep-begins, sweep-back, sweep-goes, sweep-ends, count_low}
use Rattle.slowest.proofs.sweep.Goals as goal

pub loop-p-init : goal.loop-p-init
loop-p-init c = sweep-begins _ _ c.args.counts.now c.requires

pub returns-in-Back : goal.returns-in-Back
returns-in-Back c = sweep-back _ _ _ _ c.loop-p.invariant c.loop-p-test.true c.way_at-way.result c.way_at-way.ensures (ap is_back_way c.in-Back.is)

pub count_by-requires-clause-way_bound : goal.count_by-requires-clause-way_bound
count_by-requires-clause-way_bound c = omega (arith, count_low _ _ _ _ c.loop-p.invariant c.loop-p-test.true c.way_at-way.result c.way_at-way.ensures, c.args.image.image.small)

pub loop-p-preserved : goal.loop-p-preserved
loop-p-preserved c = rw c.count_by.ensures (sweep-goes _ _ _ _ c.loop-p.invariant c.loop-p-test.true c.way_at-way.result c.way_at-way.ensures (not-back _ c.in_default.not-Back))

pub returns : goal.returns
returns c = sweep-ends _ _ _ _ c.loop-p.invariant c.loop-p-test.false
