use Rattle.slowest.proofs.Followed.{next-none, next_some, follow-begins, follow-ends, follow-goes, follow-less}
use Rattle.slowest.proofs.follow.Goals as goal
use mathlib.Core.Path.{sym}

pub loop-q-init : goal.loop-q-init
loop-q-init c = follow-begins _ _ _ c.requires.counted c.args.image.image.small _ c.requires.max_outcomes_in_bounds

pub returns-in_default : goal.returns-in_default
returns-in_default c = follow-ends _ _ _ c.requires.counted c.args.image.image.small _ _ _ c.loop-q.invariant c.way_at-way.result c.way_at-way.ensures (next-none _ (sym c.in_default.ensures))

pub loop-q-smaller : goal.loop-q-smaller
loop-q-smaller c =
    let k = next_some _ _ c.loop-q.p (sym c.in-Some.ensures) in
    follow-less _ _ _ c.requires.counted c.args.image.image.small _ _ _ c.loop-q.invariant c.way_at-way.result c.way_at-way.ensures k.0 k.1

pub loop-q-preserved : goal.loop-q-preserved
loop-q-preserved c =
    let k = next_some _ _ c.loop-q.p (sym c.in-Some.ensures) in
    follow-goes _ _ _ c.requires.counted c.args.image.image.small _ _ _ c.loop-q.invariant c.way_at-way.result c.way_at-way.ensures k.0 c.note-n.ensures k.1
