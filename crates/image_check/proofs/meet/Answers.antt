use mathlib.Core.Path.{sym, ◌∙◌}
use Rattle.std.proofs.Common.{rules, tests}
use Rattle.image_check.proofs.Meeting.{met-off, has_room, met-first, met-equal, met-else}
use Rattle.image_check.proofs.meet.Goals as goal

pub returns-then-not-is_place : goal.returns-then-not-is_place
returns-then-not-is_place c = met-off _ _ _ _ c.args.t _ _ c.requires.ready (sym c.is_place.ensures ∙ c.if-not-is_place.true) _ (search (rules, tests))

pub bounds-work-t : goal.bounds-work-t
bounds-work-t c = has_room _ _ _ _ c.args.t c.args.h _ c.requires.ready (sym c.is_place.ensures ∙ c.if-not-is_place.false) c.if-mark-eq0.true

pub returns-then-mark-eq0 : goal.returns-then-mark-eq0
returns-then-mark-eq0 c = met-first _ _ _ _ _ _ _ c.requires.ready (sym c.is_place.ensures ∙ c.if-not-is_place.false) c.if-mark-eq0.true c.requires.end_bound

pub returns-then-mark-h : goal.returns-then-mark-h
returns-then-mark-h c = met-equal _ _ _ _ _ _ _ c.requires.ready (sym c.is_place.ensures ∙ c.if-not-is_place.false) c.if-mark-h.true

pub returns : goal.returns
returns c = met-else _ _ _ _ _ _ _ c.requires.ready (sym c.is_place.ensures ∙ c.if-not-is_place.false) c.if-mark-eq0.false c.if-mark-h.false
