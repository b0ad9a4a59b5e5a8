use native.Mathlib.Omega.{arith}
use Prim.Native.Nat.{◌+◌}
use mathlib.Core.Path.{refl, sym, ◌∙◌, ap}
use Rattle.definition.specs.Claims.{branches}
use Rattle.opcode.specs.View.{flow_view}
use Rattle.image_check.proofs.Expanding.{place-known, place-low, expand-off, behind-low, expand-stop, expand-below, expand-away, expand-onward, expand-lost, expand-half, expand-either, branch-next}
use Rattle.image_check.proofs.expand.Goals as goal

pub returns-then-not-is_place : goal.returns-then-not-is_place
returns-then-not-is_place c = expand-off _ _ _ c.args.image.image _ _ c.args.t _ _ c.requires (sym c.is_place.ensures ∙ c.if-not-is_place.true)

pub look-seen-requires : goal.look-seen-requires
look-seen-requires c = record { table = c.args.image.image.table; either = place-known _ _ _ c.args.image.image _ (sym c.is_place.ensures ∙ c.if-not-is_place.false); p_in_bounds = place-low _ _ _ c.args.image.image _ (sym c.is_place.ensures ∙ c.if-not-is_place.false) }

pub meet-requires-clause-end_bound : goal.meet-requires-clause-end_bound
meet-requires-clause-end_bound c = behind-low _ _ _ c.args.image.image _ _ c.args.t _ _ c.requires c.look-seen.result c.look-seen.ensures _ _ _ _ _ _ (ap (λ x. c.args.p + x) c.from.ensures) c.saturating_sub-g.ensures c.stops.ensures c.is_wrong-wrong.ensures c.height_behind-h.ensures refl

pub target_of-requires-clause-le_next : goal.target_of-requires-clause-le_next
unfolding branches
target_of-requires-clause-le_next c = branch-next _ _ _ c.args.image.image _ _ c.args.t _ _ c.requires c.look-seen.result c.look-seen.ensures _ _ _ _ _ _ (ap (λ x. c.args.p + x) c.from.ensures) c.saturating_sub-g.ensures c.stops.ensures c.is_wrong-wrong.ensures c.height_behind-h.ensures refl (ap (λ f. branches (flow_view f)) c.in-Away.is)

pub returns-in_err-q-in-Away : goal.returns-in_err-q-in-Away
returns-in_err-q-in-Away c = rw c.from_residual.ensures (expand-below _ _ _ c.args.image.image _ _ c.args.t _ _ c.requires c.look-seen.result c.look-seen.ensures _ _ _ _ _ _ (ap (λ x. c.args.p + x) c.from.ensures) c.saturating_sub-g.ensures c.stops.ensures c.is_wrong-wrong.ensures c.height_behind-h.ensures refl c.in-Away.is c.in_err-q-in-Away.ensures)

pub meet-requires-in-Away-clause-end_bound : goal.meet-requires-in-Away-clause-end_bound
meet-requires-in-Away-clause-end_bound c = behind-low _ _ _ c.args.image.image _ _ c.args.t _ _ c.requires c.look-seen.result c.look-seen.ensures _ _ _ _ _ _ (ap (λ x. c.args.p + x) c.from.ensures) c.saturating_sub-g.ensures c.stops.ensures c.is_wrong-wrong.ensures c.height_behind-h.ensures refl

pub returns-in_ok-q-in-Away : goal.returns-in_ok-q-in-Away
returns-in_ok-q-in-Away c = expand-away _ _ _ c.args.image.image _ _ c.args.t _ _ c.requires c.look-seen.result c.look-seen.ensures _ _ _ _ _ _ (ap (λ x. c.args.p + x) c.from.ensures) c.saturating_sub-g.ensures c.stops.ensures c.is_wrong-wrong.ensures c.height_behind-h.ensures refl c.in-Away.is c.in_ok-q-in-Away.ensures c.meet-in-Away.ensures

pub meet-requires-in-Either-clause-end_bound : goal.meet-requires-in-Either-clause-end_bound
meet-requires-in-Either-clause-end_bound c = behind-low _ _ _ c.args.image.image _ _ c.args.t _ _ c.requires c.look-seen.result c.look-seen.ensures _ _ _ _ _ _ (ap (λ x. c.args.p + x) c.from.ensures) c.saturating_sub-g.ensures c.stops.ensures c.is_wrong-wrong.ensures c.height_behind-h.ensures refl

pub returns-in_err-v-in-Either : goal.returns-in_err-v-in-Either
returns-in_err-v-in-Either c = rw c.from_residual-in_err-v-in-Either.ensures (expand-lost _ _ _ c.args.image.image _ _ c.args.t _ _ c.requires c.look-seen.result c.look-seen.ensures _ _ _ _ _ _ (ap (λ x. c.args.p + x) c.from.ensures) c.saturating_sub-g.ensures c.stops.ensures c.is_wrong-wrong.ensures c.height_behind-h.ensures refl c.in-Either.is c.in_err-v-in-Either.ensures)

pub target_of-requires-in-Either-clause-le_next : goal.target_of-requires-in-Either-clause-le_next
unfolding branches
target_of-requires-in-Either-clause-le_next c = branch-next _ _ _ c.args.image.image _ _ c.args.t _ _ c.requires c.look-seen.result c.look-seen.ensures _ _ _ _ _ _ (ap (λ x. c.args.p + x) c.from.ensures) c.saturating_sub-g.ensures c.stops.ensures c.is_wrong-wrong.ensures c.height_behind-h.ensures refl (ap (λ f. branches (flow_view f)) c.in-Either.is)

pub returns-in_err-q-in-Either : goal.returns-in_err-q-in-Either
returns-in_err-q-in-Either c = rw c.from_residual-in_err-q-in-Either.ensures (expand-half _ _ _ c.args.image.image _ _ c.args.t _ _ c.requires c.look-seen.result c.look-seen.ensures _ _ _ _ _ _ (ap (λ x. c.args.p + x) c.from.ensures) c.saturating_sub-g.ensures c.stops.ensures c.is_wrong-wrong.ensures c.height_behind-h.ensures refl c.in-Either.is c.in_ok-v-in-Either.ensures c.in_err-q-in-Either.ensures)

pub meet-requires-in-Either-2-clause-end_bound : goal.meet-requires-in-Either-2-clause-end_bound
meet-requires-in-Either-2-clause-end_bound c = let a = behind-low _ _ _ c.args.image.image _ _ c.args.t _ _ c.requires c.look-seen.result c.look-seen.ensures _ _ _ _ _ _ (ap (λ x. c.args.p + x) c.from.ensures) c.saturating_sub-g.ensures c.stops.ensures c.is_wrong-wrong.ensures c.height_behind-h.ensures refl in omega (arith, a, c.in_ok-v-in-Either.ensures.fewer)

pub returns-in_ok-q-in-Either : goal.returns-in_ok-q-in-Either
returns-in_ok-q-in-Either c = expand-either _ _ _ c.args.image.image _ _ c.args.t _ _ c.requires c.look-seen.result c.look-seen.ensures _ _ _ _ _ _ (ap (λ x. c.args.p + x) c.from.ensures) c.saturating_sub-g.ensures c.stops.ensures c.is_wrong-wrong.ensures c.height_behind-h.ensures refl c.in-Either.is c.in_ok-v-in-Either.ensures c.in_ok-q-in-Either.ensures c.meet-in-Either-2.ensures

pub returns-in-Onward : goal.returns-in-Onward
returns-in-Onward c = expand-onward _ _ _ c.args.image.image _ _ c.args.t _ _ c.requires c.look-seen.result c.look-seen.ensures _ _ _ _ _ _ (ap (λ x. c.args.p + x) c.from.ensures) c.saturating_sub-g.ensures c.stops.ensures c.is_wrong-wrong.ensures c.height_behind-h.ensures refl c.in-Onward.is c.meet.ensures

pub returns-in-Stop : goal.returns-in-Stop
returns-in-Stop c = expand-stop _ _ _ c.args.image.image _ _ c.args.t _ _ c.requires c.look-seen.result c.look-seen.ensures _ _ _ _ _ _ (ap (λ x. c.args.p + x) c.from.ensures) c.saturating_sub-g.ensures c.stops.ensures c.is_wrong-wrong.ensures c.height_behind-h.ensures refl c.in-Stop.is
