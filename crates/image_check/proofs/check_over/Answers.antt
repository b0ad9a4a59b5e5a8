use Rattle.image_check.proofs.Checking.{ready-first, first-low, answers-off, answers-lost, answers-bad, answers-fine}
use Rattle.image_check.proofs.check_over.Goals as goal

pub meet-requires : goal.meet-requires
meet-requires c = record { ready = ready-first _ _ _ _ c.args.work.now c.args.image.image c.requires.clear c.requires.code_in_bounds; end_bound = first-low _ _ _ _ c.args.work.now c.args.image.image c.requires.clear c.requires.code_in_bounds }

pub returns-in_default : goal.returns-in_default
returns-in_default c = answers-off _ _ _ _ _ c.args.image.image c.requires.clear c.requires.code_in_bounds _ _ _ c.in_default.ensures

pub returns-in_default-traverse : goal.returns-in_default-traverse
returns-in_default-traverse c = answers-lost _ _ _ _ _ c.args.image.image c.requires.clear c.requires.code_in_bounds _ _ _ c.in-Some.ensures _ _ c.in_default-traverse.ensures

pub returns-then-last : goal.returns-then-last
returns-then-last c = answers-bad _ _ _ _ _ c.args.image.image c.requires.clear c.requires.code_in_bounds _ _ _ c.in-Some.ensures _ _ _ c.in-Some-traverse.ensures c.if-last.true

pub returns : goal.returns
returns c = answers-fine _ _ _ _ _ c.args.image.image c.requires.clear c.requires.code_in_bounds _ _ _ c.in-Some.ensures _ _ _ c.in-Some-traverse.ensures c.if-last.false
