use native.Mathlib.Omega.{arith}
use mathlib.Core.Path.{refl, sym, ◌∙◌}
use Rattle.image_check.proofs.Marking.{mark-begins, mark-none, mark-unlisted, mark_on, inside}
use Rattle.image_check.proofs.mark_starts.Goals as goal

pub loop-i-init : goal.loop-i-init
loop-i-init c = mark-begins _ _ c.requires.table c.requires.code_len_bound _ c.requires.clear

pub returns-then-not-is_listed : goal.returns-then-not-is_listed
returns-then-not-is_listed c = mark-unlisted _ _ c.requires.table c.requires.code_len_bound _ _ c.loop-i.invariant _ c.in-Some.ensures.is c.in-Some.ensures.full (sym c.is_listed.ensures ∙ c.if-not-is_listed.true)

pub loop-i-smaller : goal.loop-i-smaller
loop-i-smaller c = omega (arith, inside _ _ c.requires.table c.requires.code_len_bound _ _ c.loop-i.invariant _ c.in-Some.ensures.is c.in-Some.ensures.full, c.in-Some.ensures.full)

pub loop-i-preserved : goal.loop-i-preserved
loop-i-preserved c = mark_on _ _ c.requires.table c.requires.code_len_bound _ _ c.loop-i.invariant _ c.in-Some.ensures.is c.in-Some.ensures.full (sym c.is_listed.ensures ∙ c.if-not-is_listed.false)

pub returns : goal.returns
returns c = mark-none _ _ c.requires.table c.requires.code_len_bound _ _ c.loop-i.invariant _ c.in_default.ensures.is refl
