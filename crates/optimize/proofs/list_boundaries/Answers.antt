use mathlib.Core.Path.{refl}
use Rattle.optimize.proofs.Bounds.{list-begins, list-goes-on, list-ends}
use Rattle.optimize.proofs.list_boundaries.Goals as goal

pub loop-i-init : goal.loop-i-init
loop-i-init c = list-begins _ _ c.requires.code_len_bound _ c.requires.clear

pub loop-i-preserved : goal.loop-i-preserved
loop-i-preserved c = list-goes-on _ _ c.requires.code_len_bound _ _ c.loop-i.invariant _ c.in-Some.ensures.is c.in-Some.ensures.full

pub returns : goal.returns
returns c = list-ends _ _ c.requires.code_len_bound _ _ c.loop-i.invariant _ c.in_default.ensures.is refl
