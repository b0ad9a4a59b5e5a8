use native.Mathlib.Omega.{arith}
use mathlib.Core.Path.{◌∙◌}
use Rattle.image_check.proofs.Meeting.{leads-on, leads-left}
use Rattle.image_check.proofs.target_of.Goals as goal

pub returns-then-d-lt32768 : goal.returns-then-d-lt32768
returns-then-d-lt32768 c = leads-on _ _ _ _ (c.from.ensures ∙ c.byte_or-low.ensures) (c.from-2.ensures ∙ c.byte_or-high.ensures) c.if-d-lt32768.true

pub returns : goal.returns
returns c = leads-left _ _ _ _ (c.from.ensures ∙ c.byte_or-low.ensures) (c.from-2.ensures ∙ c.byte_or-high.ensures) c.if-d-lt32768.false (omega arith) _ c.checked_sub.ensures
