use Rattle.emit.proofs.Tables.{bound_at, bound-none}
use Rattle.emit.proofs.Emitter.bound_label.Goals as goal

pub returns-then-n-self : goal.returns-then-n-self
returns-then-n-self c = bound-none _ _ _ c.from-n.ensures c.if-n-self.true

pub returns : goal.returns
returns c = bound_at _ _ _ c.from-n.ensures c.if-n-self.false c.label_place.ensures
