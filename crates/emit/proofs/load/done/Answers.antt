use mathlib.Core.Path.{refl}
use Rattle.emit.proofs.Steps.{none-is, some-is}
use Rattle.emit.proofs.load.done.Goals as goal

pub returns-then-is_some : goal.returns-then-is_some
returns-then-is_some c = record { emitter_value = refl; going = λ z. absurd (some-is _ c.is_some.ensures c.if-is_some.true z); refused = λ z. refl }

pub returns-else-is_some : goal.returns-else-is_some
returns-else-is_some c = record { emitter_value = refl; going = λ z. refl; refused = λ off. absurd (off (none-is _ c.is_some.ensures c.if-is_some.false)) }
