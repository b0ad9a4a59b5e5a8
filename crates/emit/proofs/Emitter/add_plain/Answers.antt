use Rattle.emit.proofs.Steps.{none-is, some-is}
use mathlib.Core.Path.{refl}
use mathlib.Core.List.{[]}
use Rattle.emit.specs.declared.Last.TheVariants.{Other}
use Rattle.emit.proofs.Instructions.{puts, add-stops, add_goes, pushed-one}
use Rattle.emit.proofs.Emitter.add_plain.Goals as goal

pub returns-then-is_some : goal.returns-then-is_some
returns-then-is_some c = add-stops _ _ [] Other 1 refl c.requires.code_len c.prepare-e.ensures (some-is _ c.is_some.ensures c.if-is_some.true)

pub returns : goal.returns
returns c = add_goes _ _ [] Other 1 refl c.requires.code_len c.prepare-e.ensures (puts _ _ [] Other 1 refl c.requires.code_len c.prepare-e.ensures.noted.fine (none-is _ c.is_some.ensures c.if-is_some.false) (c.prepare-e.ensures.fits (none-is _ c.is_some.ensures c.if-is_some.false)) (pushed-one _ c.push.ensures c.opcode_of-opcode.ensures) c.grow.ensures.fine_2 c.grow.ensures.value)
