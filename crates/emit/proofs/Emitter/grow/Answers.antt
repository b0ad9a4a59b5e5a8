use mathlib.Core.Path.{refl}
use Rattle.definition.specs.Opcode.{effect}
use Rattle.emit.proofs.Instructions.{grows}
use borrow.Author.Rules.{rules}
use Rattle.emit.proofs.Emitter.grow.Goals as goal

pub returns : goal.returns
unfolding effect
returns c = record { fine_2 = (grows _ _ _ c.requires.fine (search rules) (search rules) (search rules) c.traits.ensures.effect c.shift-depth.ensures c.max.ensures refl).0; value = (grows _ _ _ c.requires.fine (search rules) (search rules) (search rules) c.traits.ensures.effect c.shift-depth.ensures c.max.ensures refl).1 }
