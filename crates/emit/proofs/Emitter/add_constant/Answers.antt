use mathlib.Core.Path.{refl}
use Rattle.emit.proofs.Steps.{none-is, some-is}
use Rattle.emit.proofs.Constants.{pool-stays, pool-full, pool-keeps}
use Rattle.emit.proofs.Emitter.add_constant.Goals as goal

pub returns-then-is_some : goal.returns-then-is_some
returns-then-is_some c = pool-stays _ c.requires.fine c.requires.held (some-is _ c.is_some.ensures c.if-is_some.true)

pub returns-in_default : goal.returns-in_default
returns-in_default c = pool-full _ c.requires.fine c.requires.held refl c.in_default.ensures c.fail.ensures

pub returns : goal.returns
returns c = pool-keeps _ c.requires.fine c.requires.held c.in-Some.ensures.0 (none-is _ c.is_some.ensures c.if-is_some.false) c.in-Some.ensures.1 c.keep.ensures
