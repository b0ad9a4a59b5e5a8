use Rattle.emit.proofs.Steps.{some-is}
use Rattle.emit.proofs.Instructions.{prepare-stays}
use borrow.Author.Rules.{rules}
use Rattle.emit.proofs.Emitter.prepare.Goals as goal

pub returns-then-is_some : goal.returns-then-is_some
returns-then-is_some c = prepare-stays _ (search rules) (search rules) (some-is _ c.is_some.ensures c.if-is_some.true)
