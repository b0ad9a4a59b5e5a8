use Rattle.emit.proofs.Steps.{none-is, some-is}
use Rattle.emit.proofs.State.{bare-stays, refuses}
use borrow.Author.Rules.{rules}
use Rattle.emit.proofs.Emitter.fail.Goals as goal

pub returns-then-is_some : goal.returns-then-is_some
returns-then-is_some c = bare-stays _ (search rules) (some-is _ c.is_some.ensures c.if-is_some.true)

pub returns : goal.returns
returns c = refuses _ (search rules) (none-is _ c.is_some.ensures c.if-is_some.false)
