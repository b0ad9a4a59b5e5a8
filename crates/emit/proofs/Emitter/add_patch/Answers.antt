use Rattle.emit.proofs.Steps.{none-is, some-is}
use Rattle.emit.proofs.Branches.{patch-stays, patch-goes}
use borrow.Author.Rules.{rules}
use Rattle.emit.proofs.Emitter.add_patch.Goals as goal

pub returns-then-is_some : goal.returns-then-is_some
returns-then-is_some c = patch-stays _ (search rules) (search rules) (some-is _ c.is_some.ensures c.if-is_some.true)

pub returns : goal.returns
returns c = patch-goes _ c.requires.fine c.told-book (none-is _ c.is_some.ensures c.if-is_some.false) c.requires.branched c.put_patch.ensures
