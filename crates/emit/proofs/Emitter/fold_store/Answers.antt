use mathlib.Core.Path.{refl}
use Rattle.emit.proofs.Steps.{none-is, some-is}
use Rattle.emit.proofs.Loads.{fold_stays, fold-full, fold-goes}
use borrow.Author.Rules.{rules}
use Rattle.emit.proofs.Emitter.fold_store.Goals as goal

pub returns-then-is_some : goal.returns-then-is_some
returns-then-is_some c = fold_stays _ (search rules) (search rules) (some-is _ c.is_some.ensures c.if-is_some.true)

pub returns-then-self-ge-MAX_CODE : goal.returns-then-self-ge-MAX_CODE
returns-then-self-ge-MAX_CODE c = fold-full _ c.requires.fine c.requires.code_len c.if-self-ge-MAX_CODE.true c.fail.ensures

pub returns : goal.returns
returns c = fold-goes _ c.requires.fine c.requires.code_len c.opcode_of-opcode.ensures c.max.ensures (none-is _ c.is_some.ensures c.if-is_some.false) c.if-self-ge-MAX_CODE.false c.requires.le_size c.insert_before_three.ensures refl
