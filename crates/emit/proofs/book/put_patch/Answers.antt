use Rattle.emit.specs.Book.{patch_numbers}
use Rattle.emit.proofs.Tables.{three-stores}
use Rattle.emit.proofs.book.put_patch.Goals as goal

pub returns : goal.returns
unfolding patch_numbers
returns c = three-stores c.args.book.now _ c.args.patch.instruction_offset c.args.patch.operand_delta c.args.patch.label.0
