use Rattle.emit.proofs.Tables.{two-stores}
use Rattle.emit.proofs.book.put_label.Goals as goal

pub returns : goal.returns
returns c = two-stores c.args.book.now _ c.args.bound c.args.place
