use Rattle.emit.proofs.Constants.{kept-has, kept_new}
use Rattle.emit.proofs.pool.keep.Goals as goal

pub returns-then-i-n : goal.returns-then-i-n
returns-then-i-n c = kept-has c.if-i-n.true

pub returns : goal.returns
returns c = kept_new c.if-i-n.false c.append.ensures
