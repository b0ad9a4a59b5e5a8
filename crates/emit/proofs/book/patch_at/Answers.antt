use mathlib.Core.Path.{refl}
use Rattle.emit.proofs.Tables.{patch-read}
use Rattle.emit.proofs.book.patch_at.Goals as goal

pub returns : goal.returns
returns c = patch-read c.args.book.now c.args.n refl refl refl
