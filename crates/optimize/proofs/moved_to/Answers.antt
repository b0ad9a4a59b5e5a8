use mathlib.Core.Path.{sym}
use native.Mathlib.Omega.{arith}
use Rattle.optimize.proofs.Tables.{moved_in}
use Rattle.optimize.proofs.moved_to.Goals as goal

pub returns : goal.returns
returns c = rw (c.unwrap_or.ensures, c.copied.ensures, c.get.ensures.lookup.4 (omega arith) 0, c.from.ensures) (sym (moved_in _ _))
