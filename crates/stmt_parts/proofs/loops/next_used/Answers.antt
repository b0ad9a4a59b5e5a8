use mathlib.Core.Path.{refl}
use Rattle.stmt_parts.specs.Loops.{open_at}
use Rattle.stmt_parts.proofs.loops.next_used.Goals as goal

pub returns : goal.returns
unfolding open_at
returns c = refl
