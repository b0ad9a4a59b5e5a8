use native.Mathlib.Omega.{arith}
use Rattle.stmt_parts.proofs.Opens.{loop-opened}
use Rattle.stmt_parts.proofs.loops.open_loop.Goals as goal

pub returns : goal.returns
returns c = loop-opened _ _ _ _ _ (omega arith)
