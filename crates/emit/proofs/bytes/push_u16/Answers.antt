use native.Mathlib.Omega.{arith}
use Rattle.emit.proofs.Instructions.{pushed-u16}
use Rattle.emit.proofs.bytes.push_u16.Goals as goal

pub returns : goal.returns
returns c = pushed-u16 _ _ c.push-one.ensures c.push.ensures (rw c.to_le_bytes.ensures) (rw c.to_le_bytes.ensures (omega arith))
