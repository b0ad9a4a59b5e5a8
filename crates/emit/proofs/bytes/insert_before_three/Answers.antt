use native.Mathlib.Omega.{arith}
use Rattle.emit.proofs.Loads.{inserts}
use Rattle.emit.proofs.bytes.insert_before_three.Goals as goal

pub returns : goal.returns
returns c = inserts c.args.code.now c.args.place c.args.x _ c.requires (omega arith) c.copy_within.ensures.after
