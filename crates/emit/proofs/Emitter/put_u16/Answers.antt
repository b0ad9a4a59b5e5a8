use Rattle.emit.proofs.Instructions.{puts, pushed_then, three}
use Rattle.emit.proofs.Emitter.put_u16.Goals as goal

pub returns : goal.returns
returns c = puts _ _ _ c.args.last 3 (three _) c.requires.code_len c.requires.fine c.requires.refused_value.0 c.requires.refused_value.1 (pushed_then _ _ c.push-at.ensures c.opcode_of-opcode.ensures c.push_u16.ensures) c.grow.ensures.fine_2 c.grow.ensures.value
