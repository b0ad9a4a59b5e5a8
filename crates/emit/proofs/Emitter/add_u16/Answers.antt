use Rattle.emit.proofs.Steps.{some-is}
use Rattle.emit.proofs.Instructions.{add-stops, add_goes, three}
use Rattle.emit.proofs.Emitter.add_u16.Goals as goal

pub returns-then-is_some : goal.returns-then-is_some
returns-then-is_some c = add-stops _ _ _ c.args.last 3 (three _) c.requires.code_len c.prepare-e.ensures (some-is _ c.is_some.ensures c.if-is_some.true)

pub returns : goal.returns
returns c = add_goes _ _ _ c.args.last 3 (three _) c.requires.code_len c.prepare-e.ensures c.put_u16.ensures
