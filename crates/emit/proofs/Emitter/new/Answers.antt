use Rattle.emit.proofs.State.{begins}
use Rattle.emit.proofs.Emitter.new.Goals as goal

pub returns : goal.returns
returns c = begins _
