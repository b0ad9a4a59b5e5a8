use Rattle.definition.specs.Compile.{roomy}
use Rattle.compile.proofs.call.roomy.Goals as goal

pub returns : goal.returns
unfolding roomy
returns c = c.have_room.ensures
