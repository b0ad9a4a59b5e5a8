use Rattle.definition.specs.Alone.{roomy}
use Rattle.optimize.proofs.alone.roomy.Goals as goal

pub returns : goal.returns
unfolding roomy
returns c = c.have_room.ensures
