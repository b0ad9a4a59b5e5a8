use Rattle.stmt.proofs.Simple.{placed, unrecorded}
use Rattle.stmt.proofs.record_position.Goals as goal

pub returns-then-recording : goal.returns-then-recording
returns-then-recording c = placed _ c.if-recording.true c.position_of.ensures c.set_position.ensures

pub returns-else-recording : goal.returns-else-recording
returns-else-recording c = unrecorded _ c.if-recording.false c.requires
