use Rattle.program_shape.proofs.Laws.{known-end, stays-sound}
use Rattle.program_shape.proofs.body_end.Goals as goal

pub skip_block-requires-clause-sound : goal.skip_block-requires-clause-sound
skip_block-requires-clause-sound c = stays-sound c.requires.sound c.start_skip.ensures

pub returns-in-Some-clause-skipped : goal.returns-in-Some-clause-skipped
returns-in-Some-clause-skipped c = known-end _ c.requires.sound c.in-Some.ensures
