use Rattle.std.proofs.Common.{◌≡◌, take}
use Rattle.input_machine.specs.Machine.{steps}
use Rattle.input_reader.specs.View.{phase_view, state_of, intake_stores, intake_view, SameBuffers}
use Rattle.input_reader.proofs.Intake.feed.Given as goal

abbrev pub invariant-loop-b : goal.invariant-loop-b
invariant-loop-b l = record {
  buffers : SameBuffers l.initial.self l.self;
  fed : state_of l.head (intake_stores l.self) ≡ steps (phase_view l.follows) (intake_view l.initial.self) (take l.b-index l.bytes);
}
