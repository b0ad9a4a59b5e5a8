use Rattle.input_reader.specs.View.{phase_view, intake_view, SameBuffers}
use Rattle.standard_input.proofs.Going.{Going}
use Rattle.standard_input.proofs.read_all.Given as goal

abbrev pub invariant-loop : goal.invariant-loop
invariant-loop g l = record {
  buffers : SameBuffers l.initial.intake l.intake;
  going : Going (g.R.Read.remaining l.initial.input) (g.R.Read.remaining l.input) (phase_view l.initial.intake.follows) (intake_view l.initial.intake) (intake_view l.intake) l.counter;
}
