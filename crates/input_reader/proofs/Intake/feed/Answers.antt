use Rattle.std.proofs.Common.{rules}
use Rattle.input_reader.specs.View.{state_of, intake_stores}
use Rattle.input_reader.proofs.Feeds.{fed-more}
use Rattle.input_reader.proofs.Intake.feed.Goals as goal

pub loop-b-preserved : goal.loop-b-preserved
loop-b-preserved c = record {
  buffers = search rules;
  fed = fed-more _ _ (state_of c.loop-b.head (intake_stores c.loop-b.self)) _ _ _ _ c.loop-b-test.true c.loop-b.invariant.fed c.next-on.ensures c.keep.ensures.kept;
}
