use mathlib.Core.Path.{refl}
use Rattle.input_reader.specs.View.{state_view}
use Rattle.listing_answer.proofs.Ending.{finished-by}
use borrow.Author.Rules.{rules}
use Rattle.listing_answer.proofs.finish.Goals as goal

pub returns : goal.returns
returns c = finished-by (state_view c.args.reader.now) _ _ c.compile_read-answer.result _ (search rules) c.ending_of.ensures c.is_counted-counted.ensures refl c.handed-sheet.ensures c.compile_read-answer.ensures (rw c.new-to.ensures.is at c.put_answer.ensures.is) (record { code = search rules; constants = search rules; lines = search rules }) c.put_answer.ensures.known c.set_from.ensures
