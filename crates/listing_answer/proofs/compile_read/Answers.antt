use Rattle.input_reader.specs.View.{stores_view}
use Rattle.listing_answer.proofs.Handing.{read_by}
use Rattle.listing_answer.proofs.compile_read.Goals as goal

pub returns : goal.returns
returns c = read_by _ _ (stores_view c.args.reader.now) c.ending_of.ensures c.is_counted-counted.ensures c.handed.ensures c.handed-2.ensures c.handed-3.ensures c.compile.ensures.compiles
