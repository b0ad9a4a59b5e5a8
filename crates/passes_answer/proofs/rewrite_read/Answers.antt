use Rattle.input_reader.specs.View.{stores_view}
use Rattle.passes_answer.proofs.Handing.{read_by}
use Rattle.passes_answer.proofs.rewrite_read.Goals as goal

pub returns : goal.returns
returns c = read_by _ _ (stores_view c.args.reader.now) c.ending_of-end.ensures c.is_counted.ensures c.is_whole-whole.ensures c.handed.ensures c.handed-2.ensures c.handed-3.ensures c.handed-4.ensures c.handed-5.ensures c.rewrite_alone.ensures
