use Rattle.rules.proofs.Rows.{row_is}
use Rattle.rules.proofs.table_row.Goals as goal

pub returns : goal.returns
returns c = row_is _ c.requires c.used-number.ensures c.used-one.ensures c.used-two.ensures
