use Rattle.emit.proofs.Tables.{line-put}
use Rattle.emit.proofs.book.put_line.Goals as goal

pub returns : goal.returns
returns c = line-put _ _ _ c.put_entry.ensures c.told-book c.requires.n_lt_max_lines
