use Rattle.emit.proofs.Lines.{lines-there, lines_long}
use Rattle.emit.proofs.book.emitted_lines.Goals as goal

pub returns : goal.returns
returns c = record { result_value = lines-there c.args.book.now c.args.n c.told-book c.requires.n_le_max_lines; result_len = lines_long c.args.book.now c.args.n c.told-book c.requires.n_le_max_lines }
