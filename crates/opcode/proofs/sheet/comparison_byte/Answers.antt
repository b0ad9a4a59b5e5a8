use Rattle.std.proofs.Common.{◌∙◌}
use Rattle.opcode.specs.View.{compare_view}
use Rattle.opcode.proofs.Tables.{table-comparison}
use Rattle.opcode.proofs.sheet.comparison_byte.Goals as goal

pub returns : goal.returns
returns c = c.byte_or.ensures ∙ rw (c.from.ensures, c.index.ensures) (table-comparison c.args.sheet.now (compare_view c.args.op))
