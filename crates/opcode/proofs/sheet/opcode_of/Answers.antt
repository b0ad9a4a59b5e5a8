use Rattle.std.proofs.Common.{◌∙◌}
use Rattle.opcode.specs.View.{role_view}
use Rattle.opcode.proofs.Tables.{table-opcode}
use Rattle.opcode.proofs.sheet.opcode_of.Goals as goal

pub returns : goal.returns
returns c = c.byte_or.ensures ∙ rw (c.from.ensures, c.number.ensures) (table-opcode c.args.sheet.now (role_view c.args.role))
