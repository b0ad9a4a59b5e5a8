use Rattle.std.proofs.Common.{arith}
use Rattle.std.proofs.lemmas.Grind.{common_steps}
use Rattle.opcode.proofs.Readings.{accepted}
use Rattle.opcode.proofs.sheet.read_table.Goals as goal

pub returns : goal.returns
returns c = (grind (arith, common_steps), accepted c.args.text.now _ c.in_ok-read_fields.ensures c.list_roles.ensures)
