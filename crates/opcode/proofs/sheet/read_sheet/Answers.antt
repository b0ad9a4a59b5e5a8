use Rattle.std.proofs.Common.{arith}
use Rattle.std.proofs.lemmas.Grind.{common_steps}
use Rattle.opcode.proofs.Readings.{answers}
use Rattle.opcode.proofs.sheet.read_sheet.Goals as goal

pub returns : goal.returns
returns c = answers c.args.text.now _ _ c.read_table-answer.auto.sheet c.set_from.ensures _ c.read_table-answer.ensures (λ e. grind (arith, common_steps)) (λ e. grind (arith, common_steps))
