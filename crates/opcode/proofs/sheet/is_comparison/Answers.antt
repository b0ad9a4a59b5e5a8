use Rattle.std.proofs.Common.{◌≡◌, arith}
use Rattle.std.proofs.lemmas.Grind.{common_steps}
use Rattle.opcode.specs.Table.{sheet_in}
use Rattle.opcode.proofs.Readings.{has-any}
use Rattle.opcode.proofs.Tables.{comparisons-there, comparisons-none}
use Rattle.opcode.proofs.sheet.is_comparison.Goals as goal

pub returns : goal.returns
returns c =
    let part : c.unwrap_or.result.now ≡ (sheet_in c.args.sheet.now).comparisons = grind (arith, common_steps, comparisons-there c.args.sheet.now c.min-end.result c.min-end.ensures, comparisons-none c.args.sheet.now c.min-end.result c.min-end.ensures) in
    rw (c.contains.ensures.value, part) (has-any _ c.args.b)
