use Rattle.opcode.specs.Table.{sheet_in}
use Rattle.rules.specs.View.{rules_in}
use Rattle.optimize.specs.View.{given}
use Rattle.optimize.proofs.Whole.{refused-8, finished}
use Rattle.optimize.proofs.alone.rewrite_checked.Goals as goal

pub returns-in-Err : goal.returns-in-Err
returns-in-Err c = refused-8 (sheet_in c.args.sheet.now) (rules_in c.args.rules.table.now c.args.rules.count) (given c.args.code.now c.args.protected.now c.args.lines.now) c.in-Err.ensures c.from.ensures

pub returns : goal.returns
returns c = finished (sheet_in c.args.sheet.now) (rules_in c.args.rules.table.now c.args.rules.count) c.args.code.now c.args.protected.now c.args.lines.now _ c.args.bytes.now c.args.offsets.now c.args.entries.now c.in_default.ensures c.rewrite_into-n.ensures c.remap_line_map-kept.ensures
