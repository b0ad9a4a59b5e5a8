use Rattle.opcode.specs.Table.{sheet_in}
use Rattle.rules.specs.View.{rules_in}
use Rattle.compile.proofs.Answers.{none-left, any-pool, ends-refused, ends-far, ends-finished}
use Rattle.compile.proofs.entry.finish.Goals as goal

pub returns-in-Some : goal.returns-in-Some
returns-in-Some c = ends-refused (sheet_in c.args.sheet.now) (rules_in c.args.rules.table.now c.args.rules.count) c.args.e c.args.code.now c.args.book.now c.args.constants.now c.args.lines.now c.in-Some.is

pub finalize_function-requires-clause-patchable : goal.finalize_function-requires-clause-patchable
finalize_function-requires-clause-patchable c = any-pool (sheet_in c.args.sheet.now) (rules_in c.args.rules.table.now c.args.rules.count) c.args.e c.args.code.now c.args.book.now c.args.constants.now (c.requires.patchable (none-left _ c.in_default.not-Some))

pub returns-in-Err : goal.returns-in-Err
returns-in-Err c = ends-far (sheet_in c.args.sheet.now) (rules_in c.args.rules.table.now c.args.rules.count) c.args.e c.args.code.now c.args.book.now c.args.constants.now c.args.lines.now (none-left _ c.in_default.not-Some) c.in-Err.ensures c.from.ensures

pub returns-in-Ok : goal.returns-in-Ok
returns-in-Ok c = ends-finished (sheet_in c.args.sheet.now) (rules_in c.args.rules.table.now c.args.rules.count) c.args.e c.args.code.now c.args.book.now c.args.constants.now c.args.lines.now (none-left _ c.in_default.not-Some) c.requires.fine c.requires.roomy c.in-Ok.ensures c.set_from.ensures
