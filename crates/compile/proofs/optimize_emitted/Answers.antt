use Rattle.opcode.specs.Table.{sheet_in}
use Rattle.rules.specs.View.{rules_in}
use Rattle.compile.proofs.Whole.{runnable, moved}
use Rattle.compile.proofs.optimize_emitted.Goals as goal

pub optimize-requires-clause-runnable : goal.optimize-requires-clause-runnable
optimize-requires-clause-runnable c = runnable c.args.emitted.emitter c.args.emitted.book.now c.requires.table c.args.emitted.fine c.requires.code_len c.args.emitted.bound c.jump_targets.ensures

pub returns : goal.returns
returns c = moved (sheet_in c.args.sheet.now) (rules_in c.args.rules.table.now c.args.rules.count) c.args.emitted.emitter c.args.emitted.book.now c.args.code.now _ c.jump_targets.ensures c.list_boundaries.ensures c.optimize.ensures
