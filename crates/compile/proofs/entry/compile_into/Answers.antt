use Rattle.std.proofs.Common.{ℕ, sym, ◌∙◌}
use Rattle.std.proofs.lemmas.Result.{err_from_is_err_and}
use lib.ListN.{length-replicate}
use Rattle.opcode.specs.Table.{table_size}
use Rattle.opcode.proofs.Readings.{read_whole}
use Rattle.compile.proofs.Answers.{roomy-is}
use Rattle.compile.proofs.Entries.{short, refused-7, after-sheet, sheet-good}
use Rattle.compile.proofs.entry.compile_into.Goals as goal

pub returns-then-not-roomy : goal.returns-then-not-roomy
returns-then-not-roomy c = short c.args.sheet.now c.args.rules.now c.args.program.now c.args.code.now c.args.constants.now c.args.lines.now (sym c.roomy.ensures ∙ c.if-not-roomy.true)

pub returns-in_err-read_sheet : goal.returns-in_err-read_sheet
returns-in_err-read_sheet c =
    let p = err_from_is_err_and c.from_residual.result c.from_residual.ensures.1 in
    rw (p.1, p.2) (refused-7 c.args.sheet.now c.args.rules.now c.args.program.now c.args.code.now c.args.constants.now c.args.lines.now _ (sym c.roomy.ensures ∙ c.if-not-roomy.false) _ (read_whole (length-replicate {A = ℕ} table_size 0) c.in_err-read_sheet.ensures))

pub compile_program-requires-clause-table : goal.compile_program-requires-clause-table
compile_program-requires-clause-table c = (read_whole (length-replicate {A = ℕ} table_size 0) c.in_ok-read_sheet.ensures).ready

pub compile_program-requires-clause-good : goal.compile_program-requires-clause-good
compile_program-requires-clause-good c = sheet-good (read_whole (length-replicate {A = ℕ} table_size 0) c.in_ok-read_sheet.ensures)

pub compile_program-requires-clause-roomy : goal.compile_program-requires-clause-roomy
compile_program-requires-clause-roomy c = roomy-is (sym c.roomy.ensures ∙ c.if-not-roomy.false)

pub returns : goal.returns
returns c = after-sheet c.args.sheet.now c.args.rules.now c.args.program.now c.args.code.now c.args.constants.now c.args.lines.now _ (sym c.roomy.ensures ∙ c.if-not-roomy.false) (read_whole (length-replicate {A = ℕ} table_size 0) c.in_ok-read_sheet.ensures) c.compile_program.ensures
