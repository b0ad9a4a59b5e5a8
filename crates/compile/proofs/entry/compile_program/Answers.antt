use Rattle.std.proofs.Common.{ℕ, sym}
use Rattle.std.proofs.lemmas.Result.{err_from_is_err_and}
use lib.ListN.{length-replicate}
use Rattle.opcode.specs.Table.{sheet_in}
use Rattle.rules.specs.View.{table_size}
use Rattle.rules.proofs.File.{file-fit}
use Rattle.optimize.proofs.Entry.{rules-read}
use Rattle.program.proofs.Check.{accepted}
use Rattle.compile.proofs.Entries.{ends-9, from-file, ends-rules, ends-1, ends-text}
use Rattle.compile.proofs.entry.compile_program.Goals as goal

pub returns-in_err-count : goal.returns-in_err-count
returns-in_err-count c =
    let p = err_from_is_err_and c.from_residual.result c.from_residual.ensures.1 in
    rw (p.1, p.2) (ends-9 (sheet_in c.args.sheet.now) c.args.rules.now c.args.text.now _ (file-fit _ (length-replicate {A = ℕ} table_size 0) c.in_err-count.ensures))

pub returns-in_err-checked : goal.returns-in_err-checked
returns-in_err-checked c =
    let p = err_from_is_err_and c.from_residual-in_err-checked.result c.from_residual-in_err-checked.ensures.1 in
    rw (p.1, p.2) (ends-rules (sheet_in c.args.sheet.now) c.args.rules.now c.args.text.now (file-fit _ (length-replicate {A = ℕ} table_size 0) c.in_ok-count.ensures) (ends-1 (sheet_in c.args.sheet.now) _ c.args.text.now _ c.in_err-checked.ensures))

pub invariant_of-rules : goal.invariant_of-rules
invariant_of-rules c = record { read = (rules-read (file-fit _ (length-replicate {A = ℕ} table_size 0) c.in_ok-count.ensures)).held }

pub compile_accepted-requires-clause-from_file : goal.compile_accepted-requires-clause-from_file
compile_accepted-requires-clause-from_file c = from-file (sheet_in c.args.sheet.now) c.args.rules.now c.args.text.now (file-fit _ (length-replicate {A = ℕ} table_size 0) c.in_ok-count.ensures)

pub compile_accepted-requires-clause-accepts : goal.compile_accepted-requires-clause-accepts
compile_accepted-requires-clause-accepts c = accepted c.args.text.now (sym c.in_ok-checked.ensures)

pub returns : goal.returns
returns c = ends-rules (sheet_in c.args.sheet.now) c.args.rules.now c.args.text.now (file-fit _ (length-replicate {A = ℕ} table_size 0) c.in_ok-count.ensures) (ends-text (sheet_in c.args.sheet.now) _ c.args.text.now _ _ c.in_ok-checked.ensures c.compile_accepted.ensures)
