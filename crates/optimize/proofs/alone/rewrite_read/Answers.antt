use mathlib.Core.Path.{◌≡◌, sym, ◌∙◌}
use Prim.Native.Nat.{ℕ}
use lib.ListN.{length-replicate}
use borrow.Author.Rules.{rules}
use Rattle.std.specs.Prelude.{Err}
use Rattle.opcode.specs.Table as sheets
use Rattle.opcode.specs.Table.{sheet_in}
use Rattle.opcode.proofs.Readings.{read_whole}
use Rattle.rules.specs.View.{table_size}
use Rattle.rules.proofs.File.{file-fit}
use Rattle.optimize.specs.View.{given, room}
use Rattle.optimize.proofs.Whole.{given-as}
use Rattle.optimize.proofs.Entry.{roomy-is, short, refused-7, after-sheet, refused-9, rules-read, ruled}
use Rattle.optimize.proofs.alone.rewrite_read.Goals as goal

pub returns-then-not-roomy : goal.returns-then-not-roomy
returns-then-not-roomy c = short c.args.sheet.now c.args.rules.now (given c.args.code.now c.args.protected.now c.args.lines.now) (room c.args.bytes.now c.args.offsets.now c.args.entries.now) (sym c.roomy.ensures ∙ c.if-not-roomy.true)

pub returns-in_err-read_sheet : goal.returns-in_err-read_sheet
returns-in_err-read_sheet c =
    let e : c.from_residual.result ≡ Err c.in_err-read_sheet.field-0.0 = search rules in
    rw e (refused-7 c.args.sheet.now c.args.rules.now (given c.args.code.now c.args.protected.now c.args.lines.now) (room c.args.bytes.now c.args.offsets.now c.args.entries.now) _ (sym c.roomy.ensures ∙ c.if-not-roomy.false) _ (read_whole (length-replicate {A = ℕ} sheets.table_size 0) c.in_err-read_sheet.ensures))

pub returns-in_err-count : goal.returns-in_err-count
returns-in_err-count c =
    let e : c.from_residual-in_err-count.result ≡ Err c.in_err-count.field-0.0 = search rules in
    rw e (after-sheet c.args.sheet.now c.args.rules.now (given c.args.code.now c.args.protected.now c.args.lines.now) (room c.args.bytes.now c.args.offsets.now c.args.entries.now) _ (sym c.roomy.ensures ∙ c.if-not-roomy.false) (Err c.in_err-count.field-0.0) (read_whole (length-replicate {A = ℕ} sheets.table_size 0) c.in_ok-read_sheet.ensures) (refused-9 _ c.args.rules.now (given c.args.code.now c.args.protected.now c.args.lines.now) (file-fit _ (length-replicate {A = ℕ} table_size 0) c.in_err-count.ensures)))

pub invariant_of-rules : goal.invariant_of-rules
invariant_of-rules c = record { read = (rules-read (file-fit _ (length-replicate {A = ℕ} table_size 0) c.in_ok-count.ensures)).held }

pub rewrite_limited-requires : goal.rewrite_limited-requires
rewrite_limited-requires c = record { table = (read_whole (length-replicate {A = ℕ} sheets.table_size 0) c.in_ok-read_sheet.ensures).ready; roomy = roomy-is (sym c.roomy.ensures ∙ c.if-not-roomy.false) }

pub returns : goal.returns
returns c = after-sheet c.args.sheet.now c.args.rules.now (given c.args.code.now c.args.protected.now c.args.lines.now) (room c.args.bytes.now c.args.offsets.now c.args.entries.now) _ (sym c.roomy.ensures ∙ c.if-not-roomy.false) c.rewrite_limited.result (read_whole (length-replicate {A = ℕ} sheets.table_size 0) c.in_ok-read_sheet.ensures) (given-as (room c.args.bytes.now c.args.offsets.now c.args.entries.now) c.rewrite_limited.result _ _ _ (ruled _ c.args.rules.now (given c.args.code.now c.args.protected.now c.args.lines.now) (file-fit _ (length-replicate {A = ℕ} table_size 0) c.in_ok-count.ensures)) c.rewrite_limited.ensures)
