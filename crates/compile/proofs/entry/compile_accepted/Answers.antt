use Rattle.std.proofs.Common.{ℕ, refl, length-take-le}
use lib.ListN.{length-replicate}
use Rattle.definition.specs.Limits.{max_code}
use Rattle.opcode.specs.Table.{sheet_in}
use Rattle.rules.specs.View.{rules_in}
use Rattle.line_map.specs.View.{pos_view}
use Rattle.emit.specs.Book.{book_size}
use Rattle.emit.proofs.Chains.{held-empty}
use Rattle.compile.proofs.Entries.{front_long, copied, lent-patchable, ends-emitted}
use Rattle.compile.proofs.entry.compile_accepted.Goals as goal

pub emit_stmts-walked-requires-clause-ready : goal.emit_stmts-walked-requires-clause-ready
emit_stmts-walked-requires-clause-ready c = record { fine = c.new-begun.ensures.fine; room = length-take-le max_code c.args.code.now c.requires.roomy.code; slots = length-replicate {A = ℕ} book_size 0; held = held-empty }

pub finish-requires-clause-patchable : goal.finish-requires-clause-patchable
finish-requires-clause-patchable c = lent-patchable (sheet_in c.args.sheet.now) c.args.text.now (record { variables = c.args.checked.variables; statements = c.args.checked.statements; pos = pos_view c.args.checked.pos }) c.args.checked.next c.requires.accepts _ _ _ c.new-begun.ensures (rw c.from.ensures at c.emit_stmts-walked.ensures.did) _ refl c.emit_stmts-walked.ensures.ready (copied _ c.args.constants.now c.emit_stmts-walked.ensures.ready.fine c.emit_stmts-walked.ensures.ready.held c.requires.roomy.constants c.fill_from.ensures) (rules_in c.args.rules.table.now c.args.rules.count) c.requires.good c.requires.from_file

pub returns : goal.returns
returns c = ends-emitted (sheet_in c.args.sheet.now) c.args.text.now (record { variables = c.args.checked.variables; statements = c.args.checked.statements; pos = pos_view c.args.checked.pos }) c.args.checked.next c.requires.accepts _ _ _ c.new-begun.ensures (rw c.from.ensures at c.emit_stmts-walked.ensures.did) _ refl c.emit_stmts-walked.ensures.ready (copied _ c.args.constants.now c.emit_stmts-walked.ensures.ready.fine c.emit_stmts-walked.ensures.ready.held c.requires.roomy.constants c.fill_from.ensures) (rules_in c.args.rules.table.now c.args.rules.count) c.args.code.now (front_long c.emit_stmts-walked.new.code c.args.code.now max_code c.emit_stmts-walked.ensures.ready.room c.requires.roomy.code) c.finish.ensures
