use Rattle.emit.proofs.Chains.{held-empty}
use borrow.Author.Rules.{rules}
use Rattle.forms_test.proofs.by_value.Goals as goal

pub emit_stmts-w-requires-clause-ready : goal.emit_stmts-w-requires-clause-ready
emit_stmts-w-requires-clause-ready g c = record { fine = search rules; room = search rules; slots = search rules; held = held-empty }
