use Rattle.emit.proofs.Chains.{held-empty}
use borrow.Author.Rules.{rules}
use Rattle.forms_test.proofs.by_steps.Goals as goal

pub loop_statement-requires : goal.loop_statement-requires
loop_statement-requires g c = record { fine = search rules; room = search rules; slots = search rules; held = held-empty }
