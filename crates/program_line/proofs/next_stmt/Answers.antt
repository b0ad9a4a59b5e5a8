use Rattle.definition.specs.Program.{stmt_forms}
use Rattle.program_line.specs.View.{stmt_line}
use Rattle.program_line.proofs.Laws.{line-fetched}
use borrow.Author.Rules.{rules}
use Rattle.program_line.proofs.next_stmt.Goals as goal

pub returns : goal.returns
returns c = line-fetched stmt_line (stmt_forms c.args.variables) c.next_by.ensures (λ b s h p. search rules)
