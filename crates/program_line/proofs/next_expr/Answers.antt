use Rattle.definition.specs.Program.{expr_forms}
use Rattle.program_line.specs.View.{expr_line}
use Rattle.program_line.proofs.Laws.{line-fetched}
use borrow.Author.Rules.{rules}
use Rattle.program_line.proofs.next_expr.Goals as goal

pub returns : goal.returns
returns c = line-fetched expr_line (expr_forms c.args.variables) c.next_by.ensures (λ b s h p. search rules)
