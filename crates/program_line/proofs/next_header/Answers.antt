use Rattle.definition.specs.Program.{header_forms}
use Rattle.program_line.specs.View.{header_line}
use Rattle.program_line.proofs.Laws.{line-fetched}
use borrow.Author.Rules.{rules}
use Rattle.program_line.proofs.next_header.Goals as goal

pub returns : goal.returns
returns c = line-fetched header_line header_forms c.next_by.ensures (λ b s h p. search rules)
