use Rattle.definition.specs.Program.{label_forms}
use Rattle.program_line.specs.View.{label_line}
use Rattle.program_line.proofs.Laws.{line-fetched}
use borrow.Author.Rules.{rules}
use Rattle.program_line.proofs.next_label.Goals as goal

pub returns : goal.returns
returns c = line-fetched label_line label_forms c.next_by.ensures (λ b s h p. search rules)
