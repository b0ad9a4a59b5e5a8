use Rattle.definition.specs.Program.{arm_forms}
use Rattle.program_line.specs.View.{arm_line}
use Rattle.program_line.proofs.Laws.{line-fetched}
use borrow.Author.Rules.{rules}
use Rattle.program_line.proofs.next_arm.Goals as goal

pub returns : goal.returns
returns c = line-fetched arm_line arm_forms c.next_by.ensures (λ b s h p. search rules)
