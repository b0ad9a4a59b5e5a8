use Rattle.std.proofs.Common.{sym, ◌∙◌}
use Rattle.rules.proofs.Lines.{none-line, line-bounded, line-not-good, line-good}
use Rattle.rules.proofs.read_line.Goals as goal

pub returns-in_err-numbers : goal.returns-in_err-numbers
returns-in_err-numbers c = rw c.from_residual.ensures (none-line _ _ c.in_err-numbers.ensures)

pub is_good-requires : goal.is_good-requires
is_good-requires c = line-bounded _ _ c.in_ok-numbers.ensures.0

pub returns-then-not-is_good : goal.returns-then-not-is_good
returns-then-not-is_good c = line-not-good _ _ c.in_ok-numbers.ensures.0 (sym c.if-not-is_good.true ∙ c.is_good.ensures)

pub table_row-requires : goal.table_row-requires
table_row-requires c = line-bounded _ _ c.in_ok-numbers.ensures.0

pub returns : goal.returns
returns c = line-good _ _ c.in_ok-numbers.ensures.0 (sym c.if-not-is_good.false ∙ c.is_good.ensures) c.table_row.ensures c.in_ok-numbers.ensures.1
