use Rattle.std.proofs.Common.{false, arith, rules}
use Rattle.field.proofs.Fields.{sums-all, sums-other}
use Rattle.field.proofs.Numbers.{up-to-is, up-to-malformed}
use Rattle.field.proofs.up_to.Goals as goal

pub returns-then-end-bytes : goal.returns-then-end-bytes
returns-then-end-bytes c = up-to-malformed _ (sums-other (c.digits-n.ensures.made (λ _. false) (λ b e. search rules)) (search rules) c.digits-n.ensures.stopped) _

pub spell-requires-clause-end_bound : goal.spell-requires-clause-end_bound
spell-requires-clause-end_bound c = omega (arith, (c.digits-n.ensures.made (λ _. false) (λ b e. search rules)).finding.high)

pub returns : goal.returns
returns c = up-to-is _ (sums-all (c.digits-n.ensures.made (λ _. false) (λ b e. search rules)) (search rules) c.spell.ensures) _ (search rules) (rw c.from.ensures at c.within.ensures)
