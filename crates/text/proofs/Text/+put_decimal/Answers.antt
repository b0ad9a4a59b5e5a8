use mathlib.Core.Path.{ap, ◌∙◌}
use Rattle.text.specs.Text.{store_of}
use Rattle.text.proofs.Decimals.{put-digit, put-digits}
use borrow.Author.Rules.{rules}
use Rattle.text.proofs.Text.+put_decimal.Goals.{then-n-ge10, else-n-ge10}
use Rattle.text.proofs.Text.+put_decimal.Goals as goal

pub returns-clause-is : goal.returns-clause-is
returns-clause-is t c = elim c.if-n-ge10.branch [
  | then-n-ge10 w ↦ put-digits _ _ _ (search rules) c.digit.ensures w.if-n-ge10.true (ap store_of w.self-is ∙ w.put_decimal.ensures.is) c.push.ensures.is
  | else-n-ge10 w ↦ put-digit _ _ _ c.digit.ensures w.if-n-ge10.false (rw w.self-is at c.push.ensures.is)
]
