use Rattle.definition.specs.Limits.{width}
use Rattle.text.proofs.Decimals.{put-positive, put-negative}
use borrow.Author.Rules.{rules}
use Rattle.text.proofs.Text.put_signed.Goals as goal

pub returns-then-n-lt-NEGATIVES-clause-is : goal.returns-then-n-lt-NEGATIVES-clause-is
returns-then-n-lt-NEGATIVES-clause-is c = put-positive width _ _ c.from-n.ensures c.if-n-lt-NEGATIVES.true c.put_decimal.ensures.is

pub returns-else-n-lt-NEGATIVES-clause-is : goal.returns-else-n-lt-NEGATIVES-clause-is
returns-else-n-lt-NEGATIVES-clause-is c = put-negative width _ _ c.from-n.ensures c.if-n-lt-NEGATIVES.false (search rules) c.push.ensures.is c.put_decimal-else-n-lt-NEGATIVES.ensures.is
