use Rattle.text.proofs.Lines.{put-line}
use Rattle.text.proofs.Text.put_refusal.Goals as goal

pub returns-clause-is : goal.returns-clause-is
returns-clause-is c = put-line _ _ _ c.put_decimal.ensures.is c.put_last.ensures.is
