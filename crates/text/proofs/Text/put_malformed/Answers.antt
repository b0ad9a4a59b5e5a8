use Rattle.text.proofs.Lines.{put-marked}
use Rattle.text.proofs.Text.put_malformed.Goals as goal

pub returns-clause-is : goal.returns-clause-is
returns-clause-is c = put-marked _ _ c.push.ensures.is c.put_last.ensures.is
