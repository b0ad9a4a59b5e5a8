use Rattle.text.proofs.Lines.{put-constant}
use Rattle.text.proofs.Text.put_constant.Goals as goal

pub returns-clause-is : goal.returns-clause-is
returns-clause-is c = put-constant _ _ c.push.ensures.is c.push-2.ensures.is c.put_signed.ensures.is c.push-3.ensures.is
