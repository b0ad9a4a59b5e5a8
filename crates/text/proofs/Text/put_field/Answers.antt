use Rattle.text.proofs.Puts.{put_first}
use Rattle.text.proofs.Text.put_field.Goals as goal

pub returns-clause-is : goal.returns-clause-is
returns-clause-is c = put_first _ _ _ c.push.ensures.is c.put_decimal.ensures.is
