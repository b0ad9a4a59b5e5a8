use Rattle.text.proofs.Lines.{put-fields, put-line}
use Rattle.text.proofs.Text.put_sizes.Goals as goal

pub returns-clause-is : goal.returns-clause-is
returns-clause-is c = put-line _ _ _ c.put_decimal.ensures.is (put-fields _ _ _ c.put_field.ensures.is c.put_three.ensures.is)
