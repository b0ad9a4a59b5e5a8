use Rattle.text.proofs.Lines.{put-fields}
use Rattle.text.proofs.Text.put_three.Goals as goal

pub returns-clause-is : goal.returns-clause-is
returns-clause-is c = put-fields _ _ _ c.put_field.ensures.is (put-fields _ _ _ c.put_field-2.ensures.is c.put_last.ensures.is)
