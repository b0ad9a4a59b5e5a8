use Rattle.text.proofs.Lines.{put-instruction}
use Rattle.text.proofs.Text.put_instruction.Goals as goal

pub returns-clause-is : goal.returns-clause-is
returns-clause-is c = put-instruction _ _ _ c.push.ensures.is c.put_field.ensures.is c.put_fields.ensures.is
