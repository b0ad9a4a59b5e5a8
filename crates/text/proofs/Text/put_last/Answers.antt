use mathlib.Core.List.{[]}
use Rattle.text.proofs.Lines.{put-fields, put-end}
use Rattle.text.proofs.Text.put_last.Goals as goal

pub returns-clause-is : goal.returns-clause-is
returns-clause-is c = put-fields _ _ [] c.put_field.ensures.is (put-end _ c.push.ensures.is)
