use Rattle.emit.proofs.Instructions.{pushed-cmp-br}
use Rattle.emit.proofs.bytes.push_cmp_br.Goals as goal

pub returns : goal.returns
returns c = pushed-cmp-br _ _ _ _ _ c.push-one.ensures c.push-two.ensures c.push_u16-four.ensures c.push_u16-six.ensures c.push_u16.ensures
