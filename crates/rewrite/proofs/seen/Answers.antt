use mathlib.Core.Path.{◌∙◌}
use Rattle.opcode.proofs.Tables.{table-number}
use Rattle.rewrite.proofs.Sizes.{saw}
use borrow.Author.Rules.{rules}
use Rattle.rewrite.proofs.seen.Goals as goal

pub returns : goal.returns
returns c = saw _ _ c.byte_or-opcode.ensures (c.role_number.ensures ∙ table-number c.requires _ (search rules)) c.u16_operand.ensures
