use native.Mathlib.Omega.{arith}
use mathlib.Core.Path.{◌∙◌}
use Rattle.opcode.specs.Table.{sheet_in}
use Rattle.opcode.proofs.Tables.{table-number}
use Rattle.image_check.proofs.Starts.{start-holds}
use Rattle.image_check.proofs.Looking.{traits-is}
use Rattle.image_check.proofs.traits_at.Goals as goal

pub bounds-code-p : goal.bounds-code-p
bounds-code-p c = (start-holds (sheet_in c.args.sheet.now) c.args.code.now c.args.p c.requires.p_value).0

pub returns : goal.returns
returns c = traits-is _ _ _ _ c.numbered.result c.traits.result c.requires.p_value (c.role_number.ensures ∙ table-number c.requires.table _ (omega (arith, c.type_inv.code c.args.p))) c.numbered.ensures c.traits.ensures
