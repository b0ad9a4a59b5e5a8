use native.Mathlib.Omega.{arith}
use mathlib.Core.Path.{◌∙◌, ap, sym}
use Rattle.definition.specs.Field.{has}
use Rattle.opcode.specs.Table.{sheet_in}
use Rattle.opcode.proofs.Tables.{table-number}
use Rattle.image_check.proofs.Looking.{listed-other, listed_same}
use Rattle.image_check.proofs.is_listed.Goals as goal

pub returns-then-role_number-number : goal.returns-then-role_number-number
returns-then-role_number-number c = listed-other _ _ _ (c.role_number.ensures ∙ table-number c.requires.table _ (omega (arith, c.type_inv.i 0))) (λ e. c.if-role_number-number.true (e ∙ sym c.number.ensures))

pub returns : goal.returns
returns c = (c.is_comparison.ensures ∙ ap (λ x. has (sheet_in c.args.sheet.now).comparisons x) c.byte_or-c.ensures) ∙ listed_same (sheet_in c.args.sheet.now) c.args.i.now _ (c.role_number.ensures ∙ table-number c.requires.table _ (omega (arith, c.type_inv.i 0))) (c.if-role_number-number.false ∙ c.number.ensures)
