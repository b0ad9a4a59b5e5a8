use native.Mathlib.Omega.{arith}
use Rattle.definition.specs.Rules.{role_numbered}
use Rattle.opcode.specs.Table.{sheet_in}
use Rattle.rewrite.proofs.Decoding.{size-small}
use Rattle.rewrite.proofs.Sizes.{role-there, part-past, part-unlisted, part-got}
use Rattle.rewrite.proofs.decode.Goals as goal

pub returns-in_err-get-clause-is : goal.returns-in_err-get-clause-is
returns-in_err-get-clause-is c = rw c.from_residual.ensures (part-past (sheet_in c.args.sheet.now) c.args.code.now c.args.at c.in_err-get.ensures.lookup.3)

pub returns-then-role-clause-is : goal.returns-then-role-clause-is
returns-then-role-clause-is c = part-unlisted (sheet_in c.args.sheet.now) c.args.code.now c.args.at _ (role-there c.args.code.now c.args.at c.requires c.role_number-role.ensures (c.in_ok-get.ensures.lookup.4 (omega arith) 0) (omega (arith, c.type_inv.code c.args.at, c.in_ok-get.ensures.lookup.4 (omega arith) 0))) c.in_ok-get.ensures.lookup.3.0 c.if-role.true

pub overflow_add-at : goal.overflow_add-at
overflow_add-at c = omega (arith, c.in_ok-get.ensures.lookup.3.0, size-small (role_numbered c.role_number-role.result), c.well_formed)

pub returns : goal.returns
returns c =
    let p = part-got (sheet_in c.args.sheet.now) c.args.code.now c.args.at _ (role-there c.args.code.now c.args.at c.requires c.role_number-role.ensures (c.in_ok-get.ensures.lookup.4 (omega arith) 0) (omega (arith, c.type_inv.code c.args.at, c.in_ok-get.ensures.lookup.4 (omega arith) 0))) c.in_ok-get.ensures.lookup.3.0 c.if-role.false c.size_numbered.ensures c.get-2.result c.get-2.ensures.lookup in
    record { is = p.0; full = p.1 }
