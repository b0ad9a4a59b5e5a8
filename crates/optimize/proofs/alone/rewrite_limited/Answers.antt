use mathlib.Core.Path.{◌≡◌}
use native.Mathlib.Omega.{arith}
use borrow.Author.Rules.{rules}
use Rattle.std.specs.Prelude.{Err}
use Rattle.opcode.specs.Table.{sheet_in}
use Rattle.rules.specs.View.{rules_in}
use Rattle.optimize.specs.View.{given, room}
use Rattle.optimize.proofs.Whole.{over-limits, within-limits, holds, given-as}
use Rattle.optimize.proofs.alone.rewrite_limited.Goals as goal

pub returns-in_err-check_limits : goal.returns-in_err-check_limits
returns-in_err-check_limits c =
    let e : c.from_residual.result ≡ Err c.in_err-check_limits.field-0.0 = search rules in
    rw e (over-limits (sheet_in c.args.sheet.now) (rules_in c.args.rules.table.now c.args.rules.count) (given c.args.code.now c.args.protected.now c.args.lines.now) c.in_err-check_limits.field-0.0 c.in_err-check_limits.ensures)

pub rewrite_over-requires-clause-within : goal.rewrite_over-requires-clause-within
rewrite_over-requires-clause-within c = holds c.in_ok-check_limits.ensures c.requires.roomy

pub rewrite_over-requires-then-code-le-MIDDLE_CODE-clause-within : goal.rewrite_over-requires-then-code-le-MIDDLE_CODE-clause-within
rewrite_over-requires-then-code-le-MIDDLE_CODE-clause-within c = holds c.in_ok-check_limits.ensures c.requires.roomy

pub rewrite_over-requires-else-code-le-MIDDLE_CODE-clause-within : goal.rewrite_over-requires-else-code-le-MIDDLE_CODE-clause-within
rewrite_over-requires-else-code-le-MIDDLE_CODE-clause-within c = holds c.in_ok-check_limits.ensures c.requires.roomy

pub rewrite_over-requires-else-code-le-MIDDLE_CODE-clause-slots : goal.rewrite_over-requires-else-code-le-MIDDLE_CODE-clause-slots
rewrite_over-requires-else-code-le-MIDDLE_CODE-clause-slots c = omega (arith, (holds c.in_ok-check_limits.ensures c.requires.roomy).few)

pub returns-then-code-le-SMALL_CODE : goal.returns-then-code-le-SMALL_CODE
returns-then-code-le-SMALL_CODE c = given-as (room c.args.bytes.now c.args.offsets.now c.args.entries.now) c.rewrite_over.result _ _ _ (within-limits (sheet_in c.args.sheet.now) (rules_in c.args.rules.table.now c.args.rules.count) (given c.args.code.now c.args.protected.now c.args.lines.now) c.in_ok-check_limits.ensures) c.rewrite_over.ensures

pub returns-then-code-le-MIDDLE_CODE : goal.returns-then-code-le-MIDDLE_CODE
returns-then-code-le-MIDDLE_CODE c = given-as (room c.args.bytes.now c.args.offsets.now c.args.entries.now) c.rewrite_over-then-code-le-MIDDLE_CODE.result _ _ _ (within-limits (sheet_in c.args.sheet.now) (rules_in c.args.rules.table.now c.args.rules.count) (given c.args.code.now c.args.protected.now c.args.lines.now) c.in_ok-check_limits.ensures) c.rewrite_over-then-code-le-MIDDLE_CODE.ensures

pub returns-else-code-le-MIDDLE_CODE : goal.returns-else-code-le-MIDDLE_CODE
returns-else-code-le-MIDDLE_CODE c = given-as (room c.args.bytes.now c.args.offsets.now c.args.entries.now) c.rewrite_over-else-code-le-MIDDLE_CODE.result _ _ _ (within-limits (sheet_in c.args.sheet.now) (rules_in c.args.rules.table.now c.args.rules.count) (given c.args.code.now c.args.protected.now c.args.lines.now) c.in_ok-check_limits.ensures) c.rewrite_over-else-code-le-MIDDLE_CODE.ensures
