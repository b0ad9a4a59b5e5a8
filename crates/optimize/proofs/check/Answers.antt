use mathlib.Core.Path.{◌≡◌, ◌∙◌}
use borrow.Author.Rules.{rules}
use Rattle.std.specs.Prelude.{Err}
use Rattle.optimize.proofs.Handed.{bad-end, bad-protected, checked-lines}
use Rattle.optimize.proofs.check.Goals as goal

pub returns-then-end-code : goal.returns-then-end-code
returns-then-end-code c = bad-end _ _ c.args.protected.now c.args.lines.now _ _ c.list_boundaries-end.ensures c.if-end-code.true

pub returns-in_err-check_protected : goal.returns-in_err-check_protected
returns-in_err-check_protected c =
    let e : c.from_residual.result ≡ Err c.in_err-check_protected.field-0.0 = search rules in
    rw e (bad-protected _ _ _ c.args.lines.now _ _ c.list_boundaries-end.ensures c.if-end-code.false (c.list_boundaries-end.auto.table ∙ c.requires.table_len) c.in_err-check_protected.ensures)

pub returns : goal.returns
returns c = checked-lines _ _ _ _ _ _ c.list_boundaries-end.ensures c.if-end-code.false (c.list_boundaries-end.auto.table ∙ c.requires.table_len) c.in_ok-check_protected.ensures c.check_lines.ensures
