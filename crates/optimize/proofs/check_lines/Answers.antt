use mathlib.Core.Path.{◌≡◌, ◌∙◌}
use native.Mathlib.Omega.{arith}
use borrow.Author.Rules.{rules}
use Rattle.std.specs.Prelude.{Err}
use Rattle.optimize.proofs.Checks.{lines-go-on, lines-bad, lines_end}
use Rattle.optimize.proofs.check_lines.Goals as goal

pub loop-numbers-preserved : goal.loop-numbers-preserved
loop-numbers-preserved c = record {
  size = c.in-Some.ensures.steps.0 ∙ c.loop-numbers.invariant.size;
  left = lines-go-on _ _ _ _ c.entry_at.result c.loop-numbers.invariant.left c.in-Some.ensures.steps.1.0 (c.in-Some.ensures.steps.1.1 ∙ c.loop-numbers.invariant.size) c.entry_at.ensures c.in_ok-check_offset.ensures;
}

pub returns-in_err-check_offset : goal.returns-in_err-check_offset
returns-in_err-check_offset c =
    let e : c.from_residual.result ≡ Err c.in_err-check_offset.field-0.0 = search rules in
    rw (e, c.in_err-check_offset.ensures.0) (lines-bad _ _ _ _ c.entry_at.result c.loop-numbers.invariant.left c.in-Some.ensures.steps.1.0 (c.in-Some.ensures.steps.1.1 ∙ c.loop-numbers.invariant.size) c.entry_at.ensures c.in_err-check_offset.ensures.1)

pub returns : goal.returns
returns c = lines_end _ _ _ c.loop-numbers.invariant.left (omega (arith, c.in-None.ensures.steps.1.0, c.loop-numbers.invariant.size))
