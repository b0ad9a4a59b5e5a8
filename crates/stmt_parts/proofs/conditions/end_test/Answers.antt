use mathlib.Core.Path.{sym, ◌∙◌, ap}
use Rattle.program_shape.specs.Shape.{constant_in}
use Rattle.stmt_parts.proofs.Tests.{end-fused}
use Rattle.stmt_parts.proofs.conditions.end_test.Goals as goal

pub returns-in-Constant : goal.returns-in-Constant
returns-in-Constant c = end-fused _ _ _ _ _ _ (sym (ap constant_in c.in-Constant.is) ∙ c.requires.sided.constant) c.within-op.ensures c.skip_expr-cursor.ensures c.emit_classified_cmp_br-emitter.ensures
