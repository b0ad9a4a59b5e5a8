use Rattle.program.proofs.Laws.{walked-from}
use Rattle.program_shape.proofs.Laws.{expr-ok, skipped-expr}
use Rattle.program_shape.proofs.skip_expr.Goals as goal

pub unwrap-requires : goal.unwrap-requires
unwrap-requires c = expr-ok _ _ _ _ (walked-from _ c.walk_expr.ensures)

pub returns : goal.returns
returns c = skipped-expr _ _ _ _ (walked-from _ (rw c.unwrap.ensures at c.walk_expr.ensures))
