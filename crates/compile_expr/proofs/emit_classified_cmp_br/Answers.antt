use Rattle.program_shape.specs.Shape.{cmp_view}
use Rattle.compile_expr.proofs.Laws.{fuses}
use Rattle.compile_expr.proofs.emit_classified_cmp_br.Goals as goal

pub returns : goal.returns
returns c = fuses _ (cmp_view c.args.classified) _ _ c.branching_on-op.ensures c.emit_cmp_br.ensures
