use Rattle.program.proofs.Laws.{skipped-block, walked-from}
use Rattle.program_shape.proofs.Laws.{block-is-ok}
use Rattle.program_shape.proofs.skip_block.Goals as goal

pub unwrap-requires : goal.unwrap-requires
unwrap-requires c = block-is-ok _ _ _ _ _ (walked-from _ c.walk_stmts.ensures.walked)

pub returns-clause-skipped : goal.returns-clause-skipped
returns-clause-skipped c = skipped-block _ _ _ _ (walked-from _ (rw c.unwrap.ensures at c.walk_stmts.ensures.walked))
