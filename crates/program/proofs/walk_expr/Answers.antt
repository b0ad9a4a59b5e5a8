use Rattle.std.proofs.Common.{rules}
use Rattle.std.proofs.lemmas.Result.{err_from_is_err_and}
use Rattle.program.proofs.Laws.{stays-refused, walks-on}
use Rattle.program.proofs.walk_expr.Goals as goal

pub returns-in_err-c : goal.returns-in_err-c
returns-in_err-c c = let p = err_from_is_err_and c.from_residual.result c.from_residual.ensures.1 in rw (p.1, p.2) (stays-refused _ _ (search rules) c.requires)

pub returns : goal.returns
returns c = walks-on _ _ (search rules) c.expr.ensures
