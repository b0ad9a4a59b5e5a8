use Rattle.std.proofs.Common.{rules}
use Rattle.std.proofs.lemmas.Result.{err_from_is_err_and}
use Rattle.program.proofs.Laws.{stays-refused, walks-on}
use Rattle.program.proofs.walk_stmts.Goals as goal

pub returns-in_err-first-clause-walked : goal.returns-in_err-first-clause-walked
returns-in_err-first-clause-walked c = let p = err_from_is_err_and c.from_residual.result c.from_residual.ensures.1 in rw (p.1, p.2) (stays-refused _ _ (search rules) c.requires.near)

pub returns-clause-walked : goal.returns-clause-walked
returns-clause-walked c = walks-on _ _ (search rules) c.stmts.ensures.walked
