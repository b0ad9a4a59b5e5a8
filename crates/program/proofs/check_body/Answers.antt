use Rattle.std.proofs.lemmas.Result.{err_from_is_err_and}
use Rattle.program.proofs.Check.{check-faulty, check-left-over, check-fine}
use Rattle.program.proofs.Noted.{sound_none}
use Rattle.program.proofs.Laws.{walked-from}
use Rattle.program.proofs.check_body.Goals as goal

pub walk_stmts-requires-clause-sound : goal.walk_stmts-requires-clause-sound
walk_stmts-requires-clause-sound c = rw c.new-ends.ensures (sound_none _ _ c.requires.headed.short)

pub returns-in_err-last : goal.returns-in_err-last
returns-in_err-last c = let p = err_from_is_err_and c.from_residual.result c.from_residual.ensures.1 in rw (p.1, p.2) (check-faulty c.requires.headed c.next_line-top.ensures c.from-n.ensures (walked-from _ c.in_err-last.ensures.walked))

pub returns-then-last-text : goal.returns-then-last-text
returns-then-last-text c = check-left-over c.requires.headed c.next_line-top.ensures c.from-n.ensures (walked-from _ c.in_ok-last.ensures.walked) c.if-last-text.true

pub returns : goal.returns
returns c = check-fine c.requires.headed c.next_line-top.ensures c.from-n.ensures (walked-from _ c.in_ok-last.ensures.walked) c.if-last-text.false
