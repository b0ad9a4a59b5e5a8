use mathlib.Core.Path.{refl}
use Rattle.program_line.proofs.Laws.{opened, letterless, fetched-none, fetched-by}
use Rattle.program_line.proofs.next_by.Goals as goal

pub returns-then-first-at : goal.returns-then-first-at
returns-then-first-at g c = fetched-none c.if-at-text.false c.if-left-eq0.false (letterless c.next_end-first.ensures c.if-first-at.true)

pub returns : goal.returns
returns g c = fetched-by c.if-at-text.false c.if-left-eq0.false _ _ (rw c.behind-place.ensures (opened c.next_end-first.ensures c.if-first-at.false c.args.text refl)) c.by.ensures
