use mathlib.Core.Path.{◌∙◌}
use Rattle.emit.proofs.Tables.{label-none, label-some}
use Rattle.emit.proofs.book.label_place.Goals as goal

pub returns-then-book-at-eq0 : goal.returns-then-book-at-eq0
returns-then-book-at-eq0 c = label-none c.args.book.now c.args.n c.if-book-at-eq0.true

pub returns : goal.returns
returns c = c.from.ensures ∙ label-some c.args.book.now c.args.n c.if-book-at-eq0.false
