use mathlib.Core.Path.{sym, ◌∙◌}
use Rattle.emit.proofs.Labels.{label-stores}
use Rattle.emit.proofs.Tables.{two-stores}
use Rattle.emit.proofs.book.put_bound.Goals as goal

pub returns : goal.returns
returns c =
    c.put_label.ensures
    ∙ sym (two-stores c.args.book.now _ _ _)
    ∙ label-stores c.args.book.now _ c.args.place c.is_some.ensures c.from.ensures c.unwrap_or.ensures
