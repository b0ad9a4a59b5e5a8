use mathlib.Core.Path.{sym, ap, ◌∙◌}
use Rattle.std.proofs.Common.{Some}
use Rattle.emit.specs.Load.{load_by}
use Rattle.emit.proofs.Loads.{load-answers, written-coded, folds-three}
use Rattle.emit.proofs.Emitter.load_variable.Goals as goal
use Rattle.emit.proofs.Emitter.load_variable.Goals.{in-Load, in-Dup, in-Fold}

pub fold_store-e-requires-clause-le_size : goal.fold_store-e-requires-clause-le_size
fold_store-e-requires-clause-le_size c = folds-three _ c.requires.fine (sym c.in-Fold.is ∙ c.form-form.ensures)

pub read_by-requires : goal.read_by-requires
read_by-requires c = λ z. folds-three _ c.requires.fine (sym z ∙ c.form-form.ensures)

pub returns : goal.returns
unfolding load_by
returns c =
    load-answers _ _ c.form-form.result c.requires.fine c.requires.code_len c.form-form.ensures c.done.ensures.emitter_value (λ z. c.done.ensures.going z ∙ ap Some c.read_by.ensures) c.done.ensures.refused
    (elim c.match-form.branch [
      | in-Load w ↦ rw (w.in-Load.is, w.e-is, w.code-is, w.book-is) w.add_u16-e.ensures.coded
      | in-Dup w ↦ rw (w.in-Dup.is, w.e-is, w.code-is, w.book-is) w.add_plain-e.ensures.coded
      | in-Fold w ↦ rw (w.in-Fold.is, w.e-is, w.code-is, w.book-is) (written-coded c.told-book w.fold_store-e.ensures)
    ])
