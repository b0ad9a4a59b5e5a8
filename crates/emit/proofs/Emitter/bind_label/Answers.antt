use Rattle.emit.proofs.Steps.{none-is, some-is}
use mathlib.Core.Path.{refl}
use Rattle.std.proofs.Common.{Some}
use Rattle.emit.specs.Book.{label_numbers}
use Rattle.emit.proofs.Labels.{bind-stays, bind-nowhere, bind_goes, bound-label, label-long}
use borrow.Author.Rules.{rules}
use Rattle.emit.proofs.Emitter.bind_label.Goals as goal
use Rattle.emit.proofs.Emitter.bind_label.Goals.{then-n-self, else-n-self}

pub returns-then-is_some : goal.returns-then-is_some
returns-then-is_some c = bind-stays (search rules) (search rules) (some-is _ c.is_some.ensures c.if-is_some.true)

pub returns : goal.returns
returns c =
    let on = none-is _ c.is_some.ensures c.if-is_some.false in
    elim c.if-n-self.branch [
      | then-n-self w ↦ rw w.book-is (bind_goes c.requires.fine c.told-book (label_numbers (Some c.args.self.size)) (label-long (Some c.args.self.size)) (bound-label _) refl on c.from-n.ensures w.if-n-self.true w.put_bound.ensures)
      | else-n-self w ↦ rw w.book-is (bind-nowhere c.requires.fine c.told-book c.from-n.ensures refl on w.if-n-self.false)
    ]
