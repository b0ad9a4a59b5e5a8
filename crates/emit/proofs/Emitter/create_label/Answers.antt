use Rattle.emit.proofs.Steps.{none-is, some-is}
use mathlib.Core.Path.{refl}
use Rattle.std.proofs.Common.{None}
use Rattle.emit.specs.Book.{label_numbers}
use Rattle.emit.proofs.Labels.{create-stays, create-full, create-goes, label-long, free-label}
use borrow.Author.Rules.{rules}
use Rattle.emit.proofs.Emitter.create_label.Goals as goal

pub returns-then-is_some : goal.returns-then-is_some
returns-then-is_some c = create-stays (search rules) (search rules) refl (some-is _ c.is_some.ensures c.if-is_some.true)

pub returns-then-n-ge-MAX_LABELS : goal.returns-then-n-ge-MAX_LABELS
returns-then-n-ge-MAX_LABELS c = create-full c.requires.fine c.told-book refl c.if-n-ge-MAX_LABELS.true c.fail.ensures

pub returns : goal.returns
returns c = create-goes c.requires.fine c.told-book (label_numbers None) (label-long None) free-label refl (none-is _ c.is_some.ensures c.if-is_some.false) c.if-n-ge-MAX_LABELS.false c.put_bound.ensures
