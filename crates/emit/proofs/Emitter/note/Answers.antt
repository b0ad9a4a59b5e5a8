use mathlib.Core.Path.{sym, ◌∙◌, refl}
use Rattle.emit.proofs.State.{refuses}
use Rattle.emit.proofs.Instructions.{prepare-full, prepare-here, prepare-lines, prepare-noted}
use Rattle.emit.proofs.Emitter.note.Goals as goal

pub returns-then-self-bytes-gt-MAX_CODE : goal.returns-then-self-bytes-gt-MAX_CODE
returns-then-self-bytes-gt-MAX_CODE c = prepare-full _ c.requires.fine c.told-book c.if-self-bytes-gt-MAX_CODE.true (refuses _ c.requires.fine c.requires.going)

pub returns-then-stands_here : goal.returns-then-stands_here
returns-then-stands_here c = prepare-here _ c.requires.fine c.told-book c.if-self-bytes-gt-MAX_CODE.false c.requires.going (sym c.if-stands_here.true ∙ c.stands_here.ensures)

pub returns-then-n-ge-MAX_LINES : goal.returns-then-n-ge-MAX_LINES
returns-then-n-ge-MAX_LINES c = prepare-lines _ c.requires.fine c.told-book c.if-self-bytes-gt-MAX_CODE.false (sym c.if-stands_here.false ∙ c.stands_here.ensures) c.if-n-ge-MAX_LINES.true (refuses _ c.requires.fine c.requires.going)

pub returns : goal.returns
returns c = prepare-noted _ c.requires.fine c.told-book c.if-self-bytes-gt-MAX_CODE.false (sym c.if-stands_here.false ∙ c.stands_here.ensures) refl c.requires.going c.if-n-ge-MAX_LINES.false c.put_line.ensures
