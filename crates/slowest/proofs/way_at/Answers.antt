use mathlib.Core.Path.{◌∙◌}
use Rattle.opcode.specs.Table.{sheet_in}
use Rattle.image_check.proofs.Starts.{none-past}
use Rattle.slowest.proofs.Reading.{no_start, a-start, way-off, way-start, offset-bytes}
use Rattle.slowest.proofs.way_at.Goals as goal
use Rattle.slowest.proofs.way_at.Goals.{then-p-code-via-then-p-code, then-p-code-via-else-p-code+then-image-p-eq0}

pub returns-then-p-code : goal.returns-then-p-code
returns-then-p-code c =
    let off = way-off (sheet_in c.args.image.sheet.now) c.args.image.code.now c.args.counts.now c.args.p in
    elim c.then-p-code.branch [
      | then-p-code-via-then-p-code w ↦ off (none-past (sheet_in c.args.image.sheet.now) c.args.image.code.now _ w.if-p-code.true)
      | then-p-code-via-else-p-code+then-image-p-eq0 w ↦ off (no_start _ _ _ c.args.image.image _ w.if-p-code.false w.if-image-p-eq0.true)
    ]

pub way_by-requires-clause-le_next : goal.way_by-requires-clause-le_next
way_by-requires-clause-le_next c = rw c.from.ensures (offset-bytes c.args.image.sheet.now c.args.image.code.now _ c.traits_at-seen.result c.traits_at-seen.ensures)

pub returns : goal.returns
returns c = rw c.from.ensures at c.way_by.ensures ∙ way-start c.args.image.sheet.now c.args.image.code.now _ c.traits_at-seen.result c.traits_at-seen.ensures _ (a-start _ _ _ c.args.image.image _ c.if-p-code.false c.if-image-p-eq0.false)
