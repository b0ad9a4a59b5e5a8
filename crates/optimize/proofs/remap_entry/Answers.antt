use Rattle.optimize.proofs.Lines.{entry-gone, entry_moved, gone-past, gone-same, stays}
use Rattle.optimize.proofs.remap_entry.Goals as goal
use Rattle.optimize.proofs.remap_entry.Goals.{then-end-from-via-then-end-from, then-end-from-via-else-end-from+then-eq}

pub returns-then-end-from : goal.returns-then-end-from
returns-then-end-from c = entry-gone _ _ c.args.entry c.args.last (elim c.then-end-from.branch [
  | then-end-from-via-then-end-from w ↦ gone-past _ _ _ c.args.last c.moved_to-offset.ensures c.from.ensures w.if-end-from.true
  | then-end-from-via-else-end-from+then-eq w ↦ gone-same _ _ _ c.args.last c.moved_to-offset.ensures c.from.ensures w.if-end-from.false w.eq.ensures w.if-eq.true
])

pub returns : goal.returns
returns c = rw c.moved_to-offset.ensures (entry_moved _ _ c.args.entry c.args.last (stays _ _ _ c.args.last c.moved_to-offset.ensures c.from.ensures c.if-end-from.false c.eq.ensures c.if-eq.false))
