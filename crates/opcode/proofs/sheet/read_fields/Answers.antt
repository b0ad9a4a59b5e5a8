use Rattle.std.proofs.Common.{refl, sym, ◌∙◌, rules, arith}
use Rattle.field.proofs.Fields.{walked-starts, walked_next, walked-off, walked-inside, walk_inside, walk_here}
use Rattle.opcode.proofs.Readings.{taking-starts, taking-next, taking-kept, taking-ends, all-well, no_line}
use Rattle.opcode.proofs.sheet.read_fields.Goals as goal
use Rattle.opcode.proofs.sheet.read_fields.Goals.{then-is_ok, else-is_ok}

pub loop-i-init : goal.loop-i-init
loop-i-init c = (walked-starts _ _ _, taking-starts _ _ c.told-sheet)

pub returns-then-next-separator : goal.returns-then-next-separator
returns-then-next-separator c = rw (c.bad_sheet.ensures.0, c.bad_sheet.ensures.1) (refl, no_line _ (λ whole only. walked-off c.loop-i.invariant.0 (search rules) c.next_up_to-next.ensures (λ e. c.if-next-separator.true (e ∙ sym c.separator.ensures)) whole))

pub overflow_add-at : goal.overflow_add-at
overflow_add-at c = omega (arith, walked-inside c.loop-i.invariant.0 (search rules) c.next_up_to-next.ensures (c.if-next-separator.false ∙ c.separator.ensures), c.well_formed.0.1)

pub loop-i-preserved : goal.loop-i-preserved
loop-i-preserved c = (
  walked_next c.loop-i.invariant.0 (search rules) c.next_up_to-next.ensures (c.if-next-separator.false ∙ c.separator.ensures),
  elim c.if-is_ok.branch [
    | then-is_ok w ↦ rw (w.sheet-is, w.taken-is) (taking-next (rw (all-well _ (sym c.is_ok.ensures.value ∙ w.if-is_ok.true)) at c.loop-i.invariant.1) (search rules) (walk_inside (c.loop-i.invariant.0.going (search rules))) (walk_here (c.loop-i.invariant.0.going (search rules)) c.next_up_to-next.ensures) w.take_field-taken.ensures)
    | else-is_ok w ↦ rw (w.sheet-is, w.taken-is) (taking-kept _ (sym c.is_ok.ensures.value ∙ w.if-is_ok.false) c.loop-i.invariant.1)
  ],
)

pub returns-then-at-text : goal.returns-then-at-text
returns-then-at-text c = let d = c.loop-i.invariant.0.done (search rules) in taking-ends _ c.loop-i.invariant.1 (omega (arith, c.loop-i.invariant.0.low, c.loop-i-test.false)) d.0 (sym c.if-at-text.true ∙ d.1)

pub returns-else-at-text : goal.returns-else-at-text
returns-else-at-text c = rw (c.bad_sheet-else-at-text.ensures.0, c.bad_sheet-else-at-text.ensures.1) (refl, no_line _ (λ whole only. c.if-at-text.false ((c.loop-i.invariant.0.done (search rules)).1 ∙ sym only)))
