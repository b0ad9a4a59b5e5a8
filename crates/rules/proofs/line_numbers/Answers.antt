use Rattle.std.proofs.Common.{◌≡◌, sym, ◌∙◌, rules, arith}
use Rattle.std.proofs.lemmas.Grind.{common_steps}
use Rattle.definition.specs.Field.{is}
use Rattle.field.specs.View.{read_of}
use Rattle.field.proofs.Fields.{walked-starts, walked_next, walked-off, walked-inside, walk_inside, walk_here}
use Rattle.rules.proofs.Lines.{bad-read, number_fits, reading-starts, reading-next, reading-bad, reading-done, fields-bad, not-whole, good-numbered}
use Rattle.rules.proofs.line_numbers.Goals as goal

pub loop-k-init : goal.loop-k-init
loop-k-init c = (walked-starts _ _ _, reading-starts _ _ (search rules))

pub returns-then-next-separator : goal.returns-then-next-separator
returns-then-next-separator c = not-whole _ _ (walked-off c.loop-k.invariant.0 (search rules) c.next_up_to-next.ensures (λ e. c.if-next-separator.true (e ∙ sym c.separator.ensures)))

pub returns-in_err-numbers : goal.returns-in_err-numbers
returns-in_err-numbers c =
    let bad = bad-read _ (sym c.ok.ensures.value ∙ c.in_err-numbers.was) in
    rw c.from_residual.ensures (fields-bad _ _ (reading-bad c.loop-k.invariant.1 (search rules) (walk_inside (c.loop-k.invariant.0.going (search rules))) (walk_here (c.loop-k.invariant.0.going (search rules)) c.next_up_to-next.ensures) bad))

pub overflow_cast-numbers : goal.overflow_cast-numbers
overflow_cast-numbers c =
    let here : read_of c.next_up_to-next.result.read ≡ is c.in_ok-numbers.field-0 = grind (arith, common_steps) in
    record { fits = number_fits _ c.loop-k.k c.next_up_to-next.ensures.holds here }

pub overflow_add-place : goal.overflow_add-place
overflow_add-place c = omega (arith, walked-inside c.loop-k.invariant.0 (search rules) c.next_up_to-next.ensures (c.if-next-separator.false ∙ c.separator.ensures), c.well_formed.0)

pub loop-k-preserved : goal.loop-k-preserved
loop-k-preserved c =
    let here : read_of c.next_up_to-next.result.read ≡ is c.in_ok-numbers.field-0 = grind (arith, common_steps) in (
      walked_next c.loop-k.invariant.0 (search rules) c.next_up_to-next.ensures (c.if-next-separator.false ∙ c.separator.ensures),
      reading-next c.loop-k.invariant.1 (search rules) (walk_inside (c.loop-k.invariant.0.going (search rules))) (walk_here (c.loop-k.invariant.0.going (search rules)) c.next_up_to-next.ensures) here,
    )

pub returns : goal.returns
returns c = let d = c.loop-k.invariant.0.done (search rules) in good-numbered _ _ d.0 (reading-done c.loop-k.invariant.1 (omega (arith, c.loop-k.invariant.0.low, c.loop-k-test.false)) d.0.many) d.1
