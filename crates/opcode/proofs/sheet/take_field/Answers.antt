use Rattle.std.proofs.Common.{◌≡◌, ◌≤◌, refl, arith}
use Rattle.std.proofs.lemmas.Grind.{common_steps}
use Rattle.definition.specs.Field.{is}
use Rattle.field.specs.View.{read_of}
use Rattle.opcode.specs.Reading.{repeats, put}
use Rattle.opcode.proofs.Readings.{group-before, so_far}
use Rattle.opcode.proofs.sheet.take_field.Goals as goal

pub slice_bounds-contains-count : goal.slice_bounds-contains-count
slice_bounds-contains-count c = group-before _ c.group_start.ensures

pub slice_bounds-contains-start : goal.slice_bounds-contains-start
slice_bounds-contains-start c = group-before _ c.group_start.ensures

pub returns-then-contains : goal.returns-then-contains
returns-then-contains c =
    let here : read_of c.args.read ≡ is c.in_ok-b.b = grind (arith, common_steps) in
    repeats here (so_far _ _ _ _ c.group_start.ensures c.contains.ensures.value c.if-contains.true) refl (rw (c.bad_sheet-fault.ensures.0, c.bad_sheet-fault.ensures.1))

pub returns : goal.returns
returns c =
    let here : read_of c.args.read ≡ is c.in_ok-b.b = grind (arith, common_steps) in
    let small : c.in_ok-b.b ≤ 255 = omega arith in
    put here small (so_far _ _ _ _ c.group_start.ensures c.contains.ensures.value c.if-contains.false) refl refl
