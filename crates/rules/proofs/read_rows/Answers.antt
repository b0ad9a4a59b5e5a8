use Rattle.std.proofs.Common.{◌≡◌, ◌+◌, ◌-◌, ◌*◌, ℕ, List, ◌++◌, take, length, length-take, length-drop, ap, ◌∙◌, rules, arith}
use Rattle.std.proofs.lemmas.Slice.{take-put_mid}
use borrow.Rule.Slice.PartMut.{same_len_mid}
use Rattle.rules.proofs.File.{file-starts, file-full, file-bad, file-next, file-less, file-done, read-fit, read-unfit}
use Rattle.rules.proofs.read_rows.Goals as goal

pub returns-then-table-lt-TABLE_SIZE : goal.returns-then-table-lt-TABLE_SIZE
returns-then-table-lt-TABLE_SIZE c = read-unfit c.args.text.now c.if-table-lt-TABLE_SIZE.true

pub loop-at-init : goal.loop-at-init
loop-at-init c = file-starts _ _ c.if-table-lt-TABLE_SIZE.false

pub returns-then-count-eq-MAX_RULES : goal.returns-then-count-eq-MAX_RULES
returns-then-count-eq-MAX_RULES c = read-fit c.args.text.now c.if-table-lt-TABLE_SIZE.false ∙ file-full c.loop-at.invariant c.loop-at-test.true (omega arith)

pub returns-in_default : goal.returns-in_default
returns-in_default c = read-fit c.args.text.now c.if-table-lt-TABLE_SIZE.false ∙ file-bad c.loop-at.invariant c.loop-at-test.true (omega arith) c.in_default.ensures

pub loop-at-smaller : goal.loop-at-smaller
loop-at-smaller c = file-less c.loop-at.invariant c.in-Some.ensures c.loop-at-test.true

pub loop-at-preserved : goal.loop-at-preserved
loop-at-preserved c =
    let long : length c.copy_from_slice.new.self ≡ 9 = omega (arith, c.copy_from_slice.ensures.len, length-take {A = ℕ}, length-drop {A = ℕ}, c.loop-at.invariant.few, c.loop-at.invariant.long) in
    let front = take-put_mid (c.loop-at.count * 9) (c.loop-at.count * 9 + 9 - c.loop-at.count * 9) c.loop-at.table c.copy_from_slice.new.self ((c.loop-at.count + 1) * 9) (omega arith) (omega (arith, c.loop-at.invariant.few, c.loop-at.invariant.long)) in
    file-next c.loop-at.invariant c.in-Some.ensures (omega arith) (front ∙ ap (λ (l : List ℕ). take (c.loop-at.count * 9) c.loop-at.table ++ l) c.copy_from_slice.ensures.after) (same_len_mid _ _ c.loop-at.table _ c.copy_from_slice.ensures.len)

pub returns : goal.returns
returns c = file-done c.loop-at.invariant c.args.table.now c.loop-at.auto.table (search rules)
