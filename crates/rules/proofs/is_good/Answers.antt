use Rattle.std.proofs.Common.{◌≡◌, ◌&&◌, get_or, arith}
use Rattle.std.proofs.lemmas.Bool.Decides.{nat_tests}
use Rattle.rules.proofs.Good.{Test, One, Two, good-heights, good-not}
use Rattle.rules.proofs.is_good.Goals as goal

pub returns-then-is_allowed-2 : goal.returns-then-is_allowed-2
returns-then-is_allowed-2 c =
    let v : c.if-ns-ge1.value ≡ Test c.args.ns c.numbered-first.ensures c.numbered-second.ensures = grind (arith, nat_tests) in
    let w : c.if-is_testable.value ≡ (c.if-ns-ge1.value && One c.args.ns c.numbered-first.ensures c.numbered-second.ensures) = grind (arith, nat_tests) in
    let x : c.if-is_allowed.value ≡ (c.if-is_testable.value && Two c.args.ns c.numbered-first.ensures c.numbered-second.ensures) = grind (arith, nat_tests) in
    good-heights c.args.ns c.numbered-first.ensures c.numbered-second.ensures v w x c.if-is_allowed-2.true (rw (c.removed.ensures (get_or c.args.ns 6 0), c.removed-then-is_allowed-2.ensures (get_or c.args.ns 8 0)) at c.cancel.ensures)

pub returns-else-is_allowed-2 : goal.returns-else-is_allowed-2
returns-else-is_allowed-2 c =
    let v : c.if-ns-ge1.value ≡ Test c.args.ns c.numbered-first.ensures c.numbered-second.ensures = grind (arith, nat_tests) in
    let w : c.if-is_testable.value ≡ (c.if-ns-ge1.value && One c.args.ns c.numbered-first.ensures c.numbered-second.ensures) = grind (arith, nat_tests) in
    let x : c.if-is_allowed.value ≡ (c.if-is_testable.value && Two c.args.ns c.numbered-first.ensures c.numbered-second.ensures) = grind (arith, nat_tests) in
    good-not c.args.ns c.numbered-first.ensures c.numbered-second.ensures v w x c.if-is_allowed-2.false
