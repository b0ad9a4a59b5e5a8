use mathlib.Core.Path.{◌≡◌, refl, sym, ◌∙◌}
use mathlib.Core.Bool.{true, ◌||◌}
use Prim.Native.Nat.{◌+◌}
use lib.ListN.{length}
use Rattle.definition.specs.Field.{has}
use Rattle.rewrite.specs.View.{marked}
use Rattle.rewrite.proofs.decide.Goals.{then-is_marked-via-then-is_marked, then-is_marked-via-else-is_marked+then-is_marked-2}
use Rattle.opcode.specs.Table.{sheet_in}
use Rattle.rewrite.proofs.Looking.{looked-first, unmatched}
use Rattle.rewrite.proofs.Plans.{decided-known, decided-unstarted, either_first, either_second, neither, decided-last, decided-protected, decided-unmatched, decided-matched}
use Rattle.rewrite.proofs.decide.Goals as goal

pub returns-in-Some : goal.returns-in-Some
returns-in-Some c = decided-known _ _ _ _ _ _ _ _ _ c.in_ok-a.ensures.is c.in_ok-a.ensures.full c.in-Some.is c.requires.fitting_next

pub returns-then-head-eq-NO_RULE : goal.returns-then-head-eq-NO_RULE
returns-then-head-eq-NO_RULE c = decided-unstarted (sheet_in c.args.sheet.now) c.args.matcher.now.rules.table.now c.args.matcher.now.rules.count c.args.matcher.now.pass c.args.marks.now c.args.code.now c.args.at c.args.next _ c.in_ok-a.ensures.is c.in_ok-a.ensures.full c.in_default.is (unmatched _ _ _ c.args.matcher.now.rules.read c.args.matcher.now.indexed c.seen-first.ensures (sym c.head.ensures ∙ c.if-head-eq-NO_RULE.true)) c.keep.ensures

pub returns-in_default-decode : goal.returns-in_default-decode
returns-in_default-decode c = decided-last (sheet_in c.args.sheet.now) c.args.matcher.now.rules.table.now c.args.matcher.now.rules.count c.args.matcher.now.pass c.args.marks.now c.args.code.now c.args.at c.args.next _ c.in_ok-a.ensures.is c.in_ok-a.ensures.full _ c.in_default-decode.ensures.is c.in_default.is refl c.keep-in_default-decode.ensures

pub returns-then-is_marked : goal.returns-then-is_marked
returns-then-is_marked c =
    let protected : (has (marked c.args.marks.now) c.args.at || has (marked c.args.marks.now) (c.args.at + length c.in_ok-a.a.now)) ≡ true = elim c.then-is_marked.branch [
      | then-is_marked-via-then-is_marked w ↦ either_first _ c.is_marked.ensures w.if-is_marked.true
      | then-is_marked-via-else-is_marked+then-is_marked-2 w ↦ either_second c.is_marked.ensures w.if-is_marked.false w.is_marked-else-is_marked.ensures w.if-is_marked-2.true
    ] in
    decided-protected (sheet_in c.args.sheet.now) c.args.matcher.now.rules.table.now c.args.matcher.now.rules.count c.args.matcher.now.pass c.args.marks.now c.args.code.now c.args.at c.args.next _ c.in_ok-a.ensures.is c.in_ok-a.ensures.full _ c.in-Some-decode.ensures.is c.in_default.is c.in-Some-decode.ensures.full protected c.keep-then-is_marked.ensures

pub returns-in_default-look_up : goal.returns-in_default-look_up
returns-in_default-look_up c = decided-unmatched (sheet_in c.args.sheet.now) c.args.matcher.now.rules.table.now c.args.matcher.now.rules.count c.args.matcher.now.pass c.args.marks.now c.args.code.now c.args.at c.args.next _ c.in_ok-a.ensures.is c.in_ok-a.ensures.full _ c.in-Some-decode.ensures.is c.in_default.is c.in-Some-decode.ensures.full (neither c.is_marked.ensures c.if-is_marked.false c.is_marked-else-is_marked.ensures c.if-is_marked-2.false) (looked-first _ _ _ _ _ c.seen-first.ensures c.look_up.ensures) c.in_default-look_up.is c.keep-in_default-look_up.ensures

pub returns : goal.returns
returns c = decided-matched (sheet_in c.args.sheet.now) c.args.matcher.now.rules.table.now c.args.matcher.now.rules.count c.args.matcher.now.pass c.args.marks.now c.args.code.now c.args.at c.args.next _ c.in_ok-a.ensures.is c.in_ok-a.ensures.full _ c.in-Some-decode.ensures.is c.in_default.is c.in-Some-decode.ensures.full (neither c.is_marked.ensures c.if-is_marked.false c.is_marked-else-is_marked.ensures c.if-is_marked-2.false) (looked-first _ _ _ _ _ c.seen-first.ensures c.look_up.ensures) _ c.actions-pair.result _ c.in-Some-look_up.is c.args.matcher.now.rules.read c.actions-pair.ensures
