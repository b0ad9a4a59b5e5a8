use Rattle.std.proofs.Common.{◌≡◌, ◌+◌, ◌-◌, ◌*◌, arith}
use Rattle.rules.specs.View.{row_count}
use Rattle.rules.proofs.Lookup.{actions-past, pair_is}
use Rattle.rules.proofs.actions.Goals as goal

pub returns-then-at-table : goal.returns-then-at-table
unfolding row_count
returns-then-at-table c = actions-past _ _ c.if-at-table.true

pub returns : goal.returns
unfolding row_count
returns c =
    let long : c.args.at * 9 + 9 - c.args.at * 9 ≡ 9 = omega arith in
    pair_is c.args.table.now _ c.action_of-one.result c.action_of-two.result c.if-at-table.false (rw long at c.action_of-one.ensures) (rw long at c.action_of-two.ensures)
