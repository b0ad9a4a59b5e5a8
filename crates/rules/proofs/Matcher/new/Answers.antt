use Rattle.std.proofs.Common.{◌-◌, sym, ◌∙◌, rules, arith}
use Rattle.rules.proofs.Table.{rules-long}
use Rattle.rules.proofs.Chain.{links-start, links_end, links-past, links-next, first_small}
use Rattle.rules.proofs.Matcher.new.Goals as goal

pub loop-i-init : goal.loop-i-init
loop-i-init c = links-start _ _ _

pub bounds-rules-start : goal.bounds-rules-start
bounds-rules-start c = omega (arith, c.loop-i.invariant.near, c.args.rules.read.few, rules-long c.args.rules.read)

pub bounds-index-role : goal.bounds-index-role
bounds-index-role c = omega (arith, c.from-role.ensures, first_small c.args.rules.read c.loop-i.invariant (c.loop-i.i - 1) (search rules))

pub bounds-rules-start-in-loop-i : goal.bounds-rules-start-in-loop-i
bounds-rules-start-in-loop-i c = omega (arith, c.loop-i.invariant.near, c.args.rules.read.few, rules-long c.args.rules.read)

pub bounds-index-role-then-rules-start : goal.bounds-index-role-then-rules-start
bounds-index-role-then-rules-start c = omega (arith, c.from-role.ensures, first_small c.args.rules.read c.loop-i.invariant (c.loop-i.i - 1) (search rules))

pub loop-i-preserved-then-rules-start : goal.loop-i-preserved-then-rules-start
loop-i-preserved-then-rules-start c = rw c.from-role.ensures (links-next c.args.rules.read c.loop-i.invariant (c.loop-i.i - 1) (search rules) (search rules))

pub loop-i-preserved : goal.loop-i-preserved
loop-i-preserved c = rw c.from-role.ensures (links-past c.args.rules.read c.loop-i.invariant (c.loop-i.i - 1) (search rules) (λ e. c.if-rules-start.false (e ∙ sym c.from.ensures)))

pub invariant_of-result : goal.invariant_of-result
invariant_of-result c = record { indexed = links_end c.loop-i.invariant (search rules) }
