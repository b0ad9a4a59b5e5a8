use Rattle.std.proofs.Common.{◌≡◌, ◌+◌, ◌-◌, ◌*◌, sym, ◌∙◌, rules, arith}
use Rattle.rules.proofs.Table.{rules-long}
use Rattle.rules.proofs.Chain.{seeks-start, seeks-next, seeks-on, seeks-here, seeks-end}
use Rattle.rules.proofs.Matcher.find.Goals as goal

pub loop-i-init : goal.loop-i-init
loop-i-init c = seeks-start c.args.self.now.rules.read c.args.self.now.indexed _ _ (c.from-i.ensures ∙ c.head.ensures)

pub slice_bounds-fits-end : goal.slice_bounds-fits-end
slice_bounds-fits-end c = omega (arith, c.loop-i-test.true, c.args.self.now.rules.read.few, rules-long c.args.self.now.rules.read)

pub returns-then-fits : goal.returns-then-fits
returns-then-fits c =
    let long : c.loop-i.i * 9 + 9 - c.loop-i.i * 9 ≡ 9 = omega arith in
    seeks-here c.args.self.now.rules.read c.args.self.now.indexed _ _ c.loop-i.invariant (search rules) (sym c.if-fits.true ∙ rw long at c.fits.ensures)

pub loop-i-smaller : goal.loop-i-smaller
loop-i-smaller c = omega (arith, c.loop-i-test.true, c.from-i-in-loop-i.ensures, seeks-on c.args.self.now.rules.read c.args.self.now.indexed _ _ c.loop-i.invariant (search rules))

pub loop-i-preserved : goal.loop-i-preserved
loop-i-preserved c =
    let long : c.loop-i.i * 9 + 9 - c.loop-i.i * 9 ≡ 9 = omega arith in
    rw c.from-i-in-loop-i.ensures (seeks-next c.args.self.now.rules.read c.args.self.now.indexed _ _ c.loop-i.invariant (search rules) (sym c.if-fits.false ∙ rw long at c.fits.ensures))

pub returns : goal.returns
returns c = seeks-end c.args.self.now.rules.read c.args.self.now.indexed _ _ c.loop-i.invariant (search rules)
