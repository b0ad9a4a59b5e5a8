use Rattle.std.proofs.Common.{◌≡◌, sym, ◌∙◌, rules, arith}
use Rattle.field.specs.View.{until, Ends}
use Rattle.field.proofs.Parts.{finds-next, finds-here, finds-end}
use Rattle.field.proofs.end_where.Goals as goal

pub returns-then-stops : goal.returns-then-stops
returns-then-stops g c test h = finds-here (c.loop-i.invariant test h) (search rules) (sym (h _ _ c.stops.ensures) ∙ c.if-stops.true)

pub loop-i-preserved : goal.loop-i-preserved
loop-i-preserved g c test h = finds-next (c.loop-i.invariant test h) (search rules) (sym (h _ _ c.stops.ensures) ∙ c.if-stops.false)

pub returns : goal.returns
returns g c test h =
    let e : Ends (until test) c.args.bytes.now c.args.at c.loop-i.i = finds-end (c.loop-i.invariant test h) (search rules) in
    let same : c.max.result ≡ c.loop-i.i = omega (arith, c.max.ensures, e.low, e.high) in
    rw same e
