use Rattle.std.proofs.Common.{refl, ◌∙◌, ◌-◌, arith}
use Rattle.opcode.proofs.Tables.{fields-kept, listing-starts, listing-goes, listing-ends}
use Rattle.opcode.proofs.sheet.list_roles.Goals as goal

pub loop-i-init : goal.loop-i-init
loop-i-init c = listing-starts c.args.sheet.now c.told-sheet c.set_from.ensures

pub loop-i-preserved : goal.loop-i-preserved
loop-i-preserved c = listing-goes c.loop-i.invariant c.loop-i-test.true _ _ refl c.from-opcode.ensures (omega (arith, c.from-opcode.ensures, c.fits-sheet (c.loop-i.i - 1)))

pub returns : goal.returns
returns c = record { front = c.loop-i.invariant.front ∙ fields-kept c.args.sheet.now c.told-sheet c.set_from.ensures; table = listing-ends c.loop-i.invariant (omega (arith, c.loop-i-test.false)) }
