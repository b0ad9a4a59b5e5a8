use native.Mathlib.Omega.{arith}
use Rattle.optimize.proofs.Tables.{cleared, shorter, smaller}
use Rattle.optimize.proofs.Runs.{ran}
use Rattle.optimize.proofs.run.Goals as goal

pub mark-requires : goal.mark-requires
mark-requires c = record { small = smaller c.requires.clear.slots c.requires.runnable.small; clear = shorter (omega arith) c.requires.clear }

pub apply_peephole-n-requires : goal.apply_peephole-n-requires
apply_peephole-n-requires c = record { ready = record { table = c.requires.runnable.table; slots = omega (arith, c.mark.auto.marks, c.requires.clear.slots); small = c.requires.runnable.few }; clear = c.requires.clear_2 }

pub returns : goal.returns
returns c = record { ran = ran _ _ _ _ c.args.total.now c.mark.ensures c.apply_peephole-n.ensures c.move_all.ensures c.move_all-2.ensures; clear_3 = cleared _ c.set_from.ensures (omega (arith, c.mark.auto.marks, c.requires.clear.slots)); clear_4 = cleared _ c.set_from-2.ensures (omega (arith, c.apply_peephole-n.auto.moves, c.requires.clear_2.slots)) }
