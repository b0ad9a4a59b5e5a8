use native.Mathlib.Omega.{arith}
use Rattle.optimize.proofs.Tables.{shorter}
use Rattle.optimize.proofs.Filling.{rewrote, front_long, lent}
use Rattle.optimize.proofs.rewrite_into.Goals as goal

pub slice_bounds-optimize-end-2 : goal.slice_bounds-optimize-end-2
slice_bounds-optimize-end-2 c = front_long _ _ c.requires.code_in_bounds.0 c.fill_from.ensures

pub slice_bounds-optimize-end-4 : goal.slice_bounds-optimize-end-4
slice_bounds-optimize-end-4 c = front_long _ _ c.requires.code_in_bounds.1 c.fill_from-2.ensures

pub optimize-requires : goal.optimize-requires
optimize-requires c = record { runnable = lent _ _ c.requires.runnable c.requires.code_in_bounds.0 c.requires.code_in_bounds.1 c.fill_from.ensures c.fill_from-2.ensures; clear = shorter (omega (arith, front_long _ _ c.requires.code_in_bounds.0 c.fill_from.ensures)) c.requires.clear; clear_2 = shorter (omega (arith, front_long _ _ c.requires.code_in_bounds.0 c.fill_from.ensures)) c.requires.clear_2 }

pub returns : goal.returns
returns c = rewrote _ _ c.args.code.now c.args.protected.now c.args.total.now c.args.bytes.now c.args.offsets.now c.requires.code_in_bounds.0 c.requires.code_in_bounds.1 c.fill_from.ensures c.fill_from-2.ensures c.optimize.ensures
