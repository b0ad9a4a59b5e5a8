use mathlib.Core.Path.{◌∙◌}
use native.Mathlib.Omega.{arith}
use Rattle.std.specs.Prelude.{Some, None}
use Rattle.optimize.proofs.Lines.{remap-begins, remap-goes-on, remap-ends, puts-gone, puts_moved}
use Rattle.optimize.proofs.remap_line_map.Goals as goal

pub loop-numbers-init : goal.loop-numbers-init
loop-numbers-init c = rw c.into_iter-numbers-iterator.ensures.into_iter_gives (record {
  size = c.chunks_exact-numbers-items.ensures.size;
  left = rw c.chunks_exact-numbers-items.ensures.rest (remap-begins _ _ _ _ c.requires);
})

pub loop-numbers-preserved-in-Some-remap_entry : goal.loop-numbers-preserved-in-Some-remap_entry
loop-numbers-preserved-in-Some-remap_entry c = record {
  size = c.in-Some.ensures.steps.0 ∙ c.loop-numbers.invariant.size;
  left = remap-goes-on _ _ _ _ _ _ (Some c.in-Some-remap_entry.e) c.entry_at-entry.result c.loop-numbers.invariant.left c.in-Some.ensures.steps.1.0 (c.in-Some.ensures.steps.1.1 ∙ c.loop-numbers.invariant.size) c.entry_at-entry.ensures c.in-Some-remap_entry.ensures (puts_moved _ _ c.put_entry-to.ensures);
}

pub loop-numbers-preserved : goal.loop-numbers-preserved
loop-numbers-preserved c = record {
  size = c.in-Some.ensures.steps.0 ∙ c.loop-numbers.invariant.size;
  left = remap-goes-on _ _ _ _ _ _ None c.entry_at-entry.result c.loop-numbers.invariant.left c.in-Some.ensures.steps.1.0 (c.in-Some.ensures.steps.1.1 ∙ c.loop-numbers.invariant.size) c.entry_at-entry.ensures c.in_default.ensures (puts-gone _);
}

pub returns : goal.returns
returns c = remap-ends _ _ _ _ c.loop-numbers.invariant.left (omega (arith, c.in-None.ensures.steps.1.0, c.loop-numbers.invariant.size)) c.set_from.ensures
