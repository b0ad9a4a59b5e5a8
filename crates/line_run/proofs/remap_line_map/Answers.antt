use native.Mathlib.Omega.{arith}
use Rattle.line_run.proofs.Going.{ends, goes-gone, goes-kept}
use Rattle.line_run.proofs.remap_line_map.Goals as goal
use Rattle.line_run.proofs.remap_line_map.Goals.{in-Some, in_default}

pub loop-i-preserved : goal.loop-i-preserved
loop-i-preserved c = elim c.match-remap_entry.branch [
  | in-Some w ↦ rw (w.entries-is, w.kept-is, w.last-is) (goes-kept _ _ _ _ c.requires c.loop-i.invariant c.loop-i-test.true w.in-Some.entry (rw w.in-Some.is at c.remap_entry.ensures))
  | in_default w ↦ rw (w.entries-is, w.kept-is, w.last-is) (goes-gone _ _ _ _ c.requires c.loop-i.invariant c.loop-i-test.true (rw w.in_default.is at c.remap_entry.ensures))
]

pub returns : goal.returns
returns c = ends _ _ _ _ c.requires c.loop-i.invariant (omega arith)
