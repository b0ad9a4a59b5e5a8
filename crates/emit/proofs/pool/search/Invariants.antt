use Rattle.emit.proofs.Chains.{Searching}
use Rattle.emit.proofs.pool.search.Given as goal

abbrev pub invariant-loop-left : goal.invariant-loop-left
invariant-loop-left l = Searching l.pool l.n l.k l.found l.left

abbrev pub decreases-loop-left : goal.decreases-loop-left
decreases-loop-left l = l.left
