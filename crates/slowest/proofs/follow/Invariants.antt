use Rattle.slowest.specs.View.{Following}
use Rattle.slowest.proofs.follow.Given as goal
use Prim.Native.Nat.{◌-◌}
use lib.ListN.{length}

abbrev pub invariant-loop-q : goal.invariant-loop-q
invariant-loop-q l = Following l.image.sheet.now l.image.code.now l.outcomes l.n l.p

abbrev pub decreases-loop-q : goal.decreases-loop-q
decreases-loop-q l = length l.image.code.now - l.p
