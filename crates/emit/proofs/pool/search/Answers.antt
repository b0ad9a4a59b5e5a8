use mathlib.Core.Path.{refl}
use native.Mathlib.Omega.{arith}
use Rattle.emit.proofs.Chains.{search-begins, search-less, search-hit, search-miss, search-ends}
use Rattle.emit.proofs.pool.search.Goals as goal
use Rattle.emit.proofs.pool.search.Goals.{then-pool-i, else-pool-i}

pub loop-left-init : goal.loop-left-init
loop-left-init c = search-begins _ _ _ c.requires.chained c.bucket.ensures.value refl

pub loop-left-smaller : goal.loop-left-smaller
loop-left-smaller c = search-less _ _ _ c.requires.chained c.loop-left.invariant c.loop-left-test.true refl

pub loop-left-preserved : goal.loop-left-preserved
loop-left-preserved c =
    elim c.if-pool-i.branch [
      | then-pool-i w ↦ rw w.found-is (search-hit _ _ _ c.requires.chained c.loop-left.invariant c.loop-left-test.true w.if-pool-i.true refl)
      | else-pool-i w ↦ rw w.found-is (search-miss _ _ _ c.requires.chained c.loop-left.invariant c.loop-left-test.true w.if-pool-i.false refl)
    ]

pub returns : goal.returns
returns c = record { value = (search-ends _ _ _ c.requires.chained c.loop-left.invariant c.loop-left-test.false (omega (arith, c.told-pool, c.requires.chained.most))).0; upper_bound = (search-ends _ _ _ c.requires.chained c.loop-left.invariant c.loop-left-test.false (omega (arith, c.told-pool, c.requires.chained.most))).1 }
