use Rattle.emit.proofs.Chains.{covered}
use Rattle.emit.proofs.pool.index_of.Goals as goal

pub search-requires : goal.search-requires
search-requires c = record { chained = covered c.requires.held c.covers.ensures c.if-covers.true }
