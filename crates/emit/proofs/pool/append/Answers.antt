use mathlib.Core.Path.{sym, ◌∙◌}
use Rattle.emit.proofs.Chains.{covered, append-known, append-stale}
use Rattle.emit.proofs.pool.append.Goals as goal

pub returns-then-known : goal.returns-then-known
returns-then-known c = rw c.bucket-head.ensures.value (append-known c.args.k c.requires.held c.requires.n_lt_max_constants (covered c.requires.held c.covers-known.ensures c.if-known.true) (sym c.covers-known.ensures ∙ c.if-known.true))

pub returns-else-known : goal.returns-else-known
returns-else-known c = append-stale c.args.k c.requires.held c.requires.n_lt_max_constants (sym c.covers-known.ensures ∙ c.if-known.false)
