use Rattle.std.proofs.Common.{◌≡◌, take, arith, rules}
use Rattle.std.specs.Slice.Iter.{iter_rest}
use Rattle.std.proofs.lemmas.Grind.{common_steps}
use Rattle.std.proofs.lemmas.Iterator.{YieldsList-from_slice}
use Rattle.std.proofs.lemmas.Iterator.Search.{position_from_yields_List}
use lib.Dec.{eqb}
use Rattle.emit.proofs.Constants.{scanned, index-within}
use Rattle.emit.proofs.pool.scan.Goals as goal

pub returns : goal.returns
returns c =
    let rest : iter_rest c.iter.result ≡ take c.args.n c.args.pool.now = grind (arith, common_steps) in
    let found = scanned c.args.k c.args.n c.args.pool.now (omega arith) (position_from_yields_List (λ x. eqb x c.args.k) _ _ _ c.position.ensures.ran (YieldsList-from_slice _ rest) (λ x b q h. search rules)) in
    record { value = rw c.unwrap_or.ensures found; upper_bound = rw (c.unwrap_or.ensures, found) (index-within c.args.k c.args.n c.args.pool.now (omega arith)) }
