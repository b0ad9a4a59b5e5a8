use Rattle.std.proofs.Common.{ap, arith}
use Rattle.std.specs.Result.{is_err}
use Rattle.std.proofs.lemmas.Result.{err_from_is_err_and}
use Rattle.standard_input.proofs.Going.{some, none}
use Rattle.standard_input.proofs.read_some.Goals as goal

pub returns-in_err-n-clause-turned : goal.returns-in_err-n-clause-turned
returns-in_err-n-clause-turned g c = let p = err_from_is_err_and c.from_residual.result c.from_residual.ensures.1 in none _ (ap is_err p.1) c.in_err-n.ensures.bytes

pub returns-clause-turned : goal.returns-clause-turned
returns-clause-turned g c = some c.in_ok-n.n c.read.new.buf c.feed.ensures.fed c.in_ok-n.ensures.bound.1 c.in_ok-n.ensures.bytes.0 (λ z. c.in_ok-n.ensures.bytes.1 z (omega arith))
