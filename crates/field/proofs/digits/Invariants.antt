use Rattle.std.proofs.Common.{ℕ, Bool}
use Rattle.field.specs.View.{Passes, Sums}
use Rattle.field.proofs.digits.Given as goal

abbrev pub invariant-loop-i : goal.invariant-loop-i
invariant-loop-i l = (stops : ℕ → Bool) → Passes stops → Sums stops l.text l.at l.n l.i
