use Rattle.std.proofs.Common.{◌≡◌, ℕ, Bool}
use Rattle.field.specs.View.{Finding}
use Rattle.field.proofs.end_where.Given as goal

abbrev pub invariant-loop-i : goal.invariant-loop-i
invariant-loop-i g l = (test : ℕ → Bool) → ((b : ℕ) (r : Bool) → goal.F-post g l.stops b r → r ≡ test b) → Finding test l.bytes l.at l.i
