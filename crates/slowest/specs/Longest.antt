-- The longest run from each place of code, worked out: its instructions and its outcomes.
use Rattle.std.specs.Prelude.{ℕ, ◌+◌, suc, zero, List, [], ◌∷◌, Bool, true, false, eqb, leb, length, get_or}
use Rattle.std.proofs.Math.Option.{Option, some, none}
use Rattle.definition.specs.Field.{has}
use Rattle.definition.specs.Opcode.{Role, Sheet, role_of, size, Flow, onward, away, either, stop, flow}
use Rattle.definition.specs.Runs.{target}
use Rattle.definition.specs.Check.{starts}

pub record Best : Type 0 where
  pub count : ℕ
  pub outcomes : List Bool

unfoldable pub nothing : Best
nothing = record { count = 0; outcomes = [] }

-- an instruction more, with no outcome
unfoldable pub onwards : Best → Best
onwards a = record { count = suc a.count; outcomes = a.outcomes }

-- fall through to `a`, or jump to `b`
unfoldable pub choose : Bool → Best → Best → Best
choose true a b = record { count = suc a.count; outcomes = false ∷ a.outcomes }
choose false a b = record { count = suc b.count; outcomes = true ∷ b.outcomes }

unfoldable pub best_to : (ℕ → Best) → Option ℕ → Best
best_to f none = nothing
best_to f (some q) = f q

-- a jump must be longer to be taken
unfoldable pub best_flow : Flow → List ℕ → ℕ → (ℕ → Best) → Best
best_flow onward code next f = onwards (f next)
best_flow away code next f = onwards (best_to f (target code next))
best_flow either code next f = choose (leb (best_to f (target code next)).count (f next).count) (f next) (best_to f (target code next))
best_flow stop code next f = onwards nothing

unfoldable pub best_role : Option Role → List ℕ → ℕ → (ℕ → Best) → Best
best_role none code p f = nothing
best_role (some r) code p f = best_flow (flow r) code (p + size r) f

-- from a place, over at most n instructions
unfoldable pub best : Sheet → List ℕ → ℕ → ℕ → Best
best s code zero p = nothing
best s code (suc n) p = elim (eqb p (length code)) [
  | true ↦ nothing
  | false ↦ elim (has (starts s code) p) [ true ↦ best_role (role_of s (get_or code p 0)) code p (λ q. best s code n q) | false ↦ nothing ]
]

-- where no branch leads back, no run is longer than the code
unfoldable pub longest : Sheet → List ℕ → ℕ → Best
longest s code p = best s code (suc (length code)) p

-- `unfolding open-Longest` names all of this module's definitions at once
unfoldable pub open-Longest : Unit {0}
unfolding nothing onwards choose best_to best_flow best_role best longest
open-Longest = tt
