-- The slowest call (document 02, L12): of code that passes (Check) and whose branches all lead forward, the greatest number of instructions on any run, and the
-- outcomes that produce it. Relations, and no way to work them out.
use Rattle.std.specs.Prelude.{ℕ, ◌+◌, suc, zero, ◌≤◌, ◌<◌, ◌≡◌, List, [], ◌∷◌, ◌++◌, Bool, true, false, ◌&&◌, eqb, leb, length, get_or}
use Rattle.std.proofs.Math.Option.{Option, some, none}
use Rattle.definition.specs.Limits.{max_outcomes, output_short}
use Rattle.definition.specs.Field.{has}
use Rattle.definition.specs.Opcode.{Role, Sheet, role_of, size, flow}
use Rattle.definition.specs.Sheet.{read_sheet}
use Rattle.definition.specs.Lent.{zeros, filled}
use Rattle.definition.specs.Runs.{State, Step, goes, finishes, waits, breaks, target, step_over, start}
use Rattle.definition.specs.Claims.{Either, branches}
use Rattle.definition.specs.Check.{starts, stands, Checks}

-- ---- "code that holds a branch to its own start or before it gets the plain answer 'loops' and no number"

-- is a target the place p or before it? none is a target below 0
unfoldable pub leads_back : ℕ → Option ℕ → Bool
leads_back p none = true
leads_back p (some q) = leb q p

unfoldable pub back_by : Option Role → List ℕ → ℕ → Bool
back_by none code p = false
back_by (some r) code p = branches (flow r) && leads_back p (target code (p + size r))

-- does such a branch stand at p?
unfoldable pub is_back : Sheet → List ℕ → ℕ → Bool
is_back s code p = back_by (role_of s (get_or code p 0)) code p

-- at one of the starts, whether a run reaches it or not
pub record Loops (s : Sheet) (code : List ℕ) : Type 0 where
  pub place : ℕ
  pub start : has (starts s code) place ≡ true
  pub back : is_back s code place ≡ true

-- ---- "the greatest number of instructions on any run, a RET counted"

-- what a step adds: an instruction; a RET too, but the end none
unfoldable pub ran : ℕ → State → Step → (State → ℕ) → ℕ
ran end x (goes y) more = suc (more y)
ran end x finishes more = elim (eqb x.place end) [ true ↦ 0 | false ↦ 1 ]
ran end x waits more = 0
ran end x (breaks b) more = 0

-- the instructions of at most n steps from a state
unfoldable pub executed : Sheet → List ℕ → ℕ → State → ℕ
executed s code zero x = 0
executed s code (suc n) x = ran (length code) x (step_over (starts s code) s code x) (λ y. executed s code n y)

-- the run over some outcomes has finished after at most n steps, with these outcomes left, and so many were its instructions
pub record Finishes (s : Sheet) (code : List ℕ) (outcomes left : List Bool) (n count : ℕ) : Type 0 where
  pub how : (stands s code outcomes n).how ≡ finishes
  pub unused : (stands s code outcomes n).state.outcomes ≡ left
  pub counted : executed s code n (start outcomes) ≡ count

-- ---- "no run of that code is longer, and following the outcomes gives that count. Of equal runs, the one that falls through at the first difference is given"

-- these outcomes fall through at the first difference from those, which jump there
pub record FallsFirst (these those : List Bool) : Type 0 where
  pub common : List Bool
  pub rest : List Bool
  pub other : List Bool
  pub falls : these ≡ common ++ (false ∷ rest)
  pub jumps : those ≡ common ++ (true ∷ other)

-- a run that waits, and one over more outcomes than it needs, are runs too
pub record Slowest (s : Sheet) (code : List ℕ) (count : ℕ) (outcomes : List Bool) : Type 0 where
  pub most : (os : List Bool) (n : ℕ) → executed s code n (start os) ≤ count
  pub steps : ℕ
  pub follows : Finishes s code outcomes [] steps count
  pub first : (os left : List Bool) (n : ℕ) → Finishes s code os left n count → Either (os ≡ outcomes ++ left) (FallsFirst outcomes os)

-- ---- the answer: "code that L11 refuses gets that refusal here, before anything else is worked out"

-- `loops` is 1 for the plain answer, else 0; `outcomes` is all that was lent for them
pub record Answer : Type 0 where
  pub number : ℕ
  pub place : ℕ
  pub loops : ℕ
  pub instruction_count : ℕ
  pub outcome_count : ℕ
  pub outcomes : List ℕ

unfoldable pub refused : ℕ → ℕ → ℕ → Answer
refused room number place = record { number = number; place = place; loops = 0; instruction_count = 0; outcome_count = 0; outcomes = zeros room }

unfoldable pub looping : ℕ → Answer
looping room = record { number = 0; place = 0; loops = 1; instruction_count = 0; outcome_count = 0; outcomes = zeros room }

-- "a byte each, 1 if taken, else 0"
unfoldable pub outcome_bytes : List Bool → List ℕ
outcome_bytes [] = []
outcome_bytes (true ∷ os) = 1 ∷ outcome_bytes os
outcome_bytes (false ∷ os) = 0 ∷ outcome_bytes os

unfoldable pub measured : ℕ → ℕ → List Bool → Answer
measured room count os = record { number = 0; place = 0; loops = 0; instruction_count = count; outcome_count = length os; outcomes = filled room (outcome_bytes os) }

-- what the call answers where `room` bytes are lent for the outcomes
pub data Measures (room : ℕ) (sheet code : List ℕ) (depth : ℕ) : Answer → Type 0 where
  refuses_room : room < max_outcomes → Measures room sheet code depth (refused room output_short 0)
  refuses : {n place : ℕ} → max_outcomes ≤ room → Checks sheet code depth n place → (n ≡ 0 → ⊥) → Measures room sheet code depth (refused room n place)
  loops : {s : Sheet} → max_outcomes ≤ room → read_sheet sheet ≡ some s → Checks sheet code depth 0 0 → Loops s code → Measures room sheet code depth (looping room)
  measures : {s : Sheet} {count : ℕ} {os : List Bool} → max_outcomes ≤ room → read_sheet sheet ≡ some s → Checks sheet code depth 0 0 → (Loops s code → ⊥)
      → Slowest s code count os → length os ≤ max_outcomes → Measures room sheet code depth (measured room count os)

-- `unfolding open-Slowest` names all of this module's definitions at once
unfoldable pub open-Slowest : Unit {0}
unfolding leads_back back_by is_back ran executed refused looping outcome_bytes measured
open-Slowest = tt
