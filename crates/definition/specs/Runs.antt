-- Runs of code over a list of branch outcomes (document 01, 'Runs').
use Rattle.std.specs.Prelude.{ℕ, ◌+◌, ◌-◌, ◌*◌, suc, zero, List, [], ◌∷◌, Bool, true, false, eqb, leb, ltb, length, get_or}
use Rattle.std.proofs.Math.Option.{Option, some, none}
use Rattle.definition.specs.Field.{has}
use Rattle.definition.specs.Opcode.{Role, Sheet, role_of, size, needs, effect, shift, Flow, onward, away, either, stop, flow}
use Rattle.definition.specs.Rewrite.{decode, starts_from}

-- a run's state; an outcome says whether the branch is taken
pub record State : Type 0 where
  pub place : ℕ
  pub height : ℕ
  pub outcomes : List Bool

-- why a run breaks off: it stands at, or leads to, a place that is neither start nor end, or it pops an empty stack
pub data Break : Type 0 where
  off_code empty_stack : Break

pub data Step : Type 0 where
  goes : State → Step
  finishes : Step
  waits : Step
  breaks : Break → Step

-- the target of a branch whose offset bytes stand before `next`: a signed number added to it, with no wrap; below 0 there is no place
unfoldable pub target : List ℕ → ℕ → Option ℕ
target code next =
    let d = get_or code (next - 2) 0 + 256 * get_or code (next - 1) 0 in
    elim (ltb d 32768) [
      | true ↦ some (next + d)
      | false ↦ elim (leb (65536 - d) next) [ true ↦ some (next + d - 65536) | false ↦ none ]
    ]

unfoldable pub jump : ℕ → List Bool → Option ℕ → Step
jump h os none = breaks off_code
jump h os (some p) = goes (record { place = p; height = h; outcomes = os })

unfoldable pub branch : List ℕ → ℕ → ℕ → List Bool → Step
branch code next h [] = waits
branch code next h (true ∷ os) = jump h os (target code next)
branch code next h (false ∷ os) = goes (record { place = next; height = h; outcomes = os })

-- behind an instruction that leaves height h
unfoldable pub follow : Flow → List ℕ → ℕ → ℕ → List Bool → Step
follow onward code next h os = goes (record { place = next; height = h; outcomes = os })
follow away code next h os = jump h os (target code next)
follow either code next h os = branch code next h os
follow stop code next h os = finishes

-- a conditional branch with no outcome left waits, whatever the height
unfoldable pub out_of_outcomes : Flow → List Bool → Bool
out_of_outcomes onward os = false
out_of_outcomes away os = false
out_of_outcomes either [] = true
out_of_outcomes either (o ∷ os) = false
out_of_outcomes stop os = false

-- an instruction of role r
unfoldable pub execute : Role → List ℕ → State → Step
execute r code x = elim (out_of_outcomes (flow r) x.outcomes) [
  | true ↦ waits
  | false ↦ elim (ltb x.height (needs r)) [
    | true ↦ breaks empty_stack
    | false ↦ follow (flow r) code (x.place + size r) (shift (effect r) x.height) x.outcomes
  ]
]

unfoldable pub execute_if : Option Role → List ℕ → State → Step
execute_if none code x = breaks off_code
execute_if (some r) code x = execute r code x

-- one step over a list of starts: the end finishes, and every other place must be one of them
unfoldable pub step_over : List ℕ → Sheet → List ℕ → State → Step
step_over starts s code x = elim (eqb x.place (length code)) [
  | true ↦ finishes
  | false ↦ elim (has starts x.place) [ true ↦ execute_if (role_of s (get_or code x.place 0)) code x | false ↦ breaks off_code ]
]

-- over the starts that decoding gives
unfoldable pub step : Sheet → List ℕ → State → Step
step s code x = step_over (starts_from 0 (decode s code)) s code x

-- where a run stands, and how
pub record Stand : Type 0 where
  pub state : State
  pub how : Step

unfoldable pub stand : State → Step → (State → Stand) → Stand
stand x (goes y) more = more y
stand x finishes more = record { state = x; how = finishes }
stand x waits more = record { state = x; how = waits }
stand x (breaks b) more = record { state = x; how = breaks b }

-- at most n steps from a state
unfoldable pub run_over : List ℕ → Sheet → List ℕ → ℕ → State → Stand
run_over starts s code zero x = record { state = x; how = goes x }
run_over starts s code (suc n) x = stand x (step_over starts s code x) (λ y. run_over starts s code n y)

unfoldable pub run : Sheet → List ℕ → ℕ → State → Stand
run s code n x = run_over (starts_from 0 (decode s code)) s code n x

-- place and height start at 0
unfoldable pub start : List Bool → State
start os = record { place = 0; height = 0; outcomes = os }

-- `unfolding open-Runs` names all of this module's definitions at once
unfoldable pub open-Runs : Unit {0}
unfolding target jump branch follow out_of_outcomes execute execute_if step_over step stand run_over run start
open-Runs = tt
