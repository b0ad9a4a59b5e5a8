-- Runs of finished code with values: what each instruction makes of the stack and the variables (IEC 61131-3 for what an operator means).
-- Values are two's complement bits. Where Runs has a height and a list of outcomes, this has a stack and variables, and decides branches itself;
-- what a step of it is in Runs stands at the end.
use Rattle.std.specs.Prelude.{ℕ, ◌+◌, ◌*◌, suc, zero, List, [], ◌∷◌, ◌++◌, Bool, true, false, not, eqb, length, get_or}
use Rattle.std.proofs.Math.Option.{Option, some, none}
use Rattle.definition.specs.Limits.{width}
use Rattle.definition.specs.Field.{has}
use Rattle.definition.specs.Opcode.{Role, dup, pop, load_var, store_var, load_const, load_true, load_false, arithmetic, logic, neg, bool_not, compare, jmp, jmp_if_not, cmp_br, ret, Div, Sheet, role_of, size, effect, shift, Flow, onward, away, either, stop, flow}
use Rattle.definition.specs.Rules.{has_role}
use Rattle.definition.specs.Iec.{Values, stored, compared, taken, truth, bit, calculate, negated, decide}
use Rattle.definition.specs.Rewrite.{decode, starts_from}
use Rattle.definition.specs.Compile.{FinalizedFunction}
use Rattle.definition.specs.Runs.{Break, off_code, empty_stack, target}
use Rattle.definition.specs.Runs as runs

-- what a run is fed; the width is that of its values, in bits
pub record Image : Type 0 where
  pub width : ℕ
  pub sheet : Sheet
  pub bytecode : List ℕ
  pub constants : List ℕ

-- a finished function with its sheet
unfoldable pub image_of : Sheet → FinalizedFunction → Image
image_of s c = record { width = width; sheet = s; bytecode = c.bytecode; constants = c.constants }

pub record State : Type 0 where
  pub place : ℕ
  -- the top first
  pub stack : List ℕ
  pub variables : Values

pub data Step : Type 0 where
  goes : State → Step
  finishes : Step
  -- division or modulo by zero
  stops : Step
  breaks : Break → Step

-- ---- instructions

-- a 16-bit operand at a place
unfoldable pub operand_at : List ℕ → ℕ → ℕ
operand_at code p = get_or code p 0 + 256 * get_or code (p + 1) 0

-- the constant that an operand at a place names
unfoldable pub constant_at : Image → ℕ → ℕ
constant_at m p = get_or m.constants (operand_at m.bytecode p) 0

-- does a CMP_BR at place p branch? Its bytes are opcode, comparison, variable, constant index, offset
unfoldable pub compares : Image → ℕ → Values → Bool
compares m p vs = taken m.sheet m.width (get_or m.bytecode (p + 1) 0) (vs (operand_at m.bytecode (p + 2))) (constant_at m (p + 4))

unfoldable pub at : ℕ → List ℕ → Values → Step
at p stack variables = goes (record { place = p; stack = stack; variables = variables })

-- with the top value, and with the two top values, of which the right one is on top
unfoldable pub pop_one : List ℕ → (ℕ → List ℕ → Step) → Step
pop_one [] f = breaks empty_stack
pop_one (a ∷ stack) f = f a stack

unfoldable pub pop_two : List ℕ → (ℕ → ℕ → List ℕ → Step) → Step
pop_two [] f = breaks empty_stack
pop_two (b ∷ []) f = breaks empty_stack
pop_two (b ∷ a ∷ stack) f = f a b stack

unfoldable pub leads_to : Option ℕ → List ℕ → Values → Step
leads_to none stack variables = breaks off_code
leads_to (some p) stack variables = at p stack variables

unfoldable pub calculated : Option ℕ → ℕ → List ℕ → Values → Step
calculated none next stack variables = stops
calculated (some a) next stack variables = at next (a ∷ stack) variables

unfoldable pub branch_if : Bool → List ℕ → ℕ → List ℕ → Values → Step
branch_if true code next stack variables = leads_to (target code next) stack variables
branch_if false code next stack variables = at next stack variables

-- an instruction of a role, its bytes and what follows them being at hand
unfoldable pub execute : Role → Image → ℕ → List ℕ → Values → Step
execute dup m p st vs = pop_one st λ a rest. at (p + size dup) (a ∷ a ∷ rest) vs
execute pop m p st vs = pop_one st λ a rest. at (p + size pop) rest vs
execute load_var m p st vs = at (p + size load_var) (vs (operand_at m.bytecode (p + 1)) ∷ st) vs
execute store_var m p st vs = pop_one st λ a rest. at (p + size store_var) rest (stored vs (operand_at m.bytecode (p + 1)) a)
execute load_const m p st vs = at (p + size load_const) (constant_at m (p + 1) ∷ st) vs
execute load_true m p st vs = at (p + size load_true) (bit true ∷ st) vs
execute load_false m p st vs = at (p + size load_false) (bit false ∷ st) vs
execute (arithmetic o) m p st vs = pop_two st λ a b rest. calculated (calculate m.width o a b) (p + size (arithmetic o)) rest vs
execute (logic o) m p st vs = pop_two st λ a b rest. at (p + size (logic o)) (bit (decide o (truth a) (truth b)) ∷ rest) vs
execute neg m p st vs = pop_one st λ a rest. at (p + size neg) (negated m.width a ∷ rest) vs
execute bool_not m p st vs = pop_one st λ a rest. at (p + size bool_not) (bit (not (truth a)) ∷ rest) vs
execute (compare c) m p st vs = pop_two st λ a b rest. at (p + size (compare c)) (bit (compared m.width c a b) ∷ rest) vs
execute jmp m p st vs = leads_to (target m.bytecode (p + size jmp)) st vs
execute jmp_if_not m p st vs = pop_one st λ a rest. branch_if (not (truth a)) m.bytecode (p + size jmp_if_not) rest vs
execute cmp_br m p st vs = branch_if (compares m p vs) m.bytecode (p + size cmp_br) st vs
execute ret m p st vs = finishes

unfoldable pub execute_if : Option Role → Image → State → Step
execute_if none m x = breaks off_code
execute_if (some r) m x = execute r m x.place x.stack x.variables

unfoldable pub is_start : Image → ℕ → Bool
is_start m p = has (starts_from 0 (decode m.sheet m.bytecode)) p

-- the role of the instruction that starts at a place
unfoldable pub role_at : Image → ℕ → Option Role
role_at m p = role_of m.sheet (get_or m.bytecode p 0)

-- one step: the end finishes, and every other place must be a start
unfoldable pub step : Image → State → Step
step m x = elim (eqb x.place (length m.bytecode)) [
  | true ↦ finishes
  | false ↦ elim (is_start m x.place) [ true ↦ execute_if (role_at m x.place) m x | false ↦ breaks off_code ]
]

-- f of the next state, if there is one
unfoldable pub and_then : {A : Type 0} → Step → A → (State → A) → A
and_then (goes y) a f = f y
and_then finishes a f = a
and_then stops a f = a
and_then (breaks b) a f = a

-- where a run stands after n steps, if it goes so far
unfoldable pub after_steps : Image → ℕ → State → Option State
after_steps m zero x = some x
after_steps m (suc n) x = and_then (step m x) none (λ y. after_steps m n y)

-- ---- in Runs

-- a state as Runs has it: its place, its height and outcomes to come
unfoldable pub in_runs : State → List Bool → runs.State
in_runs x os = record { place = x.place; height = length x.stack; outcomes = os }

unfoldable pub outcome_if : Flow → Bool → List Bool
outcome_if onward b = []
outcome_if away b = []
outcome_if either b = b ∷ []
outcome_if stop b = []

-- the outcome that the values decide, where a conditional branch stands: a CMP_BR compares, a JMP_IF_NOT looks at the top (of no
-- account where the stack is empty)
unfoldable pub outcome_of : Option Role → Image → State → List Bool
outcome_of none m x = []
outcome_of (some r) m x = outcome_if (flow r) (elim (has_role cmp_br (some r)) [
  | true ↦ compares m x.place x.variables
  | false ↦ not (truth (get_or x.stack 0 0))
])

unfoldable pub decided : Image → State → List Bool
decided m x = outcome_of (role_at m x.place) m x

-- those of a run's first n steps
unfoldable pub decided_in : Image → ℕ → State → List Bool
decided_in m zero x = []
decided_in m (suc n) x = decided m x ++ and_then (step m x) [] (λ y. decided_in m n y)

-- a step from x as Runs has it. Where the machine stops at a zero divisor, Runs goes on as past any division
unfoldable pub step_in_runs : State → List Bool → Step → runs.Step
step_in_runs x os (goes y) = runs.goes (in_runs y os)
step_in_runs x os finishes = runs.finishes
step_in_runs x os stops = runs.goes (record { place = x.place + size (arithmetic Div); height = shift (effect (arithmetic Div)) (length x.stack); outcomes = os })
step_in_runs x os (breaks b) = runs.breaks b

-- `unfolding open-Machine` names all of this module's definitions at once
unfoldable pub open-Machine : Unit {0}
unfolding image_of operand_at constant_at compares at pop_one pop_two leads_to calculated branch_if execute execute_if is_start role_at step and_then after_steps in_runs outcome_if outcome_of decided decided_in step_in_runs
open-Machine = tt
