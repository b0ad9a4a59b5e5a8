-- A run with values (Machine) is a run over outcomes (Runs): those that the values decide.
use Prim.Native.Nat.{ℕ, ◌+◌, suc, zero, ◌≤◌}
use mathlib.Core.Path.{◌≡◌, refl, sym, ◌∙◌, ap}
use mathlib.Core.List.{List, [], ◌∷◌, ◌++◌, append_assoc}
use mathlib.Core.Bool.{Bool, true, false, not}
use mathlib.Core.Option.{Option, some, none}
use native.Mathlib.Omega.{arith}
use lib.Dec.{eqb, ltb}
use lib.ListN.{length}
use borrow.Author.Tests.{le-ltb}
use Rattle.definition.specs.Opcode.{Role, dup, pop, load_var, store_var, load_const, load_true, load_false, arithmetic, logic, neg, bool_not, compare, jmp, jmp_if_not, cmp_br, ret, Div, size, needs, effect, shift, flow, open-Opcode}
use Rattle.definition.specs.Rules.{has_role}
use Rattle.definition.specs.Runs.{target, off_code, open-Runs}
use Rattle.definition.specs.Runs as runs
use Rattle.definition.specs.Iec.{calculate, truth}
use Rattle.definition.specs.Machine.{Image, State, Step, goes, finishes, stops, breaks, calculated, leads_to, branch_if, compares, execute, execute_if, is_start, role_at, step, and_then, after_steps, in_runs, outcome_of, decided, decided_in, step_in_runs, open-Machine}

-- a run that has what its role needs, and the outcome of a branch, goes on behind the instruction or where it leads
enough : (r : Role) (code : List ℕ) (p h : ℕ) (os : List Bool) → needs r ≤ h → runs.out_of_outcomes (flow r) os ≡ false
    → runs.execute r code (record { place = p; height = h; outcomes = os }) ≡ runs.follow (flow r) code (p + size r) (shift (effect r) h) os
unfolding runs.execute
enough r code p h os n o =
    let next = runs.follow (flow r) code (p + size r) (shift (effect r) h) os in
    ap (λ b. elim b [ true ↦ runs.waits | false ↦ elim (ltb h (needs r)) [ true ↦ runs.breaks runs.empty_stack | false ↦ next ] ]) o
    ∙ ap (λ b. elim b [ true ↦ runs.breaks runs.empty_stack | false ↦ next ]) (le-ltb h (needs r) n)

leads : (t : Option ℕ) (x : State) (st : List ℕ) (os : List Bool) → runs.jump (length st) os t ≡ step_in_runs x os (leads_to t st x.variables)
unfolding open-Runs open-Machine
leads none x st os = refl
leads (some p) x st os = refl

branches : (b : Bool) (code : List ℕ) (next : ℕ) (x : State) (st : List ℕ) (os : List Bool)
    → runs.branch code next (length st) (b ∷ os) ≡ step_in_runs x os (branch_if b code next st x.variables)
unfolding open-Runs open-Machine
branches true code next x st os = leads (target code next) x st os
branches false code next x st os = refl

calculates : (o : Option ℕ) (x : State) (a b : ℕ) (st : List ℕ) (os : List Bool) → x.stack ≡ b ∷ a ∷ st
    → runs.goes (record { place = x.place + 1; height = suc (length st); outcomes = os }) ≡ step_in_runs x os (calculated o (x.place + 1) st x.variables)
unfolding open-Machine open-Opcode
calculates none x a b st os e = ap (λ (s : List ℕ). runs.goes (record { place = x.place + 1; height = shift (effect (arithmetic Div)) (length s); outcomes = os })) (sym e)
calculates (some c) x a b st os e = refl

-- an instruction
executes : (r : Role) (m : Image) (p : ℕ) (st : List ℕ) (vs : ℕ → ℕ) (os : List Bool)
    → let x : State = record { place = p; stack = st; variables = vs } in
    runs.execute r m.bytecode (in_runs x (outcome_of (some r) m x ++ os)) ≡ step_in_runs x os (execute r m p st vs)
unfolding open-Opcode open-Runs open-Machine has_role
executes dup m p [] vs os = refl
executes dup m p (a ∷ st) vs os = enough dup m.bytecode p (suc (length st)) os (omega arith) refl
executes pop m p [] vs os = refl
executes pop m p (a ∷ st) vs os = enough pop m.bytecode p (suc (length st)) os (omega arith) refl
executes load_var m p st vs os = enough load_var m.bytecode p (length st) os (omega arith) refl
executes store_var m p [] vs os = refl
executes store_var m p (a ∷ st) vs os = enough store_var m.bytecode p (suc (length st)) os (omega arith) refl
executes load_const m p st vs os = enough load_const m.bytecode p (length st) os (omega arith) refl
executes load_true m p st vs os = enough load_true m.bytecode p (length st) os (omega arith) refl
executes load_false m p st vs os = enough load_false m.bytecode p (length st) os (omega arith) refl
executes (arithmetic o) m p [] vs os = refl
executes (arithmetic o) m p (b ∷ []) vs os = refl
executes (arithmetic o) m p (b ∷ a ∷ st) vs os = enough (arithmetic o) m.bytecode p (suc (suc (length st))) os (omega arith) refl ∙ calculates (calculate m.width o a b) _ a b st os refl
executes (logic o) m p [] vs os = refl
executes (logic o) m p (b ∷ []) vs os = refl
executes (logic o) m p (b ∷ a ∷ st) vs os = enough (logic o) m.bytecode p (suc (suc (length st))) os (omega arith) refl
executes neg m p [] vs os = refl
executes neg m p (a ∷ st) vs os = enough neg m.bytecode p (suc (length st)) os (omega arith) refl
executes bool_not m p [] vs os = refl
executes bool_not m p (a ∷ st) vs os = enough bool_not m.bytecode p (suc (length st)) os (omega arith) refl
executes (compare c) m p [] vs os = refl
executes (compare c) m p (b ∷ []) vs os = refl
executes (compare c) m p (b ∷ a ∷ st) vs os = enough (compare c) m.bytecode p (suc (suc (length st))) os (omega arith) refl
executes jmp m p st vs os = enough jmp m.bytecode p (length st) os (omega arith) refl ∙ leads (target m.bytecode (p + 3)) _ st os
executes jmp_if_not m p [] vs os = refl
executes jmp_if_not m p (a ∷ st) vs os = enough jmp_if_not m.bytecode p (suc (length st)) (not (truth a) ∷ os) (omega arith) refl ∙ branches (not (truth a)) m.bytecode (p + 3) (record { place = p; stack = a ∷ st; variables = vs }) st os
executes cmp_br m p st vs os = enough cmp_br m.bytecode p (length st) (compares m p vs ∷ os) (omega arith) refl ∙ branches (compares m p vs) m.bytecode (p + 8) _ st os
executes ret m p st vs os = enough ret m.bytecode p (length st) os (omega arith) refl

-- A step with values is a step over the outcome that they decide, if it is at a conditional branch, with the other outcomes left; it finishes or
-- breaks off where the other does. At a zero divisor the machine stops and Runs goes on.
pub same_step : (m : Image) (x : State) (os : List Bool) → runs.step m.sheet m.bytecode (in_runs x (decided m x ++ os)) ≡ step_in_runs x os (step m x)
unfolding runs.step runs.step_over runs.execute_if step execute_if decided in_runs step_in_runs is_start role_at
same_step m x os = go (eqb x.place (length m.bytecode)) (is_start m x.place) (role_at m x.place)
  where
    go : (b c : Bool) (r : Option Role) → let y = in_runs x (outcome_of r m x ++ os) in
        elim b [ true ↦ runs.finishes | false ↦ elim c [ true ↦ runs.execute_if r m.bytecode y | false ↦ runs.breaks off_code ] ]
        ≡ step_in_runs x os (elim b [ true ↦ finishes | false ↦ elim c [ true ↦ execute_if r m x | false ↦ breaks off_code ] ])
    go true c r = refl
    go false false r = refl
    go false true none = refl
    go false true (some r) = executes r m x.place x.stack x.variables os

-- ---- runs

-- A run with values that goes on for n steps stands, at the same place and height, where the run over their outcomes does.
pub same-run : (m : Image) (n : ℕ) (x y : State) → after_steps m n x ≡ some y → (os : List Bool)
    → runs.run m.sheet m.bytecode n (in_runs x (decided_in m n x ++ os)) ≡ record { state = in_runs y os; how = runs.goes (in_runs y os) }
unfolding after_steps decided_in and_then step_in_runs runs.run runs.run_over runs.step runs.stand
same-run m zero x y e os = let q : x ≡ y = cc in ap (λ (z : State). record { state = in_runs z os; how = runs.goes (in_runs z os) }) q
same-run m (suc n) x y e os =
    ap (λ ds. runs.run m.sheet m.bytecode (suc n) (in_runs x ds)) (append_assoc (decided m x) (and_then (step m x) [] (λ z. decided_in m n z)) os)
    ∙ go (step m x) (same_step m x (and_then (step m x) [] (λ z. decided_in m n z) ++ os)) e (λ z r. same-run m n z y r os)
  where
    go : (s : Step) → let left = and_then s [] (λ z. decided_in m n z) ++ os in
        runs.step m.sheet m.bytecode (in_runs x (decided m x ++ left)) ≡ step_in_runs x left s
        → and_then s none (λ z. after_steps m n z) ≡ some y
        → ((z : State) → after_steps m n z ≡ some y → runs.run m.sheet m.bytecode n (in_runs z (decided_in m n z ++ os)) ≡ record { state = in_runs y os; how = runs.goes (in_runs y os) })
        → runs.run m.sheet m.bytecode (suc n) (in_runs x (decided m x ++ left)) ≡ record { state = in_runs y os; how = runs.goes (in_runs y os) }
    go (goes z) q r more = ap (λ t. runs.stand (in_runs x (decided m x ++ (decided_in m n z ++ os))) t (λ u. runs.run m.sheet m.bytecode n u)) q ∙ more z r
    go finishes q r more = absurd (let k : ◌≡◌ {A = ℕ} 0 1 = cc in omega arith)
    go stops q r more = absurd (let k : ◌≡◌ {A = ℕ} 0 1 = cc in omega arith)
    go (breaks b) q r more = absurd (let k : ◌≡◌ {A = ℕ} 0 1 = cc in omega arith)
