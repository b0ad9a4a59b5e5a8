-- A machine that runs emission's calls, as they are: no bytes, no places, no folding. It stands before some calls, with a stack and variables; a jump goes
-- to behind the call that binds its label.
use Prim.Native.Nat.{ℕ, suc, zero}
use mathlib.Core.Path.{◌≡◌, refl, ap}
use mathlib.Core.List.{List, [], ◌∷◌}
use mathlib.Core.Bool.{Bool, true, false, not}
use mathlib.Core.Option.{Option, some, none}
use lib.Dec.{eqb}
use borrow.Author.Tests.{eq-eqb}
use Rattle.definition.specs.Opcode.{Role, dup, pop, load_var, store_var, load_const, load_true, load_false, arithmetic, logic, neg, bool_not, compare, jmp, jmp_if_not, cmp_br, ret}
use Rattle.definition.specs.Emit.{Call, create_label, bind_label, load_variable, store_variable, load_constant, add_constant, emit_opcode, emit_jmp, emit_jmp_if_not, emit_cmp_br, reset_stack_depth, set_position, refused}
use Rattle.definition.specs.Iec.{negated, truth, bit, calculate, decide, stored, Values, compared}
use Rattle.definition.specs.Count.{one_if}
use Rattle.runs.proofs.Heights.{aim}
use Rattle.counting.proofs.Once.{is_bind}

pub record State : Type 0 where
  pub rest : List Call
  pub stack : List ℕ
  pub values : Values

pub data Step : Type 0 where
  goes : State → Step
  finishes : Step
  -- division or modulo by zero
  stops : Step
  breaks : Step

unfoldable pub here : List Call → List ℕ → Values → State
here r st σ = record { rest = r; stack = st; values = σ }

unfoldable pub at : List Call → List ℕ → Values → Step
at r st σ = goes (here r st σ)

-- what stands behind the first call that binds label l
unfoldable pub behind : ℕ → List Call → List Call
behind l [] = []
behind l (c ∷ cs) = elim (is_bind l c) [ zero ↦ behind l cs | suc n ↦ cs ]

pub behind-past : (l : ℕ) (c : Call) (cs : List Call) → is_bind l c ≡ 0 → behind l (c ∷ cs) ≡ behind l cs
unfolding behind
behind-past l c cs e = ap (λ (n : ℕ). elim n [ zero ↦ behind l cs | suc m ↦ cs ]) e

pub behind-found : (l k : ℕ) (cs : List Call) → eqb k l ≡ true → behind l (bind_label k ∷ cs) ≡ cs
unfolding behind is_bind one_if
behind-found l k cs e = ap (λ (b : Bool). elim (one_if b) [ zero ↦ behind l cs | suc m ↦ cs ]) e

pub binds-own : (l : ℕ) → is_bind l (bind_label l) ≡ 1
unfolding is_bind one_if
binds-own l = ap one_if (eq-eqb l l refl)

unfoldable pub pop_one : List ℕ → (ℕ → List ℕ → Step) → Step
pop_one [] k = breaks
pop_one (a ∷ st) k = k a st

unfoldable pub pop_two : List ℕ → (ℕ → ℕ → List ℕ → Step) → Step
pop_two [] k = breaks
pop_two (b ∷ []) k = breaks
pop_two (b ∷ a ∷ st) k = k a b st

-- what holds of a machine that breaks, and of one that goes on with the values it pops
pub on_one : (F : Step → List ℕ → Type 0) (st : List ℕ) (k : ℕ → List ℕ → Step) → ((s : List ℕ) → F breaks s) → ((a : ℕ) (r : List ℕ) → F (k a r) (a ∷ r)) → F (pop_one st k) st
unfolding pop_one
on_one F [] k e f = e []
on_one F (a ∷ r) k e f = f a r

pub on-two : (F : Step → List ℕ → Type 0) (st : List ℕ) (k : ℕ → ℕ → List ℕ → Step) → ((s : List ℕ) → F breaks s) → ((a b : ℕ) (r : List ℕ) → F (k a b r) (b ∷ a ∷ r)) → F (pop_two st k) st
unfolding pop_two
on-two F [] k e f = e []
on-two F (b ∷ []) k e f = e (b ∷ [])
on-two F (b ∷ a ∷ r) k e f = f a b r

unfoldable pub calculated : Option ℕ → List Call → List ℕ → Values → Step
calculated none r st σ = stops
calculated (some a) r st σ = at r (a ∷ st) σ

-- an instruction of one byte, in front of the calls r
unfoldable pub operated : ℕ → Role → List Call → List ℕ → Values → Step
operated w dup r st σ = pop_one st λ a rest. at r (a ∷ a ∷ rest) σ
operated w pop r st σ = pop_one st λ a rest. at r rest σ
operated w load_var r st σ = breaks
operated w store_var r st σ = breaks
operated w load_const r st σ = breaks
operated w load_true r st σ = at r (bit true ∷ st) σ
operated w load_false r st σ = at r (bit false ∷ st) σ
operated w (arithmetic o) r st σ = pop_two st λ a b rest. calculated (calculate w o a b) r rest σ
operated w (logic o) r st σ = pop_two st λ a b rest. at r (bit (decide o (truth a) (truth b)) ∷ rest) σ
operated w neg r st σ = pop_one st λ a rest. at r (negated w a ∷ rest) σ
operated w bool_not r st σ = pop_one st λ a rest. at r (bit (not (truth a)) ∷ rest) σ
operated w (compare c) r st σ = pop_two st λ a b rest. at r (bit (compared w c a b) ∷ rest) σ
operated w jmp r st σ = breaks
operated w jmp_if_not r st σ = breaks
operated w cmp_br r st σ = breaks
operated w ret r st σ = finishes

unfoldable pub chosen : Bool → List Call → List Call → List Call
chosen true a b = a
chosen false a b = b

pub chosen-not : (t : Bool) (a b : List Call) → chosen (not t) a b ≡ chosen t b a
unfolding chosen
chosen-not true a b = refl
chosen-not false a b = refl

-- one call, of a program's calls `code`; r are those behind it
unfoldable pub called : List Call → ℕ → Call → List Call → List ℕ → Values → Step
called code w (create_label h) r st σ = at r st σ
called code w (bind_label l) r st σ = at r st σ
called code w (load_variable v) r st σ = at r (σ v ∷ st) σ
called code w (store_variable v) r st σ = pop_one st λ a rest. at r rest (stored σ v a)
called code w (load_constant k) r st σ = at r (k ∷ st) σ
called code w (add_constant k) r st σ = at r st σ
called code w (emit_opcode o) r st σ = operated w o r st σ
called code w (emit_jmp l) r st σ = at (behind l code) st σ
called code w (emit_jmp_if_not l) r st σ = pop_one st λ a rest. at (chosen (truth a) r (behind l code)) rest σ
called code w (emit_cmp_br c v k l) r st σ = at (chosen (compared w c (σ v) k) (behind l code) r) st σ
called code w (reset_stack_depth h) r st σ = at r st σ
called code w (set_position p) r st σ = at r st σ
called code w (refused f) r st σ = breaks

unfoldable pub step_at : List Call → ℕ → List Call → List ℕ → Values → Step
step_at code w [] st σ = finishes
step_at code w (c ∷ r) st σ = called code w c r st σ

unfoldable pub step : List Call → ℕ → State → Step
step code w x = step_at code w x.rest x.stack x.values

-- does it stand at a branch?
unfoldable pub is_branch : Call → Bool
is_branch c = elim (aim c) [ none ↦ false | some l ↦ true ]

unfoldable pub branch_at : List Call → Bool
branch_at [] = false
branch_at (c ∷ r) = is_branch c

-- ---- runs

module _ (code : List Call) (w : ℕ) where
  pub data Reach : State → State → Type 0 where
    still : {x : State} → Reach x x
    onward : {x y z : State} → step code w x ≡ goes y → Reach y z → Reach x z

  -- a run whose last step is one of a branch
  pub record Jump (x z : State) : Type 0 where
    pub from : State
    pub there : Reach x from
    pub branch : branch_at from.rest ≡ true
    pub goes : step code w from ≡ goes z

  -- a run that ends as said, with these variables
  pub record Halt (s : Step) (x : State) (σ : Values) : Type 0 where
    pub last : State
    pub there : Reach x last
    pub values : last.values ≡ σ
    pub is : step code w last ≡ s

  -- one that finishes, with nothing on the stack
  pub record Finish (x : State) (σ : Values) : Type 0 where
    pub last : State
    pub there : Reach x last
    pub values : last.values ≡ σ
    pub empty : last.stack ≡ []
    pub is : step code w last ≡ finishes

  -- a run that comes over f branches, and more may follow
  pub data Lasts : ℕ → State → Type 0 where
    enough : {x : State} → Lasts 0 x
    along : {f : ℕ} {x y : State} → step code w x ≡ goes y → Lasts f y → Lasts f x
    over : {f : ℕ} {x y : State} → branch_at x.rest ≡ true → step code w x ≡ goes y → Lasts f y → Lasts (suc f) x

  pub reach-then : {x y z : State} → Reach x y → Reach y z → Reach x z
  reach-then still q = q
  reach-then (onward e p) q = onward e (reach-then p q)

  pub jump-reach : {x y : State} → Jump x y → Reach x y
  jump-reach j = reach-then j.there (onward j.goes still)

  pub reach-lasts : {f : ℕ} {x y : State} → Reach x y → Lasts f y → Lasts f x
  reach-lasts still q = q
  reach-lasts (onward e p) q = along e (reach-lasts p q)

  pub jump-lasts : {f : ℕ} {x y : State} → Jump x y → Lasts f y → Lasts (suc f) x
  jump-lasts j q = reach-lasts j.there (over j.branch j.goes q)
