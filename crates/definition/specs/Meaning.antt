-- What expressions and statements mean on values (IEC 61131-3; document 02, L13), without labels or places. Values have w bits; the operators are Iec's.
-- It is executable: fuel is spent where a loop goes back, and nowhere else. A leaf `bad` stops, as a zero divisor does; no accepted program has one.
use Rattle.std.specs.Prelude.{ℕ, suc, zero, List, [], ◌∷◌, Bool, true, false, not, ◌&&◌, eqb, ◌+ℤ◌}
use Rattle.std.proofs.Math.Option.{Option, some, none}
use Rattle.definition.specs.Opcode.{BinaryOp, Arithmetic, Logic, UnaryOp, Neg, BoolNot, CompareOp, Eq, Le, Ge, ShortCircuitOp, AndThen, OrElse}
use Rattle.definition.specs.Iec.{Values, stored, compared, on_numbers, calculate, negated, truth, bit, decide}
use Rattle.definition.specs.Tree.{Constant, Expr, const, bool, read, binary, unary, compare, short_circuit, bad, CaseLabel, value, range, bad_label, Stmt, assign, if, case, for, loop, exit, continue, return, bad_stmt, Block, done, ◌then◌, Arms, no_arms, arm, bad_arm, Shape, while, repeat, plain, shape, counts_down, bound}

-- ---- expressions: a value, or none where a divisor is zero

unfoldable pub with_value : Option ℕ → (ℕ → Option ℕ) → Option ℕ
with_value none k = none
with_value (some x) k = k x

unfoldable pub operate : ℕ → BinaryOp → ℕ → ℕ → Option ℕ
operate w (Arithmetic o) a b = calculate w o a b
operate w (Logic o) a b = some (bit (decide o (truth a) (truth b)))

unfoldable pub operate_one : ℕ → UnaryOp → ℕ → ℕ
operate_one w Neg a = negated w a
operate_one w BoolNot a = bit (not (truth a))

-- of a left side that counts as said, and a right side: the left side decides, or the right side's value is taken as it is
unfoldable pub short_cut : ShortCircuitOp → Bool → Option ℕ → Option ℕ
short_cut AndThen true y = y
short_cut AndThen false y = some (bit false)
short_cut OrElse true y = some (bit true)
short_cut OrElse false y = y

-- left side first
unfoldable pub value_of : ℕ → Values → Expr → Option ℕ
value_of w σ (const k) = some k
value_of w σ (bool b) = some (bit b)
value_of w σ (read v) = some (σ v)
value_of w σ (binary o a b) = with_value (value_of w σ a) λ x. with_value (value_of w σ b) λ y. operate w o x y
value_of w σ (unary o a) = with_value (value_of w σ a) λ x. some (operate_one w o x)
value_of w σ (compare c a b) = with_value (value_of w σ a) λ x. with_value (value_of w σ b) λ y. some (bit (compared w c x y))
value_of w σ (short_circuit o a b) = with_value (value_of w σ a) λ x. short_cut o (truth x) (value_of w σ b)
value_of w σ (bad f) = none

-- ---- what running a statement comes to

pub data Answer : Type 0 where
  ends : Values → Answer
  -- an EXIT and a CONTINUE of a loop of this number, which is around the statement
  exits : ℕ → Values → Answer
  continues : ℕ → Values → Answer
  returns : Values → Answer
  -- a zero divisor
  stops : Values → Answer
  -- out of fuel
  spent : Answer

unfoldable pub and_then : Answer → (Values → Answer) → Answer
and_then (ends σ) k = k σ
and_then (exits i σ) k = exits i σ
and_then (continues i σ) k = continues i σ
and_then (returns σ) k = returns σ
and_then (stops σ) k = stops σ
and_then spent k = spent

unfoldable pub on_value : Option ℕ → Values → (ℕ → Answer) → Answer
on_value none σ k = stops σ
on_value (some x) σ k = k x

-- ---- CASE: does a label fit the selector x, and does one of some? None where the first that could is `bad`

unfoldable pub fits : ℕ → ℕ → CaseLabel → Option Bool
fits w x (value k) = some (compared w Eq x k)
fits w x (range low high) = some (compared w Ge x low && compared w Le x high)
fits w x (bad_label f) = none

unfoldable pub or_later : Option Bool → Option Bool → Option Bool
or_later none y = none
or_later (some true) y = some true
or_later (some false) y = y

unfoldable pub fits_one : ℕ → ℕ → List CaseLabel → Option Bool
fits_one w x [] = some false
fits_one w x (l ∷ ls) = or_later (fits w x l) (fits_one w x ls)

-- ---- loops: what a turn comes to

pub data Turn : Type 0 where
  again : Values → Turn
  leaves : Answer → Turn

unfoldable pub on_turn : Turn → (Values → Answer) → Answer
on_turn (again σ) k = k σ
on_turn (leaves a) k = a

unfoldable pub then_turn : Turn → (Values → Turn) → Turn
then_turn (again σ) k = k σ
then_turn (leaves a) k = leaves a

-- turn by turn; going back takes one of the fuel
unfoldable pub turns : (ℕ → Values → Turn) → ℕ → Values → Answer
turns t zero σ = on_turn (t zero σ) λ τ. spent
turns t (suc f) σ = on_turn (t (suc f) σ) λ τ. turns t f τ

-- what loop i makes of its body's answer: its EXIT leaves it, its CONTINUE ends the body
unfoldable pub caught : ℕ → Answer → Turn
caught i (ends σ) = again σ
caught i (exits j σ) = elim (eqb i j) [ true ↦ leaves (ends σ) | false ↦ leaves (exits j σ) ]
caught i (continues j σ) = elim (eqb i j) [ true ↦ again σ | false ↦ leaves (continues j σ) ]
caught i (returns σ) = leaves (returns σ)
caught i (stops σ) = leaves (stops σ)
caught i spent = leaves spent

-- an answer from outside the loop, `continuing`
unfoldable pub turn_of : Answer → Turn
turn_of (ends σ) = again σ
turn_of (exits i σ) = leaves (exits i σ)
turn_of (continues i σ) = leaves (continues i σ)
turn_of (returns σ) = leaves (returns σ)
turn_of (stops σ) = leaves (stops σ)
turn_of spent = leaves spent

-- REPEAT's test: leaves on true
unfoldable pub until : Option ℕ → Values → Turn
until none σ = leaves (stops σ)
until (some x) σ = elim (truth x) [ true ↦ leaves (ends σ) | false ↦ again σ ]

-- a FOR's test: leaves where the control is not within the end, which is worked out afresh
unfoldable pub within : ℕ → CompareOp → ℕ → Option ℕ → Values → Turn
within w c x none σ = leaves (stops σ)
within w c x (some y) σ = elim (compared w c x y) [ true ↦ again σ | false ↦ leaves (ends σ) ]

-- a turn of loop i, by its shape. A WHILE needs no rule of its own: its body begins with its test. A REPEAT's EXIT stands in `continuing`, outside the loop, and leaves it all
-- the same; any other EXIT there is of a loop around.
unfoldable pub loop_turn : ℕ → Shape → ℕ → (ℕ → Values → Answer) → (ℕ → Values → Answer) → ℕ → Values → Turn
loop_turn w (while c) i body continuing f σ = then_turn (caught i (body f σ)) λ τ. turn_of (continuing f τ)
loop_turn w (repeat c) i body continuing f σ = then_turn (caught i (body f σ)) λ τ. until (value_of w τ c) τ
loop_turn w plain i body continuing f σ = then_turn (caught i (body f σ)) λ τ. turn_of (continuing f τ)

unfoldable pub counted : ℕ → ℕ → Constant → Values → Values
counted w v step σ = stored σ v (on_numbers w ◌+ℤ◌ (σ v) step)

unfoldable pub for_turn : ℕ → ℕ → ℕ → Constant → Expr → (ℕ → Values → Answer) → ℕ → Values → Turn
for_turn w i v step to body f σ = then_turn (within w (bound (counts_down w step)) (σ v) (value_of w σ to) σ) λ τ. then_turn (caught i (body f τ)) λ υ. again (counted w v step υ)

-- ---- statements and blocks

unfoldable mutual
  pub run_stmt : ℕ → Stmt → ℕ → Values → Answer
  run_stmt w (assign s v e) f σ = on_value (value_of w σ e) σ λ x. ends (stored σ v x)
  run_stmt w (if s c t e) f σ = on_value (value_of w σ c) σ λ x. elim (truth x) [ true ↦ run_block w t f σ | false ↦ run_block w e f σ ]
  run_stmt w (case s e xs b) f σ = on_value (value_of w σ e) σ λ x. elim (run_arms w xs x f σ) [ some a ↦ a | none ↦ run_block w b f σ ]
  run_stmt w (for s i v step from to b) f σ = on_value (value_of w σ from) σ λ x. turns (for_turn w i v step to (λ g τ. run_block w b g τ)) f (stored σ v x)
  run_stmt w (loop s i b c) f σ = turns (loop_turn w (shape i b c) i (λ g τ. run_block w b g τ) (λ g τ. run_block w c g τ)) f σ
  run_stmt w (exit s i) f σ = exits i σ
  run_stmt w (continue s i) f σ = continues i σ
  run_stmt w (return s) f σ = returns σ
  run_stmt w (bad_stmt x) f σ = stops σ

  pub run_block : ℕ → Block → ℕ → Values → Answer
  run_block w done f σ = ends σ
  run_block w (s then b) f σ = and_then (run_stmt w s f σ) λ τ. run_block w b f τ

  -- the first arm with a label that fits the selector x, if there is one
  pub run_arms : ℕ → Arms → ℕ → ℕ → Values → Option Answer
  run_arms w no_arms x f σ = none
  run_arms w (arm ls b xs) x f σ = elim (fits_one w x ls) [
    | none ↦ some (stops σ)
    | some t ↦ elim t [ true ↦ some (run_block w b f σ) | false ↦ run_arms w xs x f σ ]
  ]
  run_arms w (bad_arm y) x f σ = some (stops σ)

-- `unfolding open-Meaning` names all of this module's definitions at once
unfoldable pub open-Meaning : Unit {0}
unfolding with_value operate operate_one short_cut value_of and_then on_value fits or_later fits_one on_turn then_turn turns caught turn_of until within loop_turn counted for_turn run_stmt
open-Meaning = tt
