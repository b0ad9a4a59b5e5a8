-- How often a FOR over constants goes through its body (document 01, part 6): what a pass is, what is asked of the body, and what follows.
use Rattle.std.specs.Prelude.{ℕ, ◌+◌, ◌-◌, ◌^◌, suc, zero, ◌≤◌, ◌<◌, ◌≡◌, [], Bool, true, false, ◌&&◌, eqb, ℤ, pos, ◌+ℤ◌, ◌-ℤ◌}
use Rattle.std.proofs.Math.Option.{some}
use Rattle.std.specs.Int.Signed.{le_z, mag, quot_z}
use Rattle.definition.specs.Opcode.{store_var}
use Rattle.definition.specs.Rules.{has_role}
use Rattle.definition.specs.Iec.{signed_of}
use Rattle.definition.specs.Machine.{Image, State, goes, operand_at, is_start, role_at, step, and_then, after_steps}
use Rattle.definition.specs.For.{Places}

-- ---- passes

unfoldable pub one_if : Bool → ℕ
one_if true = 1
one_if false = 0

-- how many of a run's first n steps lead from place p to place q
unfoldable pub crossings : Image → ℕ → ℕ → ℕ → State → ℕ
crossings m p q zero x = 0
crossings m p q (suc n) x = and_then (step m x) 0 (λ y. one_if (eqb x.place p && eqb y.place q) + crossings m p q n y)

-- a pass is made where the end test does not leave the loop: its step leads to the body
unfoldable pub passes : Image → Places → ℕ → State → ℕ
passes m f n x = crossings m f.end_test f.body n x

-- ---- what is asked

-- does the instruction at which a state stands store to variable v?
unfoldable pub stores_to : Image → ℕ → State → Bool
stores_to m v x = has_role store_var (role_at m x.place) && eqb (operand_at m.bytecode (x.place + 1)) v

-- From here the body ends, without jumping out, returning or storing to its control v: the run comes to the place after the body, an
-- instruction's start, with nothing on the stack; until then it stands in the body only, and no step of it stores to v.
pub data Ends (m : Image) (f : Places) (v : ℕ) : State → Type 0 where
  ended : {x : State} → x.place ≡ f.increment → is_start m x.place ≡ true → x.stack ≡ [] → Ends m f v x
  later : {x y : State} → f.body ≤ x.place → x.place < f.increment → stores_to m v x ≡ false → step m x ≡ goes y → Ends m f v y → Ends m f v x

-- it always does: whenever a run from x comes to the body's first place
unfoldable pub AlwaysEnds : Image → Places → ℕ → State → Type 0
AlwaysEnds m f v x = (n : ℕ) (y : State) → after_steps m n x ≡ some y → y.place ≡ f.body → y.stack ≡ [] → Ends m f v y

-- a signed number of w bits
unfoldable pub IsValue : ℕ → ℤ → Type 0
IsValue w z = mag z < 2 ^ (w - 1)

-- From, to and step (two's complement, w bits) count up by 1 or more, from ≤ to, and to plus step is still a signed number of w bits.
pub record CountsUp (w from to step : ℕ) : Type 0 where
  pub up : le_z (pos 1) (signed_of w step) ≡ true
  pub ordered : le_z (signed_of w from) (signed_of w to) ≡ true
  pub room : IsValue w (signed_of w to +ℤ signed_of w step)

-- ---- what follows

-- (to − from) ÷ step + 1; rounded down, since neither number is negative
unfoldable pub up_count : ℕ → ℕ → ℕ → ℕ → ℤ
up_count w from to step = quot_z (signed_of w to -ℤ signed_of w from) (signed_of w step) +ℤ pos 1

-- the run from x comes to the place after the FOR with nothing on the stack, having stood only in the FOR until then, and
-- having made c passes
pub record Makes (m : Image) (f : Places) (x : State) (c : ℤ) : Type 0 where
  pub steps : ℕ
  pub last : State
  pub runs : after_steps m steps x ≡ some last
  pub there : last.place ≡ f.end
  pub empty : last.stack ≡ []
  pub inside : (k : ℕ) (y : State) → k < steps → after_steps m k x ≡ some y → (f.first ≤ y.place) × (y.place < f.end)
  pub count : pos (passes m f steps x) ≡ c

-- `unfolding open-Count` names all of this module's definitions at once
unfoldable pub open-Count : Unit {0}
unfolding one_if crossings passes stores_to AlwaysEnds IsValue up_count
open-Count = tt
