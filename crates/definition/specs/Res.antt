-- An answer, or one refusal by number and place.
use Rattle.std.specs.Prelude.{ℕ, Bool, true, false}
use Rattle.std.proofs.Math.Option.{Option, some, none}

infixl 10 ◌>>=◌
infixl 10 ◌>>◌
pub data Res (A : Type 0) : Type 0 where
  ok : A → Res A
  refuse : ℕ → ℕ → Res A

unfoldable pub ◌>>=◌ : {A B : Type 0} → Res A → (A → Res B) → Res B
◌>>=◌ (ok a) f = f a
◌>>=◌ (refuse n p) f = refuse n p

unfoldable pub ◌>>◌ : {A B : Type 0} → Res A → Res B → Res B
◌>>◌ (ok a) m = m
◌>>◌ (refuse n p) m = refuse n p

-- refused with this number and place unless the test holds
unfoldable pub demand : Bool → ℕ → ℕ → Res (Unit {0})
demand true n p = ok tt
demand false n p = refuse n p

-- refused with this number and place where there is none
unfoldable pub given : {A : Type 0} → Option A → ℕ → ℕ → Res A
given (some a) n p = ok a
given none n p = refuse n p

-- `unfolding open-Res` names all of this module's definitions at once
unfoldable pub open-Res : Unit {0}
unfolding ◌>>=◌ ◌>>◌ demand given
open-Res = tt
