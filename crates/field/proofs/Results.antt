-- What an answer that is no refusal says, and what cannot be.
use Prim.Native.Nat.{ℕ}
use mathlib.Core.Path.{◌≡◌, refl, sym, ap}
use mathlib.Core.Bool.{Bool, true, false}
use mathlib.Core.Option.{Option, some, none}
use native.Mathlib.Omega.{arith}
use Rattle.definition.specs.Res.{Res, ok, refuse, ◌>>=◌, ◌>>◌, demand, given}

-- `absurd (cc)`: two constructors are said to be equal
pub never : {A : Type 0} → ◌≡◌ {A = ℕ} 0 1 → A
never e = absurd (omega arith)

pub ok-is : {A : Type 0} {a b : A} → ok a ≡ ok b → b ≡ a
ok-is e = cc

pub some_is : {A : Type 0} {a b : A} → some a ≡ some b → a ≡ b
some_is e = cc

pub ok-demand : {A : Type 0} (b : Bool) (n p : ℕ) (m : Res A) (x : A) → (demand b n p >> m) ≡ ok x → (b ≡ true) × (m ≡ ok x)
unfolding demand ◌>>◌
ok-demand true n p m x e = (refl, e)
ok-demand false n p m x e = absurd (cc)

pub ok-bind : {A B : Type 0} (m : Res A) (f : A → Res B) (y : B) → (m >>= f) ≡ ok y → (x : A) × (m ≡ ok x) × (f x ≡ ok y)
unfolding ◌>>=◌
ok-bind (ok a) f y e = (a, refl, e)
ok-bind (refuse n p) f y e = absurd (cc)

pub ok-given : {A : Type 0} (x : Option A) (n p : ℕ) (y : A) → given x n p ≡ ok y → x ≡ some y
unfolding given
ok-given (some a) n p y e = ap (λ z. some z) (sym (ok-is e))
ok-given none n p y e = absurd (cc)
