-- A run with values ends once: that it finishes, that it stops at a zero divisor and that it goes on for ever exclude each other.
use Prim.Native.Nat.{ℕ, suc, zero}
use mathlib.Core.Path.{◌≡◌, refl, sym, ◌∙◌, ap, subst}
use mathlib.Core.Option.{some, none}
use Rattle.definition.specs.Iec.{Values}
use Rattle.definition.specs.Machine.{Image, State, Step, goes, finishes, stops, breaks, step, and_then, after_steps}
use Rattle.definition.specs.Claims.{begin, Until}
use Rattle.field.proofs.Results.{never, some_is}

-- no step is behind this one
unfoldable pub Last : Step → Type 0
Last z = (y : State) → z ≡ goes y → ⊥

pub finishes-last : Last finishes
unfolding Last
finishes-last y e = never (cc)

pub stops-last : Last stops
unfolding Last
stops-last y e = never (cc)

module _ (m : Image) where
  -- a run that is a step longer than one to x took x's step
  stepped : (n : ℕ) (x y : State) → Last (step m x) → after_steps m (suc n) x ≡ some y → ⊥
  unfolding Last after_steps and_then
  stepped n x y l e = go (step m x) l e
    where
      go : (z : Step) → Last z → and_then z none (λ u. after_steps m n u) ≡ some y → ⊥
      go (goes u) k q = k u refl
      go finishes k q = never (cc)
      go stops k q = never (cc)
      go (breaks b) k q = never (cc)

  one_end : (n k : ℕ) (x y z : State) → after_steps m n x ≡ some y → Last (step m y) → after_steps m k x ≡ some z → Last (step m z) → y ≡ z
  unfolding after_steps and_then
  one_end zero zero x y z p l q r = sym (some_is p) ∙ some_is q
  one_end zero (suc k) x y z p l q r = absurd (stepped k x z (subst (λ u. Last (step m u)) (sym (some_is p)) l) q)
  one_end (suc n) zero x y z p l q r = absurd (stepped n x y (subst (λ u. Last (step m u)) (sym (some_is q)) r) p)
  one_end (suc n) (suc k) x y z p l q r = go (step m x) p q (λ u a b. one_end n k u y z a l b r)
    where
      go : (s : Step) → and_then s none (λ u. after_steps m n u) ≡ some y → and_then s none (λ u. after_steps m k u) ≡ some z → ((u : State) → after_steps m n u ≡ some y → after_steps m k u ≡ some z → y ≡ z) → y ≡ z
      go (goes u) a b h = h u a b
      go finishes a b h = never (cc)
      go stops a b h = never (cc)
      go (breaks b') a b h = never (cc)

  no-further : (n : ℕ) (x y z : State) → after_steps m n x ≡ some y → Last (step m y) → after_steps m (suc n) x ≡ some z → ⊥
  unfolding after_steps and_then
  no-further zero x y z p l q = stepped zero x z (subst (λ u. Last (step m u)) (sym (some_is p)) l) q
  no-further (suc n) x y z p l q = go (step m x) p q (λ u a b. no-further n u y z a l b)
    where
      go : (s : Step) → and_then s none (λ u. after_steps m n u) ≡ some y → and_then s none (λ u. after_steps m (suc n) u) ≡ some z → ((u : State) → after_steps m n u ≡ some y → after_steps m (suc n) u ≡ some z → ⊥) → ⊥
      go (goes u) a b h = h u a b
      go finishes a b h = never (cc)
      go stops a b h = never (cc)
      go (breaks b') a b h = never (cc)

  -- A run from σ ends in one way, with one content of the variables.
  pub ends-once : {y z : Step} {σ τ υ : Values} → Until m y σ τ → Last y → Until m z σ υ → Last z → (y ≡ z) × (τ ≡ υ)
  ends-once {σ = σ} a l b r =
      let is = one_end a.steps b.steps (begin σ) a.last b.last a.there (subst Last (sym a.is) l) b.there (subst Last (sym b.is) r) in
      (sym a.is ∙ (ap (λ u. step m u) is ∙ b.is), sym a.values ∙ (ap (λ (u : State). u.variables) is ∙ b.values))

  -- And then it does not go on for ever.
  pub ends-so-not-on : {z : Step} {σ τ : Values} → Until m z σ τ → Last z → ((n : ℕ) → (y : State) × (after_steps m n (begin σ) ≡ some y)) → ⊥
  ends-so-not-on {σ = σ} a l on = let q = on (suc a.steps) in no-further a.steps (begin σ) a.last q.0 a.there (subst Last (sym a.is) l) q.1
