-- More fuel changes no answer: what a program comes to is one thing, or it is out of fuel for ever.
use Prim.Native.Nat.{ℕ, ◌+◌, ◌-◌, suc, zero, ◌≤◌}
use mathlib.Core.Path.{◌≡◌, refl, sym, ◌∙◌, ap, subst}
use mathlib.Core.Bool.{Bool, true, false}
use mathlib.Core.Option.{Option, some, none}
use native.Mathlib.Omega.{arith}
use lib.Dec.{leb}
use borrow.Author.Tests.{leb-true, leb-false}
use Rattle.definition.specs.Tree.{Stmt, assign, if, case, for, loop, exit, continue, return, bad_stmt, Block, done, ◌then◌, Arms, no_arms, arm, bad_arm, Shape, while, repeat, plain, shape}
use Rattle.definition.specs.Iec.{truth, stored, Values}
use Rattle.definition.specs.Meaning.{value_of, Answer, stops, spent, and_then, on_value, fits_one, Turn, again, leaves, on_turn, then_turn, turns, caught, turn_of, loop_turn, for_turn, run_stmt, run_block, run_arms}
use Rattle.meaning.proofs.Never.{then_is}

-- b is a, unless a is `lost`: of an answer, of a turn and of what a CASE's arms come to, where fuel is out
pub data Kept {A : Type 0} (lost a b : A) : Type 0 where
  out : a ≡ lost → Kept lost a b
  same : b ≡ a → Kept lost a b

kept_then : {A : Type 0} {lost a b c : A} → Kept lost a b → Kept lost b c → Kept lost a c
kept_then (out p) q = out p
kept_then (same p) (out q) = out (sym p ∙ q)
kept_then (same p) (same q) = same (q ∙ p)

-- what is made of it is kept
kept_on : {A B : Type 0} {lost a b : A} {gone : B} (f g : A → B) → f lost ≡ gone → ((x : A) → Kept gone (f x) (g x)) → Kept lost a b → Kept gone (f a) (g b)
kept_on f g e h (out p) = out (ap f p ∙ e)
kept_on {a = a} {gone = gone} f g e h (same p) = subst (λ x. Kept gone (f a) (g x)) (sym p) (h a)

abbrev KeptAnswer : Answer → Answer → Type 0
KeptAnswer a b = Kept spent a b

abbrev KeptTurn : Turn → Turn → Type 0
KeptTurn x y = Kept (leaves spent) x y

abbrev KeptArms : Option Answer → Option Answer → Type 0
KeptArms x y = Kept (some spent) x y

-- ---- what is made of an answer

value-kept : (v : Option ℕ) (σ : Values) (k j : ℕ → Answer) → ((x : ℕ) → KeptAnswer (k x) (j x)) → KeptAnswer (on_value v σ k) (on_value v σ j)
unfolding on_value
value-kept none σ k j q = same refl
value-kept (some x) σ k j q = q x

choose-kept : (t : Bool) (a b c d : Answer) → KeptAnswer a b → KeptAnswer c d → KeptAnswer (elim t [ true ↦ a | false ↦ c ]) (elim t [ true ↦ b | false ↦ d ])
choose-kept true a b c d p q = p
choose-kept false a b c d p q = q

else-kept : {x y : Option Answer} (c d : Answer) → KeptArms x y → KeptAnswer c d → KeptAnswer (elim x [ some a ↦ a | none ↦ c ]) (elim y [ some a ↦ a | none ↦ d ])
else-kept c d p q = kept_on (λ (z : Option Answer). elim z [ some a ↦ a | none ↦ c ]) (λ (z : Option Answer). elim z [ some a ↦ a | none ↦ d ]) refl each p
  where
    each : (z : Option Answer) → KeptAnswer (elim z [ some a ↦ a | none ↦ c ]) (elim z [ some a ↦ a | none ↦ d ])
    each (some a) = same refl
    each none = q

abbrev chosen : Option Bool → Values → Answer → Option Answer → Option Answer
chosen t σ a x = elim t [ none ↦ some (stops σ) | some u ↦ elim u [ true ↦ some a | false ↦ x ] ]

arm-kept : (t : Option Bool) (σ : Values) (a b : Answer) (x y : Option Answer) → KeptAnswer a b → KeptArms x y → KeptArms (chosen t σ a x) (chosen t σ b y)
arm-kept none σ a b x y p q = same refl
arm-kept (some true) σ a b x y p q = kept_on some some refl (λ z. same refl) p
arm-kept (some false) σ a b x y p q = q

caught-kept : (i : ℕ) {a b : Answer} → KeptAnswer a b → KeptTurn (caught i a) (caught i b)
unfolding caught
caught-kept i p = kept_on (caught i) (caught i) refl (λ x. same refl) p

outside_kept : {a b : Answer} → KeptAnswer a b → KeptTurn (turn_of a) (turn_of b)
unfolding turn_of
outside_kept p = kept_on turn_of turn_of refl (λ x. same refl) p

by_turn : {B : Type 0} {gone : B} {x y : Turn} (f g : Turn → B) → f (leaves spent) ≡ gone → ((σ : Values) → Kept gone (f (again σ)) (g (again σ))) → ((a : Answer) → g (leaves a) ≡ f (leaves a)) → KeptTurn x y → Kept gone (f x) (g y)
by_turn {gone = gone} f g e q r p = kept_on f g e each p
  where
    each : (z : Turn) → Kept gone (f z) (g z)
    each (again σ) = q σ
    each (leaves a) = same (r a)

turn-then : {x y : Turn} (k j : Values → Turn) → KeptTurn x y → ((σ : Values) → KeptTurn (k σ) (j σ)) → KeptTurn (then_turn x k) (then_turn y j)
unfolding then_turn
turn-then k j p q = by_turn (λ z. then_turn z k) (λ z. then_turn z j) refl q (λ a. refl) p

on-kept : {x y : Turn} (k j : Values → Answer) → KeptTurn x y → ((σ : Values) → KeptAnswer (k σ) (j σ)) → KeptAnswer (on_turn x k) (on_turn y j)
unfolding on_turn
on-kept k j p q = by_turn (λ z. on_turn z k) (λ z. on_turn z j) refl q (λ a. refl) p

then-kept : {a b : Answer} (k j : Values → Answer) → KeptAnswer a b → ((σ : Values) → KeptAnswer (k σ) (j σ)) → KeptAnswer (and_then a k) (and_then b j)
then-kept {a} {b} k j p q = rw (then_is a k, then_is b j) (on-kept k j (outside_kept p) q)

turns-kept : (t : ℕ → Values → Turn) → ((f : ℕ) (σ : Values) → KeptTurn (t f σ) (t (suc f) σ)) → (f : ℕ) (σ : Values) → KeptAnswer (turns t f σ) (turns t (suc f) σ)
unfolding turns
turns-kept t p zero σ = on-kept _ _ (p zero σ) (λ τ. out refl)
turns-kept t p (suc f) σ = on-kept _ _ (p (suc f) σ) (λ τ. turns-kept t p f τ)

loop-kept : (w : ℕ) (x : Shape) (i : ℕ) (b c : ℕ → Values → Answer) → ((f : ℕ) (σ : Values) → KeptAnswer (b f σ) (b (suc f) σ)) → ((f : ℕ) (σ : Values) → KeptAnswer (c f σ) (c (suc f) σ)) → (f : ℕ) (σ : Values)
    → KeptTurn (loop_turn w x i b c f σ) (loop_turn w x i b c (suc f) σ)
unfolding loop_turn
loop-kept w (while e) i b c p q f σ = turn-then _ _ (caught-kept i (p f σ)) (λ τ. outside_kept (q f τ))
loop-kept w (repeat e) i b c p q f σ = turn-then _ _ (caught-kept i (p f σ)) (λ τ. same refl)
loop-kept w plain i b c p q f σ = turn-then _ _ (caught-kept i (p f σ)) (λ τ. outside_kept (q f τ))

mutual
  unfolding run_stmt for_turn

  pub stmt-kept : (w : ℕ) (s : Stmt) (f : ℕ) (σ : Values) → KeptAnswer (run_stmt w s f σ) (run_stmt w s (suc f) σ)
  stmt-kept w (assign s v e) f σ = same refl
  stmt-kept w (if s c t e) f σ = value-kept (value_of w σ c) σ _ _ (λ x. choose-kept (truth x) _ _ _ _ (block-kept w t f σ) (block-kept w e f σ))
  stmt-kept w (case s e xs b) f σ = value-kept (value_of w σ e) σ _ _ (λ x. else-kept _ _ (arms-kept w xs x f σ) (block-kept w b f σ))
  stmt-kept w (for s i v step from last b) f σ = value-kept (value_of w σ from) σ _ _ (λ x. turns-kept _ (λ g τ. turn-then _ _ (same refl) (λ υ. turn-then _ _ (caught-kept i (block-kept w b g υ)) (λ ρ. same refl))) f (stored σ v x))
  stmt-kept w (loop s i b c) f σ = turns-kept _ (loop-kept w (shape i b c) i _ _ (λ g τ. block-kept w b g τ) (λ g τ. block-kept w c g τ)) f σ
  stmt-kept w (exit s i) f σ = same refl
  stmt-kept w (continue s i) f σ = same refl
  stmt-kept w (return s) f σ = same refl
  stmt-kept w (bad_stmt x) f σ = same refl

  pub block-kept : (w : ℕ) (b : Block) (f : ℕ) (σ : Values) → KeptAnswer (run_block w b f σ) (run_block w b (suc f) σ)
  block-kept w done f σ = same refl
  block-kept w (s then b) f σ = then-kept _ _ (stmt-kept w s f σ) (λ τ. block-kept w b f τ)

  arms-kept : (w : ℕ) (xs : Arms) (x f : ℕ) (σ : Values) → KeptArms (run_arms w xs x f σ) (run_arms w xs x (suc f) σ)
  arms-kept w no_arms x f σ = same refl
  arms-kept w (arm ls b xs) x f σ = arm-kept (fits_one w x ls) σ _ _ _ _ (block-kept w b f σ) (arms-kept w xs x f σ)
  arms-kept w (bad_arm y) x f σ = same refl

-- ---- what a program comes to is one answer

unfoldable more : ℕ → ℕ → ℕ
more zero f = f
more (suc n) f = suc (more n f)

more-is : (n f : ℕ) → more n f ≡ n + f
unfolding more
more-is zero f = omega arith
more-is (suc n) f = ap suc (more-is n f) ∙ omega arith

steady : (w : ℕ) (b : Block) (n f : ℕ) (σ : Values) → KeptAnswer (run_block w b f σ) (run_block w b (more n f) σ)
unfolding more
steady w b zero f σ = same refl
steady w b (suc n) f σ = kept_then (steady w b n f σ) (block-kept w b (more n f) σ)

kept-is : {a b : Answer} → KeptAnswer a b → (a ≡ spent → ⊥) → b ≡ a
kept-is (out p) q = absurd (q p)
kept-is (same p) q = p

-- More fuel changes no answer.
pub more-fuel : (w : ℕ) (b : Block) (f g : ℕ) (σ : Values) → f ≤ g → (run_block w b f σ ≡ spent → ⊥) → run_block w b g σ ≡ run_block w b f σ
more-fuel w b f g σ le q = kept-is (subst (λ h. KeptAnswer (run_block w b f σ) (run_block w b h σ)) (more-is (g - f) f ∙ omega arith) (steady w b (g - f) f σ)) q

-- So whatever the fuel, statements that are not out of it come to one answer: their end, RETURN and a zero divisor exclude each other, and so do two
-- ends at different variables.
pub one_answer : (w : ℕ) (b : Block) (f g : ℕ) (σ : Values) → (run_block w b f σ ≡ spent → ⊥) → (run_block w b g σ ≡ spent → ⊥) → run_block w b f σ ≡ run_block w b g σ
one_answer w b f g σ p q = elim (leb f g) as (λ t. leb f g ≡ t → run_block w b f σ ≡ run_block w b g σ) [
  | true ↦ λ e. sym (more-fuel w b f g σ (leb-true f g e) p)
  | false ↦ λ e. more-fuel w b g f σ (let z = leb-false f g e in omega arith) q
] refl
