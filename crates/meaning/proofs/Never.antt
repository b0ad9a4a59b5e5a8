-- A block that emits no CONTINUE of a loop outside never comes to one.
use Prim.Native.Nat.{ℕ, suc, zero}
use mathlib.Core.Path.{◌≡◌, refl, sym, ◌∙◌, ap, subst}
use mathlib.Core.List.{[], ◌∷◌}
use mathlib.Core.Bool.{Bool, true, false, not, ◌&&◌}
use mathlib.Core.Option.{Option, some, none}
use lib.Dec.{eqb}
use borrow.Author.Tests.{eqb-true}
use Rattle.definition.specs.Opcode.{CompareOp}
use Rattle.definition.specs.Tree.{Stmt, assign, if, case, for, loop, exit, continue, return, bad_stmt, Block, done, ◌then◌, Arms, no_arms, arm, bad_arm, Shape, while, repeat, plain, shape, counts_down, bound}
use Rattle.definition.specs.Stmt.{continues_stmt, continues_arms}
use Rattle.definition.specs.Stmt as emission
use Rattle.definition.specs.Iec.{truth, stored, Values, compared}
use Rattle.definition.specs.Meaning.{value_of, Answer, ends, exits, continues, returns, stops, spent, and_then, on_value, fits_one, Turn, again, leaves, on_turn, then_turn, turns, caught, turn_of, until, within, loop_turn, for_turn, run_stmt, run_block, run_arms}
use Rattle.field.proofs.Tests.{or-false}
use Rattle.meaning.proofs.Loops.{Never}

-- a CONTINUE of loop i inside loop j is not asked about where the two are one
other-false : (i j : ℕ) (b : Bool) → (not (eqb i j) && b) ≡ false → (eqb i j ≡ false → b ≡ false)
other-false i j b e n = sym (ap (λ x. not x && b) n) ∙ e

unfoldable NeverTurn : ℕ → Turn → Type 0
NeverTurn i (again σ) = Unit {0}
NeverTurn i (leaves a) = Never i a

unfoldable pub NeverMaybe : ℕ → Option Answer → Type 0
NeverMaybe i none = Unit {0}
NeverMaybe i (some a) = Never i a

-- what stands behind a statement stands behind the turn that it makes
pub then_is : (a : Answer) (k : Values → Answer) → and_then a k ≡ on_turn (turn_of a) k
unfolding and_then on_turn turn_of
then_is (ends σ) k = refl
then_is (exits i σ) k = refl
then_is (continues i σ) k = refl
then_is (returns σ) k = refl
then_is (stops σ) k = refl
then_is spent k = refl

choose : {A : Type 0} (P : A → Type 0) (b : Bool) (x y : A) → P x → P y → P (elim b [ true ↦ x | false ↦ y ])
choose P true x y p q = p
choose P false x y p q = q

module _ (i : ℕ) where
  value-never : (v : Option ℕ) (σ : Values) (k : ℕ → Answer) → ((x : ℕ) → Never i (k x)) → Never i (on_value v σ k)
  unfolding Never on_value
  value-never none σ k q = tt
  value-never (some x) σ k q = q x

  else-never : (m : Option Answer) (y : Answer) → NeverMaybe i m → Never i y → Never i (elim m [ some a ↦ a | none ↦ y ])
  unfolding NeverMaybe
  else-never (some a) y p q = p
  else-never none y p q = q

  arm-never : (t : Option Bool) (σ : Values) (x : Answer) (m : Option Answer) → Never i x → NeverMaybe i m → NeverMaybe i (elim t [ none ↦ some (stops σ) | some b ↦ elim b [ true ↦ some x | false ↦ m ] ])
  unfolding NeverMaybe Never
  arm-never none σ x m p q = tt
  arm-never (some true) σ x m p q = p
  arm-never (some false) σ x m p q = q

  -- ---- loops

  on-never : (x : Turn) (k : Values → Answer) → NeverTurn i x → ((σ : Values) → Never i (k σ)) → Never i (on_turn x k)
  unfolding NeverTurn on_turn
  on-never (again σ) k p q = q σ
  on-never (leaves a) k p q = p

  turns-never : (t : ℕ → Values → Turn) → ((f : ℕ) (σ : Values) → NeverTurn i (t f σ)) → (f : ℕ) (σ : Values) → Never i (turns t f σ)
  unfolding turns Never
  turns-never t p zero σ = on-never (t zero σ) _ (p zero σ) (λ τ. tt)
  turns-never t p (suc f) σ = on-never (t (suc f) σ) _ (p (suc f) σ) (λ τ. turns-never t p f τ)

  turn-never : (x : Turn) (k : Values → Turn) → NeverTurn i x → ((σ : Values) → NeverTurn i (k σ)) → NeverTurn i (then_turn x k)
  unfolding NeverTurn then_turn
  turn-never (again σ) k p q = q σ
  turn-never (leaves a) k p q = p

  outside-never : (a : Answer) → Never i a → NeverTurn i (turn_of a)
  unfolding NeverTurn turn_of Never
  outside-never (ends σ) p = tt
  outside-never (exits j σ) p = tt
  outside-never (continues j σ) p = p
  outside-never (returns σ) p = tt
  outside-never (stops σ) p = tt
  outside-never spent p = tt

  then_never : (a : Answer) (k : Values → Answer) → Never i a → ((σ : Values) → Never i (k σ)) → Never i (and_then a k)
  then_never a k p q = rw (then_is a k) (on-never (turn_of a) k (outside-never a p) q)

  until-never : (v : Option ℕ) (σ : Values) → NeverTurn i (until v σ)
  unfolding NeverTurn until Never
  until-never none σ = tt
  until-never (some x) σ = choose (NeverTurn i) (truth x) (leaves (ends σ)) (again σ) tt tt

  within-never : (w : ℕ) (c : CompareOp) (x : ℕ) (v : Option ℕ) (σ : Values) → NeverTurn i (within w c x v σ)
  unfolding NeverTurn within Never
  within-never w c x none σ = tt
  within-never w c x (some y) σ = choose (NeverTurn i) (compared w c x y) (again σ) (leaves (ends σ)) tt tt

  caught-never : (j : ℕ) (a : Answer) → (eqb i j ≡ false → Never i a) → NeverTurn i (caught j a)
  unfolding NeverTurn caught Never
  caught-never j (ends σ) p = tt
  caught-never j (exits k σ) p = choose (NeverTurn i) (eqb j k) (leaves (ends σ)) (leaves (exits k σ)) tt tt
  caught-never j (continues k σ) p = go (eqb i j) (eqb j k) refl refl p
    where
      go : (a b : Bool) → eqb i j ≡ a → eqb j k ≡ b → (a ≡ false → eqb i k ≡ false) → NeverTurn i (elim b [ true ↦ again σ | false ↦ leaves (continues k σ) ])
      go a true x y p = tt
      go true false x y p = subst (λ n. eqb n k ≡ false) (sym (eqb-true i j x)) y
      go false false x y p = p refl
  caught-never j (returns σ) p = tt
  caught-never j (stops σ) p = tt
  caught-never j spent p = tt

  loop-never : (w : ℕ) (s : Shape) (j : ℕ) (b c : ℕ → Values → Answer) → ((f : ℕ) (σ : Values) → eqb i j ≡ false → Never i (b f σ)) → ((f : ℕ) (σ : Values) → Never i (c f σ)) → (f : ℕ) (σ : Values) → NeverTurn i (loop_turn w s j b c f σ)
  unfolding loop_turn
  loop-never w (while e) j b c p q f σ = turn-never (caught j (b f σ)) (λ τ. turn_of (c f τ)) (caught-never j (b f σ) (p f σ)) (λ τ. outside-never (c f τ) (q f τ))
  loop-never w (repeat e) j b c p q f σ = turn-never (caught j (b f σ)) (λ τ. until (value_of w τ e) τ) (caught-never j (b f σ) (p f σ)) (λ τ. until-never (value_of w τ e) τ)
  loop-never w plain j b c p q f σ = turn-never (caught j (b f σ)) (λ τ. turn_of (c f τ)) (caught-never j (b f σ) (p f σ)) (λ τ. outside-never (c f τ) (q f τ))

mutual
  unfolding run_stmt continues_stmt Never NeverMaybe NeverTurn for_turn fits_one

  pub never-stmt : (w i : ℕ) (s : Stmt) → continues_stmt i s ≡ false → (f : ℕ) (σ : Values) → Never i (run_stmt w s f σ)
  never-stmt w i (assign s v e) n f σ = value-never i (value_of w σ e) σ _ (λ x. tt)
  never-stmt w i (if s c t e) n f σ =
      let m = or-false _ _ n in
      value-never i (value_of w σ c) σ _ (λ x. choose (Never i) (truth x) _ _ (never-block w i t m.0 f σ) (never-block w i e m.1 f σ))
  never-stmt w i (case s e xs b) n f σ =
      let m = or-false _ _ n in
      value-never i (value_of w σ e) σ _ (λ x. else-never i (run_arms w xs x f σ) _ (never-arms w i xs m.0 x f σ) (never-block w i b m.1 f σ))
  never-stmt w i (for s j v step from to b) n f σ =
      value-never i (value_of w σ from) σ _ (λ x. turns-never i _ (λ g τ. turn-never i (within w (bound (counts_down w step)) (τ v) (value_of w τ to) τ) _ (within-never i w _ _ (value_of w τ to) τ)
      (λ υ. turn-never i (caught j (run_block w b g υ)) _ (caught-never i j (run_block w b g υ) (λ d. never-block w i b (other-false i j _ n d) g υ)) (λ ρ. tt))) f (stored σ v x))
  never-stmt w i (loop s j b c) n f σ =
      let m = or-false _ _ n in
      turns-never i _ (loop-never i w (shape j b c) j _ _ (λ g τ d. never-block w i b (other-false i j _ m.0 d) g τ) (λ g τ. never-block w i c m.1 g τ)) f σ
  never-stmt w i (exit s j) n f σ = tt
  never-stmt w i (continue s j) n f σ = n
  never-stmt w i (return s) n f σ = tt
  never-stmt w i (bad_stmt x) n f σ = tt

  pub never-block : (w i : ℕ) (b : Block) → emission.continues i b ≡ false → (f : ℕ) (σ : Values) → Never i (run_block w b f σ)
  never-block w i done n f σ = tt
  never-block w i (s then b) n f σ =
      let m = or-false _ _ n in
      then_never i (run_stmt w s f σ) _ (never-stmt w i s m.0 f σ) (λ τ. never-block w i b m.1 f τ)

  pub never-arms : (w i : ℕ) (xs : Arms) → continues_arms i xs ≡ false → (x f : ℕ) (σ : Values) → NeverMaybe i (run_arms w xs x f σ)
  never-arms w i no_arms n x f σ = tt
  never-arms w i (arm [] b xs) n x f σ = never-arms w i xs n x f σ
  never-arms w i (arm (l ∷ ls) b xs) n x f σ =
      let m = or-false _ _ n in
      arm-never i (fits_one w x (l ∷ ls)) σ _ _ (never-block w i b m.0 f σ) (never-arms w i xs m.1 x f σ)
  never-arms w i (bad_arm y) n x f σ = tt
