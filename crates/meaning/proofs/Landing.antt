-- Where a statement's run ends, by its meaning's answer; blocks, IF and CASE.
use Prim.Native.Nat.{ℕ}
use mathlib.Core.Path.{◌≡◌, refl, sym, subst}
use mathlib.Core.List.{List, [], ◌∷◌}
use mathlib.Core.Bool.{Bool, true, false}
use mathlib.Core.Option.{Option, some, none}
use Rattle.definition.specs.Opcode.{pop}
use Rattle.definition.specs.Tree.{Expr, CaseLabel}
use Rattle.definition.specs.Emit.{Call, bind_label, emit_opcode}
use Rattle.definition.specs.Walk.{Calls, ◌>>=◌, ◌>>◌, say, new_label}
use Rattle.definition.specs.CompileExpr.{classify}
use Rattle.definition.specs.Expr.{emit_expr}
use Rattle.definition.specs.Stmt.{Loops, labels, exit_of, next_of, branch_unless_by, branch_unless, else_part, test_label, test_labels, arm_body, emit_arm}
use Rattle.definition.specs.Iec.{truth, Values}
use Rattle.definition.specs.Meaning.{or_later, value_of, Answer, ends, exits, continues, returns, stops, spent, and_then, on_value, fits, fits_one}
use Rattle.meaning.proofs.Calls.{pop_one, operated, called}
use Rattle.meaning.proofs.Walks.{End, through, to, leads, finished, stopped, on, impossible, Away, Good, Does, From, ◌⨾◌, cut, opens, silent, from-later, from-inside, chain, says, from-here, from_last, landed}
use Rattle.meaning.proofs.Exprs.{valued, on_value_lem, expr-does, jumps, binding, resets}
use Rattle.meaning.proofs.Tests.{tested_by, tested, unless-does, labelled, listed, label-does, labels-does}

-- at a label, if there is one
unfoldable pub label_end : Option ℕ → Values → End
label_end none σ = impossible
label_end (some l) σ = to l [] σ

-- z says where a statement that ends comes to; an EXIT and a CONTINUE come to their open loop's labels
unfoldable pub landing : (Values → End) → Loops → ℕ → Answer → End
landing z loops f (ends σ) = z σ
landing z loops f (exits i σ) = label_end (exit_of (labels i loops)) σ
landing z loops f (continues i σ) = label_end (next_of (labels i loops)) σ
landing z loops f (returns σ) = finished σ
landing z loops f (stops σ) = stopped σ
landing z loops f spent = on f

-- behind it; at a label; at one of both
abbrev pub onward : Values → End
onward σ = through [] σ

abbrev pub at : ℕ → Values → End
at l σ = to l [] σ

abbrev pub near : ℕ → Values → End
near l σ = leads l [] σ

pub label-away : (l : Option ℕ) (σ : Values) → Away (label_end l σ)
unfolding label_end Away
label-away none σ = tt
label-away (some l) σ = tt

-- whatever is said of where a statement ends: an end comes from z to y, and the other answers lead away from both
pub landing-by : (loops : Loops) (f : ℕ) (F G : End → Type 0) (z y : Values → End) (a : Answer) → ((σ : Values) → F (z σ) → G (y σ)) → ((x : End) → Away x → F x → G x) → F (landing z loops f a) → G (landing y loops f a)
unfolding landing Away
landing-by loops f F G z y (ends σ) e k p = e σ p
landing-by loops f F G z y (exits i σ) e k p = k _ (label-away _ σ) p
landing-by loops f F G z y (continues i σ) e k p = k _ (label-away _ σ) p
landing-by loops f F G z y (returns σ) e k p = k _ tt p
landing-by loops f F G z y (stops σ) e k p = k _ tt p
landing-by loops f F G z y spent e k p = k _ tt p

pub landing-away : (l : ℕ) (loops : Loops) (f : ℕ) (a : Answer) → Away (landing (at l) loops f a)
unfolding Away
landing-away l loops f a = landing-by loops f (λ x. Unit {0}) Away (at l) (at l) a (λ σ p. tt) (λ x k p. k) tt

-- where an arm's run ends, x being the selector, if a label of it fits and if none does
unfoldable pub armed : ℕ → Loops → ℕ → ℕ → Values → Option Bool → Answer → End
armed end loops f x σ none a = stopped σ
armed end loops f x σ (some true) a = landing (at end) loops f a
armed end loops f x σ (some false) a = through (x ∷ []) σ

-- where the arms' run ends: an arm's answer, or none of them fits
unfoldable pub arms_end : ℕ → Loops → ℕ → ℕ → Values → Option Answer → End
arms_end end loops f x σ none = through (x ∷ []) σ
arms_end end loops f x σ (some a) = landing (at end) loops f a

-- what stands behind a statement says where its end comes to
lands-then : (loops : Loops) (f : ℕ) (z : Values → End) (a : Answer) (g : Values → Answer) → landing (λ τ. landing z loops f (g τ)) loops f a ≡ landing z loops f (and_then a g)
unfolding landing and_then
lands-then loops f z (ends τ) g = refl
lands-then loops f z (exits i τ) g = refl
lands-then loops f z (continues i τ) g = refl
lands-then loops f z (returns τ) g = refl
lands-then loops f z (stops τ) g = refl
lands-then loops f z spent g = refl

module _ {code : List Call} {w : ℕ} (good : Good code) (loops : Loops) (f : ℕ) where
  -- the part leads from where the statement ends to z
  pub followed : {m k : Calls} {σ : Values} (z : Values → End) (a : Answer) → Does code w m [] σ (landing onward loops f a) → ((τ : Values) → Does code w k [] τ (z τ)) → Does code w (m >> k) [] σ (landing z loops f a)
  followed {m} {k} {σ} z a p q = landing-by loops f (Does code w m [] σ) (Does code w (m >> k) [] σ) onward z a (λ τ r. r ⨾ q τ) (λ x g r. cut _ g r) p

  -- a statement, and one behind it
  pub then-does : {m k : Calls} {σ : Values} (z : Values → End) (a : Answer) (g : Values → Answer) → Does code w m [] σ (landing onward loops f a) → ((τ : Values) → Does code w k [] τ (landing z loops f (g τ)))
      → Does code w (m >> k) [] σ (landing z loops f (and_then a g))
  then-does {m} {k} {σ} z a g p q = subst (λ x. Does code w (m >> k) [] σ x) (lands-then loops f z a g) (followed (λ τ. landing z loops f (g τ)) a p q)

  -- from the label where a statement ends, the walk leads to z
  pub rejoined : {m : Calls} {σ : Values} (st : List ℕ) (l : ℕ) (z : Values → End) (a : Answer) → Does code w m st σ (landing (at l) loops f a) → ((τ : Values) → From code w l m [] τ (z τ)) → Does code w m st σ (landing z loops f a)
  rejoined {m} {σ} st l z a p q = landing-by loops f (Does code w m st σ) (Does code w m st σ) (at l) z a (λ τ r. chain r (q τ)) (λ x g r. r) p

  -- ---- IF

  skips : (d : Bool) (next : ℕ) (other : Calls) (σ : Values) → Does code w (else_part d next other) [] σ (through [] σ)
  unfolding else_part Away
  skips true next other σ = binding good next [] σ
  skips false next other σ = opens 0 λ end. chain (cut _ tt (jumps good end [] σ)) (from-later _ (from-later _ (from-later _ (from_last good))))

  enters : (d : Bool) (next : ℕ) (other : Calls) (σ : Values) (a : Answer) → Does code w other [] σ (landing onward loops f a) → (d ≡ true → a ≡ ends σ) → From code w next (else_part d next other) [] σ (landing onward loops f a)
  unfolding else_part landing
  enters true next other σ a p e = subst (λ b. From code w next (say (bind_label next)) [] σ (landing onward loops f b)) (sym (e refl)) (from_last good)
  enters false next other σ a p e = from-inside 0 λ end. from-later _ (from-here good (followed onward a p (λ τ. binding good end [] τ)))

  pub if-does : (c : Expr) (d : Bool) (T E : Calls) (σ : Values) (a b : Answer) → Does code w T [] σ (landing onward loops f a) → Does code w E [] σ (landing onward loops f b) → (d ≡ true → b ≡ ends σ)
      → Does code w (new_label 0 >>= λ next. branch_unless c next >> (T >> else_part d next E)) [] σ (landing onward loops f (on_value (value_of w σ c) σ λ x. elim (truth x) [ true ↦ a | false ↦ b ]))
  unfolding branch_unless on_value tested tested_by landing Away
  if-does c d T E σ a b p q e = opens 0 λ next. go next (value_of w σ c) (unless-does good (classify c) c next σ refl)
    where
      by : (next : ℕ) (t : Bool) → Does code w (branch_unless_by (classify c) c next) [] σ (tested_by next [] σ t)
          → Does code w (branch_unless_by (classify c) c next >> (T >> else_part d next E)) [] σ (landing onward loops f (elim t [ true ↦ a | false ↦ b ]))
      by next true r = r ⨾ followed onward a p (λ τ. skips d next E τ)
      by next false r = chain (cut _ tt r) (from-later _ (from-later _ (enters d next E σ b q e)))

      go : (next : ℕ) (x : Option ℕ) → Does code w (branch_unless_by (classify c) c next) [] σ (tested next σ x)
          → Does code w (branch_unless_by (classify c) c next >> (T >> else_part d next E)) [] σ (landing onward loops f (on_value x σ λ y. elim (truth y) [ true ↦ a | false ↦ b ]))
      go next none r = cut _ tt r
      go next (some y) r = by next (truth y) r

  -- ---- CASE

  pops : (x : ℕ) (σ : Values) → Does code w (say (emit_opcode pop)) (x ∷ []) σ (through [] σ)
  unfolding called operated pop_one
  pops x σ = says (emit_opcode pop) (λ r. refl)

  body-runs : (x next_arm end : ℕ) (B : Calls) (σ : Values) (a : Answer) → Does code w B [] σ (landing onward loops f a) → Does code w (arm_body next_arm end B) (x ∷ []) σ (landing (at end) loops f a)
  unfolding arm_body Away
  body-runs x next_arm end B σ a p = pops x σ ⨾ followed (at end) a p (λ τ. cut _ tt (jumps good end [] τ))

  body-passed : (x next_arm end : ℕ) (B : Calls) (σ : Values) → From code w next_arm (arm_body next_arm end B) (x ∷ []) σ (through (x ∷ []) σ)
  unfolding arm_body
  body-passed x next_arm end B σ = from-later _ (from-later _ (from-later _ (from-here good (resets good 1 (x ∷ []) σ))))

  pub arm-does : (ls : List CaseLabel) (x end : ℕ) (B : Calls) (σ : Values) (a : Answer) → Does code w B [] σ (landing onward loops f a)
      → Does code w (emit_arm ls end B) (x ∷ []) σ (armed end loops f x σ (fits_one w x ls) a)
  unfolding emit_arm fits_one or_later armed tested_by labelled listed Away
  arm-does [] x end B σ a p = silent
  arm-does (l ∷ []) x end B σ a p = opens 1 λ next_arm. go next_arm (fits w x l) (label-does good x σ l next_arm)
    where
      go : (next_arm : ℕ) (t : Option Bool) → Does code w (test_label l next_arm) (x ∷ []) σ (labelled x next_arm σ t) → Does code w (test_label l next_arm >> arm_body next_arm end B) (x ∷ []) σ (armed end loops f x σ (or_later t (some false)) a)
      go next_arm none r = cut _ tt r
      go next_arm (some true) r = r ⨾ body-runs x next_arm end B σ a p
      go next_arm (some false) r = chain (cut _ tt r) (from-later _ (body-passed x next_arm end B σ))
  arm-does (l ∷ m ∷ ms) x end B σ a p = opens 1 λ next_arm. opens 1 λ start. go next_arm start (or_later (fits w x l) (fits_one w x (m ∷ ms))) (labels-does good x σ l (m ∷ ms) start next_arm)
    where
      go : (next_arm start : ℕ) (t : Option Bool) → Does code w (test_labels l (m ∷ ms) start next_arm) (x ∷ []) σ (listed x σ start next_arm t)
          → Does code w (test_labels l (m ∷ ms) start next_arm >> (say (bind_label start) >> arm_body next_arm end B)) (x ∷ []) σ (armed end loops f x σ t a)
      go next_arm start none r = cut _ tt r
      go next_arm start (some true) r = landed good r (body-runs x next_arm end B σ a p)
      go next_arm start (some false) r = chain (cut _ tt r) (from-later _ (from-later _ (body-passed x next_arm end B σ)))

  pub case-does : (e : Expr) (A : ℕ → Calls) (B : Calls) (σ : Values) (r : ℕ → Option Answer) (b : Answer) → ((x end : ℕ) → Does code w (A end) (x ∷ []) σ (arms_end end loops f x σ (r x))) → Does code w B [] σ (landing onward loops f b)
      → Does code w (emit_expr e 0 >> (new_label 0 >>= λ end. A end >> (say (emit_opcode pop) >> (B >> say (bind_label end))))) [] σ (landing onward loops f (on_value (value_of w σ e) σ λ x. elim (r x) [ some a ↦ a | none ↦ b ]))
  unfolding on_value valued landing arms_end Away
  case-does e A B σ r b p q = on_value_lem good (λ v. landing onward loops f (on_value v σ λ x. elim (r x) [ some a ↦ a | none ↦ b ])) (value_of w σ e) refl (expr-does good e 0 [] σ) (λ x. opens 0 (λ end. by x end (r x) (p x end)))
    where
      by : (x end : ℕ) (t : Option Answer) → Does code w (A end) (x ∷ []) σ (arms_end end loops f x σ t)
          → Does code w (A end >> (say (emit_opcode pop) >> (B >> say (bind_label end)))) (x ∷ []) σ (landing onward loops f (elim t [ some a ↦ a | none ↦ b ]))
      by x end none d = d ⨾ pops x σ ⨾ followed onward b q (λ τ. binding good end [] τ)
      by x end (some a) d = rejoined (x ∷ []) end onward a (cut _ (landing-away end loops f a) d) (λ τ. from-later _ (from-later _ (from-later _ (from_last good))))
