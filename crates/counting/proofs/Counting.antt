-- A FOR that is laid out so makes its passes: the part of the claim that is about runs alone.
use Prim.Native.Nat.{ℕ, ◌+◌, ◌-◌, ◌*◌, ◌/◌, ◌%◌, ◌^◌, suc, zero, ◌≤◌, ◌<◌}
use mathlib.Core.Path.{◌≡◌, refl, sym, ◌∙◌, ap, subst}
use mathlib.Core.List.{List, [], ◌∷◌}
use mathlib.Core.Bool.{Bool, true, false, not, ◌&&◌}
use mathlib.Core.Option.{Option, some, none}
use native.Mathlib.Omega.{arith}
use native.Mathlib.Nat.{zero-add, mod-lt, div-add-mod'}
use lib.Dec.{eqb}
use lib.ListN.{length}
use lib.IntN.{pos, ◌+ℤ◌, ◌-ℤ◌}
use lib.Signed.{lt_z, quot_z}
use borrow.Author.Tests.{ne_eqb, eq-eqb, eqb-false}
use Rattle.definition.specs.Opcode.{Role, dup, pop, load_var, store_var, load_const, load_true, load_false, arithmetic, logic, neg, bool_not, compare, jmp, jmp_if_not, cmp_br, ret, Add, size, traits, traits_of, number as role_number}
use Rattle.definition.specs.Iec.{signed_of, iec, decides, taken, wrapped, on_numbers, calculate, stored, truth}
use Rattle.definition.specs.Rules.{has_role}
use Rattle.definition.specs.Runs.{Break, off_code, target}
use Rattle.definition.specs.Machine.{Image, State, Step, goes, finishes, stops, breaks, operand_at, constant_at, compares, at, pop_one, pop_two, leads_to, calculated, branch_if, execute, execute_if, is_start, role_at, step, and_then, after_steps}
use Rattle.definition.specs.For.{Places}
use Rattle.definition.specs.Count.{one_if, crossings, passes, stores_to, Ends, ended, later, AlwaysEnds, IsValue, CountsUp, up_count, Makes}
use Rattle.counting.proofs.Laid.{Stands, Tests, Opening, Laid}
use Rattle.counting.proofs.Numbers.{IsWidth, shifted, signed-wrapped, signed-value, shifted-le, shifted-lt, shifted-ge, summed, sum-value, difference, counts}

-- ---- one step

pub step-at : (m : Image) (x : State) (r : Role) → Stands m x.place r → step m x ≡ execute r m x.place x.stack x.variables
unfolding step execute_if
step-at m x r h =
    let n : eqb x.place (length m.bytecode) ≡ false = ne_eqb x.place (length m.bytecode) (λ e. let b = h.before in omega arith) in
    ap (λ b. elim b [ true ↦ finishes | false ↦ elim (is_start m x.place) [ true ↦ execute_if (role_at m x.place) m x | false ↦ breaks off_code ] ]) n
    ∙ (ap (λ b. elim b [ true ↦ execute_if (role_at m x.place) m x | false ↦ breaks off_code ]) h.start
    ∙ ap (λ r. execute_if r m x) h.role)

goes-inj : (x y : State) → goes x ≡ goes y → x ≡ y
goes-inj x y e = cc

-- a step that stores to another variable, or nowhere, leaves v as it was
at-keeps : (p : ℕ) (st : List ℕ) (vs : ℕ → ℕ) (y : State) (v : ℕ) → at p st vs ≡ goes y → y.variables v ≡ vs v
unfolding at
at-keeps p st vs y v e = ap (λ (z : State). z.variables v) (sym (goes-inj _ _ e))

not-goes : {A : Type 0} (y : State) → finishes ≡ goes y → A
not-goes y e = absurd (let z : ◌≡◌ {A = ℕ} 0 1 = cc in omega arith)

not-goes-stop : {A : Type 0} (y : State) → stops ≡ goes y → A
not-goes-stop y e = absurd (let z : ◌≡◌ {A = ℕ} 0 1 = cc in omega arith)

not-goes-break : {A : Type 0} (b : Break) (y : State) → breaks b ≡ goes y → A
not-goes-break b y e = absurd (let z : ◌≡◌ {A = ℕ} 0 1 = cc in omega arith)

one-keeps : (st : List ℕ) (f : ℕ → List ℕ → Step) (vs : ℕ → ℕ) (y : State) (v : ℕ)
    → ((a : ℕ) (rest : List ℕ) → f a rest ≡ goes y → y.variables v ≡ vs v) → pop_one st f ≡ goes y → y.variables v ≡ vs v
unfolding pop_one
one-keeps [] f vs y v k e = not-goes-break _ y e
one-keeps (a ∷ st) f vs y v k e = k a st e

two-keeps : (st : List ℕ) (f : ℕ → ℕ → List ℕ → Step) (vs : ℕ → ℕ) (y : State) (v : ℕ)
    → ((a b : ℕ) (rest : List ℕ) → f a b rest ≡ goes y → y.variables v ≡ vs v) → pop_two st f ≡ goes y → y.variables v ≡ vs v
unfolding pop_two
two-keeps [] f vs y v k e = not-goes-break _ y e
two-keeps (b ∷ []) f vs y v k e = not-goes-break _ y e
two-keeps (b ∷ a ∷ st) f vs y v k e = k a b st e

lead-keeps : (t : Option ℕ) (st : List ℕ) (vs : ℕ → ℕ) (y : State) (v : ℕ) → leads_to t st vs ≡ goes y → y.variables v ≡ vs v
unfolding leads_to
lead-keeps none st vs y v e = not-goes-break _ y e
lead-keeps (some p) st vs y v e = at-keeps p st vs y v e

calculated-keeps : (t : Option ℕ) (n : ℕ) (st : List ℕ) (vs : ℕ → ℕ) (y : State) (v : ℕ) → calculated t n st vs ≡ goes y → y.variables v ≡ vs v
unfolding calculated
calculated-keeps none n st vs y v e = not-goes-stop y e
calculated-keeps (some a) n st vs y v e = at-keeps n (a ∷ st) vs y v e

branch_keeps : (b : Bool) (code : List ℕ) (n : ℕ) (st : List ℕ) (vs : ℕ → ℕ) (y : State) (v : ℕ) → branch_if b code n st vs ≡ goes y → y.variables v ≡ vs v
unfolding branch_if
branch_keeps true code n st vs y v e = lead-keeps (target code n) st vs y v e
branch_keeps false code n st vs y v e = at-keeps n st vs y v e

stored_other : (vs : ℕ → ℕ) (w a v : ℕ) → eqb w v ≡ false → stored vs w a v ≡ vs v
unfolding stored
stored_other vs w a v e = ap (λ b. elim b [ true ↦ a | false ↦ vs v ]) (ne_eqb v w (λ q. eqb-false w v e (sym q)))

pub stored_same : (vs : ℕ → ℕ) (v a : ℕ) → stored vs v a v ≡ a
unfolding stored
stored_same vs v a = ap (λ b. elim b [ true ↦ a | false ↦ vs v ]) (eq-eqb v v refl)

execute-keeps : (r : Role) (m : Image) (p : ℕ) (st : List ℕ) (vs : ℕ → ℕ) (y : State) (v : ℕ)
    → (has_role store_var (some r) && eqb (operand_at m.bytecode (p + 1)) v) ≡ false → execute r m p st vs ≡ goes y → y.variables v ≡ vs v
unfolding execute has_role role_number
execute-keeps dup m p st vs y v n e = one-keeps st _ vs y v (λ a rest q. at-keeps _ _ vs y v q) e
execute-keeps pop m p st vs y v n e = one-keeps st _ vs y v (λ a rest q. at-keeps _ _ vs y v q) e
execute-keeps load_var m p st vs y v n e = at-keeps _ _ vs y v e
execute-keeps store_var m p st vs y v n e = one-keeps st _ vs y v (λ a rest q. at-keeps _ _ _ y v q ∙ stored_other vs _ a v n) e
execute-keeps load_const m p st vs y v n e = at-keeps _ _ vs y v e
execute-keeps load_true m p st vs y v n e = at-keeps _ _ vs y v e
execute-keeps load_false m p st vs y v n e = at-keeps _ _ vs y v e
execute-keeps (arithmetic o) m p st vs y v n e = two-keeps st _ vs y v (λ a b rest q. calculated-keeps (calculate m.width o a b) _ _ vs y v q) e
execute-keeps (logic o) m p st vs y v n e = two-keeps st _ vs y v (λ a b rest q. at-keeps _ _ vs y v q) e
execute-keeps neg m p st vs y v n e = one-keeps st _ vs y v (λ a rest q. at-keeps _ _ vs y v q) e
execute-keeps bool_not m p st vs y v n e = one-keeps st _ vs y v (λ a rest q. at-keeps _ _ vs y v q) e
execute-keeps (compare c) m p st vs y v n e = two-keeps st _ vs y v (λ a b rest q. at-keeps _ _ vs y v q) e
execute-keeps jmp m p st vs y v n e = lead-keeps (target m.bytecode (p + size jmp)) st vs y v e
execute-keeps jmp_if_not m p st vs y v n e = one-keeps st _ vs y v (λ a rest q. branch_keeps (not (truth a)) _ _ _ vs y v q) e
execute-keeps cmp_br m p st vs y v n e = branch_keeps _ _ _ st vs y v e
execute-keeps ret m p st vs y v n e = not-goes y e

pub step_keeps : (m : Image) (v : ℕ) (x y : State) → stores_to m v x ≡ false → step m x ≡ goes y → y.variables v ≡ x.variables v
unfolding step execute_if stores_to
step_keeps m v x y = go (eqb x.place (length m.bytecode)) (is_start m x.place) (role_at m x.place)
  where
    go : (b c : Bool) (r : Option Role) → (has_role store_var r && eqb (operand_at m.bytecode (x.place + 1)) v) ≡ false
        → elim b [ true ↦ finishes | false ↦ elim c [ true ↦ execute_if r m x | false ↦ breaks off_code ] ] ≡ goes y → y.variables v ≡ x.variables v
    go true c r n e = not-goes y e
    go false false r n e = not-goes-break _ y e
    go false true none n e = not-goes-break _ y e
    go false true (some r) n e = execute-keeps r m x.place x.stack x.variables y v n e

-- ---- runs

some_inj : {A : Type 0} (x y : A) → some x ≡ some y → x ≡ y
some_inj x y e = cc

-- a run goes so far from x
pub record Reaches (m : Image) (x y : State) : Type 0 where
  pub steps : ℕ
  pub runs : after_steps m steps x ≡ some y

after_none : (m : Image) (x y : State) → x ≡ y → after_steps m 0 x ≡ some y
unfolding after_steps
after_none m x y e = ap some e

after-cons : (m : Image) (n : ℕ) (x y : State) → step m x ≡ goes y → after_steps m (suc n) x ≡ after_steps m n y
unfolding after_steps and_then
after-cons m n x y e = ap (λ s. and_then s none (λ z. after_steps m n z)) e

reaches-later : (m : Image) (n : ℕ) (x y z : State) → after_steps m n x ≡ some y → step m y ≡ goes z → after_steps m (suc n) x ≡ some z
unfolding after_steps and_then
reaches-later m zero x y z e g = after-cons m 0 x z (ap (λ s. step m s) (some_inj x y e) ∙ g)
reaches-later m (suc n) x y z e g = go (step m x) refl e (λ u r. reaches-later m n u y z r g)
  where
    go : (s : Step) → step m x ≡ s → and_then s none (λ u. after_steps m n u) ≡ some y
        → ((u : State) → after_steps m n u ≡ some y → after_steps m (suc n) u ≡ some z) → after_steps m (suc (suc n)) x ≡ some z
    go (goes u) q r more = after-cons m (suc n) x u q ∙ more u r
    go finishes q r more = absurd (let k : ◌≡◌ {A = ℕ} 0 1 = cc in omega arith)
    go stops q r more = absurd (let k : ◌≡◌ {A = ℕ} 0 1 = cc in omega arith)
    go (breaks b) q r more = absurd (let k : ◌≡◌ {A = ℕ} 0 1 = cc in omega arith)

pub reaches_then : {m : Image} {x y z : State} → Reaches m x y → step m y ≡ goes z → Reaches m x z
reaches_then {m = m} {x = x} {y = y} {z = z} r g = record { steps = suc r.steps; runs = reaches-later m r.steps x y z r.runs g }

-- the claim's result, its count in ℕ
abbrev pub Finish : Image → Places → State → ℕ → Type 0
Finish m f x c = Makes m f x (pos c)

finish-here : (m : Image) (f : Places) (x : State) → x.place ≡ f.end → x.stack ≡ [] → Finish m f x 0
unfolding after_steps passes crossings
finish-here m f x p e = record { steps = 0; last = x; runs = refl; there = p; empty = e; inside = λ k y l q. absurd (omega arith); count = refl }

-- a step of the FOR before the rest: is it a pass?
unfoldable is_pass : Places → State → State → ℕ
is_pass f x y = one_if (eqb x.place f.end_test && eqb y.place f.body)

finish-cons : (m : Image) (f : Places) (x y : State) (c : ℕ) → (f.first ≤ x.place) × (x.place < f.end) → step m x ≡ goes y → Finish m f y c → Finish m f x (is_pass f x y + c)
unfolding passes crossings and_then after_steps is_pass
finish-cons m f x y c p g r = record {
  steps = suc r.steps;
  last = r.last;
  runs = after-cons m r.steps x y g ∙ r.runs;
  there = r.there;
  empty = r.empty;
  inside = inside;
  count = ap pos (ap (λ s. and_then s 0 (λ z. one_if (eqb x.place f.end_test && eqb z.place f.body) + crossings m f.end_test f.body r.steps z)) g
      ∙ ap (λ k. one_if (eqb x.place f.end_test && eqb y.place f.body) + k) counted);
}
  where
    counted : crossings m f.end_test f.body r.steps y ≡ c
    counted = let e : pos (crossings m f.end_test f.body r.steps y) ≡ pos c = r.count in cc

    inside : (k : ℕ) (z : State) → k < suc r.steps → after_steps m k x ≡ some z → (f.first ≤ z.place) × (z.place < f.end)
    inside zero z l q = subst (λ (u : State). (f.first ≤ u.place) × (u.place < f.end)) (some_inj x z q) p
    inside (suc k) z l q = r.inside k z (omega arith) (sym (after-cons m k x y g) ∙ q)

-- no pass but at the end test, and none where the end test leaves
finish-plain : (m : Image) (f : Places) (x y : State) (c : ℕ) → (x.place ≡ f.end_test → ⊥) → (f.first ≤ x.place) × (x.place < f.end) → step m x ≡ goes y → Finish m f y c → Finish m f x c
unfolding is_pass one_if
finish-plain m f x y c n p g r =
    subst (λ k. Finish m f x k) (ap (λ b. one_if (b && eqb y.place f.body) + c) (ne_eqb x.place f.end_test n) ∙ zero-add c) (finish-cons m f x y c p g r)

finish-leave : (m : Image) (f : Places) (x y : State) (c : ℕ) → (y.place ≡ f.body → ⊥) → (f.first ≤ x.place) × (x.place < f.end) → step m x ≡ goes y → Finish m f y c → Finish m f x c
unfolding is_pass one_if
finish-leave m f x y c n p g r =
    subst (λ k. Finish m f x k) (ap (λ b. one_if (eqb x.place f.end_test && b) + c) (ne_eqb y.place f.body n) ∙ neither (eqb x.place f.end_test)) (finish-cons m f x y c p g r)
  where
    neither : (b : Bool) → one_if (b && false) + c ≡ c
    neither true = zero-add c
    neither false = zero-add c

finish-pass : (m : Image) (f : Places) (x y : State) (c : ℕ) → x.place ≡ f.end_test → y.place ≡ f.body → (f.first ≤ x.place) × (x.place < f.end) → step m x ≡ goes y → Finish m f y c → Finish m f x (suc c)
unfolding is_pass one_if
finish-pass m f x y c a b p g r =
    subst (λ k. Finish m f x k)
    (ap (λ t. one_if (t && eqb y.place f.body) + c) (eq-eqb _ _ a) ∙ (ap (λ t. one_if t + c) (eq-eqb _ _ b) ∙ omega arith))
    (finish-cons m f x y c p g r)

-- ---- the body

-- the body leads to its end, the control kept
through : (m : Image) (f : Places) (v : ℕ) (x₀ x : State) (c : ℕ) → f.end_test < f.body → f.first ≤ f.body → f.increment < f.end → Ends m f v x → Reaches m x₀ x
    → ((y : State) → y.place ≡ f.increment → y.stack ≡ [] → y.variables v ≡ x.variables v → Reaches m x₀ y → Finish m f y c) → Finish m f x c
through m f v x₀ x c a b d (ended p s e) r more = more x p e refl r
through m f v x₀ x c a b d (later {y = y} lo hi n g t) r more =
    finish-plain m f x y c (λ q. omega arith) (omega arith, omega arith) g
    (through m f v x₀ y c a b d t (reaches_then r g) (λ z p e k q. more z p e (k ∙ step_keeps m v x y n g) q))

-- ---- the FOR's own instructions

abbrev pub standing : ℕ → List ℕ → (ℕ → ℕ) → State
standing p st vs = record { place = p; stack = st; variables = vs }

pub as-standing : (x : State) (p : ℕ) (st : List ℕ) → x.place ≡ p → x.stack ≡ st → x ≡ standing p st x.variables
as-standing x p st a b = ap (λ q. standing q x.stack x.variables) a ∙ ap (λ s. standing p s x.variables) b

module _ (m : Image) (p : ℕ) (st : List ℕ) (vs : ℕ → ℕ) where
  loads-variable : (w : ℕ) → Stands m p load_var → operand_at m.bytecode (p + 1) ≡ w → step m (standing p st vs) ≡ goes (standing (p + 3) (vs w ∷ st) vs)
  unfolding execute at size traits traits_of
  loads-variable w h e = step-at m (standing p st vs) load_var h ∙ ap (λ k. goes (standing (p + 3) (vs k ∷ st) vs)) e

  loads-constant : (k : ℕ) → Stands m p load_const → constant_at m (p + 1) ≡ k → step m (standing p st vs) ≡ goes (standing (p + 3) (k ∷ st) vs)
  unfolding execute at size traits traits_of constant_at
  loads-constant k h e = step-at m (standing p st vs) load_const h ∙ ap (λ a. goes (standing (p + 3) (a ∷ st) vs)) e

  stores-variable : (w a : ℕ) → Stands m p store_var → operand_at m.bytecode (p + 1) ≡ w → step m (standing p (a ∷ st) vs) ≡ goes (standing (p + 3) st (stored vs w a))
  unfolding execute at size traits traits_of pop_one
  stores-variable w a h e = step-at m (standing p (a ∷ st) vs) store_var h ∙ ap (λ k. goes (standing (p + 3) st (stored vs k a))) e

  adds : (a b : ℕ) → Stands m p (arithmetic Add) → step m (standing p (b ∷ a ∷ st) vs) ≡ goes (standing (p + 1) (wrapped m.width (signed_of m.width a +ℤ signed_of m.width b) ∷ st) vs)
  unfolding execute at size traits traits_of pop_two calculated calculate on_numbers
  adds a b h = step-at m (standing p (b ∷ a ∷ st) vs) (arithmetic Add) h

  jumps_to : (t : ℕ) → Stands m p jmp → target m.bytecode (p + 3) ≡ some t → step m (standing p st vs) ≡ goes (standing t st vs)
  unfolding execute at size traits traits_of leads_to
  jumps_to t h e = step-at m (standing p st vs) jmp h ∙ ap (λ o. leads_to o st vs) e

  -- the end test, by what its comparison says
  tests-end : (b : Bool) (v to : ℕ) → Tests m p v to → lt_z (signed_of m.width to) (signed_of m.width (vs v)) ≡ b → step m (standing p st vs) ≡ branch_if b m.bytecode (p + 8) st vs
  unfolding execute size traits traits_of compares taken decides iec
  tests-end b v to h e =
      step-at m (standing p st vs) cmp_br h.test
      ∙ ap (λ t. branch_if t m.bytecode (p + 8) st vs)
      (ap (λ c. decides c (signed_of m.width (vs (operand_at m.bytecode (p + 2)))) (signed_of m.width (constant_at m (p + 4)))) h.comparison
      ∙ (ap (λ w. lt_z (signed_of m.width (constant_at m (p + 4))) (signed_of m.width (vs w))) h.tests ∙ (ap (λ k. lt_z (signed_of m.width k) (signed_of m.width (vs v))) h.against ∙ e)))

  leaves : (v to end : ℕ) → Tests m p v to → target m.bytecode (p + 8) ≡ some end → lt_z (signed_of m.width to) (signed_of m.width (vs v)) ≡ true → step m (standing p st vs) ≡ goes (standing end st vs)
  unfolding branch_if leads_to at
  leaves v to end h q e = tests-end true v to h e ∙ ap (λ o. leads_to o st vs) q

  stays : (v to : ℕ) → Tests m p v to → lt_z (signed_of m.width to) (signed_of m.width (vs v)) ≡ false → step m (standing p st vs) ≡ goes (standing (p + 8) st vs)
  unfolding branch_if at
  stays v to h e = tests-end false v to h e

-- ---- the loop

module _ (m : Image) (f : Places) (v from to by : ℕ) (l : Laid m f v from to by) (width : IsWidth m.width) (x₀ : State) where
  -- the place in the increment is none of the end test, and lies inside
  plain_step : (p : ℕ) (st : List ℕ) (vs : ℕ → ℕ) (y : State) (c : ℕ) → f.increment ≤ p → p < f.increment + 13 → step m (standing p st vs) ≡ goes y → Finish m f y c → Finish m f (standing p st vs) c
  plain_step p st vs y c lo hi g r =
      finish-plain m f (standing p st vs) y c
      (λ e. omega (arith, l.opening.test_next, l.opening.body_next, l.body_ends))
      (omega (arith, l.opening.test_next, l.opening.body_next, l.body_ends), omega (arith, l.end_next))
      g
      r

  -- counting up, from the place after the body to the end test
  counting-up : (c : ℕ) (vs : ℕ → ℕ) → Reaches m x₀ (standing f.increment [] vs)
      → ((ws : ℕ → ℕ) → ws v ≡ wrapped m.width (signed_of m.width (vs v) +ℤ signed_of m.width by) → Reaches m x₀ (standing f.end_test [] ws) → Finish m f (standing f.end_test [] ws) c)
      → Finish m f (standing f.increment [] vs) c
  counting-up c vs r more =
      let g = f.increment in
      let k = l.counts in
      let sum = wrapped m.width (signed_of m.width (vs v) +ℤ signed_of m.width by) in
      let s₁ = loads-variable m g [] vs v k.load k.loads in
      let s₂ = loads-constant m (g + 3) (vs v ∷ []) vs by k.step k.steps in
      let s₃ = adds m (g + 3 + 3) [] vs (vs v) by k.add in
      let s₄ = stores-variable m (g + 3 + 3 + 1) [] vs v sum k.store k.stores in
      let s₅ = jumps_to m (g + 3 + 3 + 1 + 3) [] (stored vs v sum) f.end_test k.jump k.jumps in
      let goal = more (stored vs v sum) (stored_same vs v sum) (reaches_then (reaches_then (reaches_then (reaches_then (reaches_then r s₁) s₂) s₃) s₄) s₅) in
      plain_step g [] vs _ c (omega arith) (omega arith) s₁
      (plain_step (g + 3) (vs v ∷ []) vs _ c (omega arith) (omega arith) s₂
      (plain_step (g + 3 + 3) (by ∷ vs v ∷ []) vs _ c (omega arith) (omega arith) s₃
      (plain_step (g + 3 + 3 + 1) (sum ∷ []) vs _ c (omega arith) (omega arith) s₄
      (plain_step (g + 3 + 3 + 1 + 3) [] (stored vs v sum) _ c (omega arith) (omega arith) s₅ goal))))

  module _ (always : AlwaysEnds m f v x₀) where
    -- one pass: the end test stays, the body ends, the control is counted up
    pass : (c : ℕ) (vs : ℕ → ℕ) → lt_z (signed_of m.width to) (signed_of m.width (vs v)) ≡ false → Reaches m x₀ (standing f.end_test [] vs)
        → ((ws : ℕ → ℕ) → ws v ≡ wrapped m.width (signed_of m.width (vs v) +ℤ signed_of m.width by) → Reaches m x₀ (standing f.end_test [] ws) → Finish m f (standing f.end_test [] ws) c)
        → Finish m f (standing f.end_test [] vs) (suc c)
    unfolding AlwaysEnds
    pass c vs n r more =
        let g = stays m f.end_test [] vs v to l.opening.tests n in
        let q = reaches_then r g in
        let body = sym l.opening.body_next in
        finish-pass m f (standing f.end_test [] vs) (standing (f.end_test + 8) [] vs) c refl body
        (omega (arith, l.opening.test_next), omega (arith, l.opening.body_next, l.body_ends, l.end_next))
        g
        (through m f v x₀ (standing (f.end_test + 8) [] vs) c
        (omega (arith, l.opening.body_next))
        (omega (arith, l.opening.body_next, l.opening.test_next))
        (omega (arith, l.end_next))
        (always q.steps (standing (f.end_test + 8) [] vs) q.runs body refl)
        q
        (λ y p e k reached.
        let same = as-standing y f.increment [] p e in
        subst (λ z. Finish m f z c) (sym same)
        (counting-up c y.variables (subst (λ z. Reaches m x₀ z) same reached)
        (λ ws u. more ws (u ∙ ap (λ a. wrapped m.width (signed_of m.width a +ℤ signed_of m.width by)) k)))))

    module _ (k : signed_of m.width by ≡ pos by) (some-step : 1 ≤ by) (value : IsValue m.width (signed_of m.width to)) (room : shifted m.width (signed_of m.width to) + by < 2 ^ m.width) where
      -- the control after a pass that began within the end
      next-control : (a b : ℕ) → IsValue m.width (signed_of m.width a) → shifted m.width (signed_of m.width a) ≤ shifted m.width (signed_of m.width to) → b ≡ wrapped m.width (signed_of m.width a +ℤ signed_of m.width by)
          → IsValue m.width (signed_of m.width b) × (shifted m.width (signed_of m.width b) ≡ shifted m.width (signed_of m.width a) + by)
      next-control a b g h e =
          let s = summed m.width width (signed_of m.width a) by g (omega arith) in
          let n : signed_of m.width b ≡ signed_of m.width a +ℤ pos by =
          ap (λ k. signed_of m.width k) e ∙ (ap (λ z. signed_of m.width (wrapped m.width (signed_of m.width a +ℤ z))) k ∙ signed-wrapped m.width width (signed_of m.width a +ℤ pos by) s.is_value) in
          (subst (λ z. IsValue m.width z) (sym n) s.is_value, ap (λ z. shifted m.width z) n ∙ s.is)

      -- from the end test on, with q whole steps and r more to the end
      loop : (q r : ℕ) → r < by → (vs : ℕ → ℕ) → IsValue m.width (signed_of m.width (vs v)) → shifted m.width (signed_of m.width (vs v)) + (q * by + r) ≡ shifted m.width (signed_of m.width to)
          → Reaches m x₀ (standing f.end_test [] vs) → Finish m f (standing f.end_test [] vs) (suc q)
      loop zero r small vs g e reached =
          let within : shifted m.width (signed_of m.width (vs v)) ≤ shifted m.width (signed_of m.width to) = omega arith in
          pass 0 vs (shifted-ge m.width (signed_of m.width to) (signed_of m.width (vs v)) value g within) reached
          (λ ws u at_test.
          let n = next-control (vs v) (ws v) g within u in
          let t = leaves m f.end_test [] ws v to f.end l.opening.tests l.leaves (shifted-lt m.width (signed_of m.width to) (signed_of m.width (ws v)) value n.0 (omega (arith, n.1))) in
          finish-leave m f (standing f.end_test [] ws) (standing f.end [] ws) 0
          (λ b. omega (arith, l.opening.body_next, l.body_ends, l.end_next))
          (omega (arith, l.opening.test_next), omega (arith, l.opening.body_next, l.body_ends, l.end_next))
          t
          (finish-here m f (standing f.end [] ws) refl refl))
      loop (suc q) r small vs g e reached =
          let within : shifted m.width (signed_of m.width (vs v)) ≤ shifted m.width (signed_of m.width to) = omega arith in
          pass (suc q) vs (shifted-ge m.width (signed_of m.width to) (signed_of m.width (vs v)) value g within) reached
          (λ ws u at_test.
          let n = next-control (vs v) (ws v) g within u in
          loop q r small ws n.0 (omega (arith, n.1)) at_test)

-- ---- the whole FOR

-- A FOR that is laid out so and counts m.width up makes (to − from) ÷ step + 1 passes from any state at its first place, if its body always ends.
pub counted : (m : Image) (f : Places) (v from to by : ℕ) → Laid m f v from to by → IsWidth m.width → CountsUp m.width from to by
    → (x : State) → x.place ≡ f.first → x.stack ≡ [] → AlwaysEnds m f v x → Makes m f x (up_count m.width from to by)
unfolding up_count
counted m f v from to by l width h x p e always =
    let k = counts m.width by h.up in
    let a = signed-value m.width width from in
    let b = signed-value m.width width to in
    let o = shifted-le m.width (signed_of m.width from) (signed_of m.width to) a b h.ordered in
    let d = shifted m.width (signed_of m.width to) - shifted m.width (signed_of m.width from) in
    let vs = x.variables in
    let ws = stored vs v from in
    let same = as-standing x f.first [] p e in
    let r₀ : Reaches m x (standing f.first [] vs) = record { steps = 0; runs = after_none m x _ same } in
    let s₁ = loads-constant m f.first [] vs from l.opening.begins.load l.opening.begins.loads in
    let s₂ = subst (λ t. step m (standing (f.first + 3) (from ∷ []) vs) ≡ goes (standing t [] ws)) (sym l.opening.test_next)
    (stores-variable m (f.first + 3) [] vs v from l.opening.begins.store l.opening.begins.stores) in
    let room : shifted m.width (signed_of m.width to) + by < 2 ^ m.width = sum-value m.width width (signed_of m.width to) by b k.1.1 (subst (λ z. IsValue m.width (signed_of m.width to +ℤ z)) k.0 h.room) in
    let control : ws v ≡ from = stored_same vs v from in
    let division = div-add-mod' d by in
    let z : shifted m.width (signed_of m.width (ws v)) + (d / by * by + d % by) ≡ shifted m.width (signed_of m.width to) = ap (λ c. shifted m.width (signed_of m.width c) + (d / by * by + d % by)) control ∙ omega arith in
    let count : pos (suc (d / by)) ≡ quot_z (signed_of m.width to -ℤ signed_of m.width from) (signed_of m.width by) +ℤ pos 1 =
    sym (ap (λ c. quot_z c (signed_of m.width by) +ℤ pos 1) (difference m.width (signed_of m.width from) (signed_of m.width to) d a b (omega arith)) ∙ (ap (λ c. quot_z (pos d) c +ℤ pos 1) k.0 ∙ ap pos (omega arith))) in
    let looped = loop m f v from to by l width x always k.0 k.1.0 b room (d / by) (d % by) (mod-lt d k.1.0) ws
    (subst (λ c. IsValue m.width (signed_of m.width c)) (sym control) a) z (reaches_then (reaches_then r₀ s₁) s₂) in
    let i₁ = l.opening.test_next in
    let i₂ = l.opening.body_next in
    let i₃ = l.body_ends in
    let i₄ = l.end_next in
    subst (λ z. Makes m f x z) count
    (subst (λ y. Finish m f y (suc (d / by))) (sym same)
    (finish-plain m f (standing f.first [] vs) _ _ (λ q. omega arith) (omega arith, omega arith) s₁
    (finish-plain m f (standing (f.first + 3) (from ∷ []) vs) _ _ (λ q. omega arith) (omega arith, omega arith) s₂ looped)))

-- ---- the first pass begins, whatever follows the body

-- a body that ends does so at an instruction's start
pub ends-start : (m : Image) (f : Places) (v : ℕ) (x : State) → Ends m f v x → is_start m f.increment ≡ true
ends-start m f v x (ended p s e) = ap (λ q. is_start m q) (sym p) ∙ s
ends-start m f v x (later {y = y} lo hi n g t) = ends-start m f v y t

pub first_ends : (m : Image) (f : Places) (v from to by : ℕ) → Opening m f v from to → IsWidth m.width → CountsUp m.width from to by → (x : State) → x.place ≡ f.first → x.stack ≡ [] → AlwaysEnds m f v x → is_start m f.increment ≡ true
unfolding AlwaysEnds
first_ends m f v from to by l width h x p e always =
    let a = signed-value m.width width from in
    let b = signed-value m.width width to in
    let o = shifted-le m.width (signed_of m.width from) (signed_of m.width to) a b h.ordered in
    let vs = x.variables in
    let ws = stored vs v from in
    let same = as-standing x f.first [] p e in
    let r₀ : Reaches m x (standing f.first [] vs) = record { steps = 0; runs = after_none m x _ same } in
    let s₁ = loads-constant m f.first [] vs from l.begins.load l.begins.loads in
    let s₂ = subst (λ t. step m (standing (f.first + 3) (from ∷ []) vs) ≡ goes (standing t [] ws)) (sym l.test_next)
    (stores-variable m (f.first + 3) [] vs v from l.begins.store l.begins.stores) in
    let control : ws v ≡ from = stored_same vs v from in
    let within : lt_z (signed_of m.width to) (signed_of m.width (ws v)) ≡ false = ap (λ c. lt_z (signed_of m.width to) (signed_of m.width c)) control ∙ shifted-ge m.width (signed_of m.width to) (signed_of m.width from) b a o in
    let s₃ = stays m f.end_test [] ws v to l.tests within in
    let r = reaches_then (reaches_then (reaches_then r₀ s₁) s₂) s₃ in
    ends-start m f v (standing (f.end_test + 8) [] ws) (always r.steps (standing (f.end_test + 8) [] ws) r.runs (sym l.body_next) refl)
