-- The longest run from each place of code that holds no branch back: what it is by the runs from where its instruction leads; and that the one from 0 is the
-- definition's slowest.
use Prim.Native.Nat.{ℕ, ◌+◌, suc, zero, ◌≤◌, ◌<◌, zero-le}
use mathlib.Core.Path.{◌≡◌, refl, sym, ◌∙◌, ap, subst}
use mathlib.Core.List.{List, [], ◌∷◌, ◌++◌}
use mathlib.Core.Bool.{Bool, true, false, ◌&&◌}
use mathlib.Core.Option.{Option, some, none}
use lib.ListN.{length, get_or}
use lib.Dec.{eqb, ltb, leb}
use borrow.Author.Tests.{eq-eqb, ne_eqb, eqb-true, eqb-false, leb-true, leb-false}
use native.Mathlib.Omega.{arith}
use Rattle.definition.specs.Field.{has}
use Rattle.definition.specs.Opcode.{Role, Sheet, role_of, size, needs, Flow, onward, away, either, stop, flow}
use Rattle.definition.specs.Runs.{State, Break, off_code, empty_stack, Step, finishes, waits, breaks, target, jump, branch, follow, out_of_outcomes, execute, step_over, Stand, stand, run_over, start}
use Rattle.definition.specs.Claims.{Either, left, right, branches}
use Rattle.definition.specs.Check.{starts, stands, Passes}
use Rattle.definition.specs.Slowest.{leads_back, back_by, is_back, Loops, ran, executed, FallsFirst, Slowest}
use Rattle.field.proofs.Results.{never}
use Rattle.rewrite.proofs.Decoding.{size-positive}
use Rattle.runs.proofs.Steps.{over-end, over-off, over-start}
use Rattle.image_check.proofs.Starts.{start-holds, none-past}
use Rattle.image_check.proofs.Nodes.{execute_by, execute-by}
use Rattle.slowest.specs.Longest.{Best, nothing, onwards, choose, best_to, best_flow, best_role, best, longest}

-- ---- what is worked out behind an instruction depends on the places that it leads to

abbrev pick : Best → Best → Best
pick a b = choose (leb b.count a.count) a b

same-to : (f g : ℕ → Best) (t : Option ℕ) → ((q : ℕ) → t ≡ some q → f q ≡ g q) → best_to f t ≡ best_to g t
unfolding best_to
same-to f g none e = refl
same-to f g (some q) e = e q refl

same_flow : (w : Flow) (code : List ℕ) (next : ℕ) (f g : ℕ → Best) → f next ≡ g next → (branches w ≡ true → (q : ℕ) → target code next ≡ some q → f q ≡ g q)
    → best_flow w code next f ≡ best_flow w code next g
unfolding best_flow branches
same_flow onward code next f g e t = ap onwards e
same_flow away code next f g e t = ap onwards (same-to f g (target code next) (t refl))
same_flow either code next f g e t = ap (λ a. pick a (best_to f (target code next))) e ∙ ap (λ b. pick (g next) b) (same-to f g (target code next) (t refl))
same_flow stop code next f g e t = refl

-- ---- a run beside a best one: it is no longer, and where it has finished and is as long, its outcomes are the best's and those left, or jump at the first difference

record Within (os : List Bool) (y : Stand) (count : ℕ) (b : Best) : Type 0 where
  most : count ≤ b.count
  first : y.how ≡ finishes → count ≡ b.count → Either (os ≡ b.outcomes ++ y.state.outcomes) (FallsFirst b.outcomes os)

-- one outcome more on both sides
more_of : (o : Bool) (os ours rest : List Bool) → Either (os ≡ ours ++ rest) (FallsFirst ours os) → Either ((o ∷ os) ≡ o ∷ (ours ++ rest)) (FallsFirst (o ∷ ours) (o ∷ os))
more_of o os ours rest (left e) = left (ap (λ x. o ∷ x) e)
more_of o os ours rest (right f) = right (record { common = o ∷ f.common; rest = f.rest; other = f.other; falls = ap (λ x. o ∷ x) f.falls; jumps = ap (λ x. o ∷ x) f.jumps })

module _ {os : List Bool} {y : Stand} {count : ℕ} where
  within_on : (b : Best) → Within os y count b → Within os y (suc count) (onwards b)
  unfolding onwards
  within_on b w = record { most = let l = w.most in omega arith; first = λ e k. w.first e (omega arith) }

  within-fall : (a b : Best) → Within os y count a → Within (false ∷ os) y (suc count) (pick a b)
  unfolding choose
  within-fall a b w = by (leb b.count a.count) refl
    where
      by : (c : Bool) → leb b.count a.count ≡ c → Within (false ∷ os) y (suc count) (choose c a b)
      by true k = record { most = let l = w.most in omega arith; first = λ e z. more_of false os a.outcomes _ (w.first e (omega arith)) }
      by false k = let l = w.most in let n = leb-false b.count a.count k in record { most = omega arith; first = λ e z. absurd (omega arith) }

  within-jump : (a b : Best) → Within os y count b → Within (true ∷ os) y (suc count) (pick a b)
  unfolding choose
  within-jump a b w = by (leb b.count a.count) refl
    where
      by : (c : Bool) → leb b.count a.count ≡ c → Within (true ∷ os) y (suc count) (choose c a b)
      by true k = let l = w.most in let n = leb-true b.count a.count k in record { most = omega arith; first = λ e z. right (record { common = []; rest = a.outcomes; other = os; falls = refl; jumps = refl }) }
      by false k = record { most = let l = w.most in omega arith; first = λ e z. more_of true os b.outcomes _ (w.first e (omega arith)) }

-- ---- a run over the best outcomes: it breaks off, or it finishes with none left and the best count

data Ends (y : Stand) (count best : ℕ) : Type 0 where
  broken : (b : Break) → y.how ≡ breaks b → Ends y count best
  done : y.how ≡ finishes → y.state.outcomes ≡ [] → count ≡ best → Ends y count best

ends_on : {y : Stand} {count best : ℕ} → Ends y count best → Ends y (suc count) (suc best)
ends_on (broken b e) = broken b e
ends_on (done e o k) = done e o (ap suc k)

-- a branch that finds no outcome would wait anyway
out-waits : (w : Flow) (code : List ℕ) (next h : ℕ) (os : List Bool) → out_of_outcomes w os ≡ true → follow w code next h os ≡ waits
unfolding out_of_outcomes follow branch
out-waits onward code next h os e = never (cc)
out-waits away code next h os e = never (cc)
out-waits either code next h [] e = refl
out-waits either code next h (o ∷ os) e = never (cc)
out-waits stop code next h os e = never (cc)

module _ (s : Sheet) (code : List ℕ) (straight : Loops s code → ⊥) where
  abbrev S : List ℕ
  S = starts s code

  abbrev L : ℕ
  L = length code

  abbrev F : ℕ → Best
  F q = longest s code q

  -- behind an instruction of role r at p
  abbrev behind : ℕ → Role → Best
  behind p r = best_flow (flow r) code (p + size r) F

  abbrev at : ℕ → ℕ → List Bool → State
  at p h os = record { place = p; height = h; outcomes = os }

  -- ---- a branch leads forward
  module _ (p : ℕ) (r : Role) (h : has (starts s code) p ≡ true) (known : role_of s (get_or code p 0) ≡ some r) where
    pub not_back : branches (flow r) ≡ true → leads_back p (target code (p + size r)) ≡ true → ⊥
    unfolding is_back back_by
    not_back b k = straight (record { place = p; start = h; back = ap (λ x. back_by x code p) known ∙ (ap (λ x. x && leads_back p (target code (p + size r))) b ∙ k) })

    pub forward : branches (flow r) ≡ true → (q : ℕ) → target code (p + size r) ≡ some q → p < q
    unfolding leads_back
    forward b q e = by (leb q p) refl
      where
        by : (c : Bool) → leb q p ≡ c → p < q
        by true k = absurd (not_back b (ap (λ x. leads_back p x) e ∙ k))
        by false k = leb-false q p k

  -- ---- the law of `longest`
  best_by : Bool → Bool → Option Role → ℕ → (ℕ → Best) → Best
  best_by end start r p f = elim end [ true ↦ nothing | false ↦ elim start [ true ↦ best_role r code p f | false ↦ nothing ] ]

  best-off : (n p : ℕ) → has S p ≡ false → best s code n p ≡ nothing
  unfolding best best_by
  best-off zero p h = refl
  best-off (suc n) p h = ap (λ b. best_by (eqb p L) b (role_of s (get_or code p 0)) p (λ q. best s code n q)) h ∙ by (eqb p L)
    where
      by : (b : Bool) → best_by b false (role_of s (get_or code p 0)) p (λ q. best s code n q) ≡ nothing
      by true = refl
      by false = refl

  best-role : (n p : ℕ) (r : Role) → has S p ≡ true → role_of s (get_or code p 0) ≡ some r → best s code (suc n) p ≡ best_flow (flow r) code (p + size r) (λ q. best s code n q)
  unfolding best best_by best_role
  best-role n p r h e =
      let l = (start-holds s code p h).0 in
      ap (λ b. best_by b (has S p) (role_of s (get_or code p 0)) p (λ q. best s code n q)) (ne_eqb p L (λ k. omega arith))
      ∙ (ap (λ b. best_by false b (role_of s (get_or code p 0)) p (λ q. best s code n q)) h ∙ ap (λ x. best_by false true x p (λ q. best s code n q)) e)

  -- how many instructions it is worked out over does not matter once they reach the end, since each leads forward
  enough : (m n p : ℕ) → L < m + p → L < n + p → best s code m p ≡ best s code n p
  enough zero n p k l = best-off zero p (none-past s code p (omega arith)) ∙ sym (best-off n p (none-past s code p (omega arith)))
  enough (suc m) zero p k l = best-off (suc m) p (none-past s code p (omega arith)) ∙ sym (best-off zero p (none-past s code p (omega arith)))
  enough (suc m) (suc n) p k l = by (has S p) refl (λ q a b. enough m n q a b)
    where
      by : (b : Bool) → has S p ≡ b → ((q : ℕ) → L < m + q → L < n + q → best s code m q ≡ best s code n q) → best s code (suc m) p ≡ best s code (suc n) p
      by true h same =
          let a = start-holds s code p h in
          let z = size-positive a.1 in
          best-role m p a.1 h a.2
          ∙ (same_flow (flow a.1) code (p + size a.1) (λ q. best s code m q) (λ q. best s code n q) (same _ (omega arith) (omega arith)) (λ b q e. let f = forward p a.1 h a.2 b q e in same q (omega arith) (omega arith))
          ∙ sym (best-role n p a.1 h a.2))
      by false h same = best-off (suc m) p h ∙ sym (best-off (suc n) p h)

  pub longest-off : (p : ℕ) → has (starts s code) p ≡ false → longest s code p ≡ nothing
  unfolding longest
  longest-off p h = best-off (suc L) p h

  -- the end is no start
  pub longest-past : (p : ℕ) → length code ≤ p → longest s code p ≡ nothing
  longest-past p l = longest-off p (none-past s code p l)

  pub longest-role : (p : ℕ) (r : Role) → has (starts s code) p ≡ true → role_of s (get_or code p 0) ≡ some r → longest s code p ≡ best_flow (flow r) code (p + size r) (λ q. longest s code q)
  unfolding longest
  longest-role p r h e =
      let z = size-positive r in
      best-role L p r h e ∙ same_flow (flow r) code (p + size r) (λ q. best s code L q) (λ q. best s code (suc L) q) (enough L (suc L) _ (omega arith) (omega arith)) (λ b q t. let f = forward p r h e b q t in enough L (suc L) q (omega arith) (omega arith))

  -- ---- what holds of a step and the longest run from its place: if the run breaks off there, ends there, or goes on behind an instruction
  module _ (P : Step → Best → Type 0) (x : State) (broken : (b : Break) (a : Best) → P (breaks b) a) (over : x.place ≡ L → P finishes nothing)
      (onto : (r : Role) → has S x.place ≡ true → role_of s (get_or code x.place 0) ≡ some r → (h : ℕ) → P (follow (flow r) code (x.place + size r) h x.outcomes) (behind x.place r)) where
    by-role : (r : Role) → has S x.place ≡ true → role_of s (get_or code x.place 0) ≡ some r → P (execute r code x) (behind x.place r)
    unfolding execute_by
    by-role r h e = by (out_of_outcomes (flow r) x.outcomes) refl (ltb x.height (needs r)) refl
      where
        by : (o : Bool) → out_of_outcomes (flow r) x.outcomes ≡ o → (l : Bool) → ltb x.height (needs r) ≡ l → P (execute r code x) (behind x.place r)
        by true j l k = rw (execute-by s code r x true l j k, ← (out-waits (flow r) code (x.place + size r) 0 x.outcomes j)) (onto r h e 0)
        by false j true k = rw (execute-by s code r x false true j k) (broken empty_stack _)
        by false j false k = rw (execute-by s code r x false false j k) (onto r h e _)

    by-step : P (step_over S s code x) (longest s code x.place)
    by-step = by (eqb x.place L) refl (has S x.place) refl
      where
        by : (b : Bool) → eqb x.place L ≡ b → (c : Bool) → has S x.place ≡ c → P (step_over S s code x) (longest s code x.place)
        by true k c h = let e = eqb-true _ _ k in rw (over-end S s code x e, longest-past x.place (omega arith)) (over e)
        by false k true h = let a = start-holds s code x.place h in rw (over-start S s code x (eqb-false _ _ k) a.1 h a.2, longest-role x.place a.1 h a.2) (by-role a.1 h a.2)
        by false k false h = rw (over-off S s code x (eqb-false _ _ k) h) (broken off_code _)

  -- ---- every run beside it
  abbrev Bounded : ℕ → State → Type 0
  Bounded n x = Within x.outcomes (run_over S s code n x) (executed s code n x) (longest s code x.place)

  -- where the step t is taken at x, and n more behind it
  abbrev At : ℕ → State → List Bool → Step → Best → Type 0
  At n x os t b = Within os (stand x t (λ y. run_over S s code n y)) (ran L x t (λ y. executed s code n y)) b

  module _ (n : ℕ) (x : State) (more : (y : State) → Bounded n y) where
    broken-within : (os : List Bool) (b : Break) (a : Best) → At n x os (breaks b) a
    unfolding stand ran
    broken-within os b a = record { most = zero-le; first = λ e k. never (cc) }

    over-within : x.place ≡ L → At n x x.outcomes finishes nothing
    unfolding stand ran nothing
    over-within e = rw (eq-eqb x.place L e, ran) (record { most = zero-le; first = λ e k. left refl })

    jump-within : (h : ℕ) (os : List Bool) (t : Option ℕ) → At n x os (jump h os t) (onwards (best_to F t))
    unfolding stand ran jump best_to
    jump-within h os none = broken-within os off_code _
    jump-within h os (some q) = within_on (F q) (more (at q h os))

    taken-within : (h : ℕ) (os : List Bool) (a : Best) (t : Option ℕ) → At n x (true ∷ os) (jump h os t) (pick a (best_to F t))
    unfolding stand ran jump best_to
    taken-within h os a none = broken-within (true ∷ os) off_code _
    taken-within h os a (some q) = within-jump a (F q) (more (at q h os))

    follow-within : (w : Flow) (next h : ℕ) (os : List Bool) → (x.place ≡ L → ⊥) → x.outcomes ≡ os → At n x os (follow w code next h os) (best_flow w code next F)
    unfolding stand ran follow branch best_flow onwards nothing
    follow-within onward next h os i o = within_on (F next) (more (at next h os))
    follow-within away next h os i o = jump-within h os (target code next)
    follow-within either next h [] i o = record { most = zero-le; first = λ e k. never (cc) }
    follow-within either next h (true ∷ os) i o = taken-within h os (F next) (target code next)
    follow-within either next h (false ∷ os) i o = within-fall (F next) _ (more (at next h os))
    follow-within stop next h os i o = rw (ne_eqb x.place L i, ran) (record { most = omega arith; first = λ e k. left (sym o) })

  bounded : (n : ℕ) (x : State) → Bounded n x
  unfolding run_over executed
  bounded zero x = record { most = zero-le; first = λ e k. never (cc) }
  bounded (suc n) x = by (λ y. bounded n y)
    where
      by : ((y : State) → Bounded n y) → Bounded (suc n) x
      by more = by-step (λ t b. At n x x.outcomes t b) x (λ b a. broken-within n x more x.outcomes b a) (over-within n x more)
          (λ r h e g. follow-within n x more (flow r) (x.place + size r) g x.outcomes (λ k. let l = (start-holds s code x.place h).0 in omega arith) refl)

  -- ---- following its outcomes, a run that does not break off finishes with its count
  abbrev Ended : ℕ → ℕ → ℕ → Type 0
  Ended n p h = Ends (run_over S s code n (at p h (F p).outcomes)) (executed s code n (at p h (F p).outcomes)) (F p).count

  abbrev To : ℕ → State → Step → ℕ → Type 0
  To n x t count = Ends (stand x t (λ y. run_over S s code n y)) (ran L x t (λ y. executed s code n y)) count

  module _ (n : ℕ) (x : State) (more : (q h : ℕ) → x.place < q → Ended n q h) where
    jump-ends : (h : ℕ) (t : Option ℕ) → ((q : ℕ) → t ≡ some q → x.place < q) → To n x (jump h (best_to F t).outcomes t) (suc (best_to F t).count)
    unfolding stand ran jump best_to
    jump-ends h none f = broken off_code refl
    jump-ends h (some q) f = ends_on (more q h (f q refl))

    follow-ends : (w : Flow) (next h : ℕ) → (x.place ≡ L → ⊥) → x.place < next → (branches w ≡ true → (q : ℕ) → target code next ≡ some q → x.place < q) → x.outcomes ≡ (best_flow w code next F).outcomes
        → To n x (follow w code next h (best_flow w code next F).outcomes) (best_flow w code next F).count
    unfolding stand ran follow branch best_flow onwards nothing choose branches
    follow-ends onward next h i l f o = ends_on (more next h l)
    follow-ends away next h i l f o = jump-ends h (target code next) (f refl)
    follow-ends either next h i l f o = by (leb (best_to F (target code next)).count (F next).count)
      where
        by : (c : Bool) → To n x (branch code next h (choose c (F next) (best_to F (target code next))).outcomes) (choose c (F next) (best_to F (target code next))).count
        by true = ends_on (more next h l)
        by false = jump-ends h (target code next) (f refl)
    follow-ends stop next h i l f o = rw (ne_eqb x.place L i, ran) (done refl o refl)

  ends_more : (n p h : ℕ) → (has S p ≡ true → (q g : ℕ) → p < q → Ended n q g) → Ended (suc n) p h
  unfolding run_over executed stand ran nothing
  ends_more n p h more = by-step (λ t b. (F p).outcomes ≡ b.outcomes → To n x t b.count) x
      (λ b a o. broken b refl)
      (λ e o. rw (eq-eqb p L e, ran) (done refl o refl))
      (λ r a e g o.
      let z = size-positive r in
      let to = follow-ends n x (more a) (flow r) (p + size r) g (λ k. let l = (start-holds s code p a).0 in omega arith) (omega arith) (forward p r a e) o in
      subst (λ os. To n x (follow (flow r) code (p + size r) g os) (behind p r).count) (sym o) to)
      refl
    where
      x : State
      x = at p h (F p).outcomes

  follows : (n p h : ℕ) → L ≤ n + p → Ended (suc n) p h
  follows zero p h l = ends_more 0 p h (λ a. let k = (start-holds s code p a).0 in absurd (omega arith))
  follows (suc n) p h l = ends_more (suc n) p h (λ a q g k. follows n q g (omega arith))

  -- ---- code that passes never breaks off
  pub slowest : (depth : ℕ) → Passes s code depth → Slowest s code (longest s code 0).count (longest s code 0).outcomes
  unfolding stands start
  slowest depth passes = by (follows L 0 0 (omega arith))
    where
      by : Ended (suc L) 0 0 → Slowest s code (F 0).count (F 0).outcomes
      by (broken b e) = absurd ((passes.fine (F 0).outcomes (suc L)).whole b e)
      by (done e o k) = record {
        most = λ os n. (bounded n (start os)).most;
        steps = suc L;
        follows = record { how = e; unused = o; counted = k };
        first = λ os left n f. rw f.unused at ((bounded n (start os)).first f.how f.counted);
      }
