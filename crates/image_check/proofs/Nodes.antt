-- Code as a graph of nodes: its walks and its runs, as the definition has them, are those of the graph.
use Prim.Native.Nat.{ℕ, ◌+◌, suc, zero, ◌≤◌, ◌<◌}
use mathlib.Core.Path.{◌≡◌, refl, sym, ◌∙◌, ap, subst}
use mathlib.Core.List.{List, [], ◌∷◌}
use mathlib.Core.Bool.{Bool, true, false}
use mathlib.Core.Option.{Option, some, none}
use lib.ListN.{length, get_or}
use lib.Dec.{eqb, ltb}
use borrow.Author.Tests.{eq-eqb, ne_eqb, eqb-true, eqb-false, ltb-true, ltb-false, lt-ltb, le-ltb}
use native.Mathlib.Omega.{arith}
use native.Mathlib.Decide.{dec_le, dec_lt, ℕ_discrete}
use Rattle.definition.specs.Field.{has}
use Rattle.definition.specs.Opcode.{Role, Sheet, role_of, size, needs, effect, shift, Flow, onward, away, either, stop, flow}
use Rattle.definition.specs.Runs.{State, Break, off_code, empty_stack, Step, goes, finishes, waits, breaks, target, jump, branch, follow, out_of_outcomes, execute, step_over, Stand, stand, run_over, start}
use Rattle.definition.specs.Claims.{Either, left, right, FineOver}
use Rattle.definition.specs.Check.{starts, OneOf, here, later, exits, Walks, Off, Astray, stands, Meet, HeightFault, Passes, Answers}
use Rattle.field.proofs.Results.{never, some_is}
use Rattle.image_check.specs.Place.{halts, end_node, role_node, node_of, node_at}
use Rattle.image_check.specs.Graph.{Node, Nowhere, Walked, Reached, Strays, Faults, traversed, verdict}
use Rattle.runs.proofs.Steps.{over-end, over-off, over-start}
use Rattle.image_check.proofs.Traversal.{decided}
use Rattle.image_check.proofs.Starts.{start-holds}

node_by : Bool → Bool → Option Role → List ℕ → ℕ → Option Node
node_by end start r code p = elim end [ true ↦ some end_node | false ↦ elim start [ true ↦ node_of code p r | false ↦ none ] ]

unfoldable pub execute_by : Bool → Bool → Role → List ℕ → State → Step
execute_by o l r code x = elim o [ true ↦ waits | false ↦ elim l [ true ↦ breaks empty_stack | false ↦ follow (flow r) code (x.place + size r) (shift (effect r) x.height) x.outcomes ] ]

module _ (s : Sheet) (code : List ℕ) where
  abbrev pub S : List ℕ
  S = starts s code

  abbrev pub node : ℕ → Option Node
  node p = node_at s code (starts s code) p

  -- ---- nodes
  pub record RoleAt (p : ℕ) (nd : Node) : Type 0 where
    pub inside : p ≡ length code → ⊥
    pub start : has S p ≡ true
    pub role : Role
    pub known : role_of s (get_or code p 0) ≡ some role
    pub is : nd ≡ role_node code p role

  pub data NodeAt (p : ℕ) (nd : Node) : Type 0 where
    end : p ≡ length code → nd ≡ end_node → NodeAt p nd
    role : RoleAt p nd → NodeAt p nd

  pub node_end : (p : ℕ) → p ≡ length code → node p ≡ some end_node
  unfolding node_at node_by
  node_end p e = ap (λ b. node_by b (has S p) (role_of s (get_or code p 0)) code p) (eq-eqb p (length code) e)

  pub node-off : (p : ℕ) → (p ≡ length code → ⊥) → has S p ≡ false → node p ≡ none
  unfolding node_at node_by
  node-off p n h = ap (λ b. node_by b (has S p) (role_of s (get_or code p 0)) code p) (ne_eqb p (length code) n) ∙ ap (λ b. node_by false b (role_of s (get_or code p 0)) code p) h

  pub node-role : (p : ℕ) (r : Role) → has S p ≡ true → role_of s (get_or code p 0) ≡ some r → node p ≡ some (role_node code p r)
  unfolding node_at node_by node_of
  node-role p r h e =
      let l = (start-holds s code p h).0 in
      ap (λ b. node_by b (has S p) (role_of s (get_or code p 0)) code p) (ne_eqb p (length code) (λ k. omega arith))
      ∙ (ap (λ b. node_by false b (role_of s (get_or code p 0)) code p) h ∙ ap (λ b. node_by false true b code p) e)

  pub node-cases : (p : ℕ) (nd : Node) → node p ≡ some nd → NodeAt p nd
  node-cases p nd e = by (eqb p (length code)) refl (has S p) refl
    where
      by : (b : Bool) → eqb p (length code) ≡ b → (c : Bool) → has S p ≡ c → NodeAt p nd
      by true k c h = let q = eqb-true p (length code) k in end q (some_is (sym e ∙ node_end p q))
      by false k true h = let r = start-holds s code p h in role (record { inside = eqb-false p (length code) k; start = h; role = r.1; known = r.2; is = some_is (sym e ∙ node-role p r.1 h r.2) })
      by false k false h = let z : none ≡ some nd = sym (node-off p (eqb-false p (length code) k) h) ∙ e in never (cc)

  pub bounded : (p : ℕ) (nd : Node) → node p ≡ some nd → p ≤ length code
  bounded p nd e = by (node-cases p nd e)
    where
      by : NodeAt p nd → p ≤ length code
      by (end q x) = omega arith
      by (role r) = let l = (start-holds s code p r.start).0 in omega arith

  -- ---- walks
  walk-in : {q : Option ℕ} → Walks s code q → Walked node q
  unfolding role_node
  walk-in Walks.begins = Walked.begins
  walk-in (Walks.leads {p = p} {r = r} w h e i) = Walked.leads (walk-in w) (node-role p r h e) i

  walk-out : {q : Option ℕ} → Walked node q → Walks s code q
  unfolding role_node end_node
  walk-out Walked.begins = Walks.begins
  walk-out (Walked.leads {p = p} {nd = nd} {q = q} w k i) = by (walk-out w) (node-cases p nd k)
    where
      by : Walks s code (some p) → NodeAt p nd → Walks s code q
      by u (end x e) = elim (subst (λ (y : Node). OneOf q y.exits) e i) [ ]
      by u (role r) = Walks.leads u r.start r.known (subst (λ (y : Node). OneOf q y.exits) r.is i)

  off-in : (q : Option ℕ) → Off s code q → Nowhere node q
  unfolding Off Nowhere
  off-in none o = tt
  off-in (some p) o = node-off p o.1 o.0

  off-out : (q : Option ℕ) → Nowhere node q → Off s code q
  unfolding Off Nowhere
  off-out none o = tt
  off-out (some p) o = (by (has S p) refl, λ e. let z : none ≡ some end_node = sym o ∙ node_end p e in never (cc))
    where
      by : (b : Bool) → has S p ≡ b → b ≡ false
      by true h = let r = start-holds s code p h in let z : none ≡ some (role_node code p r.1) = sym o ∙ node-role p r.1 h r.2 in never (cc)
      by false h = refl

  pub astray-in : Astray s code → Strays node
  astray-in a = record { place = a.place; walk = walk-in a.walk; off = off-in a.place a.off }

  pub astray-out : Strays node → Astray s code
  astray-out a = record { place = a.place; walk = walk-out a.walk; off = off-out a.place a.off }

  -- ---- steps
  pub step-role : (x : State) (nd : Node) (a : RoleAt x.place nd) → step_over S s code x ≡ execute a.role code x
  step-role x nd a = over-start S s code x a.inside a.role a.start a.known

  pub execute-by : (r : Role) (x : State) (o l : Bool) → out_of_outcomes (flow r) x.outcomes ≡ o → ltb x.height (needs r) ≡ l → execute r code x ≡ execute_by o l r code x
  unfolding execute execute_by
  execute-by r x o l e k = ap (λ b. execute_by b (ltb x.height (needs r)) r code x) e ∙ ap (λ b. execute_by o b r code x) k

  -- ---- a step of a run, in the graph
  pub reach-walk : {p h : ℕ} → Reached node p h → Walked node (some p)
  reach-walk Reached.begins = Walked.begins
  reach-walk (Reached.leads r k le i e) = Walked.leads (reach-walk r) k i

  pub data Stepped (p h : ℕ) : Step → Type 0 where
    on : {y : State} → Reached node y.place y.height → Stepped p h (goes y)
    over : {nd : Node} → node p ≡ some nd → nd.stops ≡ true → Stepped p h finishes
    wait : Stepped p h waits
    low : {nd : Node} → node p ≡ some nd → h < nd.needs → Stepped p h (breaks empty_stack)
    lost : Strays node → Stepped p h (breaks off_code)

  module _ (p h : ℕ) (r : Role) (reach : Reached node p h) (k : node p ≡ some (role_node code p r)) (enough : needs r ≤ h) where
    some-stepped : (q : ℕ) (os : List Bool) → OneOf (some q) (exits (flow r) code (p + size r)) → Stepped p h (goes (record { place = q; height = shift (effect r) h; outcomes = os }))
    unfolding role_node
    some-stepped q os i = on (Reached.leads reach k enough i refl)

    jump-stepped : (os : List Bool) (t : Option ℕ) → OneOf t (exits (flow r) code (p + size r)) → Stepped p h (jump (shift (effect r) h) os t)
    unfolding jump role_node Nowhere
    jump-stepped os none i = lost (record { place = none; walk = Walked.leads (reach-walk reach) k i; off = tt })
    jump-stepped os (some q) i = some-stepped q os i

    branch-stepped : (os : List Bool) → OneOf (some (p + size r)) (exits (flow r) code (p + size r)) → OneOf (target code (p + size r)) (exits (flow r) code (p + size r)) → Stepped p h (branch code (p + size r) (shift (effect r) h) os)
    unfolding branch
    branch-stepped [] a b = wait
    branch-stepped (true ∷ os) a b = jump-stepped os (target code (p + size r)) b
    branch-stepped (false ∷ os) a b = some-stepped (p + size r) os a

    follow-stepped : (f : Flow) (os : List Bool) → flow r ≡ f → Stepped p h (follow f code (p + size r) (shift (effect r) h) os)
    unfolding follow exits role_node
    follow-stepped onward os e = some-stepped (p + size r) os (subst (λ y. OneOf (some (p + size r)) (exits y code (p + size r))) (sym e) (here refl))
    follow-stepped away os e = jump-stepped os (target code (p + size r)) (subst (λ y. OneOf (target code (p + size r)) (exits y code (p + size r))) (sym e) (here refl))
    follow-stepped either os e = branch-stepped os (subst (λ y. OneOf (some (p + size r)) (exits y code (p + size r))) (sym e) (here refl)) (subst (λ y. OneOf (target code (p + size r)) (exits y code (p + size r))) (sym e) (later (here refl)))
    follow-stepped stop os e = over k (ap halts e)

  execute-stepped : (x : State) (r : Role) → Reached node x.place x.height → node x.place ≡ some (role_node code x.place r) → Stepped x.place x.height (execute r code x)
  unfolding execute_by role_node
  execute-stepped x r reach k = by (out_of_outcomes (flow r) x.outcomes) refl (ltb x.height (needs r)) refl
    where
      by : (o : Bool) → out_of_outcomes (flow r) x.outcomes ≡ o → (l : Bool) → ltb x.height (needs r) ≡ l → Stepped x.place x.height (execute r code x)
      by true e l f = subst (λ y. Stepped x.place x.height y) (sym (execute-by r x true l e f)) wait
      by false e true f = subst (λ y. Stepped x.place x.height y) (sym (execute-by r x false true e f)) (low k (ltb-true x.height (needs r) f))
      by false e false f = subst (λ y. Stepped x.place x.height y) (sym (execute-by r x false false e f))
          (follow-stepped x.place x.height r reach k (ltb-false x.height (needs r) f) (flow r) x.outcomes refl)

  step-stepped : (x : State) → Reached node x.place x.height → Stepped x.place x.height (step_over S s code x)
  unfolding Nowhere Off end_node
  step-stepped x reach = by (node x.place) refl
    where
      cases : (nd : Node) → node x.place ≡ some nd → NodeAt x.place nd → Stepped x.place x.height (step_over S s code x)
      cases nd k (end e q) = subst (λ y. Stepped x.place x.height y) (sym (over-end S s code x e)) (over k (ap (λ (y : Node). y.stops) q))
      cases nd k (role a) = subst (λ y. Stepped x.place x.height y) (sym (step-role x nd a)) (execute-stepped x a.role reach (k ∙ ap (λ y. some y) a.is))

      by : (y : Option Node) → node x.place ≡ y → Stepped x.place x.height (step_over S s code x)
      by none k =
          let o = off-out (some x.place) k in
          subst (λ y. Stepped x.place x.height y) (sym (over-off S s code x o.1 o.0)) (lost (record { place = some x.place; walk = reach-walk reach; off = k }))
      by (some nd) k = cases nd k (node-cases x.place nd k)

  -- where a run stands
  pub record Stood (y : Stand) : Type 0 where
    pub reached : Reached node y.state.place y.state.height
    pub stepped : Stepped y.state.place y.state.height y.how

  pub run-stood : (n : ℕ) (x : State) → Reached node x.place x.height → Stood (run_over S s code n x)
  unfolding run_over stand
  run-stood zero x r = record { reached = r; stepped = on r }
  run-stood (suc n) x r = by (step_over S s code x) (step-stepped x r) (λ y q. run-stood n y q)
    where
      by : (t : Step) → Stepped x.place x.height t → ((y : State) → Reached node y.place y.height → Stood (run_over S s code n y)) → Stood (stand x t (λ y. run_over S s code n y))
      by (goes y) (on q) more = more y q
      by finishes q more = record { reached = r; stepped = q }
      by waits q more = record { reached = r; stepped = q }
      by (breaks b) q more = record { reached = r; stepped = q }

  pub stood : (os : List Bool) (n : ℕ) → Stood (stands s code os n)
  unfolding stands start
  stood os n = run-stood n (start os) Reached.begins

  -- ---- a run to each height that is reached
  abbrev pub going : State → Stand
  going y = record { state = y; how = goes y }

  -- one step more
  run_more : (n : ℕ) (x y : State) → run_over S s code n x ≡ going y → run_over S s code (suc n) x ≡ run_over S s code 1 y
  unfolding run_over stand
  run_more zero x y e = let q : x ≡ y = ap (λ (z : Stand). z.state) e in ap (λ z. run_over S s code 1 z) q
  run_more (suc n) x y e = by (step_over S s code x) e (λ z k. run_more n z y k)
    where
      by : (t : Step) → stand x t (λ z. run_over S s code n z) ≡ going y → ((z : State) → run_over S s code n z ≡ going y → run_over S s code (suc n) z ≡ run_over S s code 1 y) → stand x t (λ z. run_over S s code (suc n) z) ≡ run_over S s code 1 y
      by (goes z) k more = more z k
      by finishes k more = let z : finishes ≡ goes y = ap (λ (z : Stand). z.how) k in never (cc)
      by waits k more = let z : waits ≡ goes y = ap (λ (z : Stand). z.how) k in never (cc)
      by (breaks b) k more = let z : breaks b ≡ goes y = ap (λ (z : Stand). z.how) k in never (cc)

  abbrev pub at : ℕ → ℕ → List Bool → State
  at p h os = record { place = p; height = h; outcomes = os }

  -- outcomes over which an instruction leads to an exit
  module _ (p h : ℕ) (nd : Node) (a : RoleAt p nd) (enough : needs a.role ≤ h) where
    pub goes_on : (os : List Bool) → out_of_outcomes (flow a.role) os ≡ false → step_over S s code (at p h os) ≡ follow (flow a.role) code (p + size a.role) (shift (effect a.role) h) os
    unfolding execute_by
    goes_on os o = step-role (at p h os) nd a ∙ execute-by a.role (at p h os) false false o (le-ltb h (needs a.role) enough)

    leads-by : (q : ℕ) (rest : List Bool) (f : Flow) → flow a.role ≡ f → OneOf (some q) (exits f code (p + size a.role)) → (os : List Bool) × (step_over S s code (at p h os) ≡ goes (at q (shift (effect a.role) h) rest))
    unfolding exits follow branch jump out_of_outcomes
    leads-by q rest onward e (here x) = (
      rest,
      goes_on rest (ap (λ y. out_of_outcomes y rest) e) ∙ (ap (λ y. follow y code (p + size a.role) (shift (effect a.role) h) rest) e ∙ ap (λ y. goes (at y (shift (effect a.role) h) rest)) (some_is (sym x))),
    )
    leads-by q rest onward e (later i) = elim i [ ]
    leads-by q rest away e (here x) = (
      rest,
      goes_on rest (ap (λ y. out_of_outcomes y rest) e) ∙ (ap (λ y. follow y code (p + size a.role) (shift (effect a.role) h) rest) e ∙ ap (λ y. jump (shift (effect a.role) h) rest y) (sym x)),
    )
    leads-by q rest away e (later i) = elim i [ ]
    leads-by q rest either e (here x) = (
      false ∷ rest,
      goes_on (false ∷ rest) (ap (λ y. out_of_outcomes y (false ∷ rest)) e) ∙ (ap (λ y. follow y code (p + size a.role) (shift (effect a.role) h) (false ∷ rest)) e ∙ ap (λ y. goes (at y (shift (effect a.role) h) rest)) (some_is (sym x))),
    )
    leads-by q rest either e (later (here x)) = (
      true ∷ rest,
      goes_on (true ∷ rest) (ap (λ y. out_of_outcomes y (true ∷ rest)) e) ∙ (ap (λ y. follow y code (p + size a.role) (shift (effect a.role) h) (true ∷ rest)) e ∙ ap (λ y. jump (shift (effect a.role) h) rest y) (sym x)),
    )
    leads-by q rest either e (later (later i)) = elim i [ ]
    leads-by q rest stop e i = elim i [ ]

    -- or off the code
    lost-by : (f : Flow) → flow a.role ≡ f → OneOf none (exits f code (p + size a.role)) → (os : List Bool) × (step_over S s code (at p h os) ≡ breaks off_code)
    unfolding exits follow branch jump out_of_outcomes
    lost-by onward e (here x) = never (cc)
    lost-by onward e (later i) = elim i [ ]
    lost-by away e (here x) = ([], goes_on [] (ap (λ y. out_of_outcomes y []) e) ∙ (ap (λ y. follow y code (p + size a.role) (shift (effect a.role) h) []) e ∙ ap (λ y. jump (shift (effect a.role) h) [] y) (sym x)))
    lost-by away e (later i) = elim i [ ]
    lost-by either e (here x) = never (cc)
    lost-by either e (later (here x)) = (
      true ∷ [],
      goes_on (true ∷ []) (ap (λ y. out_of_outcomes y (true ∷ [])) e) ∙ (ap (λ y. follow y code (p + size a.role) (shift (effect a.role) h) (true ∷ [])) e ∙ ap (λ y. jump (shift (effect a.role) h) [] y) (sym x)),
    )
    lost-by either e (later (later i)) = elim i [ ]
    lost-by stop e i = elim i [ ]

  -- each height that is reached has its run, with any outcomes left
  pub record Runs (p h : ℕ) (rest : List Bool) : Type 0 where
    pub outcomes : List Bool
    pub steps : ℕ
    pub is : stands s code outcomes steps ≡ going (at p h rest)

  run_step : {p h : ℕ} {os : List Bool} → Runs p h os → (q g : ℕ) (rest : List Bool) → step_over S s code (at p h os) ≡ goes (at q g rest) → Runs q g rest
  unfolding run_over stand stands
  run_step {p = p} {h = h} {os = os} r q g rest e = record {
    outcomes = r.outcomes;
    steps = suc r.steps;
    is = run_more r.steps (start r.outcomes) (at p h os) r.is ∙ ap (λ t. stand (at p h os) t (λ z. going z)) e;
  }

  pub reach-runs : {p h : ℕ} → Reached node p h → (rest : List Bool) → Runs p h rest
  unfolding stands run_over start role_node end_node
  reach-runs Reached.begins rest = record { outcomes = rest; steps = 0; is = refl }
  reach-runs (Reached.leads {p = p} {g = g} {nd = nd} {q = q} {h = h} r k le i e) rest = by (node-cases p nd k) (λ os. reach-runs r os)
    where
      by : NodeAt p nd → ((os : List Bool) → Runs p g os) → Runs q h rest
      by (end x z) more = elim (subst (λ (y : Node). OneOf (some q) y.exits) z i) [ ]
      by (role a) more =
          let n : needs a.role ≤ g = subst (λ (y : Node). y.needs ≤ g) a.is le in
          let l = leads-by p g nd a n q rest (flow a.role) refl (subst (λ (y : Node). OneOf (some q) y.exits) a.is i) in
          let z : shift (effect a.role) g ≡ h = ap (λ (y : Node). shift y.effect g) (sym a.is) ∙ sym e in
          run_step (more l.0) q h rest (l.1 ∙ ap (λ y. goes (at q y rest)) z)

  run-last : {p h : ℕ} {os : List Bool} (r : Runs p h os) (t : Step) → step_over S s code (at p h os) ≡ t → stands s code r.outcomes (suc r.steps) ≡ stand (at p h os) t (λ z. going z)
  unfolding run_over stands
  run-last {p = p} {h = h} {os = os} r t e = run_more r.steps (start r.outcomes) (at p h os) r.is ∙ ap (λ t. stand (at p h os) t (λ z. going z)) e

  -- ---- faults
  out_some : (f : Flow) → out_of_outcomes f (true ∷ []) ≡ false
  unfolding out_of_outcomes
  out_some onward = refl
  out_some away = refl
  out_some either = refl
  out_some stop = refl

  halts-stop : (f : Flow) → halts f ≡ true → f ≡ stop
  halts-stop onward e = never (cc)
  halts-stop away e = never (cc)
  halts-stop either e = never (cc)
  halts-stop stop e = refl

  module _ (depth : ℕ) where
    low-out : (p g : ℕ) (nd : Node) (a : RoleAt p nd) → Reached node p g → g < needs a.role → HeightFault s code depth
    unfolding execute_by stand
    low-out p g nd a r lt =
        let w = reach-runs r (true ∷ []) in
        let e = run-last w (breaks empty_stack) (step-role (at p g (true ∷ [])) nd a ∙ execute-by a.role (at p g (true ∷ [])) false true (out_some (flow a.role)) (lt-ltb g (needs a.role) lt)) in
        HeightFault.empty w.outcomes (suc w.steps) (ap (λ (y : Stand). y.how) e)

    finish-out : (p g : ℕ) → Reached node p g → step_over S s code (at p g []) ≡ finishes → 0 < g → HeightFault s code depth
    unfolding stand
    finish-out p g r f lt =
        let w = reach-runs r [] in
        let e = run-last w finishes f in
        HeightFault.unempty w.outcomes (suc w.steps) (ap (λ (y : Stand). y.how) e) (subst (λ (y : Stand). 0 < y.state.height) (sym e) lt)

    stop-out : (p g : ℕ) (nd : Node) (a : RoleAt p nd) → Reached node p g → halts (flow a.role) ≡ true → 0 < g → HeightFault s code depth
    unfolding follow out_of_outcomes
    stop-out p g nd a r h lt = by (dec_lt g (needs a.role))
      where
        f : flow a.role ≡ stop
        f = halts-stop (flow a.role) h

        by : Dec (g < needs a.role) → HeightFault s code depth
        by (yes l) = low-out p g nd a r l
        by (no l) = finish-out p g r (goes_on p g nd a (omega (arith, l)) [] (ap (λ y. out_of_outcomes y []) f) ∙ ap (λ y. follow y code (p + size a.role) (shift (effect a.role) g) []) f) lt

    pub fault-out : Faults node depth → HeightFault s code depth
    unfolding role_node end_node
    fault-out (Faults.above r k lt) = let w = reach-runs r [] in HeightFault.above w.outcomes w.steps (subst (λ (y : Stand). depth < y.state.height) (sym w.is) lt)
    fault-out (Faults.empty {p = p} {g = g} {nd = nd} r k lt) = by (node-cases p nd k)
      where
        by : NodeAt p nd → HeightFault s code depth
        by (end x e) = let z : g < 0 = subst (λ (y : Node). g < y.needs) e lt in absurd (omega arith)
        by (role a) = low-out p g nd a r (subst (λ (y : Node). g < y.needs) a.is lt)
    fault-out (Faults.unempty {p = p} {g = g} {nd = nd} r k h lt) = by (node-cases p nd k)
      where
        by : NodeAt p nd → HeightFault s code depth
        by (end x e) = finish-out p g r (over-end S s code (at p g []) x) lt
        by (role a) = stop-out p g nd a r (ap (λ (y : Node). y.stops) (sym a.is) ∙ h) lt
    fault-out (Faults.twice {p = p} {g = g} {h = h} {nd = nd} r q k n) = by (node-cases p nd k)
      where
        ended : p ≡ length code → Dec (0 < g) → HeightFault s code depth
        ended x (yes l) = finish-out p g r (over-end S s code (at p g []) x) l
        ended x (no l) = finish-out p h q (over-end S s code (at p h []) x) (above-0 (dec_lt 0 h))
          where
            above-0 : Dec (0 < h) → 0 < h
            above-0 (yes m) = m
            above-0 (no m) = absurd (n (omega (arith, l, m)))

        by : NodeAt p nd → HeightFault s code depth
        by (end x e) = ended x (dec_lt 0 g)
        by (role a) =
            let v = reach-runs r [] in
            let w = reach-runs q [] in
            HeightFault.twice v.outcomes w.outcomes v.steps w.steps
            (record { start = subst (λ (y : Stand). has S y.state.place ≡ true) (sym v.is) a.start; same = ap (λ (y : Stand). y.state.place) v.is ∙ sym (ap (λ (y : Stand). y.state.place) w.is) })
            (λ e. n (sym (ap (λ (y : Stand). y.state.height) v.is) ∙ (e ∙ ap (λ (y : Stand). y.state.height) w.is)))

    module _ (sound : Strays node → ⊥) where
      -- whoever is reached is a node
      pub noded : {p h : ℕ} → Reached node p h → (nd : Node) × (node p ≡ some nd)
      unfolding Nowhere
      noded {p = p} r = by (node p) refl
        where
          by : (x : Option Node) → node p ≡ x → (nd : Node) × (x ≡ some nd)
          by none k = absurd (sound (record { place = some p; walk = reach-walk r; off = k }))
          by (some nd) k = (nd, refl)

      empty-in : (p h : ℕ) (t : Step) → Reached node p h → Stepped p h t → t ≡ breaks empty_stack → Faults node depth
      empty-in p h (goes y) r x e = never (cc)
      empty-in p h finishes r x e = never (cc)
      empty-in p h waits r x e = never (cc)
      empty-in p h (breaks empty_stack) r (low k lt) e = Faults.empty r k lt
      empty-in p h (breaks off_code) r (lost a) e = absurd (sound a)

      unempty-in : (p h : ℕ) (t : Step) → Reached node p h → Stepped p h t → t ≡ finishes → 0 < h → Faults node depth
      unempty-in p h (goes y) r x e lt = never (cc)
      unempty-in p h finishes r (over k z) e lt = Faults.unempty r k z lt
      unempty-in p h waits r x e lt = never (cc)
      unempty-in p h (breaks b) r x e lt = never (cc)

      pub fault-in : HeightFault s code depth → Faults node depth
      fault-in (HeightFault.above os n lt) = let w = stood os n in Faults.above w.reached (noded w.reached).1 lt
      fault-in (HeightFault.empty os n e) = let w = stood os n in empty-in _ _ _ w.reached w.stepped e
      fault-in (HeightFault.unempty os n e lt) = let w = stood os n in unempty-in _ _ _ w.reached w.stepped e lt
      fault-in (HeightFault.twice os₁ os₂ n₁ n₂ m n) =
          let v = stood os₁ n₁ in
          let w = stood os₂ n₂ in
          let r = subst (λ y. Reached node y (stands s code os₂ n₂).state.height) (sym m.same) w.reached in
          Faults.twice v.reached r (noded v.reached).1 n

    -- ---- what passes
    whole-at : (p h : ℕ) (t : Step) → (Strays node → ⊥) → Stepped p h t → (t ≡ breaks empty_stack → ⊥) → (b : Break) → t ≡ breaks b → ⊥
    whole-at p h (goes y) sound x f b e = never (cc)
    whole-at p h finishes sound x f b e = never (cc)
    whole-at p h waits sound x f b e = never (cc)
    whole-at p h (breaks empty_stack) sound x f b e = f refl
    whole-at p h (breaks off_code) sound (lost a) f b e = sound a

    pub passes-in : (Astray s code → ⊥) → (HeightFault s code depth → ⊥) → Passes s code depth
    passes-in sound good = record { fine = fine; once = once }
      where
        here-is : {p : ℕ} {nd : Node} → NodeAt p nd → Either (has S p ≡ true) (p ≡ length code)
        here-is (end x e) = right x
        here-is (role a) = left a.start

        at-most : (a b : ℕ) → (b < a → ⊥) → a ≤ b
        at-most a b f = omega (arith, f)

        fine : (os : List Bool) (n : ℕ) → FineOver (starts s code) code depth (stands s code os n)
        fine os n =
            let w = stood os n in
            let k = noded (λ a. sound (astray-out a)) w.reached in
            record {
              place = here-is (node-cases _ _ k.1);
              whole = whole-at _ _ _ (λ a. sound (astray-out a)) w.stepped (λ e. good (HeightFault.empty os n e));
              low = at-most _ _ (λ l. good (HeightFault.above os n l));
              empty = λ e. let z : (stands s code os n).state.height ≤ 0 = at-most _ _ (λ l. good (HeightFault.unempty os n e l)) in omega arith;
            }

        once : (os₁ os₂ : List Bool) (n₁ n₂ : ℕ) → Meet s code (stands s code os₁ n₁) (stands s code os₂ n₂) → (stands s code os₁ n₁).state.height ≡ (stands s code os₂ n₂).state.height
        once os₁ os₂ n₁ n₂ m = by (ℕ_discrete (stands s code os₁ n₁).state.height (stands s code os₂ n₂).state.height)
          where
            by : Dec ((stands s code os₁ n₁).state.height ≡ (stands s code os₂ n₂).state.height) → (stands s code os₁ n₁).state.height ≡ (stands s code os₂ n₂).state.height
            by (yes q) = q
            by (no q) = absurd (good (HeightFault.twice os₁ os₂ n₁ n₂ m q))

    module _ (passes : Passes s code depth) where
      pub passes-good : HeightFault s code depth → ⊥
      passes-good (HeightFault.above os n lt) = let l = (passes.fine os n).low in omega arith
      passes-good (HeightFault.empty os n e) = (passes.fine os n).whole empty_stack e
      passes-good (HeightFault.unempty os n e lt) = let l = (passes.fine os n).empty e in omega arith
      passes-good (HeightFault.twice os₁ os₂ n₁ n₂ m n) = n (passes.once os₁ os₂ n₁ n₂ m)

      -- no walk is longer than some run, since none is held up
      Comes : Option ℕ → Type 0
      Comes none = ⊥
      Comes (some p) = (h : ℕ) × Reached node p h

      lost-never : (p g : ℕ) (nd : Node) → Reached node p g → nd.needs ≤ g → OneOf none nd.exits → NodeAt p nd → ⊥
      unfolding stand role_node end_node
      lost-never p g nd r le i (end x e) = elim (subst (λ (y : Node). OneOf none y.exits) e i) [ ]
      lost-never p g nd r le i (role a) =
          let l = lost-by p g nd a (subst (λ (y : Node). y.needs ≤ g) a.is le) (flow a.role) refl (subst (λ (y : Node). OneOf none y.exits) a.is i) in
          let w = reach-runs r l.0 in
          (passes.fine w.outcomes (suc w.steps)).whole off_code (ap (λ (y : Stand). y.how) (run-last w (breaks off_code) l.1))

      comes : {q : Option ℕ} → Walked node q → Comes q
      unfolding Comes
      comes Walked.begins = (0, Reached.begins)
      comes (Walked.leads {p = p} {nd = nd} {q = q} w k i) = by (comes w) q i
        where
          enough : (g : ℕ) → Reached node p g → Dec (nd.needs ≤ g) → nd.needs ≤ g
          enough g r (yes l) = l
          enough g r (no l) = absurd (passes-good (fault-out (Faults.empty r k (omega (arith, l)))))

          by : (h : ℕ) × Reached node p h → (x : Option ℕ) → OneOf x nd.exits → Comes x
          by a none j = lost-never p a.0 nd a.1 (enough a.0 a.1 (dec_le nd.needs a.0)) j (node-cases p nd k)
          by a (some x) j = (shift nd.effect a.0, Reached.leads a.1 k (enough a.0 a.1 (dec_le nd.needs a.0)) j refl)

      pub passes-sound : Astray s code → ⊥
      unfolding Comes Off
      passes-sound a = by a.place (comes (walk-in a.walk)) a.off
        where
          apart : (p : ℕ) → Either (has S p ≡ true) (p ≡ length code) → Off s code (some p) → ⊥
          apart p (left h) o = let z = o.0 in never (cc)
          apart p (right e) o = o.1 e

          by : (q : Option ℕ) → Comes q → Off s code q → ⊥
          by none c o = c
          by (some p) c o = let w = reach-runs c.1 [] in apart p (subst (λ (y : Stand). Either (has S y.state.place ≡ true) (y.state.place ≡ length code)) w.is (passes.fine w.outcomes w.steps).place) o

  pub answers : (depth : ℕ) → Answers s code depth (verdict (traversed node depth (length code)))
  answers depth =
      let d = decided node depth (length code) bounded in
      record {
        strays = (λ e. astray-out (d.strays.0 e), λ a. d.strays.1 (astray-in a));
        faults = (λ e. let f = d.faults.0 e in (λ a. f.0 (astray-in a), fault-out depth f.1), λ f. d.faults.1 (λ a. f.0 (astray-out a), fault-in depth (λ a. f.0 (astray-out a)) f.1));
        neither = (λ e. let f = d.neither.0 e in (λ a. f.0 (astray-in a), λ h. f.1 (fault-in depth f.0 h)), λ f. d.neither.1 (λ a. f.0 (astray-out a), λ h. f.1 (fault-out depth h)));
        passes = (
          λ e. let f = d.neither.0 e in passes-in depth (λ a. f.0 (astray-in a)) (λ h. f.1 (fault-in depth f.0 h)),
          λ p. d.neither.1 (λ a. passes-sound depth p (astray-out a), λ h. passes-good depth p (fault-out depth h)),
        );
      }
