-- The two foldings, on calls: a load behind a load of the same variable is a DUP; one behind a store of it is a DUP before the store, and the load is gone. What
-- is left is run by the same machine, and comes to the same.
use Prim.Native.Nat.{ℕ, suc, zero}
use mathlib.Core.Path.{◌≡◌, refl, sym, ◌∙◌, ap, subst}
use mathlib.Core.List.{List, [], ◌∷◌}
use mathlib.Core.Bool.{Bool, true, false}
use mathlib.Core.Option.{Option, some, none}
use lib.Dec.{eqb}
use borrow.Author.Tests.{eqb-true, eq-eqb}
use Rattle.definition.specs.Opcode.{Role, dup, pop, load_var, store_var, load_const, load_true, load_false, arithmetic, logic, neg, bool_not, compare, jmp, jmp_if_not, cmp_br, ret}
use Rattle.definition.specs.Emit.{Call, create_label, bind_label, load_variable, store_variable, load_constant, add_constant, emit_opcode, emit_jmp, emit_jmp_if_not, emit_cmp_br, reset_stack_depth, set_position, refused, Last, other, loaded, stored}
use Rattle.definition.specs.Iec.{truth, calculate, Values, compared}
use Rattle.definition.specs.Iec as iec
use Rattle.definition.specs.Count.{one_if}
use Rattle.field.proofs.Results.{never}
use Rattle.counting.proofs.Once.{is_bind}
use Rattle.runs.proofs.Heights.{aim}
use Rattle.meaning.proofs.Calls.{State, Step, goes, finishes, stops, breaks, here, at, behind, behind-past, pop_one, pop_two, on_one, on-two, calculated, operated, chosen, called, step_at, step, is_branch, branch_at, Reach, still, onward, Jump, Halt, Finish, Lasts, enough, along, over, reach-then, jump-reach, reach-lasts, jump-lasts}

-- is the next instruction a load of v, with no label bound before it?
unfoldable pub pends : ℕ → List Call → Bool
pends v [] = false
pends v (create_label h ∷ cs) = pends v cs
pends v (bind_label l ∷ cs) = false
pends v (load_variable u ∷ cs) = eqb v u
pends v (store_variable u ∷ cs) = false
pends v (load_constant k ∷ cs) = false
pends v (add_constant k ∷ cs) = pends v cs
pends v (emit_opcode r ∷ cs) = false
pends v (emit_jmp l ∷ cs) = false
pends v (emit_jmp_if_not l ∷ cs) = false
pends v (emit_cmp_br c u k l ∷ cs) = false
pends v (reset_stack_depth h ∷ cs) = pends v cs
pends v (set_position p ∷ cs) = pends v cs
pends v (refused f ∷ cs) = false

-- the calls behind an instruction, folded
unfoldable pub fold : Last → List Call → List Call
fold t [] = []
fold t (create_label h ∷ cs) = create_label h ∷ fold t cs
fold t (bind_label l ∷ cs) = bind_label l ∷ fold other cs
fold other (load_variable v ∷ cs) = load_variable v ∷ fold (loaded v) cs
fold (loaded u) (load_variable v ∷ cs) = elim (eqb u v) [ true ↦ emit_opcode dup ∷ fold other cs | false ↦ load_variable v ∷ fold (loaded v) cs ]
fold (stored u) (load_variable v ∷ cs) = elim (eqb u v) [ true ↦ fold other cs | false ↦ load_variable v ∷ fold (loaded v) cs ]
fold t (store_variable v ∷ cs) = elim (pends v cs) [ true ↦ emit_opcode dup ∷ store_variable v ∷ fold (stored v) cs | false ↦ store_variable v ∷ fold (stored v) cs ]
fold t (load_constant k ∷ cs) = load_constant k ∷ fold other cs
fold t (add_constant k ∷ cs) = add_constant k ∷ fold t cs
fold t (emit_opcode r ∷ cs) = emit_opcode r ∷ fold other cs
fold t (emit_jmp l ∷ cs) = emit_jmp l ∷ fold other cs
fold t (emit_jmp_if_not l ∷ cs) = emit_jmp_if_not l ∷ fold other cs
fold t (emit_cmp_br c u k l ∷ cs) = emit_cmp_br c u k l ∷ fold other cs
fold t (reset_stack_depth h ∷ cs) = reset_stack_depth h ∷ fold t cs
fold t (set_position p ∷ cs) = set_position p ∷ fold t cs
fold t (refused f ∷ cs) = refused f ∷ fold other cs

-- what folding makes of a call in front of the calls cs: it is kept, a load is a DUP or is gone, or a store has a DUP before it
pub data Folds (cs : List Call) : Call → List Call → Type 0 where
  kept : {c : Call} (t : Last) → ((l : ℕ) → is_bind l c ≡ 0) → Folds cs c (c ∷ fold t cs)
  label : {l : ℕ} → Folds cs (bind_label l) (bind_label l ∷ fold other cs)
  again : {v : ℕ} → Folds cs (load_variable v) (emit_opcode dup ∷ fold other cs)
  gone : {v : ℕ} → Folds cs (load_variable v) (fold other cs)
  twice : {v : ℕ} → Folds cs (store_variable v) (emit_opcode dup ∷ store_variable v ∷ fold (stored v) cs)

pub fold-call : (c : Call) (t : Last) (cs : List Call) → Folds cs c (fold t (c ∷ cs))
unfolding fold is_bind
fold-call (create_label h) t cs = kept t (λ l. refl)
fold-call (bind_label l) t cs = label
fold-call (load_variable v) other cs = kept (loaded v) (λ l. refl)
fold-call (load_variable v) (loaded u) cs = go (eqb u v)
  where
    go : (b : Bool) → Folds cs (load_variable v) (elim b [ true ↦ emit_opcode dup ∷ fold other cs | false ↦ load_variable v ∷ fold (loaded v) cs ])
    go true = again
    go false = kept (loaded v) (λ l. refl)
fold-call (load_variable v) (stored u) cs = go (eqb u v)
  where
    go : (b : Bool) → Folds cs (load_variable v) (elim b [ true ↦ fold other cs | false ↦ load_variable v ∷ fold (loaded v) cs ])
    go true = gone
    go false = kept (loaded v) (λ l. refl)
fold-call (store_variable v) t cs = go (pends v cs)
  where
    go : (b : Bool) → Folds cs (store_variable v) (elim b [ true ↦ emit_opcode dup ∷ store_variable v ∷ fold (stored v) cs | false ↦ store_variable v ∷ fold (stored v) cs ])
    go true = twice
    go false = kept (stored v) (λ l. refl)
fold-call (load_constant k) t cs = kept other (λ l. refl)
fold-call (add_constant k) t cs = kept t (λ l. refl)
fold-call (emit_opcode r) t cs = kept other (λ l. refl)
fold-call (emit_jmp k) t cs = kept other (λ l. refl)
fold-call (emit_jmp_if_not k) t cs = kept other (λ l. refl)
fold-call (emit_cmp_br c u k m) t cs = kept other (λ l. refl)
fold-call (reset_stack_depth h) t cs = kept t (λ l. refl)
fold-call (set_position p) t cs = kept t (λ l. refl)
fold-call (refused f) t cs = kept other (λ l. refl)

-- a label is found at the same place
behind-call : (l : ℕ) (c : Call) (cs ds : List Call) → Folds cs c ds → ((t : Last) → behind l (fold t cs) ≡ fold other (behind l cs)) → behind l ds ≡ fold other (behind l (c ∷ cs))
unfolding behind is_bind
behind-call l c cs ds (kept t n) same = behind-past l c (fold t cs) (n l) ∙ (same t ∙ ap (fold other) (sym (behind-past l c cs (n l))))
behind-call l c cs ds (label {l = k}) same = go (one_if (eqb k l))
  where
    go : (n : ℕ) → elim n [ zero ↦ behind l (fold other cs) | suc m ↦ fold other cs ] ≡ fold other (elim n [ zero ↦ behind l cs | suc m ↦ cs ])
    go zero = same other
    go (suc m) = refl
behind-call l c cs ds again same = same other
behind-call l c cs ds gone same = same other
behind-call l c cs ds (twice {v = v}) same = same (stored v)

behind-fold : (l : ℕ) (t : Last) (cs : List Call) → behind l (fold t cs) ≡ fold other (behind l cs)
unfolding behind fold
behind-fold l t [] = refl
behind-fold l t (c ∷ cs) = behind-call l c cs _ (fold-call c t cs) (λ u. behind-fold l u cs)

-- ---- a state and its folded one: between a store and its folded load the stack holds one value more, that of the variable; behind a load that
-- is tracked the top is that of the variable

unfoldable pub ahead : Bool → ℕ → List ℕ → List ℕ
ahead true x st = x ∷ st
ahead false x st = st

unfoldable pub Match : Last → List Call → List ℕ → Values → List ℕ → Type 0
Match other cs st σ st' = st' ≡ st
Match (loaded v) cs st σ st' = (st' ≡ st) × ((r : List ℕ) × (st ≡ σ v ∷ r))
Match (stored v) cs st σ st' = st' ≡ ahead (pends v cs) (σ v) st

module _ (code : List Call) (w : ℕ) where
  abbrev code' : List Call
  code' = fold other code

  unfoldable pub Moves : Bool → State → State → Type 0
  Moves true x y = Jump code' w x y
  Moves false x y = Reach code' w x y

  -- the folded state goes where the state goes
  pub record Next (b : Bool) (x' y : State) : Type 0 where
    pub tracker : Last
    pub stack : List ℕ
    pub moves : Moves b x' (here (fold tracker y.rest) stack y.values)
    pub match : Match tracker y.rest y.stack y.values stack

  unfoldable pub Simulated : Bool → Step → State → Type 0
  Simulated b (goes y) x' = Next b x' y
  Simulated b finishes x' = step code' w x' ≡ finishes
  Simulated b stops x' = step code' w x' ≡ stops
  Simulated b breaks x' = Unit {0}

  -- no load is pending
  straight : (t : Last) (cs : List Call) (st : List ℕ) (σ : Values) (st' : List ℕ) → ((v : ℕ) → pends v cs ≡ false) → Match t cs st σ st' → st' ≡ st
  unfolding Match ahead
  straight other cs st σ st' n m = m
  straight (loaded v) cs st σ st' n m = m.0
  straight (stored v) cs st σ st' n m = m ∙ ap (λ b. ahead b (σ v) st) (n v)

  -- a call that is no instruction changes nothing
  quiet : (t : Last) (c : Call) (cs : List Call) (st : List ℕ) (σ : Values) (st' : List ℕ) → ((v : ℕ) → pends v (c ∷ cs) ≡ pends v cs) → Match t (c ∷ cs) st σ st' → Match t cs st σ st'
  unfolding Match
  quiet other c cs st σ st' n m = m
  quiet (loaded v) c cs st σ st' n m = m
  quiet (stored v) c cs st σ st' n m = m ∙ ap (λ b. ahead b (σ v) st) (n v)

  -- one step, behind which nothing is tracked
  moved : (x' : State) (cs : List Call) (st : List ℕ) (σ : Values) → step code' w x' ≡ goes (here (fold other cs) st σ) → Next false x' (here cs st σ)
  unfolding Moves Match here
  moved x' cs st σ e = record { tracker = other; stack = st; moves = onward e still; match = refl }

  -- an instruction of one byte
  abbrev Sim : Role → List Call → Values → Step → List ℕ → Type 0
  Sim r cs σ z st = Simulated false z (here (emit_opcode r ∷ fold other cs) st σ)

  op-sim : (r : Role) (cs : List Call) (st : List ℕ) (σ : Values) → Sim r cs σ (operated w r cs st σ) st
  unfolding operated pop_one pop_two calculated at Simulated step step_at called here
  op-sim dup cs st σ = on_one (Sim dup cs σ) st _ (λ s. tt) (λ a r. moved _ cs _ σ refl)
  op-sim pop cs st σ = on_one (Sim pop cs σ) st _ (λ s. tt) (λ a r. moved _ cs _ σ refl)
  op-sim load_var cs st σ = tt
  op-sim store_var cs st σ = tt
  op-sim load_const cs st σ = tt
  op-sim load_true cs st σ = moved _ cs _ σ refl
  op-sim load_false cs st σ = moved _ cs _ σ refl
  op-sim (arithmetic o) cs st σ = on-two (Sim (arithmetic o) cs σ) st _ (λ s. tt) (λ a b r. go a b r (calculate w o a b) refl)
    where
      go : (a b : ℕ) (r : List ℕ) (x : Option ℕ) → calculate w o a b ≡ x → Sim (arithmetic o) cs σ (calculated x cs r σ) (b ∷ a ∷ r)
      go a b r none e = ap (λ x. calculated x (fold other cs) r σ) e
      go a b r (some x) e = moved _ cs _ σ (ap (λ x. calculated x (fold other cs) r σ) e)
  op-sim (logic o) cs st σ = on-two (Sim (logic o) cs σ) st _ (λ s. tt) (λ a b r. moved _ cs _ σ refl)
  op-sim neg cs st σ = on_one (Sim neg cs σ) st _ (λ s. tt) (λ a r. moved _ cs _ σ refl)
  op-sim bool_not cs st σ = on_one (Sim bool_not cs σ) st _ (λ s. tt) (λ a r. moved _ cs _ σ refl)
  op-sim (compare c) cs st σ = on-two (Sim (compare c) cs σ) st _ (λ s. tt) (λ a b r. moved _ cs _ σ refl)
  op-sim jmp cs st σ = tt
  op-sim jmp_if_not cs st σ = tt
  op-sim cmp_br cs st σ = tt
  op-sim ret cs st σ = refl

  chosen-fold : (b : Bool) (x y : List Call) {x' y' : List Call} → x' ≡ fold other x → y' ≡ fold other y → chosen b x' y' ≡ fold other (chosen b x y)
  unfolding chosen
  chosen-fold true x y p q = p
  chosen-fold false x y p q = q

  -- a load behind a load, and one behind a store
  load-plain : (v : ℕ) (cs : List Call) (st : List ℕ) (σ : Values) (st' : List ℕ) → st' ≡ st → Next false (here (load_variable v ∷ fold (loaded v) cs) st' σ) (here cs (σ v ∷ st) σ)
  unfolding Moves Match step step_at called at here
  load-plain v cs st σ st' e = record { tracker = loaded v; stack = σ v ∷ st'; moves = onward refl still; match = (ap (λ x. σ v ∷ x) e, (st, refl)) }

  load-dup : (u v : ℕ) (cs : List Call) (st r : List ℕ) (σ : Values) (st' : List ℕ) → u ≡ v → st' ≡ st → st ≡ σ u ∷ r → Next false (here (emit_opcode dup ∷ fold other cs) st' σ) (here cs (σ v ∷ st) σ)
  unfolding Moves Match step step_at called operated pop_one at here
  load-dup u v cs st r σ st' q e f = record {
    tracker = other;
    stack = σ v ∷ st;
    moves = onward
        (ap (λ x. pop_one x λ a rest. at (fold other cs) (a ∷ a ∷ rest) σ) (e ∙ f) ∙ (ap (λ x. at (fold other cs) (σ u ∷ x) σ) (sym f) ∙ ap (λ k. at (fold other cs) (σ k ∷ st) σ) q)) still;
    match = refl;
  }

  loads : (t : Last) (v : ℕ) (cs : List Call) (st : List ℕ) (σ : Values) (st' : List ℕ) → Match t (load_variable v ∷ cs) st σ st' → Next false (here (fold t (load_variable v ∷ cs)) st' σ) (here cs (σ v ∷ st) σ)
  unfolding fold Match pends ahead Moves here
  loads other v cs st σ st' m = load-plain v cs st σ st' m
  loads (loaded u) v cs st σ st' m = go (eqb u v) refl
    where
      go : (b : Bool) → eqb u v ≡ b → Next false (here (elim b [ true ↦ emit_opcode dup ∷ fold other cs | false ↦ load_variable v ∷ fold (loaded v) cs ]) st' σ) (here cs (σ v ∷ st) σ)
      go true e = load-dup u v cs st m.1.0 σ st' (eqb-true u v e) m.0 m.1.1
      go false e = load-plain v cs st σ st' m.0
  loads (stored u) v cs st σ st' m = go (eqb u v) refl m
    where
      go : (b : Bool) → eqb u v ≡ b → st' ≡ ahead b (σ u) st → Next false (here (elim b [ true ↦ fold other cs | false ↦ load_variable v ∷ fold (loaded v) cs ]) st' σ) (here cs (σ v ∷ st) σ)
      go true e q = record { tracker = other; stack = st'; moves = still; match = q ∙ ap (λ k. σ k ∷ st) (eqb-true u v e) }
      go false e q = load-plain v cs st σ st' q

  stores : (t : Last) (v a : ℕ) (cs : List Call) (st : List ℕ) (σ : Values) → Next false (here (fold t (store_variable v ∷ cs)) (a ∷ st) σ) (here cs st (iec.stored σ v a))
  unfolding fold Match ahead Moves step step_at called operated pop_one at here iec.stored
  stores t v a cs st σ = go (pends v cs) refl
    where
      go : (b : Bool) → pends v cs ≡ b
          → Next false (here (elim b [ true ↦ emit_opcode dup ∷ store_variable v ∷ fold (stored v) cs | false ↦ store_variable v ∷ fold (stored v) cs ]) (a ∷ st) σ) (here cs st (iec.stored σ v a))
      go true e = record {
        tracker = stored v;
        stack = a ∷ st;
        moves = onward refl (onward refl still);
        match = ap (λ x. x ∷ st) (sym (ap (λ (b : Bool). elim b [ true ↦ a | false ↦ σ v ]) (eq-eqb v v refl))) ∙ sym (ap (λ b. ahead b (iec.stored σ v a v) st) e);
      }
      go false e = record { tracker = stored v; stack = st; moves = onward refl still; match = sym (ap (λ b. ahead b (iec.stored σ v a v) st) e) }

  -- ---- one call

  -- one that is no instruction, and a branch
  stays : (t : Last) (c : Call) (cs : List Call) (st : List ℕ) (σ : Values) (st' : List ℕ) → step code' w (here (c ∷ fold t cs) st' σ) ≡ at (fold t cs) st' σ → ((v : ℕ) → pends v (c ∷ cs) ≡ pends v cs) → Match t (c ∷ cs) st σ st'
      → Next false (here (c ∷ fold t cs) st' σ) (here cs st σ)
  unfolding Moves here at
  stays t c cs st σ st' e n m = record { tracker = t; stack = st'; moves = onward e still; match = quiet t c cs st σ st' n m }

  branches : (c : Call) (cs y : List Call) (st : List ℕ) (σ : Values) (st₁ st₂ : List ℕ) → is_branch c ≡ true → step code' w (here (c ∷ fold other cs) st₁ σ) ≡ at (fold other y) st₂ σ → st₂ ≡ st → Next true (here (c ∷ fold other cs) st₁ σ) (here y st σ)
  unfolding Moves Match here at branch_at
  branches c cs y st σ st₁ st₂ b e m = record { tracker = other; stack = st₂; moves = record { from = here (c ∷ fold other cs) st₁ σ; there = still; branch = b; goes = e }; match = m }

  sim : (c : Call) (cs : List Call) (t : Last) (st : List ℕ) (σ : Values) (st' : List ℕ) → Match t (c ∷ cs) st σ st' → Simulated (is_branch c) (called code w c cs st σ) (here (fold t (c ∷ cs)) st' σ)
  unfolding called Simulated is_branch aim pends fold Moves Match pop_one step step_at at here branch_at
  sim (create_label h) cs t st σ st' m = stays t (create_label h) cs st σ st' refl (λ v. refl) m
  sim (bind_label l) cs t st σ st' m = record { tracker = other; stack = st'; moves = onward refl still; match = straight t (bind_label l ∷ cs) st σ st' (λ v. refl) m }
  sim (load_variable v) cs t st σ st' m = loads t v cs st σ st' m
  sim (store_variable v) cs t [] σ st' m = tt
  sim (store_variable v) cs t (a ∷ st) σ st' m =
      subst (λ x. Next false (here (fold t (store_variable v ∷ cs)) x σ) (here cs st (iec.stored σ v a))) (sym (straight t (store_variable v ∷ cs) (a ∷ st) σ st' (λ u. refl) m)) (stores t v a cs st σ)
  sim (load_constant k) cs t st σ st' m = record { tracker = other; stack = k ∷ st'; moves = onward refl still; match = ap (λ x. k ∷ x) (straight t (load_constant k ∷ cs) st σ st' (λ v. refl) m) }
  sim (add_constant k) cs t st σ st' m = stays t (add_constant k) cs st σ st' refl (λ v. refl) m
  sim (emit_opcode r) cs t st σ st' m =
      subst (λ x. Simulated false (operated w r cs st σ) (here (emit_opcode r ∷ fold other cs) x σ)) (sym (straight t (emit_opcode r ∷ cs) st σ st' (λ v. refl) m)) (op-sim r cs st σ)
  sim (emit_jmp l) cs t st σ st' m = branches (emit_jmp l) cs _ st σ st' st' refl (ap (λ x. at x st' σ) (behind-fold l other code)) (straight t (emit_jmp l ∷ cs) st σ st' (λ v. refl) m)
  sim (emit_jmp_if_not l) cs t [] σ st' m = tt
  sim (emit_jmp_if_not l) cs t (a ∷ st) σ st' m = branches (emit_jmp_if_not l) cs _ st σ st' st refl
      (ap (λ x. pop_one x λ b rest. at (chosen (truth b) (fold other cs) (behind l code')) rest σ) (straight t (emit_jmp_if_not l ∷ cs) (a ∷ st) σ st' (λ v. refl) m) ∙ ap (λ x. at x st σ) (chosen-fold (truth a) cs (behind l code) refl (behind-fold l other code))) refl
  sim (emit_cmp_br c u k l) cs t st σ st' m = branches (emit_cmp_br c u k l) cs _ st σ st' st' refl (ap (λ x. at x st' σ) (chosen-fold (compared w c (σ u) k) (behind l code) cs (behind-fold l other code) refl)) (straight t (emit_cmp_br c u k l ∷ cs) st σ st' (λ v. refl) m)
  sim (reset_stack_depth h) cs t st σ st' m = stays t (reset_stack_depth h) cs st σ st' refl (λ v. refl) m
  sim (set_position p) cs t st σ st' m = stays t (set_position p) cs st σ st' refl (λ v. refl) m
  sim (refused f) cs t st σ st' m = tt

  -- ---- runs

  pub record Twin (x : State) : Type 0 where
    pub tracker : Last
    pub stack : List ℕ
    pub match : Match tracker x.rest x.stack x.values stack

  unfoldable pub twin : (x : State) → Twin x → State
  twin x a = here (fold a.tracker x.rest) a.stack x.values

  sim-at : (r : List Call) (t : Last) (st : List ℕ) (σ : Values) (st' : List ℕ) → Match t r st σ st' → Simulated (branch_at r) (step_at code w r st σ) (here (fold t r) st' σ)
  unfolding branch_at step_at Simulated step fold here
  sim-at [] t st σ st' m = refl
  sim-at (c ∷ r) t st σ st' m = sim c r t st σ st' m

  sim-step : (x : State) (a : Twin x) → Simulated (branch_at x.rest) (step code w x) (twin x a)
  unfolding step twin
  sim-step x a = sim-at x.rest a.tracker x.stack x.values a.stack a.match

  -- whatever the step is
  sim-as : (x : State) {z : Step} (a : Twin x) → step code w x ≡ z → Simulated (branch_at x.rest) z (twin x a)
  sim-as x a e = subst (λ s. Simulated (branch_at x.rest) s (twin x a)) e (sim-step x a)

  next_of : (x y : State) (a : Twin x) → step code w x ≡ goes y → Next (branch_at x.rest) (twin x a) y
  unfolding Simulated
  next_of x y a e = sim-as x a e

  twin-of : (b : Bool) (x' y : State) → Next b x' y → Twin y
  twin-of b x' y n = record { tracker = n.tracker; stack = n.stack; match = n.match }

  moves-reach : (b : Bool) (x y : State) → Moves b x y → Reach code' w x y
  unfolding Moves
  moves-reach true x y m = jump-reach code' w m
  moves-reach false x y m = m

  reach-sim : (x y : State) → Reach code w x y → (a : Twin x) → (b : Twin y) × Reach code' w (twin x a) (twin y b)
  unfolding twin twin-of here
  reach-sim x y still a = (a, still)
  reach-sim x z (onward {y = y} e p) a =
      let n = next_of x y a e in
      let r = reach-sim y z p (twin-of (branch_at x.rest) (twin x a) y n) in
      (r.0, reach-then code' w (moves-reach (branch_at x.rest) (twin x a) _ n.moves) r.1)

  pub lasts-sim : (f : ℕ) (x : State) → Lasts code w f x → (a : Twin x) → Lasts code' w f (twin x a)
  unfolding twin twin-of Moves here
  lasts-sim f x enough a = enough
  lasts-sim f x (along {y = y} e p) a =
      let n = next_of x y a e in
      reach-lasts code' w (moves-reach (branch_at x.rest) (twin x a) _ n.moves) (lasts-sim f y p (twin-of (branch_at x.rest) (twin x a) y n))
  lasts-sim (suc f) x (over {y = y} b e p) a =
      let n = next_of x y a e in
      jump-lasts code' w (subst (λ t. Moves t (twin x a) (twin y (twin-of (branch_at x.rest) (twin x a) y n))) b n.moves) (lasts-sim f y p (twin-of (branch_at x.rest) (twin x a) y n))

  pub stops-sim : (x : State) (σ : Values) → Halt code w stops x σ → (a : Twin x) → Halt code' w stops (twin x a) σ
  unfolding twin Simulated here
  stops-sim x σ h a =
      let r = reach-sim x h.last h.there a in
      record { last = twin h.last r.0; there = r.1; values = h.values; is = sim-as h.last r.0 h.is }

  -- where a run finishes no load is pending
  finish-straight : (r : List Call) (st : List ℕ) (σ : Values) → step_at code w r st σ ≡ finishes → (v : ℕ) → pends v r ≡ false
  unfolding step_at called at pop_one pends
  finish-straight [] st σ e v = refl
  finish-straight (create_label h ∷ r) st σ e v = never (cc)
  finish-straight (bind_label l ∷ r) st σ e v = refl
  finish-straight (load_variable u ∷ r) st σ e v = never (cc)
  finish-straight (store_variable u ∷ r) st σ e v = refl
  finish-straight (load_constant k ∷ r) st σ e v = refl
  finish-straight (add_constant k ∷ r) st σ e v = never (cc)
  finish-straight (emit_opcode o ∷ r) st σ e v = refl
  finish-straight (emit_jmp l ∷ r) st σ e v = refl
  finish-straight (emit_jmp_if_not l ∷ r) st σ e v = refl
  finish-straight (emit_cmp_br c u k l ∷ r) st σ e v = refl
  finish-straight (reset_stack_depth h ∷ r) st σ e v = never (cc)
  finish-straight (set_position p ∷ r) st σ e v = never (cc)
  finish-straight (refused f ∷ r) st σ e v = refl

  pub finish-sim : (x : State) (σ : Values) → Finish code w x σ → (a : Twin x) → Finish code' w (twin x a) σ
  unfolding twin Simulated here step
  finish-sim x σ h a =
      let r = reach-sim x h.last h.there a in
      let b = r.0 in
      record {
        last = twin h.last b;
        there = r.1;
        values = h.values;
        empty = straight b.tracker h.last.rest h.last.stack h.last.values b.stack (finish-straight h.last.rest h.last.stack h.last.values h.is) b.match ∙ h.empty;
        is = sim-as h.last b h.is;
      }

  -- from the start
  unfoldable pub start : (σ : Values) → Twin (here code [] σ)
  unfolding Match here
  start σ = record { tracker = other; stack = []; match = refl }
