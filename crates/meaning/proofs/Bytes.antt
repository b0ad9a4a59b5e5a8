-- Folded calls and finished code: a run of the bytes goes where a run of the calls goes.
use Prim.Native.Nat.{ℕ, ◌+◌, suc}
use mathlib.Core.Path.{◌≡◌, refl, sym, ◌∙◌, ap, subst}
use mathlib.Core.List.{List, [], ◌∷◌, ◌++◌, append_assoc, append-nil}
use mathlib.Core.Bool.{Bool, true, false, not}
use mathlib.Core.Option.{Option, some, none}
use native.Mathlib.Omega.{arith}
use lib.ListN.{length, get_or}
use borrow.Author.Tests.{eq-eqb}
use Rattle.definition.specs.Opcode.{Role, CompareOp, Sheet, comparison_byte, dup, pop, load_var, store_var, load_const, load_true, load_false, arithmetic, logic, neg, bool_not, compare, jmp, jmp_if_not, cmp_br, ret, size, traits, traits_of}
use Rattle.definition.specs.Emit.{le16, Call, create_label, bind_label, load_variable, store_variable, load_constant, add_constant, emit_opcode, emit_jmp, emit_jmp_if_not, emit_cmp_br, reset_stack_depth, set_position, refused}
use Rattle.definition.specs.Runs.{target, off_code}
use Rattle.definition.specs.Iec.{taken, truth, calculate, Values, compared, stored}
use Rattle.definition.specs.Machine.{Image, operand_at, constant_at, compares}
use Rattle.definition.specs.Machine as machine
use Rattle.opcode.specs.Table.{Good}
use Rattle.opcode.proofs.Branches.{taken-iec}
use Rattle.runs.proofs.Heights.{aim}
use Rattle.runs.proofs.Passes.{Reads}
use Rattle.runs.proofs.Decoding.{joined}
use Rattle.runs.proofs.Patched.{aimed_operand, IsNear}
use Rattle.counting.proofs.Counting.{standing, step-at}
use Rattle.counting.proofs.Rows.{Row, row_of, unpatched, operand_of, bytes_of, code_of, Sized}
use Rattle.counting.proofs.Finished.{final_bytes, final_rows}
use Rattle.counting.proofs.Placed.{Placed, placed, operand-at, target-read, final-joined}
use Rattle.counting.proofs.LaidOut.{AllNear, sixteen, variable-read, code-length}
use Rattle.meaning.proofs.Calls.{State, Step, goes, finishes, stops, breaks, here, at, behind, chosen-not, pop_one, pop_two, on_one, on-two, calculated, operated, chosen, called, step_at, step, is_branch, branch_at, Reach, still, onward, Halt, Finish, Lasts, enough, along, over}
use Rattle.meaning.proofs.Lays.{creating, pooling, resetting, setting, Is, Lays, ended, quiet, binding, row}

pub data Run (m : Image) : machine.State → machine.State → Type 0 where
  stay : {x : machine.State} → Run m x x
  further : {x y z : machine.State} → machine.step m x ≡ machine.goes y → Run m y z → Run m x z

pub record Stepped (m : Image) (x z : machine.State) : Type 0 where
  pub then : machine.State
  pub goes : machine.step m x ≡ machine.goes then
  pub there : Run m then z

-- a run of f steps and more
pub data On (m : Image) : ℕ → machine.State → Type 0 where
  enough_steps : {x : machine.State} → On m 0 x
  along_steps : {f : ℕ} {x y : machine.State} → machine.step m x ≡ machine.goes y → On m f y → On m f x
  over_step : {f : ℕ} {x y : machine.State} → machine.step m x ≡ machine.goes y → On m f y → On m (suc f) x

-- a run that ends as said
pub record Ended (m : Image) (z : machine.Step) (x : machine.State) (σ : Values) : Type 0 where
  pub last : machine.State
  pub there : Run m x last
  pub values : last.variables ≡ σ
  pub is : machine.step m last ≡ z

module _ {m : Image} where
  run-then : {x y z : machine.State} → Run m x y → Run m y z → Run m x z
  run-then stay q = q
  run-then (further e p) q = further e (run-then p q)

  run_on : {f : ℕ} {x y : machine.State} → Run m x y → On m f y → On m f x
  run_on stay q = q
  run_on (further e p) q = along_steps e (run_on p q)

-- the calls' code, its rows, and finished code m
module _ (s : Sheet) (known : Reads s) (good_sheet : Good s) (goal : ℕ → ℕ) (labels : List (Option ℕ)) (rows : List Row) (sized : Sized s rows) (near : AllNear s goal rows)
    (m : Image) (sheet : s ≡ m.sheet) (code : m.bytecode ≡ joined (final_rows s goal 0 rows)) (calls : List Call) where
  -- at place p the calls Q are left, and the rows B
  pub record Front (Q : List Call) (p : ℕ) (B : List Row) : Type 0 where
    pub pre : List Call
    pub split : calls ≡ pre ++ Q
    pub A : List Row
    pub cut : rows ≡ A ++ B
    pub place : p ≡ length (code_of s A)

  past : (c : Call) (Q : List Call) (p : ℕ) (B : List Row) → Front (c ∷ Q) p B → Front Q p B
  past c Q p B x = record { pre = x.pre ++ (c ∷ []); split = x.split ∙ sym (append_assoc x.pre (c ∷ []) Q); A = x.A; cut = x.cut; place = x.place }

  past_row : (Q : List Call) (p : ℕ) (r : Row) (B : List Row) → Front Q p (r ∷ B) → Front Q (p + length (bytes_of s r)) B
  past_row Q p r B x = record { pre = x.pre; split = x.split; A = x.A ++ (r ∷ []); cut = x.cut ∙ sym (append_assoc x.A (r ∷ []) B); place = ap (λ q. q + length (bytes_of s r)) x.place ∙ sym (code-length s x.A r) }

  -- a run of the calls that stands before Q is one of the bytes that stands at p
  pub record Stand (Q : List Call) (p : ℕ) : Type 0 where
    pub B : List Row
    pub front : Front Q p B
    pub n : ℕ
    pub lays : Lays s m.constants labels n p Q B

  pub record Lands (l : ℕ) : Type 0 where
    pub place : ℕ
    pub stand : Stand (behind l calls) place
    pub is : goal l ≡ place

  module _ (lands : (l : ℕ) (c : Call) (pre post : List Call) → calls ≡ pre ++ (c ∷ post) → aim c ≡ some l → Lands l) where
    abbrev w : ℕ
    w = m.width

    unfoldable pub Moves : Bool → machine.State → machine.State → Type 0
    Moves true x z = Stepped m x z
    Moves false x z = Run m x z

    pub record Next (b : Bool) (x : machine.State) (y : State) : Type 0 where
      pub place : ℕ
      pub stand : Stand y.rest place
      pub moves : Moves b x (standing place y.stack y.values)

    unfoldable pub Simulated : Bool → Step → machine.State → Type 0
    Simulated b (goes y) x = Next b x y
    Simulated b finishes x = machine.step m x ≡ machine.finishes
    Simulated b stops x = machine.step m x ≡ machine.stops
    Simulated b breaks x = Unit {0}

    code-long : length m.bytecode ≡ length (code_of s rows)
    code-long = ap length code ∙ final-joined s goal 0 rows

    -- row r is that of call c, at place p
    record At (c : Call) (Q : List Call) (p : ℕ) (r : Row) : Type 0 where
      B : List Row
      front : Front (c ∷ Q) p (r ∷ B)
      n : ℕ
      rest : Lays s m.constants labels n (p + length (bytes_of s r)) Q B

    module _ (c : Call) (Q : List Call) (p : ℕ) (r : Row) (x : At c Q p r) where
      stands : Placed m p r.role (final_bytes s goal p r)
      stands = placed s known goal rows sized m sheet code x.front.A r x.B p x.front.cut x.front.place

      after-it : Stand Q (p + length (bytes_of s r))
      after-it = record { B = x.B; front = past_row Q p r x.B (past c Q p (r ∷ x.B) x.front); n = x.n; lays = x.rest }

      step_is : (y : Row) → r ≡ y → (st : List ℕ) (σ : Values) → machine.step m (standing p st σ) ≡ machine.execute y.role m p st σ
      step_is y i st σ = step-at m (record { place = p; stack = st; variables = σ }) y.role (subst (λ x. Placed m p x.role (final_bytes s goal p x)) i stands).stands

      stands-as : (y : Row) → r ≡ y → Placed m p y.role (final_bytes s goal p y)
      stands-as y i = subst (λ x. Placed m p x.role (final_bytes s goal p x)) i stands

      after-as : (y : Row) → r ≡ y → Stand Q (p + length (bytes_of s y))
      after-as y i = subst (λ x. Stand Q (p + length (bytes_of s x))) i after-it

      -- a branch's target
      target-as : (y : Row) (l : ℕ) → r ≡ y → y.aim ≡ some l → target m.bytecode (p + length (bytes_of s y)) ≡ some (goal l)
      target-as y l i a = target-read m s goal p y l a (stands-as y i)
          (subst (λ q. IsNear (goal l) (q + length (bytes_of s y))) (sym x.front.place) (near l y x.front.A x.B (x.front.cut ∙ ap (λ z. x.front.A ++ (z ∷ x.B)) i) a))

      load-sim : (v : ℕ) → r ≡ row_of load_var (le16 v) none → (st : List ℕ) (σ : Values) → Next false (standing p st σ) (here Q (σ v ∷ st) σ)
      unfolding Moves here machine.execute machine.at size traits traits_of bytes_of operand_of unpatched row_of le16
      load-sim v i st σ = record {
        place = p + 3;
        stand = after-as _ i;
        moves = further (step_is _ i st σ ∙ ap (λ k. machine.at (p + 3) (σ k ∷ st) σ) (variable-read m s goal p load_var v (stands-as _ i))) stay;
      }

      store-sim : (v : ℕ) → r ≡ row_of store_var (le16 v) none → (a : ℕ) (st : List ℕ) (σ : Values) → Next false (standing p (a ∷ st) σ) (here Q st (stored σ v a))
      unfolding Moves here machine.execute machine.pop_one machine.at size traits traits_of bytes_of operand_of unpatched row_of le16
      store-sim v i a st σ = record {
        place = p + 3;
        stand = after-as _ i;
        moves = further (step_is _ i (a ∷ st) σ ∙ ap (λ k. machine.at (p + 3) st (stored σ k a)) (variable-read m s goal p store_var v (stands-as _ i))) stay;
      }

      const-sim : (k j : ℕ) → r ≡ row_of load_const (le16 j) none → get_or m.constants j 0 ≡ k → (st : List ℕ) (σ : Values) → Next false (standing p st σ) (here Q (k ∷ st) σ)
      unfolding Moves here machine.execute machine.at constant_at size traits traits_of bytes_of operand_of unpatched row_of le16
      const-sim k j i g st σ = record {
        place = p + 3;
        stand = after-as _ i;
        moves = further (step_is _ i st σ ∙ ap (λ x. machine.at (p + 3) (x ∷ st) σ) (ap (λ x. get_or m.constants x 0) (variable-read m s goal p load_const j (stands-as _ i)) ∙ g)) stay;
      }

      -- a branch that is taken, and one that is not
      tested : (l z : ℕ) (t : Bool) (st : List ℕ) (σ : Values) (st₀ : List ℕ) → Stand Q z → Lands l → machine.step m (standing p st₀ σ) ≡ machine.branch_if t m.bytecode z st σ → target m.bytecode z ≡ some (goal l)
          → Next true (standing p st₀ σ) (here (chosen t (behind l calls) Q) st σ)
      unfolding Moves here chosen machine.branch_if machine.leads_to machine.at
      tested l z true st σ st₀ on y e g = record {
        place = y.place;
        stand = y.stand;
        moves = record { then = standing y.place st σ; goes = e ∙ ap (λ t. machine.leads_to t st σ) (g ∙ ap some y.is); there = stay };
      }
      tested l z false st σ st₀ on y e g = record { place = z; stand = on; moves = record { then = standing z st σ; goes = e; there = stay } }

      jump-sim : (l : ℕ) → c ≡ emit_jmp l → r ≡ row_of jmp [] (some l) → (st : List ℕ) (σ : Values) → Next true (standing p st σ) (here (behind l calls) st σ)
      unfolding aim chosen machine.branch_if machine.execute size traits traits_of bytes_of operand_of unpatched row_of le16
      jump-sim l ci i st σ = tested l (p + 3) true st σ st (after-as _ i) (lands l c x.front.pre Q x.front.split (ap aim ci)) (step_is _ i st σ) (target-as _ l i refl)

      unless-sim : (l : ℕ) → c ≡ emit_jmp_if_not l → r ≡ row_of jmp_if_not [] (some l) → (a : ℕ) (st : List ℕ) (σ : Values) → Next true (standing p (a ∷ st) σ) (here (chosen (truth a) Q (behind l calls)) st σ)
      unfolding aim machine.execute machine.pop_one size traits traits_of bytes_of operand_of unpatched row_of le16
      unless-sim l ci i a st σ = subst (λ x. Next true (standing p (a ∷ st) σ) (here x st σ)) (chosen-not (truth a) (behind l calls) Q)
          (tested l (p + 3) (not (truth a)) st σ (a ∷ st) (after-as _ i) (lands l c x.front.pre Q x.front.split (ap aim ci)) (step_is _ i (a ∷ st) σ) (target-as _ l i refl))

      module _ (o : CompareOp) (v k j l : ℕ) (ci : c ≡ emit_cmp_br o v k l) (i : r ≡ row_of cmp_br (comparison_byte s o ∷ le16 v ++ le16 j) (some l)) (g : get_or m.constants j 0 ≡ k) where
        cmp-byte : get_or m.bytecode (p + 1) 0 ≡ comparison_byte s o
        unfolding final_bytes aimed_operand operand_of unpatched row_of le16
        cmp-byte = (stands-as _ i).bytes 1 (omega arith)

        cmp-variable : operand_at m.bytecode (p + 2) ≡ v
        unfolding final_bytes aimed_operand operand_of unpatched row_of le16
        cmp-variable = operand-at m p cmp_br _ (stands-as _ i) 2 (omega arith) ∙ sixteen v

        cmp-constant : constant_at m (p + 4) ≡ k
        unfolding final_bytes aimed_operand operand_of unpatched row_of le16 constant_at
        cmp-constant = ap (λ x. get_or m.constants x 0) (operand-at m p cmp_br _ (stands-as _ i) 4 (omega arith) ∙ sixteen j) ∙ g

        compares-is : (σ : Values) → compares m p σ ≡ compared w o (σ v) k
        unfolding compares
        compares-is σ =
            ap (λ b. taken m.sheet m.width b (σ (operand_at m.bytecode (p + 2))) (constant_at m (p + 4))) cmp-byte
            ∙ (ap (λ x. taken m.sheet m.width (comparison_byte s o) (σ x) (constant_at m (p + 4))) cmp-variable
            ∙ (ap (λ x. taken m.sheet m.width (comparison_byte s o) (σ v) x) cmp-constant
            ∙ (ap (λ x. taken x m.width (comparison_byte s o) (σ v) k) (sym sheet) ∙ taken-iec good_sheet o m.width (σ v) k)))

        cmp-sim : (st : List ℕ) (σ : Values) → Next true (standing p st σ) (here (chosen (compared w o (σ v) k) (behind l calls) Q) st σ)
        unfolding aim machine.execute size traits traits_of bytes_of operand_of unpatched row_of le16
        cmp-sim st σ = tested l (p + 8) (compared w o (σ v) k) st σ st (after-as _ i) (lands l c x.front.pre Q x.front.split (ap aim ci)) (step_is _ i st σ ∙ ap (λ b. machine.branch_if b m.bytecode (p + 8) st σ) (compares-is σ))
            (target-as _ l i refl)

      -- an instruction of one byte goes on behind it
      moved : (o : Role) → r ≡ row_of o [] none → (st₀ st : List ℕ) (σ : Values) → machine.step m (standing p st₀ σ) ≡ machine.goes (standing (p + 1) st σ) → Next false (standing p st₀ σ) (here Q st σ)
      unfolding Moves here bytes_of operand_of unpatched row_of
      moved o i st₀ st σ e = record { place = p + 1; stand = after-as _ i; moves = further e stay }

      abbrev Sim : Values → Step → List ℕ → Type 0
      Sim σ z st = Simulated false z (standing p st σ)

      op-sim : (o : Role) → r ≡ row_of o [] none → (st : List ℕ) (σ : Values) → Sim σ (operated w o Q st σ) st
      unfolding operated pop_one pop_two calculated at Simulated machine.execute machine.pop_one machine.pop_two machine.calculated machine.at size traits traits_of bytes_of operand_of unpatched row_of
      op-sim dup i st σ = on_one (Sim σ) st _ (λ s. tt) (λ a r. moved _ i _ _ σ (step_is _ i _ σ))
      op-sim pop i st σ = on_one (Sim σ) st _ (λ s. tt) (λ a r. moved _ i _ _ σ (step_is _ i _ σ))
      op-sim load_var i st σ = tt
      op-sim store_var i st σ = tt
      op-sim load_const i st σ = tt
      op-sim load_true i st σ = moved _ i _ _ σ (step_is _ i _ σ)
      op-sim load_false i st σ = moved _ i _ _ σ (step_is _ i _ σ)
      op-sim (arithmetic o) i st σ = on-two (Sim σ) st _ (λ s. tt) (λ a b r. go a b r (calculate w o a b) refl)
        where
          go : (a b : ℕ) (r : List ℕ) (x : Option ℕ) → calculate w o a b ≡ x → Sim σ (calculated x Q r σ) (b ∷ a ∷ r)
          go a b r none e = step_is _ i (b ∷ a ∷ r) σ ∙ ap (λ x. machine.calculated x (p + 1) r σ) e
          go a b r (some x) e = moved _ i _ _ σ (step_is _ i (b ∷ a ∷ r) σ ∙ ap (λ x. machine.calculated x (p + 1) r σ) e)
      op-sim (logic o) i st σ = on-two (Sim σ) st _ (λ s. tt) (λ a b r. moved _ i _ _ σ (step_is _ i _ σ))
      op-sim neg i st σ = on_one (Sim σ) st _ (λ s. tt) (λ a r. moved _ i _ _ σ (step_is _ i _ σ))
      op-sim bool_not i st σ = on_one (Sim σ) st _ (λ s. tt) (λ a r. moved _ i _ _ σ (step_is _ i _ σ))
      op-sim (compare q) i st σ = on-two (Sim σ) st _ (λ s. tt) (λ a b r. moved _ i _ _ σ (step_is _ i _ σ))
      op-sim jmp i st σ = tt
      op-sim jmp_if_not i st σ = tt
      op-sim cmp_br i st σ = tt
      op-sim ret i st σ = step_is _ i st σ

    row-sim : (c : Call) (Q : List Call) (p : ℕ) (r : Row) → At c Q p r → Is s m.constants c r → (st : List ℕ) (σ : Values) → Simulated (is_branch c) (called calls w c Q st σ) (standing p st σ)
    unfolding Is is_branch aim called pop_one at Simulated
    row-sim (create_label h) Q p r x i st σ = absurd i
    row-sim (bind_label l) Q p r x i st σ = absurd i
    row-sim (load_variable v) Q p r x i st σ = load-sim (load_variable v) Q p r x v i st σ
    row-sim (store_variable v) Q p r x i [] σ = tt
    row-sim (store_variable v) Q p r x i (a ∷ st) σ = store-sim (store_variable v) Q p r x v i a st σ
    row-sim (load_constant k) Q p r x i st σ = const-sim (load_constant k) Q p r x k i.0 i.1 i.2 st σ
    row-sim (add_constant k) Q p r x i st σ = absurd i
    row-sim (emit_opcode o) Q p r x i st σ = op-sim (emit_opcode o) Q p r x o i st σ
    row-sim (emit_jmp l) Q p r x i st σ = jump-sim (emit_jmp l) Q p r x l refl i st σ
    row-sim (emit_jmp_if_not l) Q p r x i [] σ = tt
    row-sim (emit_jmp_if_not l) Q p r x i (a ∷ st) σ = unless-sim (emit_jmp_if_not l) Q p r x l refl i a st σ
    row-sim (emit_cmp_br o v k l) Q p r x i st σ = cmp-sim (emit_cmp_br o v k l) Q p r x o v k i.0 l refl i.1 i.2 st σ
    row-sim (reset_stack_depth h) Q p r x i st σ = absurd i
    row-sim (set_position q) Q p r x i st σ = absurd i
    row-sim (refused f) Q p r x i st σ = absurd i

    -- one call more that has no row
    silent-stand : (c : Call) (Q : List Call) (p : ℕ) (B : List Row) → Front (c ∷ Q) p B → (n : ℕ) → Lays s m.constants labels n p Q B → (st : List ℕ) (σ : Values) → Next false (standing p st σ) (here Q st σ)
    unfolding Moves here
    silent-stand c Q p B x n l st σ = record { place = p; stand = record { B = B; front = past c Q p B x; n = n; lays = l }; moves = stay }

    at-end : (p : ℕ) → Front [] p [] → (st : List ℕ) (σ : Values) → machine.step m (standing p st σ) ≡ machine.finishes
    unfolding machine.step
    at-end p x st σ =
        let e : p ≡ length m.bytecode = x.place ∙ (ap (λ y. length (code_of s y)) (sym (append-nil x.A)) ∙ (ap (λ y. length (code_of s y)) (sym x.cut) ∙ sym code-long)) in
        ap (λ (b : Bool). elim b [ true ↦ machine.finishes | false ↦ elim (machine.is_start m p) [ true ↦ machine.execute_if (machine.role_at m p) m (record { place = p; stack = st; variables = σ }) | false ↦ machine.breaks off_code ] ]) (eq-eqb p (length m.bytecode) e)

    sim-lays : (Q : List Call) (p : ℕ) (B : List Row) → Front Q p B → (n : ℕ) → Lays s m.constants labels n p Q B → (st : List ℕ) (σ : Values) → Simulated (branch_at Q) (step_at calls w Q st σ) (standing p st σ)
    unfolding branch_at step_at called is_branch aim Simulated at
    sim-lays Q p B x n ended st σ = at-end p x st σ
    sim-lays Q p B x n (quiet {cs = cs} (creating {h = h}) l) st σ = silent-stand (create_label h) cs p B x _ l st σ
    sim-lays Q p B x n (binding {l = k} {cs = cs} f l) st σ = silent-stand (bind_label k) cs p B x _ l st σ
    sim-lays Q p B x n (quiet {cs = cs} (pooling {k = k}) l) st σ = silent-stand (add_constant k) cs p B x _ l st σ
    sim-lays Q p B x n (quiet {cs = cs} (resetting {h = h}) l) st σ = silent-stand (reset_stack_depth h) cs p B x _ l st σ
    sim-lays Q p B x n (quiet {cs = cs} (setting {q = q}) l) st σ = silent-stand (set_position q) cs p B x _ l st σ
    sim-lays Q p B x n (row {c = c} {r = r} {cs = cs} {rows = rs} i l) st σ = row-sim c cs p r (record { B = rs; front = x; n = _; rest = l }) i st σ

    -- ---- runs

    sim-step : (x : State) (p : ℕ) → Stand x.rest p → Simulated (branch_at x.rest) (step calls w x) (standing p x.stack x.values)
    unfolding step
    sim-step x p d = sim-lays x.rest p d.B d.front d.n d.lays x.stack x.values

    -- whatever the calls' step is
    sim-as : (x : State) {z : Step} (p : ℕ) → Stand x.rest p → step calls w x ≡ z → Simulated (branch_at x.rest) z (standing p x.stack x.values)
    sim-as x p d e = subst (λ z. Simulated (branch_at x.rest) z (standing p x.stack x.values)) e (sim-step x p d)

    next_of : (x y : State) (p : ℕ) → Stand x.rest p → step calls w x ≡ goes y → Next (branch_at x.rest) (standing p x.stack x.values) y
    unfolding Simulated
    next_of x y p d e = sim-as x p d e

    moves-run : (b : Bool) (x y : machine.State) → Moves b x y → Run m x y
    unfolding Moves
    moves-run true x y t = further t.goes t.there
    moves-run false x y t = t

    pub record Reached (x : machine.State) (y : State) : Type 0 where
      pub place : ℕ
      pub stand : Stand y.rest place
      pub there : Run m x (standing place y.stack y.values)

    reach-run : (x y : State) → Reach calls w x y → (p : ℕ) → Stand x.rest p → Reached (standing p x.stack x.values) y
    reach-run x y still p d = record { place = p; stand = d; there = stay }
    reach-run x z (onward {y = y} e q) p d =
        let n = next_of x y p d e in
        let r = reach-run y z q n.place n.stand in
        record { place = r.place; stand = r.stand; there = run-then (moves-run (branch_at x.rest) _ _ n.moves) r.there }

    step-on : (f : ℕ) (x y : machine.State) → Moves true x y → On m f y → On m (suc f) x
    unfolding Moves
    step-on f x y t q = over_step t.goes (run_on t.there q)

    pub lasts-run : (f : ℕ) (x : State) → Lasts calls w f x → (p : ℕ) → Stand x.rest p → On m f (standing p x.stack x.values)
    lasts-run f x enough p d = enough_steps
    lasts-run f x (along {y = y} e q) p d =
        let n = next_of x y p d e in
        run_on (moves-run (branch_at x.rest) _ _ n.moves) (lasts-run f y q n.place n.stand)
    lasts-run (suc f) x (over {y = y} b e q) p d =
        let n = next_of x y p d e in
        step-on f _ _ (subst (λ t. Moves t (standing p x.stack x.values) (standing n.place y.stack y.values)) b n.moves) (lasts-run f y q n.place n.stand)

    pub stops-run : (x : State) (σ : Values) → Halt calls w stops x σ → (p : ℕ) → Stand x.rest p → Ended m machine.stops (standing p x.stack x.values) σ
    unfolding Simulated
    stops-run x σ h p d =
        let r = reach-run x h.last h.there p d in
        record { last = standing r.place h.last.stack h.last.values; there = r.there; values = h.values; is = sim-as h.last r.place r.stand h.is }

    pub record Done (x : machine.State) (σ : Values) : Type 0 where
      pub ended : Ended m machine.finishes x σ
      pub empty : ended.last.stack ≡ []

    pub finish-run : (x : State) (σ : Values) → Finish calls w x σ → (p : ℕ) → Stand x.rest p → Done (standing p x.stack x.values) σ
    unfolding Simulated
    finish-run x σ h p d =
        let r = reach-run x h.last h.there p d in
        record {
          ended = record { last = standing r.place h.last.stack h.last.values; there = r.there; values = h.values; is = sim-as h.last r.place r.stand h.is };
          empty = h.empty;
        }
