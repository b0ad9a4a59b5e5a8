-- A fused branch of finished code goes exactly where IEC 61131-3's comparison of its condition, as it is written, asks for it.
use Prim.Native.Nat.{ℕ, ◌+◌, ◌*◌, ◌/◌, ◌%◌, suc, ◌<◌}
use mathlib.Core.Path.{◌≡◌, refl, sym, ◌∙◌, ap, subst}
use mathlib.Core.List.{List, [], ◌∷◌, ◌++◌, append_assoc}
use mathlib.Core.Bool.{Bool, true, false}
use mathlib.Core.Option.{Option, some}
use lib.ListN.{length, get_or, get_or-append}
use lib.Seq.{get_or-append-add}
use borrow.Author.Tests.{ne_eqb}
use native.Mathlib.Omega.{arith}
use Rattle.definition.specs.Limits.{width}
use Rattle.definition.specs.Res.{Res, ok, ◌>>=◌}
use Rattle.definition.specs.Opcode.{Role, Sheet, CompareOp, role_of, comparison_byte, size, cmp_br}
use Rattle.definition.specs.Rules.{Rule, matches}
use Rattle.definition.specs.Tree.{Program}
use Rattle.definition.specs.Emit.{le16, Emitter, emitter_at, PendingPatch, Call, emit_cmp_br, act, acts}
use Rattle.definition.specs.Walk.{after, say}
use Rattle.definition.specs.CompileExpr.{ClassifiedCmp}
use Rattle.definition.specs.Stmt.{emit_stmts}
use Rattle.definition.specs.Compile.{jump_targets, finalize_function, emit_program}
use Rattle.definition.specs.Iec.{taken}
use Rattle.definition.specs.Runs.{off_code, target}
use Rattle.definition.specs.Machine.{Image, State, Step, finishes, breaks, operand_at, constant_at, compares, at, leads_to, branch_if, execute, execute_if, is_start, role_at, step}
use Rattle.definition.specs.Fused.{FusedBranch, led, Decides}
use Rattle.definition.specs.For.{length_of, place_after}
use Rattle.definition.specs.Claims.{Each, ◌also◌, in_turn, LeadsTo, BranchLeads, FusedLeads}
use Rattle.opcode.specs.Table.{Good}
use Rattle.opcode.proofs.Sheets.{role-of-opcode}
use Rattle.field.proofs.Results.{ok-bind, some_is}
use Rattle.runs.proofs.Passes.{Fine as FineMatcher}
use Rattle.runs.proofs.Later.{grown-here, acts-grown}
use Rattle.runs.proofs.Conditions.{emitted_op, emits, fused, fused_bytes, fused_patch, coded}
use Rattle.runs.proofs.Finished.{Reaches, program-branches, program-before}

-- ---- the call among the others

-- the emitter before a call and behind it
record Around (s : Sheet) (xs : List Call) (c : Call) (ys : List Call) (e e' : Emitter) : Type 0 where
  before : Emitter
  behind : Emitter
  comes : acts s xs e ≡ ok before
  acted : act s c before ≡ ok behind
  leaves : acts s ys behind ≡ ok e'

past-ok : {A B : Type 0} (m : Res A) (f : A → Res B) (x : A) (y : B) → m ≡ ok x → f x ≡ ok y → (m >>= f) ≡ ok y
unfolding ◌>>=◌
past-ok m f x y p q = ap (λ z. z >>= f) p ∙ q

around : (s : Sheet) (xs : List Call) (c : Call) (ys : List Call) (e e' : Emitter) → acts s (xs ++ (c ∷ ys)) e ≡ ok e' → Around s xs c ys e e'
unfolding acts
around s [] c ys e e' p = let b = ok-bind (act s c e) (λ x. acts s ys x) e' p in record { before = e; behind = b.0; comes = refl; acted = b.1; leaves = b.2 }
around s (x ∷ xs) c ys e e' p =
    let b = ok-bind (act s x e) (λ y. acts s (xs ++ (c ∷ ys)) y) e' p in
    let r = around s xs c ys b.0 e' b.2 in
    record { before = r.before; behind = r.behind; comes = past-ok (act s x e) (λ y. acts s xs y) b.0 r.before b.1 r.comes; acted = r.acted; leaves = r.leaves }

-- what a fused branch, emitted where the emitter was a, is in the emitter at the end
record Emits (s : Sheet) (op : CompareOp) (v k l : ℕ) (a e : Emitter) : Type 0 where
  index : ℕ
  pool : get_or e.constants index 0 ≡ k
  bytes : (j : ℕ) → j < 8 → get_or e.bytecode (length a.bytecode + j) 0 ≡ get_or (fused_bytes s op v index) j 0
  more : List PendingPatch
  patches : e.patches ≡ (a.patches ++ (fused_patch a l ∷ [])) ++ more

emitted : (s : Sheet) (op : CompareOp) (v k l : ℕ) (a b e : Emitter) (ys : List Call) → act s (emit_cmp_br op v k l) a ≡ ok b → acts s ys b ≡ ok e → Emits s op v k l a e
unfolding fused_bytes le16
emitted s op v k l a b e ys p q =
    let c = coded s op v k l a b p in
    let g = acts-grown s ys b e (grown-here b c.last) q in
    let I : List ℕ = fused_bytes s op v c.index in
    let all : e.bytecode ≡ a.bytecode ++ (I ++ g.tail) = g.bytes ∙ (ap (λ x. x ++ g.tail) c.bytes ∙ append_assoc a.bytecode I g.tail) in
    record {
      index = c.index;
      pool = ap (λ x. get_or x c.index 0) g.constants ∙ (get_or-append b.constants g.more_constants 0 c.index c.inside ∙ c.pool);
      bytes = λ j lt. ap (λ x. get_or x (length a.bytecode + j) 0) all ∙ (get_or-append-add a.bytecode (I ++ g.tail) j 0 ∙ get_or-append I g.tail 0 j lt);
      more = g.more_patches;
      patches = g.patches ∙ ap (λ x. x ++ g.more_patches) c.patches;
    }

each-middle : {A : Type 0} {P : A → Type 0} (xs : List A) (x : A) (ys : List A) → Each P ((xs ++ (x ∷ [])) ++ ys) → P x
each-middle [] x ys (p also ps) = p
each-middle (z ∷ zs) x ys (p also ps) = each-middle zs x ys ps

-- ---- a step of a run with values

step_by : Bool → Bool → Option Role → Image → State → Step
step_by end start r m x = elim end [ true ↦ finishes | false ↦ elim start [ true ↦ execute_if r m x | false ↦ breaks off_code ] ]

step-branch : (m : Image) (x : State) → (x.place ≡ length m.bytecode → ⊥) → is_start m x.place ≡ true → role_at m x.place ≡ some cmp_br
    → step m x ≡ branch_if (compares m x.place x.variables) m.bytecode (x.place + size cmp_br) x.stack x.variables
unfolding step step_by execute_if execute
step-branch m x n h r = ap (λ b. step_by b (is_start m x.place) (role_at m x.place) m x) (ne_eqb x.place (length m.bytecode) n)
    ∙ (ap (λ b. step_by false b (role_at m x.place) m x) h ∙ ap (λ y. step_by false true y m x) r)

branch-led : (b : Bool) (code : List ℕ) (next goal : ℕ) (stack : List ℕ) (variables : ℕ → ℕ) → target code next ≡ some goal → branch_if b code next stack variables ≡ at (led b goal next) stack variables
unfolding branch_if led leads_to
branch-led true code next goal stack variables t = ap (λ x. leads_to x stack variables) t
branch-led false code next goal stack variables t = refl

-- ---- the bytes of a fused branch at a place of some code

module _ {s : Sheet} (g : Good s) (op : CompareOp) (v k index : ℕ) (code constants : List ℕ) (place : ℕ)
    (bytes : (j : ℕ) → j < 6 → get_or code (place + j) 0 ≡ get_or (fused_bytes s op v index) j 0) (pool : get_or constants index 0 ≡ k) where
  abbrev m : Image
  m = record { width = width; sheet = s; bytecode = code; constants = constants }

  -- the operand of which byte j is the first
  operand : (j n : ℕ) → suc j < 6 → get_or (fused_bytes s op v index) j 0 ≡ n % 256 → get_or (fused_bytes s op v index) (suc j) 0 ≡ n / 256 → operand_at code (place + j) ≡ n
  unfolding operand_at
  operand j n lt a b =
      let x : get_or code (place + j) 0 ≡ n % 256 = bytes j (omega arith) ∙ a in
      let y : get_or code (place + j + 1) 0 ≡ n / 256 = ap (λ z. get_or code z 0) (let w : place + j + 1 ≡ place + suc j = omega arith in w) ∙ (bytes (suc j) lt ∙ b) in
      ap (λ z. z + 256 * get_or code (place + j + 1) 0) x ∙ (ap (λ z. n % 256 + 256 * z) y ∙ (let w : n % 256 + 256 * (n / 256) ≡ n = omega arith in w))

  place-role : role_of s (get_or code place 0) ≡ some cmp_br
  unfolding fused_bytes
  place-role = ap (λ x. role_of s (get_or code x 0)) (let w : place ≡ place + 0 = omega arith in w) ∙ (ap (λ x. role_of s x) (bytes 0 (omega arith)) ∙ role-of-opcode g cmp_br)

  place-compares : (values : ℕ → ℕ) → compares m place values ≡ taken s width (comparison_byte s op) (values v) k
  unfolding compares constant_at fused_bytes le16
  place-compares values =
      let x = operand 2 v (omega arith) refl refl in
      let y = operand 4 index (omega arith) refl refl in
      ap (λ b. taken s width b (values (operand_at code (place + 2))) (get_or constants (operand_at code (place + 4)) 0)) (bytes 1 (omega arith))
      ∙ (ap (λ n. taken s width (comparison_byte s op) (values n) (get_or constants (operand_at code (place + 4)) 0)) x
      ∙ (ap (λ n. taken s width (comparison_byte s op) (values v) (get_or constants n 0)) y ∙ ap (λ n. taken s width (comparison_byte s op) (values v) n) pool))

  place-step : (goal : ℕ) → LeadsTo s code place goal → place < length code → (stack : List ℕ) (values : ℕ → ℕ)
      → step m (record { place = place; stack = stack; variables = values }) ≡ at (led (taken s width (comparison_byte s op) (values v) k) goal (place + size cmp_br)) stack values
  unfolding is_start role_at
  place-step goal l before stack values =
      let r : l.role ≡ cmp_br = some_is (sym l.here ∙ place-role) in
      step-branch m (record { place = place; stack = stack; variables = values }) (λ e. omega arith) l.start place-role
      ∙ (branch-led _ code (place + size cmp_br) goal stack values (ap (λ x. target code (place + size x)) (sym r) ∙ l.there)
      ∙ ap (λ b. at (led b goal (place + size cmp_br)) stack values) (place-compares values))

-- ---- the claim, of one program

place_is : (s : Sheet) (p : Program) (cs : List Call) (a : Emitter) → acts s cs (emitter_at p.pos) ≡ ok a → place_after s p cs ≡ length a.bytecode
unfolding place_after length_of
place_is s p cs a q = ap length_of q

module _ (s : Sheet) (good : Good s) (rules : List Rule) (fine : (pass : ℕ) → FineMatcher s (λ a b. matches pass rules a b)) (p : Program) (e : Emitter) (q : emit_program s p ≡ ok e)
    (reach : Reaches s rules e) (b : FusedBranch (emit_stmts p.body 0).1) where
  abbrev code : List ℕ
  code = (finalize_function s rules e).bytecode

  abbrev f : ClassifiedCmp
  f = b.classified

  abbrev op : CompareOp
  op = emitted_op f b.on

  abbrev call : Call
  call = emit_cmp_br op f.variable f.constant b.label

  calls : (emit_stmts p.body 0).1 ≡ b.before ++ (call ∷ b.behind)
  unfolding say
  calls = b.emitted ∙ ap (λ w. b.before ++ ((w (after 0 b.before)).1 ++ b.behind)) (emits f b.on b.label)

  there : Around s b.before call b.behind (emitter_at p.pos) e
  unfolding emit_program
  there = around s b.before call b.behind (emitter_at p.pos) e (subst (λ cs. acts s cs (emitter_at p.pos) ≡ ok e) calls q)

  x : Emits s op f.variable f.constant b.label there.before e
  x = emitted s op f.variable f.constant b.label there.before there.behind e b.behind there.acted there.leaves

  abbrev moved : ℕ → ℕ
  moved y = in_turn s rules e.bytecode (jump_targets e) y

  branch-here : BranchLeads s rules e code (fused_patch there.before b.label)
  branch-here = each-middle there.before.patches (fused_patch there.before b.label) x.more
      (subst (λ ps. Each (λ y. BranchLeads s rules e code y) ps) x.patches (program-branches s (role-of-opcode good) rules fine p e q reach).leads)

  abbrev goal : ℕ
  goal = moved branch-here.bound

  decides-here : Decides (record { width = width; sheet = s; bytecode = code; constants = e.constants }) (moved (length there.before.bytecode)) goal b.on b.condition
  unfolding Decides fused_patch
  decides-here stack values =
      let own : ℕ = moved (length there.before.bytecode) in
      place-step good op f.variable f.constant x.index code e.constants own (λ j lt. branch-here.kept j lt ∙ x.bytes j (omega arith)) x.pool goal branch-here.leads
      (program-before s (role-of-opcode good) rules fine p e q own branch-here.leads.start) stack values
      ∙ ap (λ t. at (led t goal (own + size cmp_br)) stack values) (fused good b.condition f b.fused width values b.on)

  pub program-fused : FusedLeads s rules p e (record { width = width; sheet = s; bytecode = code; constants = e.constants }) b
  unfolding fused_patch
  program-fused = record {
    bound = branch-here.bound;
    binds = branch-here.binds;
    decides = subst (λ y. Decides (record { width = width; sheet = s; bytecode = code; constants = e.constants }) (moved y) goal b.on b.condition)
        (sym (place_is s p b.before there.before there.comes)) decides-here;
  }
