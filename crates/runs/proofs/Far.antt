-- 15 (document 02, L1), of whatever a call answers: it is given exactly where some branch of finished code is too far from its target, with the lowest such branch's
-- place (`answer-far`, `far-answer`); and never for finished code of at most 32,768 bytes, which is answered as it was before there was a 15 (`short-answers`).
use Prim.Native.Nat.{ℕ, ◌+◌, ◌≤◌}
use mathlib.Core.Path.{◌≡◌, refl, sym, ◌∙◌, ap, subst}
use mathlib.Core.List.{List, [], ◌∷◌, map}
use mathlib.Core.Bool.{Bool, true, false, ◌&&◌}
use mathlib.Core.Option.{Option, some}
use native.Mathlib.Omega.{arith}
use lib.Dec.{leb}
use lib.ListN.{length}
use borrow.Author.Tests.{le-leb, leb-false}
use Rattle.definition.specs.Limits.{max_back, max_forward, far_branch}
use Rattle.definition.specs.Res.{Res, ok, refuse, ◌>>=◌, ◌>>◌, demand, given}
use Rattle.definition.specs.Opcode.{Sheet}
use Rattle.definition.specs.Sheet.{read_sheet}
use Rattle.definition.specs.Rules.{Rule, read_rules, matches}
use Rattle.definition.specs.Tree.{Program}
use Rattle.definition.specs.Program.{read_program}
use Rattle.definition.specs.Emit.{Emitter, PendingPatch}
use Rattle.definition.specs.Rewrite.{OffsetMap, moved_to}
use Rattle.definition.specs.Optimize.{optimize}
use Rattle.definition.specs.Compile.{bound_label, near, in_reach, jump_targets, finalize_function, emit_program, compile_program, compile_files, FinalizedFunction, Room, roomy, compile_into, Answer, answer, Compiles}
use Rattle.definition.specs.Claims.{left, right, Each, empty, ◌also◌, Some, this, later, in_turn, Far, FarAt, TooFar}
use Rattle.opcode.proofs.Faults.{good}
use Rattle.opcode.proofs.Sheets.{role-of-opcode}
use Rattle.field.proofs.Results.{never, some_is}
use Rattle.runs.proofs.Rows.{Rising, rises}
use Rattle.runs.proofs.Passes.{Reads, Fine as FineMatcher, rules-fine}
use Rattle.runs.proofs.Patched.{IsNear, NearBy, near-is}
use Rattle.runs.proofs.Finished.{Reaches, each_both, reach-each, program-turned, program-rises, program-length, program-targets, program-inside}
use Rattle.runs.proofs.Answers.{Tested, call-refused, reach-number}

-- ---- one branch

not-near : (t n : ℕ) → near t n ≡ false → Far t n
unfolding near
not-near t n e = go (leb n (t + max_back)) refl e
  where
    go : (b : Bool) → leb n (t + max_back) ≡ b → (b && leb t (n + max_forward)) ≡ false → Far t n
    go true q e = right (leb-false t (n + max_forward) e)
    go false q e = left (leb-false n (t + max_back) q)

is-near : (t n : ℕ) → IsNear t n → near t n ≡ true
unfolding near
is-near t n k = rw (le-leb n (t + max_back) k.0, le-leb t (n + max_forward) k.1)

far-near : {A : Type 0} (t n : ℕ) → Far t n → IsNear t n → A
far-near t n (left lt) k = absurd (let a = k.0 in omega arith)
far-near t n (right lt) k = absurd (let a = k.1 in omega arith)

-- ---- all of them, by a map

some-so : {A : Type 0} {P Q R : A → Type 0} {xs : List A} → ((x : A) → P x → Q x → R x) → Each P xs → Some Q xs → Some R xs
some-so f (p also ps) (this q) = this (f _ p q)
some-so f (p also ps) (later s) = later (some-so f ps s)
some-so f empty s = elim s [ ]

module _ (labels : List (Option ℕ)) (m : OffsetMap) where
  -- a patch's branch is moved to a place, and is too far from its target
  record Astray (place : ℕ) (p : PendingPatch) : Type 0 where
    here : moved_to m p.instruction_offset ≡ place
    far : Far (moved_to m (bound_label labels p.label)) (moved_to m p.instruction_offset + p.operand_delta + 2)

  places : List PendingPatch → List ℕ
  places ps = map (λ (p : PendingPatch). moved_to m p.instruction_offset) ps

  at_least : (ps : List PendingPatch) {b y : ℕ} → Rising b (places ps) → Some (λ p. Astray y p) ps → b ≤ y
  unfolding places
  at_least (p ∷ ps) (rises le r) (this a) = let h = a.here in omega arith
  at_least (p ∷ ps) (rises le r) (later s) = let n = at_least ps r s in omega arith
  at_least [] r s = elim s [ ]

  record Lowest (ps : List PendingPatch) (x : ℕ) : Type 0 where
    far : Some (λ p. Astray x p) ps
    lowest : (y : ℕ) → Some (λ p. Astray y p) ps → x ≤ y

  -- none is below the first, and one that is near is none
  not-below : (p : PendingPatch) (ps : List PendingPatch) {x : ℕ} → moved_to m p.instruction_offset ≡ x → Rising (moved_to m p.instruction_offset) (places ps) → (y : ℕ) → Some (λ q. Astray y q) (p ∷ ps) → x ≤ y
  not-below p ps own r y (this a) = let h = a.here in omega arith
  not-below p ps own r y (later t) = let h = at_least ps r t in omega arith

  not-it : (p : PendingPatch) (ps : List PendingPatch) {x : ℕ} → NearBy labels m p → ((y : ℕ) → Some (λ q. Astray y q) ps → x ≤ y)
      → (y : ℕ) → Some (λ q. Astray y q) (p ∷ ps) → x ≤ y
  not-it p ps k more y (this a) = far-near _ _ a.far k
  not-it p ps k more y (later t) = more y t

  reach-lowest : (ps : List PendingPatch) {b n x : ℕ} → Rising b (places ps) → in_reach labels m ps ≡ refuse n x → Lowest ps x
  unfolding in_reach places demand ◌>>◌
  reach-lowest [] r e = never (cc)
  reach-lowest (p ∷ ps) (rises le r) e = go (near (moved_to m (bound_label labels p.label)) (moved_to m p.instruction_offset + p.operand_delta + 2)) refl (λ h. reach-lowest ps r h) e
    where
      go : (b : Bool) {n x : ℕ} → near (moved_to m (bound_label labels p.label)) (moved_to m p.instruction_offset + p.operand_delta + 2) ≡ b → (in_reach labels m ps ≡ refuse n x → Lowest ps x)
          → (demand b far_branch (moved_to m p.instruction_offset) >> in_reach labels m ps) ≡ refuse n x → Lowest (p ∷ ps) x
      go true {x = x} q more e =
          let h = more e in
          record { far = later h.far; lowest = not-it p ps (near-is _ _ q) h.lowest }
      go false {x = x} q more e =
          let own : moved_to m p.instruction_offset ≡ x = cc in
          record { far = this (record { here = own; far = not-near _ _ q }); lowest = not-below p ps own r }

-- ---- of one program's code

module _ (s : Sheet) (back : Reads s) (rules : List Rule) (fine : (pass : ℕ) → FineMatcher s (λ a b. matches pass rules a b)) (p : Program) (e : Emitter) (q : emit_program s p ≡ ok e) where
  abbrev moves : OffsetMap
  moves = (optimize s rules e.bytecode (jump_targets e)).map

  abbrev turned : ℕ → ℕ
  turned x = in_turn s rules e.bytecode (jump_targets e) x

  -- the composed map, and the three maps in turn
  some-turned : {x : ℕ} → Some (λ p. Astray e.labels moves x p) e.patches → FarAt s rules e x
  some-turned {x} = some-so (λ y t a. record {
    bound = t.0;
    binds = t.1;
    here = sym t.2 ∙ a.here;
    far = subst (λ n. Far (turned t.0) (n + y.operand_delta + 2)) a.here (subst (λ g. Far g (moved_to moves y.instruction_offset + y.operand_delta + 2)) t.3 a.far);
  }) (program-turned s back rules fine p e q)

  some_mapped : {x : ℕ} → FarAt s rules e x → Some (λ p. Astray e.labels moves x p) e.patches
  some_mapped {x} = some-so (λ y t a.
      let own : moved_to moves y.instruction_offset ≡ x = t.2 ∙ a.here in
      let same : a.bound ≡ t.0 = some_is (sym a.binds ∙ t.1) in
      record {
        here = own;
        far = subst (λ n. Far (moved_to moves (bound_label e.labels y.label)) (n + y.operand_delta + 2)) (sym own) (subst (λ g. Far g (x + y.operand_delta + 2)) (ap turned same ∙ sym t.3) a.far);
      }) (program-turned s back rules fine p e q)

  pub program-lowest : {n x : ℕ} → in_reach e.labels moves e.patches ≡ refuse n x → FarAt s rules e x × ((y : ℕ) → FarAt s rules e y → x ≤ y)
  unfolding places
  program-lowest r =
      let h = reach-lowest e.labels moves e.patches (program-rises s back rules fine p e q) r in
      (some-turned h.far, λ y a. h.lowest y (some_mapped a))

  -- where some branch is too far the test refuses
  pub program-far : {x : ℕ} → FarAt s rules e x → Reaches s rules e → ⊥
  program-far a reach = apart (reach-each e.labels moves e.patches reach) (some_mapped a)
    where
      apart : {y : ℕ} {ps : List PendingPatch} → Each (λ x. NearBy e.labels moves x) ps → Some (λ x. Astray e.labels moves y x) ps → ⊥
      apart (n also ns) (this a) = far-near _ _ a.far n
      apart (n also ns) (later t) = apart ns t
      apart empty t = elim t [ ]

  -- in code of at most so many bytes no place is too far from another
  pub program-near : length (finalize_function s rules e).bytecode ≤ max_back → Reaches s rules e
  unfolding in_reach demand ◌>>◌
  program-near short = go e.patches (each_both (program-targets s back rules fine p e q) (program-inside s back rules fine p e q))
    where
      go : (ps : List PendingPatch)
          → Each (λ (x : PendingPatch). (moved_to moves (bound_label e.labels x.label) ≤ length (finalize_function s rules e).bytecode)
          × (moved_to moves x.instruction_offset + x.operand_delta + 2 ≤ length (optimize s rules e.bytecode (jump_targets e)).bytecode)) ps → in_reach e.labels moves ps ≡ ok tt
      go [] empty = refl
      go (x ∷ ps) (n also ns) =
          let same = program-length s back rules fine p e q in
          let a = n.0 in
          let b = n.1 in
          rw (is-near (moved_to moves (bound_label e.labels x.label)) (moved_to moves x.instruction_offset + x.operand_delta + 2) (omega arith, omega arith)) (go ps ns)

-- ---- the call

module _ (room : Room) (sheet rules program : List ℕ) (a : Answer) (k : Compiles room sheet rules program a) where
  -- 15 names the lowest branch of finished code, reached or not, that is too far from its target.
  pub answer-far : a.number ≡ far_branch → TooFar sheet rules program a.place
  unfolding answer
  answer-far f = go (compile_into k.place room sheet rules program) refl k.is
    where
      tested : {x : ℕ} → Tested sheet rules program far_branch x → TooFar sheet rules program x
      tested t =
          let back : Reads t.s = role-of-opcode (good sheet t.s t.sheet_read) in
          let h = program-lowest t.s back t.rs (rules-fine t.s back rules t.rules_read) t.p t.e t.emission t.refuses in
          record { s = t.s; rs = t.rs; tree = t.p; e = t.e; sheet_read = t.sheet_read; rules_read = t.rules_read; program_read = t.program_read; emission = t.emission; far = h.0; lowest = h.1 }

      go : (x : Res FinalizedFunction) → compile_into k.place room sheet rules program ≡ x → a ≡ answer room x → TooFar sheet rules program a.place
      go (ok g) q e = absurd (let n = ap (λ (b : Answer). b.number) e in omega arith)
      go (refuse n x) q e =
          let is : n ≡ far_branch = sym (ap (λ (b : Answer). b.number) e) ∙ f in
          subst (λ y. TooFar sheet rules program y) (sym (ap (λ (b : Answer). b.place) e))
          (elim (call-refused k.place room sheet rules program q) as (λ _. TooFar sheet rules program x) [
            | left t ↦ absurd (let m = t.1 in omega arith)
            | right t ↦ tested (subst (λ y. Tested sheet rules program y x) is t)
          ])

  module _ (roomy_room : roomy room ≡ true) {s : Sheet} {rs : List Rule} {tree : Program} {e : Emitter} (sheet_read : read_sheet sheet ≡ some s) (rules_read : read_rules rules ≡ ok rs) (program_read : read_program program ≡ ok tree)
      (emission : emit_program s tree ≡ ok e) where
    back : Reads s
    back = role-of-opcode (good sheet s sheet_read)

    fine : (pass : ℕ) → FineMatcher s (λ a b. matches pass rs a b)
    fine = rules-fine s back rules rules_read

    -- what is left of the call behind emission
    tests : compile_into k.place room sheet rules program ≡ (in_reach e.labels (optimize s rs e.bytecode (jump_targets e)).map e.patches >> ok (finalize_function s rs e))
    unfolding compile_into compile_files compile_program demand given ◌>>◌ ◌>>=◌
    tests = rw (roomy_room, sheet_read, rules_read, program_read, emission)

    answered : {x : Res (Unit {0})} → in_reach e.labels (optimize s rs e.bytecode (jump_targets e)).map e.patches ≡ x → a ≡ answer room (x >> ok (finalize_function s rs e))
    answered q = k.is ∙ ap (λ y. answer room y) (tests ∙ ap (λ y. y >> ok (finalize_function s rs e)) q)

    -- Where a branch is too far the number is 15.
    pub far-answer : {x : ℕ} → FarAt s rs e x → a.number ≡ far_branch
    unfolding answer ◌>>◌
    far-answer far = go (in_reach e.labels (optimize s rs e.bytecode (jump_targets e)).map e.patches) refl
      where
        go : (x : Res (Unit {0})) → in_reach e.labels (optimize s rs e.bytecode (jump_targets e)).map e.patches ≡ x → a.number ≡ far_branch
        go (ok u) q = absurd (program-far s back rs fine tree e emission far q)
        go (refuse n y) q = ap (λ (b : Answer). b.number) (answered q) ∙ reach-number e.labels _ e.patches q

    -- Finished code of at most 32,768 bytes is answered, as it was before there was a 15.
    pub short-answers : length (finalize_function s rs e).bytecode ≤ max_back → a ≡ answer room (ok (finalize_function s rs e))
    unfolding ◌>>◌
    short-answers short = answered (program-near s back rs fine tree e emission short)
