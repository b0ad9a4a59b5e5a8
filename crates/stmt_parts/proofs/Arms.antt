-- The labels of a CASE arm, and what closes it.
use mathlib.Core.Path.{◌≡◌, refl, sym, ◌∙◌}
use mathlib.Core.List.{List}
use Prim.Native.Nat.{ℕ, zero, suc, ◌-◌, ◌≤◌, ◌<◌}
use native.Mathlib.Numerals.{sub-one}
use native.Mathlib.Omega.{arith}
use Rattle.definition.specs.Opcode.{Sheet, CompareOp, Eq, Ge, Le, dup}
use Rattle.definition.specs.Opcode as role
use Rattle.definition.specs.Tree.{CaseLabel, value, range}
use Rattle.definition.specs.Program as def
use Rattle.definition.specs.Program.{Line, is, not, line_at, next_line, fault_at, label_forms, label_by, labels_at}
use Rattle.definition.specs.Emit.{bind_label, load_constant, emit_opcode, emit_jmp, emit_jmp_if_not, reset_stack_depth, refused}
use Rattle.definition.specs.Walk.{Calls, say, new_label}
use Rattle.definition.specs.Walk as walk
use Rattle.definition.specs.Stmt.{test_against, test_label, test_labels}
use Rattle.program_line.specs.declared.LabelLine as code
use Rattle.program_line.specs.View.{label_line}
use Rattle.program.specs.declared.Cursor.{Cursor}
use Rattle.program.specs.Walk.{cursor_of, Near, Skipped}
use Rattle.emit.specs.declared.Emitter.{Emitter}
use Rattle.emit.specs.View.{World, world}
use Rattle.emit.specs.Steps.{run, call, Ready, Bare, Booked, Created, Coded, Filled}
use Rattle.emit.proofs.Kept.{kept_then}
use Rattle.emit.proofs.Calls.{seq, said, seq-filled, said-filled, fresh-filled}
use Rattle.expr.specs.Went.{Went}
use Rattle.expr.proofs.Laws.{went, place, filled}
use Rattle.stmt_parts.specs.Parts.{Leads, label_here, test_jump, test_all, arm_tests, arm_end}
use Rattle.stmt_parts.proofs.Walks.{bare-on, booked-on, created-on, coded-on}

-- ---- labels

-- what a line was read as
pub reads : {line x : code.LabelLine} {l : Line CaseLabel} → is (label_line line) ≡ l → line ≡ x → l ≡ is (label_line x)
reads e told = rw told at (sym e)

module _ (s : Sheet) where
  pub against : (op : CompareOp) (k fail : ℕ) {e e₁ e₃ r : Emitter} {code book pool k₁ b₁ k₃ b₃ k₄ b₄ : List ℕ} {w₂ : World} → Ready (world e code book pool) → Coded (call s (emit_opcode dup)) e code book e₁ k₁ b₁ → Filled (call s (load_constant k)) (world e₁ k₁ b₁ pool) w₂
      → Coded (call s (emit_opcode (role.compare op))) w₂.e w₂.code w₂.book e₃ k₃ b₃ → Coded (call s (emit_jmp_if_not fail)) e₃ k₃ b₃ r k₄ b₄ → Filled (run s (test_against op k fail)) (world e code book pool) (world r k₄ b₄ w₂.pool)
  unfolding test_against
  against op k fail ready a b d j =
      let x₃ = coded-on b.ready d in
      seq-filled s _ _ (said-filled s _ (coded-on ready a)) (seq-filled s _ _ (said-filled s _ b) (seq-filled s _ _ (said-filled s _ x₃) (said-filled s _ (coded-on x₃.ready j))))

  pub value-tested : (k fail : ℕ) {w u : World} → Filled (run s (test_against Eq k fail)) w u → Filled (run s (test_label (value k) fail)) w u
  unfolding test_label
  value-tested k fail f = f

  pub range-tested : (low high fail : ℕ) {w v u : World} → Filled (run s (test_against Ge low fail)) w v → Filled (run s (test_against Le high fail)) v u → Filled (run s (test_label (range low high) fail)) w u
  unfolding test_label
  range-tested low high fail a b = seq-filled s _ _ a b

module _ (s : Sheet) (left : ℕ) (text : List ℕ) (c : Cursor) (fail : ℕ) where
  pub label_is : (l : CaseLabel) {next : Cursor} {w u : World} → line_at label_forms left text c.at ≡ is l → Skipped text (next_line text (cursor_of c)) next
      → Filled (run s (test_label l fail)) w u → Went s (test_label (label_here left text (cursor_of c)).0 fail) text (label_here left text (cursor_of c)).1 w u next
  unfolding label_by
  label_is l line on f = rw line (went on f)

  pub label-bad : (n : ℕ) {e r : Emitter} {code book pool : List ℕ} → Near text c.at c.row → Ready (world e code book pool) → line_at label_forms left text c.at ≡ not n → Bare (refused (record { number = n; place = c.row })) e r
      → Went s (test_label (label_here left text (cursor_of c)).0 fail) text (label_here left text (cursor_of c)).1 (world e code book pool) (world r code book pool) c
  unfolding label_by test_label fault_at
  label-bad n near ready line d = rw line (went (record { is = refl; near = near }) (said-filled s _ (bare-on ready s d)))

pub jump-done : (s : Sheet) (l : CaseLabel) (body : ℕ) {text : List ℕ} {d : def.Cursor} {c : Cursor} {e e₁ e₃ r : Emitter} {code book pool b₁ k₃ b₃ b₄ : List ℕ} {w₂ : World} {next : ℕ} → Ready (world e code book pool) → Created e book e₁ b₁ next
    → Went s (test_label l next) text d (world e₁ code b₁ pool) w₂ c → Coded (call s (emit_jmp body)) w₂.e w₂.code w₂.book e₃ k₃ b₃ → Booked (bind_label next) e₃ b₃ r b₄
    → Leads s (test_jump l body) text d (world e code book pool) (world r k₃ b₄ w₂.pool) c
unfolding test_jump
jump-done s l body {next = next} ready m t j b =
    let x₁ = created-on ready s 1 m in
    let x₃ = coded-on t.ready j in
    let x₄ = booked-on x₃.ready s b in
    record {
      place = place t;
      ready = x₄.ready;
      did = λ k u d. fresh-filled s 1 next _ m.label x₁ (seq-filled s _ _ (filled t) (seq-filled s _ _ (said-filled s _ x₃) (seq-filled s _ _ (said-filled s _ x₄) d)));
    }

module _ (left : ℕ) (text : List ℕ) (c : def.Cursor) where
  tests-more : (n body fail : ℕ) → 1 < n → test_all (labels_at left text n c).0 body fail ≡ test_jump (label_here left text c).0 body (test_all (labels_at left text (n - 1) (label_here left text c).1).0 body fail)
  unfolding labels_at test_all test_labels test_jump
  tests-more zero body fail h = absurd (omega arith)
  tests-more (suc zero) body fail h = absurd (omega arith)
  tests-more (suc (suc n)) body fail h = rw sub-one

  labels-end : (n : ℕ) → 1 < n → (labels_at left text n c).1 ≡ (labels_at left text (n - 1) (label_here left text c).1).1
  unfolding labels_at
  labels-end zero h = absurd (omega arith)
  labels-end (suc n) h = rw sub-one

  tests-one : (body fail : ℕ) → test_all (labels_at left text 1 c).0 body fail ≡ test_label (label_here left text c).0 fail
  unfolding labels_at test_all test_labels
  tests-one body fail = refl

  end-one : (labels_at left text 1 c).1 ≡ (label_here left text c).1
  unfolding labels_at
  end-one = refl

pub record Testing (s : Sheet) (left : ℕ) (text : List ℕ) (body fail n : ℕ) (c : def.Cursor) (w₀ w : World) (more : ℕ) (here : Cursor) : Type 0 where
  pub did : (u : World) → Filled (run s (test_all (labels_at left text more (cursor_of here)).0 body fail)) w u → Filled (run s (test_all (labels_at left text n c).0 body fail)) w₀ u
  pub end : (labels_at left text more (cursor_of here)).1 ≡ (labels_at left text n c).1
  pub left_over : 0 < more
  pub near : Near text here.at here.row
  pub ready : Ready w

pub tests : (s : Sheet) (left : ℕ) (text : List ℕ) (body fail n : ℕ) (c : Cursor) (w : World) → Near text c.at c.row → Ready w → 0 < n → {more : ℕ} → more ≡ n → Testing s left text body fail n (cursor_of c) w w more c
tests s left text body fail n c w near ready h all = rw all (record { did = λ u d. d; end = refl; left_over = h; near = near; ready = ready })

module _ {s : Sheet} {left : ℕ} {text : List ℕ} {body fail n : ℕ} {c : def.Cursor} {w₀ w : World} {more : ℕ} {here : Cursor} (t : Testing s left text body fail n c w₀ w more here) where
  pub tests-on : {u : World} {here' : Cursor} → Leads s (test_jump (label_here left text (cursor_of here)).0 body) text (label_here left text (cursor_of here)).1 w u here' → 1 < more → {rest : ℕ} → rest ≡ more - 1 → Testing s left text body fail n c w₀ u rest here'
  tests-on r h is-rest = rw is-rest (record {
    did = λ u d. t.did u (rw (tests-more left text (cursor_of here) more body fail h) (r.did _ u (rw r.place.is at d)));
    end = rw r.place.is (sym (labels-end left text (cursor_of here) more h) ∙ t.end);
    left_over = omega arith;
    near = r.place.near;
    ready = r.ready;
  })

  pub tests-end : {u : World} {here' : Cursor} → more ≤ 1 → Went s (test_label (label_here left text (cursor_of here)).0 fail) text (label_here left text (cursor_of here)).1 w u here' → Went s (test_all (labels_at left text n c).0 body fail) text (labels_at left text n c).1 w₀ u here'
  tests-end z r =
      let e : more ≡ 1 = omega (arith, t.left_over) in
      let d = rw e at t in
      went (record { is = r.is ∙ sym (end-one left text (cursor_of here)) ∙ d.end; near = r.near }) (d.did _ (rw (tests-one left text (cursor_of here) body fail) (filled r)))

-- ---- an arm

module _ (s : Sheet) (left : ℕ) (text : List ℕ) (n : ℕ) (c : Cursor) (next : ℕ) where
  pub arm-one : {w u : World} {c₁ : Cursor} → n ≡ 1 → Went s (test_label (label_here left text (cursor_of c)).0 next) text (label_here left text (cursor_of c)).1 w u c₁
      → Leads s (arm_tests (labels_at left text n (cursor_of c)).0 next) text (labels_at left text n (cursor_of c)).1 w u c₁
  unfolding labels_at arm_tests
  arm-one e t = rw e (record { place = place t; ready = t.ready; did = λ k u d. seq-filled s _ _ (filled t) d })

  arm-two : (n : ℕ) → 0 < n → (n ≡ 1 → ⊥) → (k : Calls) → arm_tests (labels_at left text n (cursor_of c)).0 next k ≡ walk.◌>>=◌ (new_label 1) (λ start. walk.◌>>◌ (test_all (labels_at left text n (cursor_of c)).0 start next) (walk.◌>>◌ (say (bind_label start)) k))
  unfolding labels_at arm_tests test_all
  arm-two zero h z k = absurd (omega arith)
  arm-two (suc zero) h z k = absurd (z refl)
  arm-two (suc (suc n)) h z k = refl

  pub arm_more : {e e₁ r : Emitter} {code book pool b₁ b₃ : List ℕ} {w₂ : World} {c₁ : Cursor} {start : ℕ} → Ready (world e code book pool) → 0 < n → (n ≡ 1 → ⊥) → Created e book e₁ b₁ start
      → Went s (test_all (labels_at left text n (cursor_of c)).0 start next) text (labels_at left text n (cursor_of c)).1 (world e₁ code b₁ pool) w₂ c₁ → Booked (bind_label start) w₂.e w₂.book r b₃
      → Leads s (arm_tests (labels_at left text n (cursor_of c)).0 next) text (labels_at left text n (cursor_of c)).1 (world e code book pool) (world r w₂.code b₃ w₂.pool) c₁
  arm_more {start = start} ready h z m t b =
      let x₃ = booked-on t.ready s b in
      record {
        place = place t;
        ready = x₃.ready;
        did = λ k u d. rw (arm-two n h z k) (fresh-filled s 1 start _ m.label (created-on ready s 1 m) (seq-filled s _ _ (filled t) (seq-filled s _ _ (said-filled s _ x₃) d)));
      }

pub arm-ends : (s : Sheet) (next end : ℕ) {e e₁ e₂ r : Emitter} {code book k₁ b₁ b₂ : List ℕ} → Coded (call s (emit_jmp end)) e code book e₁ k₁ b₁ → Booked (bind_label next) e₁ b₁ e₂ b₂ → Bare (reset_stack_depth 1) e₂ r → Coded (run s (arm_end next end)) e code book r k₁ b₂
unfolding arm_end
arm-ends s next end {code = code} {book = book} {k₁ = k₁} {b₂ = b₂} j b d = record {
  fine = d.fine;
  room = j.room;
  slots = b.slots;
  kept = λ pool. kept_then (j.kept pool) (kept_then (b.kept k₁ pool) (d.kept k₁ b₂ pool));
  did = λ pool. seq s _ _ (said s _ (j.did pool)) (seq s _ _ (said s _ (b.did s k₁ pool j.room)) (said s _ (d.did s k₁ b₂ pool)));
}
