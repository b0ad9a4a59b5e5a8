-- How the call refuses: with a number from 1 to 14 before there is code to finish, or by 15's test. So an answer of number 0 is finished code.
use Prim.Native.Nat.{ℕ}
use mathlib.Core.Path.{◌≡◌, refl, ◌∙◌, ap, subst}
use mathlib.Core.List.{List, [], ◌∷◌, ◌++◌}
use mathlib.Core.Bool.{Bool, true, false}
use mathlib.Core.Option.{Option, some, none}
use lib.Dec.{eqb, ltb}
use lib.ListN.{length}
use native.Mathlib.Omega.{arith}
use Rattle.definition.specs.Limits.{max_lines, bad_sheet, code_full, labels_full, lines_full, constants_full, output_short, far_branch}
use Rattle.definition.specs.Res.{Res, ok, refuse, ◌>>=◌, ◌>>◌, demand}
use Rattle.definition.specs.Opcode.{Role, Sheet, dup, load_var}
use Rattle.definition.specs.Sheet.{read_sheet}
use Rattle.definition.specs.Rules.{Rule, read_rules}
use Rattle.definition.specs.Tree.{Fault, Program}
use Rattle.definition.specs.Program.{fault_of_block, no_fault, top_stmts, read_program}
use Rattle.definition.specs.Emit.{Call, create_label, bind_label, load_variable, store_variable, load_constant, add_constant, emit_opcode, emit_jmp, emit_jmp_if_not, emit_cmp_br, reset_stack_depth, set_position, refused, Emitter, emitter_at, LineEntry, PendingPatch, Last, other, loaded, stored, recorded, stands_at, last_entry, le16, add, fold_store, load_after, pooled_if, pooled, branch, act, acts}
use Rattle.definition.specs.Rewrite.{OffsetMap}
use Rattle.definition.specs.Optimize.{optimize}
use Rattle.definition.specs.Compile.{FinalizedFunction, jump_targets, near, in_reach, emit_program, compile_program, compile_files, Room, compile_into, answer}
use Rattle.definition.specs.Claims.{Either, left, right, Each, empty, ◌also◌}
use Rattle.field.proofs.Results.{never, ok-bind, ok-demand, ok-is, ok-given}
use Rattle.field.proofs.Refusals.{Number}
use Rattle.runs.proofs.Refusals.{Numbered, numbered-bind, numbered-demand, numbered-given, rules-numbered, read-numbered}
use Rattle.runs.proofs.Faultless.{Told, program-tells}

-- ---- emission

module _ (s : Sheet) where
  recorded-numbered : (e : Emitter) → Numbered (recorded e)
  unfolding recorded Numbered
  recorded-numbered e = by (stands_at e.position (last_entry e.line_map))
    where
      by : (b : Bool) → Numbered {A = List LineEntry} (elim b [ true ↦ ok e.line_map | false ↦ demand (ltb (length e.line_map) max_lines) lines_full 0 >> ok (e.line_map ++ (record { offset = length e.bytecode; pos = e.position } ∷ [])) ])
      by true = tt
      by false = numbered-demand _ lines_full 0 _ (omega arith, omega arith) (λ q. tt)

  add-numbered : (r : Role) (o : List ℕ) (l : Last) (e : Emitter) → Numbered (add s r o l e)
  unfolding add Numbered
  add-numbered r o l e = numbered-demand _ code_full 0 _ (omega arith, omega arith) (λ q. numbered-bind _ _ (recorded-numbered e) (λ xs p. tt))

  fold-numbered : (e : Emitter) → Numbered (fold_store s e)
  unfolding fold_store Numbered
  fold-numbered e = numbered-demand _ code_full 0 _ (omega arith, omega arith) (λ q. tt)

  load-numbered : (l : Last) (v : ℕ) (e : Emitter) → Numbered (load_after l s v e)
  unfolding load_after
  load-numbered other v e = add-numbered load_var (le16 v) (loaded v) e
  load-numbered (loaded w) v e = elim (eqb w v) as (λ b. Numbered {A = Emitter} (elim b [ true ↦ add s dup [] other e | false ↦ add s load_var (le16 v) (loaded v) e ])) [
    | true ↦ add-numbered dup [] other e
    | false ↦ add-numbered load_var (le16 v) (loaded v) e
  ]
  load-numbered (stored w) v e = elim (eqb w v) as (λ b. Numbered {A = Emitter} (elim b [ true ↦ fold_store s e | false ↦ add s load_var (le16 v) (loaded v) e ])) [
    | true ↦ fold-numbered e
    | false ↦ add-numbered load_var (le16 v) (loaded v) e
  ]

  pool-numbered : (b : Bool) (k : ℕ) (e : Emitter) → Numbered (pooled_if b k e)
  unfolding pooled_if Numbered
  pool-numbered true k e = tt
  pool-numbered false k e = numbered-demand _ constants_full 0 _ (omega arith, omega arith) (λ q. tt)

  branch-numbered : (r : Role) (o : List ℕ) (d l : ℕ) (e : Emitter) → Numbered (branch s r o d l e)
  unfolding branch Numbered
  branch-numbered r o d l e = numbered-bind _ _ (add-numbered r _ other e) (λ x p. tt)

  pub act-numbered : (c : Call) (e : Emitter) → Told c → Numbered (act s c e)
  unfolding act pooled Told Numbered
  act-numbered (create_label h) e t = numbered-demand _ labels_full 0 _ (omega arith, omega arith) (λ q. tt)
  act-numbered (bind_label l) e t = tt
  act-numbered (load_variable v) e t = load-numbered e.last v e
  act-numbered (store_variable v) e t = add-numbered _ _ _ e
  act-numbered (load_constant k) e t = numbered-bind _ _ (pool-numbered _ k e) (λ x p. add-numbered _ _ _ x)
  act-numbered (add_constant k) e t = pool-numbered _ k e
  act-numbered (emit_opcode r) e t = add-numbered r [] other e
  act-numbered (emit_jmp l) e t = branch-numbered _ _ _ l e
  act-numbered (emit_jmp_if_not l) e t = branch-numbered _ _ _ l e
  act-numbered (emit_cmp_br c v k l) e t = numbered-bind _ _ (pool-numbered _ k e) (λ x p. branch-numbered _ _ _ l x)
  act-numbered (reset_stack_depth h) e t = tt
  act-numbered (set_position p) e t = tt
  act-numbered (refused f) e t = t

  acts-numbered : {cs : List Call} (e : Emitter) → Each Told cs → Numbered (acts s cs e)
  unfolding acts Numbered
  acts-numbered e empty = tt
  acts-numbered e (◌also◌ {x = c} {xs = cs} t ts) = numbered-bind _ _ (act-numbered c e t) (λ x p. acts-numbered x ts)

-- ---- the call

no-fault : {A : Type 0} (x : Option Fault) (m : Res A) (y : A) → (no_fault x >> m) ≡ ok y → (x ≡ none) × (m ≡ ok y)
unfolding no_fault ◌>>◌
no-fault none m y e = (refl, e)
no-fault (some f) m y e = never (cc)

-- a program that is read has no fault
read-sound : (text : List ℕ) (p : Program) → read_program text ≡ ok p → fault_of_block p.body ≡ none
unfolding read_program
read-sound text p e =
    let a = ok-demand _ _ _ _ p e in
    let h = ok-bind _ _ p a.1 in
    let f = no-fault (fault_of_block (top_stmts h.0 text).0) _ p h.2 in
    ap (λ (x : Program). fault_of_block x.body) (ok-is (ok-demand _ _ _ _ p f.1).1) ∙ f.0

-- ---- how a part refuses

both : {A B C : Type 0} → Either A B → (B → Either A C) → Either A C
both (left a) f = left a
both (right b) f = f b

bind-refused : {A B : Type 0} (m : Res A) (f : A → Res B) {n p : ℕ} → Numbered m → (m >>= f) ≡ refuse n p → Either (Number n) ((a : A) × (m ≡ ok a) × (f a ≡ refuse n p))
unfolding ◌>>=◌ Numbered
bind-refused (ok a) f t e = right (a, refl, e)
bind-refused (refuse k q) f t e = left (subst (λ x. Number x) (let same : k ≡ _ = cc in same) t)

demand-refused : {A : Type 0} (b : Bool) (k q : ℕ) (m : Res A) {n p : ℕ} → Number k → (demand b k q >> m) ≡ refuse n p → Either (Number n) (m ≡ refuse n p)
unfolding demand ◌>>◌
demand-refused true k q m t e = right e
demand-refused false k q m t e = left (subst (λ x. Number x) (let same : k ≡ _ = cc in same) t)

then-refused : {A : Type 0} (m : Res (Unit {0})) (y : A) {n p : ℕ} → (m >> ok y) ≡ refuse n p → m ≡ refuse n p
unfolding ◌>>◌
then-refused (ok u) y e = never (cc)
then-refused (refuse k q) y e = cc

-- what was read and emitted where 15's test refuses
pub record Tested (sheet rules program : List ℕ) (n place : ℕ) : Type 0 where
  pub s : Sheet
  pub rs : List Rule
  pub p : Program
  pub e : Emitter
  pub sheet_read : read_sheet sheet ≡ some s
  pub rules_read : read_rules rules ≡ ok rs
  pub program_read : read_program program ≡ ok p
  pub emission : emit_program s p ≡ ok e
  pub refuses : in_reach e.labels (optimize s rs e.bytecode (jump_targets e)).map e.patches ≡ refuse n place

pub call-refused : (place : ℕ) (room : Room) (sheet rules program : List ℕ) {n x : ℕ} → compile_into place room sheet rules program ≡ refuse n x → Either (Number n) (Tested sheet rules program n x)
unfolding compile_into compile_files compile_program emit_program read_rules
call-refused place room sheet rules program e =
    both (demand-refused _ output_short 0 _ (omega arith, omega arith) e) λ e₁.
    both (bind-refused _ _ (numbered-given (read_sheet sheet) bad_sheet place (omega arith, omega arith)) e₁) λ a.
    both (bind-refused _ _ (rules-numbered 1 _) a.2) λ b.
    both (bind-refused _ _ (read-numbered program) b.2) λ c.
    both (bind-refused _ _ (acts-numbered a.0 (emitter_at c.0.pos) ((program-tells c.0.body (read-sound program c.0 c.1)).told 0)) c.2) λ d.
    right (record {
      s = a.0;
      rs = b.0;
      p = c.0;
      e = d.0;
      sheet_read = ok-given _ _ _ _ a.1;
      rules_read = b.1;
      program_read = c.1;
      emission = d.1;
      refuses = then-refused _ _ d.2;
    })

-- 15's test refuses with 15 alone
pub reach-number : (labels : List (Option ℕ)) (m : OffsetMap) (ps : List PendingPatch) {n p : ℕ} → in_reach labels m ps ≡ refuse n p → n ≡ far_branch
unfolding in_reach demand ◌>>◌
reach-number labels m [] e = never (cc)
reach-number labels m (p ∷ ps) e = go (near _ _) _ (λ h. reach-number labels m ps h) e
  where
    go : (b : Bool) (x : ℕ) {n q : ℕ} → (in_reach labels m ps ≡ refuse n q → n ≡ far_branch) → (demand b far_branch x >> in_reach labels m ps) ≡ refuse n q → n ≡ far_branch
    go true x more e = more e
    go false x more e = cc

-- if it refuses, then not with number 0
unfoldable pub Refuses : {A : Type 0} → Res A → Type 0
Refuses (ok a) = Unit {0}
Refuses (refuse n p) = n ≡ 0 → ⊥

pub call-numbered : (place : ℕ) (room : Room) (sheet rules program : List ℕ) → Refuses (compile_into place room sheet rules program)
unfolding Refuses
call-numbered place room sheet rules program = go (compile_into place room sheet rules program) refl
  where
    go : (x : Res FinalizedFunction) → compile_into place room sheet rules program ≡ x → Refuses x
    go (ok f) q = tt
    go (refuse n p) q = λ z. elim (call-refused place room sheet rules program q) [
      | left t ↦ let a = t.0 in omega arith
      | right t ↦ let a = reach-number t.e.labels _ t.e.patches t.refuses in omega arith
    ]

-- an answer of number 0 is that of no refusal
pub finished : (room : Room) (x : Res FinalizedFunction) → Refuses x → (answer room x).number ≡ 0 → (f : FinalizedFunction) × (x ≡ ok f)
unfolding answer Refuses
finished room (ok f) t e = (f, refl)
finished room (refuse n p) t e = absurd (t e)
