-- Every refusal that is answered has a name: what the clauses say of its number rules out one of no name (`Refusal::Other`). A walk that is handed in refused
-- is answered as it was, so it is no such answer.
use Rattle.std.proofs.Common.{◌≡◌, ℕ, zero, suc, ◌≤◌, Bool, true, false, List, [], ◌∷◌, sym, refl, arith}
use Rattle.std.specs.Prelude.{Result, Err}
use Rattle.std.proofs.Math.Option.{Option, some, none}
use Rattle.definition.specs.Limits.{bad_sheet, bad_code, code_full, labels_full, lines_full, output_short, far_branch}
use Rattle.definition.specs.Res.{Res, ok, refuse}
use Rattle.definition.specs.Opcode.{Sheet}
use Rattle.definition.specs.Tree.{Fault}
use Rattle.definition.specs.Program as def
use Rattle.definition.specs.Program.{Form, Line, not, line_at, header_forms, fault_of_expr, fault_of_stmt}
use Rattle.definition.specs.Rules.{read_rules}
use Rattle.definition.specs.Alone as alone
use Rattle.definition.specs.Alone.{boundaries, checked, rewrite_files, rewrite_into, Rewritten, Given, Rewrites}
use Rattle.definition.specs.Compile as compile
use Rattle.definition.specs.Compile.{FinalizedFunction, compile_into, Compiles}
use Rattle.definition.specs.Claims.{left, right}
use Rattle.definition.specs.View.{refusal_number, res_of, Named}
use Rattle.definition.specs.declared.Refusal.{Refusal}
use Rattle.definition.specs.declared.Refused.{Refused}
use Rattle.field.proofs.Named.{small-named}
use Rattle.field.proofs.Refusals.{LineTold, at_told, anything}
use Rattle.runs.proofs.Refusals.{Numbered, Told, numbered-bind, numbered-then, numbered-demand, numbered-given, rules-numbered, expr-first, stmt-first, expr-told, stmt-told, header-numbered, read-numbered}
use Rattle.runs.proofs.Answers.{call-refused, reach-number}
use Rattle.runs.proofs.Named.{refused-named, numbered-named}
use Rattle.program_line.specs.declared.Next.{Next}
use Rattle.program_line.specs.Scan.{Found}
use Rattle.program.specs.declared.Cursor.{Cursor}
use Rattle.program.specs.declared.Stop.{Stop}
use Rattle.program.specs.declared.Checked.{Checked}
use Rattle.program.specs.Walk.{outcome, many, over_expr, over_stmt, Walked}
use Rattle.program.specs.Check as program
use Rattle.program.specs.Check.{checked_view}
use Rattle.optimize.specs.View as optimize
use Rattle.optimize.specs.declared.alone.Rewritten as code
use Rattle.compile.specs.declared.call.Compiled.{Compiled}
use Rattle.compile.specs.Call.{answer_view}

-- ---- the lines of a program

pub line-named : {T L : Type 0} (view : T → L) (forms : List (Form L)) (level : ℕ) (text : List ℕ) (at : ℕ) {r : Result (Next T) Refusal} {stop : ℕ} (e : Refusal)
    → Found view r (line_at forms level text at) stop → r ≡ Err e → Named e
unfolding LineTold
line-named {L = L} view forms level text at e found is =
    let x : line_at forms level text at ≡ not (refusal_number e) = sym (rw is at found.is) in
    let t : LineTold {L = L} (λ l. Unit {0}) (not (refusal_number e)) = rw x at (at_told (λ l. Unit {0}) forms level text at (anything forms)) in
    small-named e (omega (arith, t.1))

-- ---- walks that were not handed in refused

outcome-numbered : (heed : Bool) (x : Option Fault) (c : def.Cursor) → Told x → Numbered (outcome heed x c)
unfolding outcome Told Numbered
outcome-numbered true none c t = tt
outcome-numbered true (some f) c t = t
outcome-numbered false x c t = tt

many-numbered : (n : ℕ) (f : def.Cursor → Res def.Cursor) → ((c : def.Cursor) → Numbered (f c)) → (c : def.Cursor) → Numbered (many n f c)
unfolding many Numbered
many-numbered zero f t c = tt
many-numbered (suc n) f t c = numbered-bind (f c) _ (t c) (λ d q. many-numbered n f t d)

walk-named : {f : def.Cursor → Res def.Cursor} {text : List ℕ} {c : Cursor} {r : Result Cursor Stop} (s : Stop) → ((d : def.Cursor) → Numbered (f d)) → Walked f text c r → r ≡ Err s → Named s.refusal
walk-named s told walked is = refused-named s.refusal (sym (rw is at walked.did)) (told _)

module _ (heed : Bool) (left variables : ℕ) (text : List ℕ) {c : Cursor} {r : Result Cursor Stop} (s : Stop) where
  pub expr-walk-named : Walked (over_expr heed left variables text) text c r → r ≡ Err s → Named s.refusal
  expr-walk-named = walk-named s (λ d. outcome-numbered heed _ _ (expr-first _ (expr-told left variables text d)))

  pub stmts-walk-named : (n : ℕ) → Walked (many n (over_stmt heed left variables text)) text c r → r ≡ Err s → Named s.refusal
  stmts-walk-named n = walk-named s (many-numbered n _ (λ d. outcome-numbered heed _ _ (stmt-first _ (stmt-told left variables text d))))

-- ---- the check of a program

pub check-named : (text : List ℕ) {r : Result Checked Refused} (e : Refused) → res_of checked_view r ≡ program.checked text → r ≡ Err e → Named e.refusal
unfolding program.checked Numbered
check-named text e same = numbered-named checked_view e same
    (numbered-bind (def.read_program text) _ (read-numbered text) (λ p q. numbered-bind _ _ (header-numbered text) (λ h q'. tt)))

-- ---- rewriting called alone

places-numbered : (places xs : List ℕ) → Numbered (boundaries places xs)
unfolding boundaries Numbered
places-numbered places [] = tt
places-numbered places (x ∷ xs) = numbered-demand _ bad_code x _ (omega arith, omega arith) (λ q. places-numbered places xs)

checks-numbered : (s : Sheet) (g : Given) → Numbered (checked s g)
unfolding checked
checks-numbered s g = numbered-demand _ bad_code _ _ (omega arith, omega arith) (λ q. numbered-then _ _ (places-numbered _ g.protected) (places-numbered _ _))

rewriting-numbered : (place : ℕ) (room : alone.Room) (sheet rules : List ℕ) (g : Given) → Numbered (rewrite_into place room sheet rules g)
unfolding rewrite_into rewrite_files read_rules Numbered
rewriting-numbered place room sheet rules g =
    numbered-demand _ output_short 0 _ (omega arith, omega arith) λ q.
    numbered-bind _ _ (numbered-given _ bad_sheet place (omega arith, omega arith)) λ s q₁.
    numbered-bind _ _ (rules-numbered 1 _) λ rs q₂.
    numbered-demand _ code_full 0 _ (omega arith, omega arith) λ q₃.
    numbered-demand _ labels_full 0 _ (omega arith, omega arith) λ q₄.
    numbered-demand _ lines_full 0 _ (omega arith, omega arith) λ q₅. numbered-then _ _ (checks-numbered s g) tt

alone-small : (room : alone.Room) (x : Res Rewritten) → Numbered x → (alone.answer room x).number ≤ far_branch
unfolding alone.answer Numbered
alone-small room (ok y) t = omega arith
alone-small room (refuse n p) t = omega (arith, t.1)

pub alone-named : {room : alone.Room} {sheet rules : List ℕ} {g : Given} {r : Result code.Rewritten Refused} (bytes offsets entries : List ℕ) (e : Refused)
    → Rewrites room sheet rules g (optimize.answer_view r bytes offsets entries) → r ≡ Err e → Named e.refusal
alone-named {room} {sheet} {rules} {g} bytes offsets entries e d is =
    let same : optimize.answer_view (Err e) bytes offsets entries ≡ alone.answer room (rewrite_into d.place room sheet rules g) = rw is at d.is in
    small-named e.refusal (rw (← same) at (alone-small room _ (rewriting-numbered d.place room sheet rules g)))

-- ---- the call

call-small : (place : ℕ) (room : compile.Room) (sheet rules program : List ℕ) → (compile.answer room (compile_into place room sheet rules program)).number ≤ far_branch
unfolding compile.answer
call-small place room sheet rules program = by (compile_into place room sheet rules program) refl
  where
    by : (x : Res FinalizedFunction) → compile_into place room sheet rules program ≡ x → (compile.answer room x).number ≤ far_branch
    by (ok f) q = omega arith
    by (refuse n p) q = elim (call-refused place room sheet rules program q) [
      | left t ↦ omega (arith, t.1)
      | right t ↦ omega (arith, reach-number t.e.labels _ t.e.patches t.refuses)
    ]

pub compile-named : {room : compile.Room} {sheet rules program : List ℕ} {r : Result Compiled Refused} (code constants lines : List ℕ) (e : Refused)
    → Compiles room sheet rules program (answer_view r code constants lines) → r ≡ Err e → Named e.refusal
compile-named {room} {sheet} {rules} {program} code constants lines e d is =
    let same : answer_view (Err e) code constants lines ≡ compile.answer room (compile_into d.place room sheet rules program) = rw is at d.is in
    small-named e.refusal (rw (← same) at (call-small d.place room sheet rules program))
