-- The call: an answer of number 0 holds finished code of which demand 3's claims hold (`compiled-safe`), each of whose places has one
-- height (`compiled-heights`), and which passes L11's check with its own depth (`compiled-passes`, `compiled-checks`).
use Prim.Native.Nat.{ℕ, ◌-◌, ◌≤◌}
use mathlib.Core.Path.{◌≡◌, refl, sym, ◌∙◌, ap, subst}
use mathlib.Core.List.{List}
use mathlib.Core.Option.{some, none}
use lib.ListN.{length, take}
use lib.Seq.{take-append_seam}
use native.Mathlib.Omega.{arith}
use Rattle.definition.specs.Limits.{max_code}
use Rattle.definition.specs.Res.{Res, ok, refuse, ◌>>◌}
use Rattle.definition.specs.Opcode.{Sheet}
use Rattle.definition.specs.Sheet.{read_sheet}
use Rattle.definition.specs.Rules.{Rule, read_rules, matches}
use Rattle.definition.specs.Tree.{Program}
use Rattle.definition.specs.Program.{read_program}
use Rattle.definition.specs.Emit.{Emitter}
use Rattle.definition.specs.Lent.{zeros, filled}
use Rattle.definition.specs.Compile.{FinalizedFunction, finalize_function, emit_program, compile_program, compile_files, Room, compile_into, Answer, answer, Compiles}
use Rattle.definition.specs.Claims.{SafeCode, Safe, OneHeight}
use Rattle.definition.specs.Check.{Passes, Checks, refuses_sheet, refuses_length, answers}
use Rattle.opcode.proofs.Faults.{good}
use Rattle.opcode.proofs.Sheets.{role-of-opcode}
use Rattle.field.proofs.Results.{never, some_is, ok-demand, ok-bind, ok-is, ok-given}
use Rattle.runs.proofs.Answers.{call-numbered, finished}
use Rattle.runs.proofs.Passes.{Reads, Fine as FineMatcher, rules-fine}
use Rattle.runs.proofs.Finished.{Reaches, program_runs, program-branches, program-short, program-heights, program-listed}
use Rattle.runs.proofs.Passing.{passes}
use Rattle.runs.proofs.Decided.{program-fused}

-- what the call read and emitted, where it gave back f
pub record Compiled (sheet rules program : List ℕ) (f : FinalizedFunction) : Type 0 where
  pub s : Sheet
  pub rs : List Rule
  pub p : Program
  pub e : Emitter
  pub sheet_read : read_sheet sheet ≡ some s
  pub rules_read : read_rules rules ≡ ok rs
  pub program_read : read_program program ≡ ok p
  pub emission : emit_program s p ≡ ok e
  pub reach : Reaches s rs e
  pub finish : f ≡ finalize_function s rs e

ok-both : {A : Type 0} (m : Res (Unit {0})) (k : Res A) (y : A) → (m >> k) ≡ ok y → (m ≡ ok tt) × (k ≡ ok y)
unfolding ◌>>◌
ok-both (ok u) k y e = (refl, e)
ok-both (refuse n p) k y e = never (cc)

pub compiled : (place : ℕ) (sheet rules program : List ℕ) (f : FinalizedFunction) → compile_files place sheet rules program ≡ ok f → Compiled sheet rules program f
unfolding compile_files compile_program
compiled place sheet rules program f q =
    let a = ok-bind _ _ f q in
    let b = ok-bind _ _ f a.2 in
    let c = ok-bind _ _ f b.2 in
    let d = ok-bind _ _ f c.2 in
    let h = ok-both _ _ f d.2 in
    record {
      s = a.0;
      rs = b.0;
      p = c.0;
      e = d.0;
      sheet_read = ok-given (read_sheet sheet) _ _ a.0 a.1;
      rules_read = b.1;
      program_read = c.1;
      emission = d.1;
      reach = h.0;
      finish = ok-is h.1;
    }

-- an output starts with what it holds
pub lent : (room : ℕ) (xs : List ℕ) → take (length xs) (filled room xs) ≡ xs
unfolding filled
lent room xs = take-append_seam xs (zeros (room - length xs))

module _ {sheet rules program : List ℕ} {f : FinalizedFunction} (made : Compiled sheet rules program f) where
  back : Reads made.s
  back = role-of-opcode (good sheet made.s made.sheet_read)

  fine : (pass : ℕ) → FineMatcher made.s (λ a b. matches pass made.rs a b)
  fine = rules-fine made.s back rules made.rules_read

  code-safe : SafeCode made.s made.rs made.p made.e f.bytecode f.constants f.depth
  unfolding finalize_function
  code-safe = subst (λ g. SafeCode made.s made.rs made.p made.e g.bytecode g.constants g.depth) (sym made.finish) (record {
    runs = program_runs made.s back made.rs fine made.p made.e made.emission made.reach;
    branches = program-branches made.s back made.rs fine made.p made.e made.emission made.reach;
    fused = program-fused made.s (good sheet made.s made.sheet_read) made.rs fine made.p made.e made.emission made.reach;
  })

  answer-safe : (room : Room) → Safe sheet rules program (answer room (ok f))
  unfolding answer
  answer-safe room =
      let c = lent room.code f.bytecode in
      let k = lent room.constants f.constants in
      record {
        s = made.s;
        rs = made.rs;
        tree = made.p;
        e = made.e;
        sheet_read = made.sheet_read;
        rules_read = made.rules_read;
        program_read = made.program_read;
        emission = made.emission;
        whole = ap length c;
        fits = subst (λ g. length g.bytecode ≤ max_code) (sym made.finish) (program-short made.s back made.rs fine made.p made.e made.emission);
        safe = subst (λ y. SafeCode made.s made.rs made.p made.e y (take (length f.constants) (filled room.constants f.constants)) f.depth) (sym c)
            (subst (λ y. SafeCode made.s made.rs made.p made.e f.bytecode y f.depth) (sym k) code-safe);
      }

  answer-heights : (room : Room) → OneHeight made.s (take (answer room (ok f)).code_length (answer room (ok f)).code) (answer room (ok f)).depth
  unfolding answer
  answer-heights room = subst (λ y. OneHeight made.s y f.depth) (sym (lent room.code f.bytecode))
      (subst (λ g. OneHeight made.s g.bytecode g.depth) (sym made.finish) (program-heights made.s back made.rs fine made.p made.e made.emission made.reach))

  code-passes : Passes made.s f.bytecode f.depth
  unfolding finalize_function
  code-passes = subst (λ g. Passes made.s g.bytecode g.depth) (sym made.finish) (passes made.s _ _
      (program-listed made.s back made.rs fine made.p made.e made.emission (good sheet made.s made.sheet_read))
      (program_runs made.s back made.rs fine made.p made.e made.emission made.reach)
      (program-heights made.s back made.rs fine made.p made.e made.emission made.reach))

  answer-passes : (room : Room) → Passes made.s (take (answer room (ok f)).code_length (answer room (ok f)).code) (answer room (ok f)).depth
  unfolding answer
  answer-passes room = subst (λ y. Passes made.s y f.depth) (sym (lent room.code f.bytecode)) code-passes

-- ---- the call

module _ (room : Room) (sheet rules program : List ℕ) (a : Answer) (k : Compiles room sheet rules program a) (z : a.number ≡ 0) where
  -- what the call gave back
  pub given_back : (f : FinalizedFunction) × (compile_into k.place room sheet rules program ≡ ok f)
  given_back = finished room _ (call-numbered k.place room sheet rules program) (sym (ap (λ (x : Answer). x.number) k.is) ∙ z)

  abbrev pub given : FinalizedFunction
  given = given_back.0

  pub is-answer : a ≡ answer room (ok given)
  is-answer = k.is ∙ ap (λ x. answer room x) given_back.1

  pub made : Compiled sheet rules program given
  unfolding compile_into
  made = compiled k.place sheet rules program given (ok-demand _ _ _ _ given given_back.1).1

  -- Demand 3, of whatever a call that refuses nothing gave back.
  pub compiled-safe : Safe sheet rules program a
  compiled-safe = subst (λ x. Safe sheet rules program x) (sym is-answer) (answer-safe made room)

  -- Each place of it has one height.
  pub compiled-heights : (s : Sheet) × (read_sheet sheet ≡ some s) × OneHeight s (take a.code_length a.code) a.depth
  compiled-heights = (made.s, made.sheet_read, subst (λ x. OneHeight made.s (take x.code_length x.code) x.depth) (sym is-answer) (answer-heights made room))

  -- It passes with its own depth (document 02, L11).
  pub compiled-passes : (s : Sheet) × (read_sheet sheet ≡ some s) × Passes s (take a.code_length a.code) a.depth
  compiled-passes = (made.s, made.sheet_read, subst (λ x. Passes made.s (take x.code_length x.code) x.depth) (sym is-answer) (answer-passes made room))

  -- So its check answers 0, and place 0.
  pub compiled-checks : {n place : ℕ} → Checks sheet (take a.code_length a.code) a.depth n place → (n ≡ 0) × (place ≡ 0)
  compiled-checks (refuses_sheet e f) = let z : none ≡ some made.s = sym e ∙ made.sheet_read in never (cc)
  compiled-checks (refuses_length e l) = let w = compiled-safe.whole in let f = compiled-safe.fits in absurd (omega arith)
  compiled-checks (answers {s = s} {n = n} e l x) =
      let p = compiled-passes in
      let q : p.0 ≡ s = some_is (sym p.1 ∙ e) in
      (x.passes.1 (subst (λ y. Passes y (take a.code_length a.code) a.depth) q p.2), refl)
