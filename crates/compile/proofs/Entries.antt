-- The entry: 14, 7, 9, 1 and the lines before emission, and what it lends.
use Rattle.std.proofs.Common.{◌≡◌, ℕ, ◌≤◌, true, false, List, ◌++◌, length, take, drop, sym, refl, ap, ◌∙◌, arith, length-append, length-drop, length-take-le}
use lib.Seq.{take-append-le}
use Rattle.definition.specs.Limits.{max_constants, max_nesting, bad_sheet, output_short}
use Rattle.definition.specs.Res.{Res, ok, refuse, ◌>>=◌, ◌>>◌, demand, given}
use Rattle.definition.specs.Opcode.{Sheet}
use Rattle.definition.specs.Sheet.{read_sheet}
use Rattle.definition.specs.Rules.{Rule, read_rules}
use Rattle.definition.specs.Program.{Header, top_stmts}
use Rattle.definition.specs.Stmt.{emit_stmts}
use Rattle.definition.specs.Compile as compile
use Rattle.definition.specs.Compile.{FinalizedFunction, finalize_function, emit_program, compile_program, compile_files, compile_into, Room, roomy, answer, Free, Compiles}
use Rattle.definition.specs.Claims.{Safe, Faithful}
use Rattle.opcode.specs.Table.{Good, sheet_in}
use Rattle.opcode.specs.Reading.{Accepts, Refuses}
use Rattle.opcode.proofs.Faults.{good}
use Rattle.rules.specs.View as rules
use Rattle.rules.specs.View.{rules_in, Answered}
use Rattle.program.specs.Check as program
use Rattle.program.specs.Check.{checked_view, checked, program_of}
use Rattle.program.proofs.Check as read
use Rattle.program_shape.specs.Shape.{block_at}
use Rattle.emit.specs.declared.Emitter.{Emitter}
use Rattle.emit.specs.Pool as pools
use Rattle.emit.specs.View.{World, world, state, standing, view}
use Rattle.emit.specs.Steps.{Fine, Ready, Begun, Did, run}
use Rattle.store.specs.Fill.{fitted}
use Rattle.store.proofs.Fills.{fitted-is, front, length-filled}
use Rattle.optimize.proofs.Entry.{place-by, rules-read, rules-bad}
use Rattle.runs.proofs.Safe.{compiled-safe}
use Rattle.meaning.proofs.Faithful.{compiled-faithful}
use Rattle.std.specs.Prelude.{Result, Err, None, OnOk}
use Rattle.definition.specs.View.{refusal_number}
use Rattle.definition.specs.declared.Refusal.TheVariants.{OutputShort}
use Rattle.definition.specs.declared.Refused.{Refused}
use Rattle.compile.specs.declared.call.Compiled.{Compiled}
use Rattle.compile.specs.View.{Patchable}
use Rattle.compile.specs.Call.{room, answer_view, settled, finishing, Ends}
use Rattle.compile.specs.Entry.{FromFile, behind_rules, behind_sheet, Finds}
use Rattle.compile.proofs.Answers.{ends-here, patchable, emitted, settled_is, on_ok}

ends_as : {x y : Res FinalizedFunction} {a b c d e f : List ℕ} {o : Result Compiled Refused} → x ≡ y → Ends x a b c d e f o → Ends y a b c d e f o
ends_as is k = rw is at k

-- ---- 9

module _ (s : Sheet) (text program : List ℕ) {table : List ℕ} where
  pub ends-9 : (r : Refused) {a b c d e g : List ℕ} → Answered rules.table_size (read_rules text) (refuse (refusal_number r.refusal) r.place) table → Ends (behind_sheet s text program) a b c d e g (Err r)
  unfolding behind_sheet ◌>>=◌
  ends-9 r h = ends-here _ r (rw (rules-bad (read_rules text) (refusal_number r.refusal) r.place h.is))

  module _ {count : ℕ} (h : Answered rules.table_size (read_rules text) (ok count) table) where
    pub from-file : FromFile (rules_in table count)
    from-file = let d = rules-read h in record { file = text; is = rw d.same d.is }

    pub ends-rules : {a b c d e g : List ℕ} {o : Result Compiled Refused} → Ends (behind_rules s (rules_in table count) program) a b c d e g o → Ends (behind_sheet s text program) a b c d e g o
    unfolding behind_sheet ◌>>=◌
    ends-rules k = let d = rules-read h in ends_as (rw (d.is, d.same)) k

-- ---- 1, and the lines

module _ (s : Sheet) (rs : List Rule) (text : List ℕ) where
  pub ends-1 : (r : Refused) {a b c d e f : List ℕ} → refuse (refusal_number r.refusal) r.place ≡ checked text → Ends (behind_rules s rs text) a b c d e f (Err r)
  unfolding behind_rules ◌>>=◌
  ends-1 r is = ends-here _ r (rw (read.refused text (sym is)))

  pub ends-text : (h : Header) (next : ℕ) {a b c d e f : List ℕ} {o : Result Compiled Refused} → ok (h, next) ≡ checked text → Ends (compile_program s rs (program_of text h)) a b c d e f o → Ends (behind_rules s rs text) a b c d e f o
  unfolding behind_rules ◌>>=◌
  ends-text h next is k = let t = (read.accepted text (sym is)).read in ends_as (rw t) k

-- ---- emission

-- the outputs whose front was lent
pub front_long : (xs ys : List ℕ) (n : ℕ) → length xs ≡ n → n ≤ length ys → length (xs ++ drop n ys) ≡ length ys
front_long xs ys n e h = rw (length-append, e, length-drop) (omega arith)

-- the constants copied from a pool k
pub record Copied (e : Emitter) (k constants constants' : List ℕ) : Type 0 where
  pub same : take e.constants constants' ≡ take e.constants k
  pub long : length constants' ≡ length constants

pub copied : {k constants' : List ℕ} (e : Emitter) (constants : List ℕ) → Fine e → pools.Held k → max_constants ≤ length constants → constants' ≡ fitted (length constants) (take e.constants k) → Copied e k constants constants'
copied {k} {constants'} e constants fine held room is =
    let many : length (take e.constants k) ≡ e.constants = length-take-le e.constants k (omega (arith, fine.constants, held.size)) in
    let fits : length (take e.constants k) ≤ length constants = omega (arith, fine.constants) in
    let f = fitted-is (length constants) (take e.constants k) fits is in
    record { same = rw f (front (length constants) (take e.constants k) e.constants many); long = ap length f ∙ length-filled (length constants) (take e.constants k) fits }

pub whole-view : {e : Emitter} {c b k constants constants' : List ℕ} (code : List ℕ) → Ready (world e c b k) → Copied e k constants constants' → view (world e (c ++ code) b constants') ≡ view (world e c b k)
whole-view {e} {c} code r copy = rw (take-append-le e.size c code (omega (arith, r.fine.size, r.room)), copy.same)

module _ (s : Sheet) (text : List ℕ) (h : Header) (next : ℕ) (there : program.Accepts text h next) {e₀ : Emitter} {v : World} (code book pool : List ℕ) (b : Begun h.pos e₀)
    (d : Did (run s (emit_stmts (block_at max_nesting h.variables text h.statements (record { at = next; row = 2 })).0)) (world e₀ code book pool) v) where
  pub emission : view v ≡ emit_program s (program_of text h)
  unfolding top_stmts
  emission = emitted s (program_of text h) code book pool b (rw there.top at d)

  module _ {e : Emitter} {c b' k more : List ℕ} (rest : List ℕ) {constants : List ℕ} (is : v ≡ world e c b' k) (ready : Ready v) (copy : Copied e k constants more) where
    whole : view (world e (c ++ rest) b' more) ≡ emit_program s (program_of text h)
    whole = whole-view rest (rw is at ready) copy ∙ (rw is at emission)

    -- what `finish` is lent can be patched
    pub lent-patchable : (rs : List Rule) → Good s → FromFile rs → e.refused ≡ None → Patchable s rs (state (world e (c ++ rest) b' more))
    unfolding standing
    lent-patchable rs g f on = patchable f.file s rs g f.is (program_of text h) (state (world e (c ++ rest) b' more)) (sym whole ∙ rw on)

    pub ends-emitted : (rs : List Rule) (code₀ : List ℕ) {lines d n l : List ℕ} {o : Result Compiled Refused} → length (c ++ rest) ≡ length code₀
        → Ends (finishing s rs (view (world e (c ++ rest) b' more))) (c ++ rest) more lines d n l o → Ends (compile_program s rs (program_of text h)) code₀ constants lines d n l o
    unfolding compile_program
    ends-emitted rs code₀ eb ends = record {
      is = rw whole at ends.is;
      held = λ f q. (let g = ends.held f (rw whole q) in record { code = rw eb at g.code; constants = rw copy.long at g.constants; lines = g.lines });
    }

-- ---- 14, 7, and the rest

order : (sheet rules program : List ℕ) (r : Room) (place : ℕ) → compile_into place r sheet rules program ≡ (demand (roomy r) output_short 0 >> (given (read_sheet sheet) bad_sheet place >>= λ s. behind_sheet s rules program))
unfolding compile_into compile_files behind_sheet behind_rules
order sheet rules program r place = refl

module _ (sheet rules program code constants lines : List ℕ) where
  abbrev r : Room
  r = room code constants lines

  pub short : {b k l : List ℕ} → roomy r ≡ false → Finds sheet rules program code constants lines b k l (Err (record { refusal = OutputShort; place = 0 }))
  unfolding ◌>>◌ demand
  short off =
      let f = place-by sheet (read_sheet sheet) refl in
      record { place = f.0; free = f.1; ends = ends-here _ (record { refusal = OutputShort; place = 0 }) (rw (order sheet rules program r f.0, off)) }

  module _ (table : List ℕ) (enough : roomy r ≡ true) where
    pub refused-7 : (e : Refused) {b k l : List ℕ} → Refuses sheet table (refusal_number e.refusal) e.place → Finds sheet rules program code constants lines b k l (Err e)
    unfolding ◌>>◌ ◌>>=◌ demand given Free
    refused-7 e d = record { place = e.place; free = λ _. d.fault; ends = ends-here _ e (rw (order sheet rules program r e.place, enough, d.is, d.number)) }

    pub after-sheet : {b k l : List ℕ} {o : Result Compiled Refused} → Accepts sheet table → Ends (behind_sheet (sheet_in table) rules program) code constants lines b k l o → Finds sheet rules program code constants lines b k l o
    unfolding ◌>>◌ ◌>>=◌ demand given Free
    after-sheet d ends =
        let good = d.is in
        record {
          place = 0;
          free = λ q. absurd (cc);
          ends = ends_as (rw (order sheet rules program r 0, enough, d.is)) ends;
        }

pub sheet-good : {sheet table : List ℕ} → Accepts sheet table → Good (sheet_in table)
sheet-good {sheet} {table} d = good sheet (sheet_in table) d.is

-- what the call answers, demand 3 of it and, for an empty rule file, that it does what the statements say
pub answered : {r : Room} {sheet rules program : List ℕ} {a : compile.Answer} → Compiles r sheet rules program a → Compiles r sheet rules program a × ((a.number ≡ 0 → Safe sheet rules program a) × (a.number ≡ 0 → length rules ≡ 0 → Faithful sheet program a))
answered {r} {sheet} {rules} {program} {a} k = (k, (λ z. compiled-safe r sheet rules program a k z, λ z e. compiled-faithful r sheet rules program a k z e))

-- the same of what code answers: of any answer that its outcome settles to, and of a result
module _ (sheet rules program : List ℕ) {code constants lines b k l : List ℕ} {o : Result Compiled Refused} (f : Finds sheet rules program code constants lines b k l o) where
  pub call-answers : {a : compile.Answer} → a ≡ settled o b k l → length b ≡ length code → length k ≡ length constants → length l ≡ length lines → Compiles (room code constants lines) sheet rules program a
  call-answers same eb ek el = record { place = f.place; free = f.free; is = same ∙ settled_is (compile_into f.place (room code constants lines) sheet rules program) f.ends eb ek el }

module _ {r : Room} {sheet rules program : List ℕ} (o : Result Compiled Refused) (b k l : List ℕ) (d : Compiles r sheet rules program (answer_view o b k l)) where
  pub answered-safe : OnOk o (Safe sheet rules program (answer_view o b k l))
  answered-safe = on_ok (λ a. Safe sheet rules program a) o b k l (answered d).1.0

  pub answered-faithful : OnOk o (length rules ≡ 0 → Faithful sheet program (answer_view o b k l))
  answered-faithful = on_ok (λ a. length rules ≡ 0 → Faithful sheet program a) o b k l (answered d).1.1
