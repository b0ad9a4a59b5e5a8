-- The parts of the call: 14, what follows emission, and the answer.
use Rattle.std.proofs.Common.{◌≡◌, ℕ, ◌*◌, true, List, [], length, take, sym, refl, ◌∙◌, arith, length-take-le}
use Rattle.definition.specs.Limits.{max_code, max_constants, max_lines, entry_size}
use Rattle.definition.specs.Res.{Res, ok, refuse, ◌>>=◌}
use Rattle.definition.specs.Opcode.{Sheet}
use Rattle.definition.specs.Rules.{Rule, read_rules}
use Rattle.definition.specs.Emit as def
use Rattle.definition.specs.Emit.{PendingPatch}
use Rattle.definition.specs.Stmt.{emit_stmts}
use Rattle.definition.specs.Tree.{Program}
use Rattle.definition.specs.Lent.{filled}
use Rattle.definition.specs.Compile as compile
use Rattle.definition.specs.Compile.{FinalizedFunction, jump_targets, finalize_function, emit_program, Room, roomy, answer}
use Rattle.store.specs.Fill.{zeroed_from}
use Rattle.store.proofs.Fills.{zero-all, zeroed-is}
use Rattle.store.proofs.Rooms.{have-room}
use Rattle.emit.specs.declared.Emitter.{Emitter}
use Rattle.opcode.specs.Table.{Good}
use Rattle.emit.specs.View.{World, world, state, standing, view}
use Rattle.emit.specs.Steps.{Fine, Begun, Did, run}
use Rattle.emit.proofs.Calls.{begun-acts}
use Rattle.opcode.proofs.Sheets.{role-of-opcode}
use Rattle.runs.proofs.Passes.{Reads, rules-fine}
use Rattle.runs.proofs.Finished.{each-so, program-bound, program-inside}
use Rattle.compile.specs.declared.FinalizedFunction as ours
use Rattle.std.specs.Prelude as std
use Rattle.std.specs.Prelude.{Result, Ok, Err, Some, None, is_err, OnOk, false}
use Rattle.definition.specs.View.{refusal_number}
use Rattle.definition.specs.declared.Refusal.TheVariants.{FarBranch}
use Rattle.definition.specs.declared.Refused.{Refused}
use Rattle.compile.specs.declared.call.Compiled.{Compiled}
use Rattle.compile.specs.View.{Patchable, Finalizes}
use Rattle.compile.specs.Call.{room, Roomy, answer_view, numbered_view, finishing, Ends, output_after, settled}

-- ---- 14

pub roomy-is : {r : Room} → roomy r ≡ true → Roomy r
unfolding roomy
roomy-is {r} e =
    let h = have-room r.code r.constants r.lines max_code max_constants (max_lines * entry_size) e in
    record { code = h.first; constants = h.second; lines = h.third }

-- ---- behind emission

pub none-left : (o : std.Option Refused) → ((x : Refused) → o ≡ Some x → ⊥) → o ≡ None
none-left None f = refl
none-left (Some x) f = absurd (f x refl)

-- a refusal, whatever the outputs hold
pub ends-here : (x : Res FinalizedFunction) (r : Refused) {a b c d e f : List ℕ} → x ≡ refuse (refusal_number r.refusal) r.place → Ends x a b c d e f (Err r)
ends-here x r is = record { is = rw is; held = λ f q. absurd (let bad : refuse (refusal_number r.refusal) r.place ≡ ok f = sym is ∙ q in cc) }

module _ (s : Sheet) (rs : List Rule) (e : Emitter) (code book constants lines : List ℕ) where
  abbrev ended : Res FinalizedFunction
  ended = finishing s rs (view (world e code book constants))

  pub ends-refused : {b k l : List ℕ} {r : Refused} → e.refused ≡ Some r → Ends ended code constants lines b k l (Err r)
  unfolding ◌>>=◌ standing
  ends-refused {r = r} off = ends-here ended r (rw off)

  -- 15
  pub ends-far : {b k l : List ℕ} {x p : ℕ} → e.refused ≡ None → Finalizes s rs e code book lines b l (Err x) → p ≡ x → Ends ended code constants lines b k l (Err (record { refusal = FarBranch; place = p }))
  unfolding ◌>>=◌ standing
  ends-far {b} {k} {l} {x} {p} on h same = ends-here ended (record { refusal = FarBranch; place = p }) (rw (on, same) (h.is constants).0)

  pub ends-finished : {b k l : List ℕ} {r : ours.FinalizedFunction} → e.refused ≡ None → Fine e → Roomy (room code constants lines) → Finalizes s rs e code book lines b l (Ok r) → k ≡ zeroed_from e.constants constants
      → Ends ended code constants lines b k l (Ok (record { bytes = r.size; depth = r.max_stack_depth; constants = e.constants; entries = r.entries }))
  unfolding ◌>>=◌ standing finalize_function filled
  ends-finished {b} {k} {l} {r} on fine roomy done zeroed =
      let c = done.is constants in
      let F : FinalizedFunction = finalize_function s rs (state (world e code book constants)) in
      let h = c.1 in
      let many : length (take e.constants constants) ≡ e.constants = length-take-le e.constants constants (omega (arith, fine.constants, roomy.constants)) in
      let is : ended ≡ ok F = rw on c.0 in
      let pool : k ≡ filled (length constants) (take e.constants constants) = zeroed ∙ zeroed-is e.constants constants ∙ rw many in
      record {
        is = rw (is, h.size, h.depth, h.entries, many);
        held = λ f q. (let same : F ≡ f = (let two : ok F ≡ ok f = sym is ∙ q in cc) in rw (← same) (record { code = h.code; constants = pool; lines = h.lines }));
      }

-- what the pool holds is nothing to patching
pub any-pool : (s : Sheet) (rs : List Rule) (e : Emitter) (code book pool : List ℕ) → Patchable s rs (state (world e code book pool)) → Patchable s rs (state (world e code book []))
unfolding jump_targets
any-pool s rs e code book pool q = record { bound = q.bound; inside = q.inside }

-- what emission gives can be patched
pub patchable : (rules : List ℕ) (s : Sheet) (rs : List Rule) → Good s → read_rules rules ≡ ok rs → (p : Program) (d : def.Emitter) → emit_program s p ≡ ok d → Patchable s rs d
patchable rules s rs g r p d q =
    let back : Reads s = role-of-opcode g in
    let fine = rules-fine s back rules r in
    record {
      bound = each-so (λ (x : PendingPatch) n. record { is = n }) (program-bound s back rs fine p d q);
      inside = each-so (λ (x : PendingPatch) n. record { is = n }) (program-inside s back rs fine p d q);
    }

-- the calls of a program's walk, run from an empty emitter, are its emission
pub emitted : (s : Sheet) (p : Program) {e : Emitter} {v : World} (code book pool : List ℕ) → Begun p.pos e → Did (run s (emit_stmts p.body)) (world e code book pool) v → view v ≡ emit_program s p
unfolding emit_program
emitted s p code book pool b d = begun-acts s (emit_stmts p.body) b d

-- ---- the answer

-- an output behind a refusal, and behind a result
pub cleared : {E : Type 0} (o : Result Compiled E) (xs : List ℕ) {ys : List ℕ} → is_err o ≡ true → ys ≡ zeroed_from 0 xs → ys ≡ output_after o xs
cleared (Err e) xs off z = zero-all xs z
cleared (Ok r) xs off z = absurd (cc)

pub kept : {E : Type 0} (o : Result Compiled E) (xs : List ℕ) → is_err o ≡ false → xs ≡ output_after o xs
kept (Err e) xs on = absurd (cc)
kept (Ok r) xs on = refl

-- the answer with the outputs
pub settled_as : (o r : Result Compiled Refused) (code constants lines : List ℕ) {b k l : List ℕ} → r ≡ o → b ≡ output_after o code → k ≡ output_after o constants → l ≡ output_after o lines
    → answer_view r b k l ≡ settled o code constants lines
unfolding answer
settled_as (Err e) r code constants lines is eb ek el = rw (is, eb, ek, el)
settled_as (Ok d) r code constants lines is eb ek el = rw (is, eb, ek, el)

-- and where a refusal is any number with a place
pub refused_as : (number place : ℕ) (r : Result Compiled (ℕ × ℕ)) (code constants lines : List ℕ) {b k l : List ℕ} → let o : Result Compiled (ℕ × ℕ) = Err (number, place) in
    r ≡ o → b ≡ output_after o code → k ≡ output_after o constants → l ≡ output_after o lines → numbered_view r b k l ≡ answer (room code constants lines) (refuse number place)
unfolding answer
refused_as number place r code constants lines is eb ek el = rw (is, eb, ek, el)

-- what an outcome settles to is the definition's answer
pub settled_is : (x : Res FinalizedFunction) {bytes words numbers b k l : List ℕ} {o : Result Compiled Refused} → Ends x bytes words numbers b k l o → length b ≡ length bytes → length k ≡ length words → length l ≡ length numbers
    → settled o b k l ≡ answer (room bytes words numbers) x
unfolding answer
settled_is (refuse n p) {o = Err e} ends eb ek el =
    let a : refusal_number e.refusal ≡ n = (let i = ends.is in cc) in
    let b : e.place ≡ p = (let i = ends.is in cc) in
    rw (a, b, eb, ek, el)
settled_is (refuse n p) {o = Ok r} ends eb ek el = absurd (let i = ends.is in cc)
settled_is (ok f) {o = Err e} ends eb ek el = absurd (let i = ends.is in cc)
settled_is (ok f) {o = Ok r} ends eb ek el =
    let h = ends.held f refl in
    let a : r ≡ record { bytes = length f.bytecode; depth = f.depth; constants = length f.constants; entries = length f.line_map } = (let i = ends.is in cc) in
    rw (a, h.code, h.constants, h.lines)

-- what is said of an answer with no refusal
pub on_ok : (P : compile.Answer → Type 0) (o : Result Compiled Refused) (b k l : List ℕ) → ((answer_view o b k l).number ≡ 0 → P (answer_view o b k l)) → OnOk o (P (answer_view o b k l))
on_ok P (Ok r) b k l f = f refl
on_ok P (Err e) b k l f = tt
