-- Emission brings in no refusal without a name (`Refusal::Other`): an emitter that has none is answered without one, by each part that emits what stands in a text
-- and by each method. But a caller's own `Emitter::refuse` brings one in by its number, and `Emitter::fail` where it is handed one.
use Rattle.std.proofs.Common.{◌≡◌, ℕ, ◌≤◌, List, [], sym, refl, subst, arith}
use Rattle.std.specs.Prelude.{Some, None}
use Rattle.std.specs.Prelude as std
use Rattle.definition.specs.Limits.{max_nesting, far_branch}
use Rattle.definition.specs.Res.{Res, ok, refuse}
use Rattle.definition.specs.Opcode.{Sheet}
use Rattle.definition.specs.Tree.{Pos}
use Rattle.definition.specs.Program as def
use Rattle.definition.specs.Program.{expr_at, stmt_at}
use Rattle.definition.specs.Emit as emitter
use Rattle.definition.specs.Emit.{Call, act, refused}
use Rattle.definition.specs.Walk.{Calls}
use Rattle.definition.specs.Stmt.{emit_stmts}
use Rattle.definition.specs.Claims.{Each, empty, ◌also◌}
use Rattle.definition.specs.View.{refusal_number, Named}
use Rattle.definition.specs.declared.Refusal.{Refusal}
use Rattle.definition.specs.declared.Refused.{Refused}
use Rattle.field.proofs.Named.{small-named, same-named}
use Rattle.runs.proofs.Refusals.{Numbered, expr-told, stmt-told, block-of}
use Rattle.runs.proofs.Faultless as calls
use Rattle.runs.proofs.Faultless.{Tells, expr-tells, told-tells}
use Rattle.runs.proofs.Answers.{act-numbered}
use Rattle.program.specs.declared.Cursor.{Cursor}
use Rattle.program_shape.specs.Shape.{block_at}
use Rattle.emit.specs.declared.Emitter.{Emitter}
use Rattle.emit.specs.View.{World, state, standing, Stage, going, halted, stage_of}
use Rattle.emit.specs.Steps.{Step, ◌>->◌, Did, met_at, once, call, calls, run, Kept, Bare, Begun}
use Rattle.expr.specs.Went.{Went, WentExpr}

-- if it is refused, then by a refusal that has a name
abbrev pub NamedIn : Emitter → Type 0
NamedIn e = (r : Refused) → e.refused ≡ Some r → Named r.refusal

-- a step that halts by a number up to 15
unfoldable pub Small : Stage → Type 0
Small (going x) = Unit {0}
Small (halted n p x) = n ≤ far_branch

abbrev pub Names : Step → Type 0
Names f = (x : emitter.Emitter) → Small (f x)

small-met : (x : emitter.Emitter) (y : Res emitter.Emitter) → Numbered y → Small (met_at x y)
unfolding met_at Numbered Small
small-met x (ok y) t = tt
small-met x (refuse n p) t = omega (arith, t.1)

small-then : (m : Stage) (f : Step) → Small m → Names f → Small (m >-> f)
unfolding ◌>->◌ Small
small-then (going x) f s t = t x
small-then (halted n p x) f s t = s

pub call-names : (s : Sheet) (c : Call) → calls.Told c → Names (call s c)
unfolding once
call-names s c t x = small-met x (act s c x) (act-numbered s c x t)

calls-names : (s : Sheet) {cs : List Call} → Each calls.Told cs → Names (calls s cs)
unfolding calls Small
calls-names s empty x = tt
calls-names s (◌also◌ {x = c} {xs = cs} t ts) x = small-then (call s c x) _ (call-names s c t x) (calls-names s ts)

pub run-names : (s : Sheet) (m : Calls) → Tells m → Names (run s m)
unfolding run
run-names s m t x = calls-names s (t.told _) x

-- what comes of a step that halts by a refusal that has a name
stepped : {f : Step} {w v : World} → Kept w v → Did f w v → ((r : Refused) (x : emitter.Emitter) → halted (refusal_number r.refusal) r.place x ≡ f (state w) → Named r.refusal) → NamedIn w.e → NamedIn v.e
unfolding stage_of ◌>->◌
stepped {f} {w} {v} kept did names had = by w.e.refused refl
  where
    by : (o : std.Option Refused) → w.e.refused ≡ o → NamedIn v.e
    by (Some r) q = rw (kept.sticky (λ z. let k = rw q at z in cc)) had
    by None q = λ r at. names r (state v) (rw (q, at) at did.is)

pub step-named : {f : Step} {w v : World} → Kept w v → Did f w v → Names f → NamedIn w.e → NamedIn v.e
unfolding Small
step-named {w = w} kept did names = stepped kept did (λ r x same. let t : Small (halted (refusal_number r.refusal) r.place x) = subst (λ m. Small m) (sym same) (names (state w)) in small-named r.refusal t)

-- a refusal that has a name
pub fail-named : {e u : Emitter} (r : Refusal) (place : ℕ) → Bare (refused (record { number = refusal_number r; place = place })) e u → Named r → NamedIn e → NamedIn u
unfolding act once met_at
fail-named {e} {u} r place bare h =
    stepped (bare.kept [] [] []) (bare.did (record { opcodes = []; comparisons = [] }) [] [] []) (λ r' x same. same-named r r'.refusal h (let n : refusal_number r'.refusal ≡ refusal_number r = cc in n))

-- one to begin with
pub begun-named : {p : Pos} {e : Emitter} → Begun p e → NamedIn e
unfolding standing
begun-named begun r at = absurd (let z = rw at at begun.is [] [] [] in cc)

-- ---- what stands in a text

module _ {s : Sheet} {text : List ℕ} (c : def.Cursor) {w v : World} {d : Cursor} where
  pub emit_expr-named : (h left variables : ℕ) → WentExpr s h (expr_at left variables text c) text w v d → NamedIn w.e → NamedIn v.e
  emit_expr-named h left variables k = step-named k.kept k.did (run-names s _ (expr-tells _ h (expr-told left variables text c)))

  pub emit_stmts-named : (variables n : ℕ) → Went s (emit_stmts (block_at max_nesting variables text n c).0) text (block_at max_nesting variables text n c).1 w v d → NamedIn w.e → NamedIn v.e
  emit_stmts-named variables n k = step-named k.kept k.did (run-names s _ (told-tells _ (block-of _ n (λ x. stmt-told max_nesting variables text x) c)))
