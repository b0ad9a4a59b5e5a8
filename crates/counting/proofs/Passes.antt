-- The theorem: a FOR of a program makes its passes (document 01, part 6).
use Prim.Native.Nat.{ℕ, ◌-◌, ◌^◌, ◌≤◌, ◌<◌}
use mathlib.Core.Path.{◌≡◌, refl, sym, ◌∙◌, ap, subst}
use mathlib.Core.List.{List, [], ◌∷◌, ◌++◌, append_assoc}
use mathlib.Core.Bool.{Bool, true, false}
use mathlib.Core.Option.{some}
use native.Mathlib.Omega.{arith}
use lib.Dec.{ltb}
use borrow.Author.Tests.{lt-leb}
use Rattle.definition.specs.Limits.{width}
use Rattle.definition.specs.Res.{ok}
use Rattle.definition.specs.Program.{read_program}
use Rattle.definition.specs.Opcode.{Sheet, Gt}
use Rattle.definition.specs.Sheet.{read_sheet}
use Rattle.definition.specs.Tree.{Program, counts_down, Block}
use Rattle.definition.specs.Emit.{load_constant, Emitter, emitter_at, acts}
use Rattle.definition.specs.Walk.{after}
use Rattle.definition.specs.Stmt.{emit_stmts}
use Rattle.definition.specs.Compile.{FinalizedFunction, finalize_function, emit_program, compile_files}
use Rattle.definition.specs.Claims.{Either, left, right}
use Rattle.opcode.proofs.Faults.{good}
use Rattle.opcode.proofs.Sheets.{role-of-opcode, comparison-of-byte}
use Rattle.definition.specs.Machine.{Image, State, is_start, image_of}
use Rattle.definition.specs.For.{Places, Emits, For, for_stmt, setting_of, testing_of, body_of, counting_of, places_of}
use Rattle.definition.specs.Count.{one_if, AlwaysEnds, CountsUp, up_count, Makes}
use Rattle.counting.proofs.Laid.{Opening, Laid}
use Rattle.counting.proofs.Numbers.{IsWidth, counts}
use Rattle.counting.proofs.Counting.{counted, first_ends}
use Rattle.counting.proofs.Once.{OneBytes, below, binds, program-once, program-bytes}
use Rattle.rules.proofs.File.{no-rules}
use Rattle.field.proofs.Results.{ok-is, some_is}
use Rattle.runs.proofs.Safe.{compiled}
use Rattle.runs.proofs.Finished.{Reaches}
use Rattle.counting.proofs.ForCalls.{for-calls}
use Rattle.counting.proofs.LaidOut.{rest₀, rest₁, rest₂, rest₅, Emission, emission, laid_out, places-are}

value_width : IsWidth width
value_width = record { twice = refl; some = omega arith }

counts_up : (k : ℕ) → k < 2 ^ (width - 1) → counts_down width k ≡ false
unfolding counts_down
counts_up k h = lt-leb (2 ^ (width - 1)) k h

-- the program's calls, with those of the FOR written out
calls_are : (p : Program) (f : For) (o : Emits p (for_stmt f)) → counts_down width f.step ≡ false
    → (emit_stmts p.body 0).1 ≡ o.before ++ (load_constant f.from ∷ rest₁ f (after 0 o.before) (body_of f o.loops (after 0 o.before)) o.behind)
unfolding setting_of testing_of counting_of rest₁ rest₅ rest₀ rest₂
calls_are p f o up =
    let n = after 0 o.before in
    o.is
    ∙ (ap (λ t. o.before ++ (t ++ o.behind)) (for-calls f o.loops n up)
    ∙ ap (λ t. o.before ++ (setting_of f ++ (testing_of f n ++ t))) (append_assoc (body_of f o.loops n) (counting_of f n) o.behind))

pub at-most-once : (b : Block) (l : ℕ) → binds l (emit_stmts b 0).1 ≤ 1
unfolding below one_if
at-most-once b l =
    let a = (program-once b).once 0 l in
    let c = one (ltb l (after 0 (emit_stmts b 0).1)) in
    omega arith
  where
    one : (c : Bool) → one_if c ≤ 1
    one true = omega arith
    one false = omega arith

-- a FOR that stands so makes its passes; where nothing starts behind the body, the body does not end
concludes : (m : Image) (g : Places) (v from to by : ℕ) → Either (Laid m g v from to by) (Opening m g v from to × (is_start m g.increment ≡ false)) → IsWidth m.width → CountsUp m.width from to by
    → (x : State) → x.place ≡ g.first → x.stack ≡ [] → AlwaysEnds m g v x → Makes m g x (up_count m.width from to by)
unfolding one_if
concludes m g v from to by (left l) w u x a b d = counted m g v from to by l w u x a b d
concludes m g v from to by (right r) w u x a b d =
    absurd (let z : ◌≡◌ {A = ℕ} 0 1 = ap one_if (sym r.1 ∙ first_ends m g v from to by r.0 w u x a b d) in omega arith)

carried : (m m' : Image) (g g' : Places) (v from to by : ℕ) → m ≡ m' → g ≡ g' → Either (Laid m g v from to by) (Opening m g v from to × (is_start m g.increment ≡ false))
    → Either (Laid m' g' v from to by) (Opening m' g' v from to × (is_start m' g'.increment ≡ false))
carried m m' g g' v from to by p q l =
    subst (λ x. Either (Laid m' x v from to by) (Opening m' x v from to × (is_start m' x.increment ≡ false))) q
    (subst (λ x. Either (Laid x g v from to by) (Opening x g v from to × (is_start x g.increment ≡ false))) p l)

-- ---- from the three files on: an empty rule file has no rules

-- what a call that was not refused emitted and finished, where this was read
record Emitted (s : Sheet) (p : Program) (c : FinalizedFunction) : Type 0 where
  e : Emitter
  emits : emit_program s p ≡ ok e
  reach : Reaches s [] e
  finish : finalize_function s [] e ≡ c

emitted-from : (place : ℕ) (sheet program : List ℕ) (s : Sheet) (p : Program) (c : FinalizedFunction) → read_sheet sheet ≡ some s → read_program program ≡ ok p
    → compile_files place sheet [] program ≡ ok c → Emitted s p c
emitted-from place sheet program s p c a b h =
    let k = compiled place sheet [] program c h in
    let sheet_is : k.s ≡ s = some_is (sym k.sheet_read ∙ a) in
    let rules_are : k.rs ≡ [] = ok-is (sym no-rules ∙ k.rules_read) in
    let program_is : k.p ≡ p = ok-is (sym b ∙ k.program_read) in
    record {
      e = k.e;
      emits = subst (λ t. emit_program t p ≡ ok k.e) sheet_is (subst (λ q. emit_program k.s q ≡ ok k.e) program_is k.emission);
      reach = subst (λ t. Reaches t [] k.e) sheet_is (subst (λ rs. Reaches k.s rs k.e) rules_are k.reach);
      finish = subst (λ t. finalize_function t [] k.e ≡ c) sheet_is (subst (λ rs. finalize_function k.s rs k.e ≡ c) rules_are (sym k.finish));
    }

-- In what was compiled with an empty rule file, a FOR over constants that counts up by 1 or more, from ≤ to, with to plus step still a signed
-- number of the values' width, makes (to − from) ÷ step + 1 passes from any state at its first place with an empty stack, if its body always ends,
-- never jumps out or returns and never stores to its control. Every FOR of the program's tree is among its calls (`Found.found`), but those in arms
-- without labels, which are not emitted.
pub in-files : (place : ℕ) (sheet program : List ℕ) (s : Sheet) (p : Program) (c : FinalizedFunction) → read_sheet sheet ≡ some s → read_program program ≡ ok p → compile_files place sheet [] program ≡ ok c
    → (f : For) (o : Emits p (for_stmt f)) → CountsUp width f.from f.to f.step
    → (x : State) → x.place ≡ (places_of s p f o).first → x.stack ≡ [] → AlwaysEnds (image_of s c) (places_of s p f o) f.control x
    → Makes (image_of s c) (places_of s p f o) x (up_count width f.from f.to f.step)
unfolding emit_program image_of
in-files place sheet program s p c sheet_read program_read answered f o u x a b d =
    let g = good sheet s sheet_read in
    let q = emitted-from place sheet program s p c sheet_read program_read answered in
    let e : Emitter = q.e in
    let n = after 0 o.before in
    let body = body_of f o.loops n in
    let calls = calls_are p f o (counts_up f.step (counts width f.step u.up).1.1) in
    let em : Emission s p f n o.before body o.behind e = emission s p f n o.before body o.behind e (subst (λ cs. acts s cs (emitter_at p.pos) ≡ ok e) calls q.emits) in
    let laid = laid_out s (λ r. role-of-opcode g r) (comparison-of-byte g Gt) p f o.before o.behind o.loops e
    (λ l. subst (λ cs. binds l cs ≤ 1) calls (at-most-once p.body l)) (subst (λ cs. OneBytes cs) calls (program-bytes p.body)) em q.reach in
    concludes (image_of s c) (places_of s p f o) f.control f.from f.to f.step
    (carried _ (image_of s c) _ (places_of s p f o) f.control f.from f.to f.step (ap (λ k. image_of s k) q.finish) (sym (places-are s p f o e em)) laid)
    value_width u x a b d
