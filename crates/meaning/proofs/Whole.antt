-- Code does what the statements say: a program's, emitted and finished with no rules.
use Prim.Native.Nat.{ℕ, suc, zero, ◌≤◌}
use mathlib.Core.Path.{◌≡◌, refl, sym, ◌∙◌, ap, subst}
use mathlib.Core.List.{List, [], ◌∷◌, ◌++◌}
use mathlib.Core.Option.{some, none}
use native.Mathlib.Omega.{arith}
use lib.ListN.{length}
use Rattle.definition.specs.Limits.{width}
use Rattle.definition.specs.Res.{ok}
use Rattle.definition.specs.Opcode.{Sheet}
use Rattle.definition.specs.Tree.{Pos, Program}
use Rattle.definition.specs.Emit.{Call, Emitter, emitter_at, acts, other}
use Rattle.definition.specs.Stmt.{emit_stmts}
use Rattle.definition.specs.Compile.{finalize_function}
use Rattle.definition.specs.Claims.{left, right, begin, Until, Finishes, DoesAsSaid}
use Rattle.definition.specs.Machine.{Image, image_of}
use Rattle.definition.specs.Machine as machine
use Rattle.definition.specs.Iec.{Values}
use Rattle.definition.specs.Meaning.{Answer, ends, exits, continues, returns, stops, spent, run_block}
use Rattle.opcode.specs.Table.{Good}
use Rattle.opcode.proofs.Sheets.{role-of-opcode}
use Rattle.field.proofs.Results.{never}
use Rattle.runs.proofs.Heights.{aim, Jumps, this, later, Bound}
use Rattle.runs.proofs.Emission.{Nobody, program-sound}
use Rattle.runs.proofs.Decoding.{joined}
use Rattle.counting.proofs.Finished.{final_rows}
use Rattle.runs.proofs.Emitted.{program-holds}
use Rattle.runs.proofs.Passes.{Reads}
use Rattle.counting.proofs.Once.{program-bytes}
use Rattle.counting.proofs.Rows.{Row, code_of, patches_of, Sized, FormedBy}
use Rattle.runs.proofs.Finished.{Reaches}
use Rattle.counting.proofs.LaidOut.{AllNear, goal_of, finished, goal-is, all_near}
use Rattle.counting.proofs.Passes.{at-most-once}
use Rattle.meaning.proofs.Calls.{here, behind, Finish}
use Rattle.meaning.proofs.Walks as calls
use Rattle.meaning.proofs.Programs.{program-good, Comes, program-comes}
use Rattle.meaning.proofs.Folded.{fold, twin, start, lasts-sim, stops-sim, finish-sim}
use Rattle.meaning.proofs.Lays.{Lays, Left, laid, Clear}
use Rattle.meaning.proofs.Bytes.{Run, stay, further, On, enough_steps, along_steps, over_step, Ended, Stand, Lands, lasts-run, stops-run, finish-run}
use Rattle.meaning.proofs.Found.{bound-fold, jumps-fold, binds-fold, Found, find}

jumps_in : (l : ℕ) (c : Call) (pre post : List Call) → aim c ≡ some l → Jumps l (pre ++ (c ∷ post))
jumps_in l c [] post a = this a
jumps_in l c (x ∷ pre) post a = later (jumps_in l c pre post a)

begun : (s : Sheet) (p : Pos) → FormedBy s [] (emitter_at p)
unfolding emitter_at code_of patches_of Sized
begun s p = record { is = refl; patches = refl; sized = tt; short = omega arith }

-- ---- runs, as the definition counts their steps

-- what finished code does, where the statements come to an answer with fuel f
unfoldable pub Means : Image → ℕ → Values → Answer → Type 0
Means m f σ (ends τ) = Finishes m σ τ
Means m f σ (exits i τ) = ⊥
Means m f σ (continues i τ) = ⊥
Means m f σ (returns τ) = Finishes m σ τ
Means m f σ (stops τ) = Until m machine.stops σ τ
Means m f σ spent = (y : machine.State) × (machine.after_steps m f (begin σ) ≡ some y)

module _ (m : Image) where
  one-step : (n : ℕ) (x y : machine.State) → machine.step m x ≡ machine.goes y → machine.after_steps m (suc n) x ≡ machine.after_steps m n y
  unfolding machine.after_steps machine.and_then
  one-step n x y e = ap (λ z. machine.and_then z none (λ u. machine.after_steps m n u)) e

  run-steps : (x y : machine.State) → Run m x y → (n : ℕ) × (machine.after_steps m n x ≡ some y)
  unfolding machine.after_steps
  run-steps x y stay = (0, refl)
  run-steps x z (further {y = y} e r) = let q = run-steps y z r in (suc q.0, one-step q.0 x y e ∙ q.1)

  until : {z : machine.Step} {σ τ : Values} → Ended m z (begin σ) τ → Until m z σ τ
  until {σ = σ} d = let q = run-steps (begin σ) d.last d.there in record { steps = q.0; last = d.last; there = q.1; is = d.is; values = d.values }

  -- one step less
  shorter : (n : ℕ) (x y : machine.State) → machine.after_steps m (suc n) x ≡ some y → (z : machine.State) × (machine.after_steps m n x ≡ some z)
  unfolding machine.after_steps machine.and_then
  shorter zero x y e = (x, refl)
  shorter (suc n) x y e = go (machine.step m x) e (λ u q. shorter n u y q)
    where
      go : (z : machine.Step) → machine.and_then z none (λ u. machine.after_steps m (suc n) u) ≡ some y → ((u : machine.State) → machine.after_steps m (suc n) u ≡ some y → (v : machine.State) × (machine.after_steps m n u ≡ some v))
          → (v : machine.State) × (machine.and_then z none (λ u. machine.after_steps m n u) ≡ some v)
      go (machine.goes u) q r = r u q
      go machine.finishes q r = never (cc)
      go machine.stops q r = never (cc)
      go (machine.breaks b) q r = never (cc)

  along-case : (f : ℕ) (x y : machine.State) → machine.step m x ≡ machine.goes y → (z : machine.State) × (machine.after_steps m f y ≡ some z) → (z : machine.State) × (machine.after_steps m f x ≡ some z)
  unfolding machine.after_steps
  along-case zero x y e q = (x, refl)
  along-case (suc f) x y e q = let r = shorter f y q.0 q.1 in (r.0, one-step f x y e ∙ r.1)

  on-steps : (f : ℕ) (x : machine.State) → On m f x → (y : machine.State) × (machine.after_steps m f x ≡ some y)
  unfolding machine.after_steps
  on-steps f x enough_steps = (x, refl)
  on-steps f x (along_steps {y = y} e q) = along-case f x y e (on-steps f y q)
  on-steps (suc f) x (over_step {y = y} e q) = let r = on-steps f y q in (r.0, one-step f x y e ∙ r.1)

module _ (s : Sheet) (g : Good s) (p : Program) (e : Emitter) (emits : acts s (emit_stmts p.body 0).1 (emitter_at p.pos) ≡ ok e) (reach : Reaches s [] e) where
  abbrev code : List Call
  code = (emit_stmts p.body 0).1

  abbrev code' : List Call
  code' = fold other code

  known : Reads s
  known = λ r. role-of-opcode g r

  all : Left s e 0 [] code'
  unfolding emitter_at Clear
  all = laid s e code other (emitter_at p.pos) [] (begun s p.pos) refl tt (program-bytes p.body) (at-most-once p.body) emits

  abbrev rows : List Row
  rows = all.rows

  abbrev goal : ℕ → ℕ
  goal = goal_of s rows e

  abbrev pub image : Image
  image = image_of s (finalize_function s [] e)

  bound : (l : ℕ) → Jumps l code → Bound l 0 code
  unfolding Nobody
  bound l j = elim ((program-sound p.body).closed 0 l (program-holds p.body) j) [ left x ↦ absurd x | right b ↦ b ]

  bound' : (l : ℕ) (c : Call) (pre post : List Call) → code' ≡ pre ++ (c ∷ post) → aim c ≡ some l → Bound l 0 code'
  bound' l c pre post q a = bound-fold l 0 other code (bound l (jumps-fold l other code (subst (λ x. Jumps l x) (sym q) (jumps_in l c pre post a))))

  found : (l : ℕ) → Bound l 0 code' → Found s e.constants e.labels l code' 0 rows
  unfolding code_of
  found l b = find s e.constants e.labels l code' 0 0 rows all.lays b (subst (λ n. n ≤ 1) (sym (binds-fold l other code)) (at-most-once p.body l))

  sized : Sized s rows
  sized = all.formed.sized

  near : AllNear s goal rows
  near = all_near s known rows e all.formed reach

  sheet-is : s ≡ image.sheet
  unfolding image_of
  sheet-is = refl

  code_is : image.bytecode ≡ joined (final_rows s goal 0 rows)
  unfolding image_of
  code_is = finished s known rows e all.formed

  constants-are : e.constants ≡ image.constants
  unfolding image_of finalize_function
  constants-are = refl

  abbrev StandAt : List Call → ℕ → Type 0
  StandAt Q q = Stand s known g goal e.labels rows sized near image sheet-is code_is code' Q q

  abbrev LandsAt : ℕ → Type 0
  LandsAt l = Lands s known g goal e.labels rows sized near image sheet-is code_is code' l

  lands : (l : ℕ) (c : Call) (pre post : List Call) → code' ≡ pre ++ (c ∷ post) → aim c ≡ some l → LandsAt l
  lands l c pre post q a =
      let x = found l (bound' l c pre post q a) in
      let at : x.place ≡ length (code_of s x.front) = let i = x.is in omega arith in
      record {
        place = x.place;
        stand = record { B = x.back; front = record { pre = x.pre; split = x.split; A = x.front; cut = x.cut; place = at }; n = x.n; lays = subst (λ ks. Lays s ks e.labels x.n x.place (behind l code') x.back) constants-are x.lays };
        is = goal-is s known rows e all.formed l x.place x.front x.back x.cut x.label at;
      }

  start-stand : StandAt code' 0
  unfolding code_of
  start-stand = record { B = rows; front = record { pre = []; split = refl; A = []; cut = refl; place = refl }; n = 0; lays = subst (λ ks. Lays s ks e.labels 0 0 code' rows) constants-are all.lays }

  good_calls : calls.Good code
  good_calls = program-good s p.body (emitter_at p.pos) e emits

  finishes-so : (σ τ : Values) → Finish code width (here code [] σ) τ → Finishes image σ τ
  unfolding image_of twin start here begin until
  finishes-so σ τ h =
      let d = finish-run s known g goal e.labels rows sized near image sheet-is code_is code' lands _ τ (finish-sim code width (here code [] σ) τ h (start code width σ)) 0 start-stand in
      record { run = until image d.ended; empty = d.empty }

  -- for every fuel
  pub means : (f : ℕ) (σ : Values) → Means image f σ (run_block width p.body f σ)
  unfolding Means Comes image_of twin start here begin
  means f σ = go (run_block width p.body f σ) (program-comes width refl p.body good_calls f σ)
    where
      go : (a : Answer) → Comes width refl p.body good_calls f σ a → Means image f σ a
      go (ends τ) h = finishes-so σ τ h
      go (exits i τ) h = h
      go (continues i τ) h = h
      go (returns τ) h = finishes-so σ τ h
      go (stops τ) h = until image (stops-run s known g goal e.labels rows sized near image sheet-is code_is code' lands _ τ (stops-sim code width (here code [] σ) τ h (start code width σ)) 0 start-stand)
      go spent h = on-steps image f _ (lasts-run s known g goal e.labels rows sized near image sheet-is code_is code' lands f _ (lasts-sim code width f (here code [] σ) h (start code width σ)) 0 start-stand)

  -- the claim
  pub does : (σ : Values) → DoesAsSaid image p.body σ
  unfolding Means image_of
  does σ =
      let is : (f : ℕ) (a : Answer) → run_block width p.body f σ ≡ a → Means image f σ a = λ f a q. subst (λ x. Means image f σ x) q (means f σ) in
      record {
        ends = λ f τ q. is f (ends τ) q;
        returns = λ f τ q. is f (returns τ) q;
        stops = λ f τ q. is f (stops τ) q;
        endless = λ q n. is n spent (q n);
        exits_never = λ f i τ q. is f (exits i τ) q;
        continues_never = λ f i τ q. is f (continues i τ) q;
      }
