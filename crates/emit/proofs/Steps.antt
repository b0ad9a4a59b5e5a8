-- Steps one after another; what is ready for the next one.
use Rattle.std.proofs.Common.{Bool, true, false, Option, Some, None, is_some}
use mathlib.Core.Path.{◌≡◌, refl, ap, sym, ◌∙◌}
use mathlib.Core.List.{List, []}
use Prim.Native.Nat.{ℕ}
use native.Mathlib.Omega.{arith}
use lib.ListN.{length, take}
use lib.Seq.{length-take-le}
use Rattle.definition.specs.Limits.{max_code}
use Rattle.definition.specs.Res.{Res, ok, refuse, ◌>>=◌}
use Rattle.definition.specs.Opcode.{Sheet}
use Rattle.definition.specs.declared.Refused.{Refused}
use Rattle.definition.specs.Emit as def
use Rattle.definition.specs.Emit.{Call, create_label, refused, act, emitter_at}
use Rattle.emit.specs.declared.Emitter.{Emitter}
use Rattle.emit.specs.Pool.{Held}
use Rattle.emit.specs.View.{World, world, state, Stage, going, halted, stage_of, stage}
use Rattle.emit.specs.Steps.{Step, ◌>->◌, Did, met_at, once, call, Fine, Ready, Bare, Booked, Created, Pooled, Coded, Filled}

bind_assoc : (m : Stage) (f g : Step) → (m >-> f) >-> g ≡ m >-> (λ x. f x >-> g)
unfolding ◌>->◌
bind_assoc (going x) f g = refl
bind_assoc (halted n p x) f g = refl

-- ---- whether there is a refusal, as code tests it

pub none-is : {A : Type 0} (o : Option A) {b : Bool} → b ≡ is_some o → b ≡ false → o ≡ None
none-is None is off = refl
none-is (Some x) is off = cc

pub some-is : {A : Type 0} (o : Option A) {b : Bool} → b ≡ is_some o → b ≡ true → o ≡ None → ⊥
some-is None is on z = cc
some-is (Some x) is on z = cc

-- ---- one step

-- refused before: nothing changes
pub stays : (f : Step) {w : World} → (w.e.refused ≡ None → ⊥) → Did f w w
unfolding stage_of ◌>->◌
stays f {w} h = record { is = go w.e.refused h }
  where
    go : (o : Option Refused) → (o ≡ None → ⊥) → stage_of o (state w) ≡ stage_of o (state w) >-> f
    go None h = absurd (h refl)
    go (Some r) h = refl

-- its tests hold: what is left is the state
pub goes : (f : def.Emitter → Res def.Emitter) (w v : World) → w.e.refused ≡ None → v.e.refused ≡ None → f (state w) ≡ ok (state v) → Did (once f) w v
unfolding stage_of ◌>->◌ once met_at
goes f w v on on' e = record { is = rw (on, on', e) }

-- it is another step at this state
pub by-step : {f g : Step} {w v : World} → (w.e.refused ≡ None → f (state w) ≡ g (state w)) → Did g w v → Did f w v
unfolding stage_of ◌>->◌
by-step {f} {g} {w} e d = record { is = d.is ∙ go w.e.refused e }
  where
    go : (o : Option Refused) → (o ≡ None → f (state w) ≡ g (state w)) → stage_of o (state w) >-> g ≡ stage_of o (state w) >-> f
    go None e = sym (e refl)
    go (Some r) e = refl

-- one of its tests fails
no_sheet : Sheet
no_sheet = record { opcodes = []; comparisons = [] }

pub stops : (f : def.Emitter → Res def.Emitter) (n p : ℕ) {e r : Emitter} (code book pool : List ℕ) → Bare (refused (record { number = n; place = p })) e r → f (state (world e code book pool)) ≡ refuse n p → Did (once f) (world e code book pool) (world r code book pool)
unfolding act once
stops f n p code book pool b h = by-step (λ on. rw h) (b.did no_sheet code book pool)

-- and then it is refused
pub is-refused : {n p : ℕ} {e r : Emitter} → Bare (refused (record { number = n; place = p })) e r → r.refused ≡ None → ⊥
unfolding act stage_of ◌>->◌ once met_at
is-refused {n} {p} {e} {r} b z = go e.refused (rw z at (b.did no_sheet [] [] []).is)
  where
    w : World
    w = world e [] [] []

    go : (o : Option Refused) → going (state (world r [] [] [])) ≡ stage_of o (state w) >-> call no_sheet (refused (record { number = n; place = p })) → ⊥
    go None h = cc
    go (Some k) h = cc

-- ---- steps in turn

pub then : {f g : Step} {w v u : World} → Did f w v → Did g v u → Did (λ x. f x >-> g) w u
then {f} {g} {w} p q = record { is = q.is ∙ ap (λ (m : Stage). m >-> g) p.is ∙ bind_assoc (stage w) f g }

-- what no longer refuses may follow as a part of the same step
pub once-then : (f : def.Emitter → Res def.Emitter) (g : def.Emitter → def.Emitter) (x : def.Emitter) → once (λ y. f y >>= λ z. ok (g z)) x ≡ once f x >-> once (λ z. ok (g z))
unfolding once met_at ◌>->◌ ◌>>=◌
once-then f g x = go (f x)
  where
    go : (m : Res def.Emitter) → met_at x (m >>= λ z. ok (g z)) ≡ met_at x m >-> once (λ z. ok (g z))
    go (ok z) = refl
    go (refuse n p) = refl

pub filled-by : {f g : Step} {w v : World} → (w.e.refused ≡ None → f (state w) ≡ g (state w)) → Filled g w v → Filled f w v
filled-by e a = record { ready = a.ready; kept = a.kept; did = by-step e a.did }

-- ---- what a method did, with all that is lent

module _ {e r : Emitter} {code book pool : List ℕ} (w : Ready (world e code book pool)) where
  pub bare-filled : (s : Sheet) {c : Call} → Bare c e r → Filled (call s c) (world e code book pool) (world r code book pool)
  bare-filled s b = record { ready = record { fine = b.fine; room = w.room; slots = w.slots; held = w.held }; kept = b.kept code book pool; did = b.did s code book pool }

  pub booked-filled : (s : Sheet) {c : Call} {book' : List ℕ} → Booked c e book r book' → Filled (call s c) (world e code book pool) (world r code book' pool)
  booked-filled s b = record { ready = record { fine = b.fine; room = w.room; slots = b.slots; held = w.held }; kept = b.kept code pool; did = b.did s code pool w.room }

  pub created-filled : (s : Sheet) (h : ℕ) {book' : List ℕ} {l : ℕ} → Created e book r book' l → Filled (call s (create_label h)) (world e code book pool) (world r code book' pool)
  created-filled s h b = record { ready = record { fine = b.fine; room = w.room; slots = b.slots; held = w.held }; kept = b.kept code pool; did = b.did s h code pool }

  pub pooled-filled : (s : Sheet) {c : Call} {pool' : List ℕ} → Pooled c e pool r pool' → Filled (call s c) (world e code book pool) (world r code book pool')
  pooled-filled s b = record { ready = record { fine = b.fine; room = w.room; slots = w.slots; held = b.held }; kept = b.kept code book; did = b.did s code book }

  pub coded-filled : {f : Step} {code' book' : List ℕ} → Coded f e code book r code' book' → Filled f (world e code book pool) (world r code' book' pool)
  coded-filled b = record { ready = record { fine = b.fine; room = b.room; slots = b.slots; held = w.held }; kept = b.kept pool; did = b.did pool }

-- ---- the lists of the state are as long as their counts

pub size_of : {e : Emitter} (code : List ℕ) → Fine e → length code ≡ max_code → length (take e.size code) ≡ e.size
size_of {e} code h room = length-take-le e.size code (omega (arith, h.size))

pub count_of : {e : Emitter} (pool : List ℕ) → Fine e → Held pool → length (take e.constants pool) ≡ e.constants
count_of {e} pool h held = length-take-le e.constants pool (omega (arith, h.constants, held.size))
