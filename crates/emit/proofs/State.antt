-- An emitter to begin with; refusal, position and depth.
use Rattle.std.proofs.Common.{None}
use mathlib.Core.Path.{◌≡◌, refl}
use Prim.Native.Nat.{ℕ, zero, suc, ◌+◌, ◌≤◌}
use native.Mathlib.Omega.{arith}
use Rattle.definition.specs.Limits.{max_code}
use Rattle.definition.specs.Opcode.{Effect, up, down, same, shift}
use Rattle.definition.specs.View.{refusal_number}
use Rattle.definition.specs.declared.Refused.{Refused}
use Rattle.definition.specs.Emit.{Call, reset_stack_depth, set_position, refused, act, settled, emitter_at}
use Rattle.line_map.specs.View.{pos_view}
use Rattle.line_map.specs.declared.Pos.{Pos}
use Rattle.emit.specs.declared.Emitter.{Emitter}
use Rattle.emit.specs.declared.Last.{Last}
use Rattle.emit.specs.declared.Last.TheVariants.{Other}
use Rattle.emit.specs.Book.{rows}
use Rattle.emit.specs.View.{world, standing, stage_of}
use Rattle.emit.specs.Steps.{◌>->◌, met_at, once, call, LastAt, max_height, Fine, Bare, Begun}
use Rattle.emit.specs.Parts.{altered, stopped, placed}
use Rattle.emit.proofs.Kept.{grown-self, kept_self, kept-bare}
use Rattle.emit.proofs.Steps.{stays, goes}

-- ---- what stays fine

pub fine-altered : {e : Emitter} (size : ℕ) (last : Last) (depth deepest : ℕ) → Fine e → e.size ≤ size → size ≤ max_code → LastAt last size → depth ≤ max_height + size → deepest ≤ max_height + size + 1 → Fine (altered e size last depth deepest)
fine-altered size last depth deepest h more fits at d m =
    record { size = fits; labels = h.labels; patches = omega (arith, h.patches); lines = h.lines; constants = h.constants; last = at; depth = d; deepest = m }

pub shift-most : (x : Effect) (d : ℕ) → shift x d ≤ d + 1
unfolding shift
shift-most up d = omega arith
shift-most down zero = omega arith
shift-most down (suc d) = omega arith
shift-most same d = omega arith

-- ---- methods with nothing lent

pub begins : (p : Pos) → Begun (pos_view p) (record { size = 0; labels = 0; patches = 0; lines = 0; constants = 0; last = Other; depth = 0; deepest = 0; position = p; refused = None })
unfolding standing rows emitter_at
begins p = record {
  fine = record { size = omega arith; labels = omega arith; patches = omega arith; lines = omega arith; constants = omega arith; last = tt; depth = omega arith; deepest = omega arith };
  is = λ code book pool. refl;
}

pub bare-stays : {e : Emitter} (c : Call) → Fine e → (e.refused ≡ None → ⊥) → Bare c e e
bare-stays {e} c h off = record { fine = h; kept = λ code book pool. kept_self (world e code book pool); did = λ s code book pool. stays (call s c) off }

pub refuses : {e : Emitter} (r : Refused) → Fine e → e.refused ≡ None → Bare (refused (record { number = refusal_number r.refusal; place = r.place })) e (stopped e r)
unfolding act once met_at stage_of ◌>->◌
refuses {e} r h on = record {
  fine = record { size = h.size; labels = h.labels; patches = h.patches; lines = h.lines; constants = h.constants; last = h.last; depth = h.depth; deepest = h.deepest };
  kept = kept-bare (grown-self e) refl on;
  did = λ s code book pool. record { is = rw on };
}

pub resets : {e : Emitter} (d : ℕ) {d' : ℕ} → Fine e → e.refused ≡ None → d' ≡ d → d ≤ max_height → Bare (reset_stack_depth d) e (altered e e.size e.last d' e.deepest)
unfolding act settled
resets {e} d h on is small = rw is (record {
  fine = fine-altered e.size e.last d e.deepest h (omega arith) h.size h.last (omega arith) h.deepest;
  kept = kept-bare (grown-self e) refl on;
  did = λ s code book pool. goes (act s (reset_stack_depth d)) (world e code book pool) (world (altered e e.size e.last d e.deepest) code book pool) on on refl;
})

pub places : {e : Emitter} (p : Pos) → Fine e → e.refused ≡ None → Bare (set_position (pos_view p)) e (placed e p)
unfolding act settled
places {e} p h on = record {
  fine = record { size = h.size; labels = h.labels; patches = h.patches; lines = h.lines; constants = h.constants; last = h.last; depth = h.depth; deepest = h.deepest };
  kept = kept-bare (grown-self e) refl on;
  did = λ s code book pool. goes (act s (set_position (pos_view p))) (world e code book pool) (world (placed e p) code book pool) on on refl;
}
