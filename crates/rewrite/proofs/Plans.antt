-- What `decide` answers at each return, and what the loop makes of it.
use mathlib.Core.Path.{◌≡◌, refl, sym, ◌∙◌}
use mathlib.Core.Bool.{Bool, true, false, ◌||◌}
use mathlib.Core.Option.{Option, some, none}
use Rattle.std.specs.Prelude as std
use Rattle.std.specs.Prelude.{Some, None}
use mathlib.Core.List.{List, [], map}
use Prim.Native.Nat.{ℕ, ◌+◌, ◌≤◌}
use native.Mathlib.Omega.{arith}
use lib.ListN.{length, take, drop, set, get_or}
use Rattle.definition.specs.Field.{has}
use Rattle.definition.specs.Opcode.{Sheet}
use Rattle.definition.specs.Rules as def
use Rattle.definition.specs.Rules.{keep}
use Rattle.definition.specs.Rewrite.{Bytes, Matcher, decode, instruction, applied, apply_peephole}
use Rattle.store.specs.Fill.{zeroed_from}
use Rattle.rules.specs.declared.Action.{Action}
use Rattle.rules.specs.View.{action_view, IsRules, rule_at, actions_in, pair_at}
use Rattle.rules.proofs.Lookup.{actions-there, first-action, second-action}
use Rattle.rewrite.proofs.Looking.{looked-inside}
use Rattle.rewrite.specs.declared.Plan.{Plan}
use Rattle.rewrite.specs.View.{first_of, marked, matcher, next_view, Looked, Kept, Ready, FittingNext, Planned, Puts, Peephole}
use Rattle.rewrite.proofs.Decoding.{First, first, first-none, first-within, listed}
use Rattle.rewrite.proofs.Fits.{found-fits}
use Rattle.rewrite.proofs.Pass.{plan-known, plan-unstarted, plan-last, plan-protected, plan-unmatched, plan-matched, Going, goes_on, ends}

-- ---- a plan to keep

kept : {s : Sheet} {matches : Matcher} {protected code : List ℕ} {at z : ℕ} {next : Option def.Action} {r : Plan} → Kept z r
    → Planned s matches protected code at next z keep none → Planned s matches protected code at next r.size (action_view r.action) (next_view r.next)
kept k p = rw (k.size, k.action, k.next) p

-- ---- two tests in turn, a and b, of what p and q say

pub either_first : {a p : Bool} (q : Bool) → a ≡ p → a ≡ true → (p || q) ≡ true
either_first q e h = rw (← e, h)

pub either_second : {a b p q : Bool} → a ≡ p → a ≡ false → b ≡ q → b ≡ true → (p || q) ≡ true
either_second e h f k = rw (← e, h, ← f, k)

pub neither : {a b p q : Bool} → a ≡ p → a ≡ false → b ≡ q → b ≡ false → (p || q) ≡ false
neither e h f k = rw (← e, h, ← f, k)

-- ---- the returns of `decide`

module _ (s : Sheet) (table : List ℕ) (count pass : ℕ) (marks code : List ℕ) (at : ℕ) (next : std.Option Action) (a : Bytes) (here : a ≡ first_of (decode s (drop at code))) (full : 1 ≤ length a) where
  pub decided-known : {x : Action} → next ≡ Some x → FittingNext (next_view next) (first_of (decode s (drop at code)))
      → Planned s (matcher table count pass) (marked marks) code at (next_view next) (length a) (action_view x) none
  decided-known {x} e f =
      let f' = rw e at f in
      rw e (plan-known s _ _ code at a here (action_view x) full f')

  pub decided-within : at + length a ≤ length code
  decided-within = first-within s code at a here full

  pub decided-unstarted : {r : Plan} → next ≡ None → ((b : Bytes) → matcher table count pass (instruction s a) (instruction s b) ≡ none) → Kept (length a) r
      → Planned s (matcher table count pass) (marked marks) code at (next_view next) r.size (action_view r.action) (next_view r.next)
  decided-unstarted asked m k = rw asked (kept k (plan-unstarted s _ _ code at a here full m))

  module _ (b : Bytes) (after : b ≡ first_of (decode s (drop (at + length a) code))) (asked : next ≡ None) where
    pub decided-last : {r : Plan} → length b ≡ 0 → Kept (length a) r
        → Planned s (matcher table count pass) (marked marks) code at (next_view next) r.size (action_view r.action) (next_view r.next)
    decided-last z k = rw asked (kept k (plan-last s _ _ code at a here b after full z))

    module _ (more : 1 ≤ length b) where
      pub decided-protected : {r : Plan} → (has (marked marks) at || has (marked marks) (at + length a)) ≡ true → Kept (length a) r
          → Planned s (matcher table count pass) (marked marks) code at (next_view next) r.size (action_view r.action) (next_view r.next)
      decided-protected h k = rw asked (kept k (plan-protected s _ _ code at a here b after full more h))

      module _ (free : (has (marked marks) at || has (marked marks) (at + length a)) ≡ false) {f : std.Option ℕ} (l : Looked table count (matcher table count pass (instruction s a) (instruction s b)) f) where
        pub decided-unmatched : {r : Plan} → f ≡ None → Kept (length a) r
            → Planned s (matcher table count pass) (marked marks) code at (next_view next) r.size (action_view r.action) (next_view r.next)
        unfolding pair_at
        decided-unmatched e k =
            let m : matcher table count pass (instruction s a) (instruction s b) ≡ none = sym l.is ∙ rw e in
            rw asked (kept k (plan-unmatched s _ _ code at a here b after full more free m))

        pub decided-matched : (i : ℕ) (pair : List Action) (d : Action) → f ≡ Some i → IsRules table count → map action_view pair ≡ actions_in table i
            → Planned s (matcher table count pass) (marked marks) code at (next_view next) (length a) (action_view (get_or pair 0 d)) (some (action_view (get_or pair 1 d)))
        unfolding pair_at
        decided-matched i pair d e held acts =
            let two = acts ∙ actions-there held (looked-inside l e) in
            let m : matcher table count pass (instruction s a) (instruction s b) ≡ some ((rule_at table i).one, (rule_at table i).two) = sym l.is ∙ rw e in
            let fit = found-fits s table count pass a b _ _ held (listed s code at a here full) (listed s code (at + length a) b after more) m in
            rw (asked, first-action d pair two, second-action d pair two) (plan-matched s _ _ code at a here b after full more _ _ free m fit.0 fit.1)

-- ---- the loop

module _ {s : Sheet} {matches : Matcher} {protected code₀ code code' moves : List ℕ} {k at to : ℕ} {next : Option def.Action} (g : Going s matches protected code₀ k code moves at to next) where
  pub turns : {z to' : ℕ} {then : Option def.Action} {x : def.Action} → Planned s matches protected code at next z x then → Puts (applied x (take z (drop at code))) code code' to to'
      → Going s matches protected code₀ k code' (set moves at to) (at + z) to' then
  turns p q = rw (q.is, q.end) (goes_on s matches protected code₀ g p)

  pub finishes : first_of (decode s (drop at code)) ≡ [] → code' ≡ zeroed_from to code → Peephole (apply_peephole s matches protected code₀) code₀ code' (set moves at to) to
  finishes e q = rw q (ends s matches protected code₀ g (first-none s code at [] (sym e) refl))

pub turn-within : {s : Sheet} {matches : Matcher} {protected code : List ℕ} {at z : ℕ} {next then : Option def.Action} {x : def.Action}
    → Planned s matches protected code at next z x then → at + z ≤ length code
turn-within {s} {code = code} {at = at} {z = z} p =
    let f : First s code at z = rw (← p.long) at (first s code at) in
    f.within p.full

-- `decide` is asked of the code as it is
pub still-ready : {sheet marks code₀ code : List ℕ} → Ready sheet marks code₀ → length code ≡ length code₀ → Ready sheet marks code
still-ready r e = record { table = r.table; slots = rw e r.slots; small = rw e r.small }
