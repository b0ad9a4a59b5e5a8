-- One pass, said as what is left of it: laws behind `apply_peephole`.
use mathlib.Core.Path.{◌≡◌, refl, ap, sym, ◌∙◌}
use mathlib.Core.Bool.{Bool, true, false, ◌||◌}
use mathlib.Core.Option.{Option, some, none}
use mathlib.Core.List.{List, [], ◌∷◌, ◌++◌, append_assoc, append-nil}
use Prim.Native.Nat.{ℕ, zero, suc, ◌+◌, ◌-◌, ◌≤◌, ◌<◌}
use native.Mathlib.Nat.{add-zero, le_trans}
use native.Mathlib.Omega.{arith}
use borrow.Author.Tests.{eq-eqb, ne_eqb, eqb-true, eqb-false}
use lib.ListN.{length, take, drop, set, get_or, length-set, length-drop, length-append}
use lib.Dec.{eqb}
use lib.Seq.{drop-drop, length-take-le, take_at, drop_at, get_or-set_same, get_or-set_other}
use Rattle.definition.specs.Field.{has}
use Rattle.definition.specs.Opcode.{Sheet}
use Rattle.definition.specs.Rules.{Action, keep, remove, rewrite_operand}
use Rattle.definition.specs.Emit.{le16}
use Rattle.definition.specs.Rewrite.{Bytes, Matcher, OffsetMap, decode, instruction, actions, applied, output, offsets, moved_to, apply_peephole}
use Rattle.definition.specs.Lent.{filled}
use Rattle.store.specs.Fill.{zeroed_from}
use Rattle.store.proofs.Fills.{zeroed-is}
use Rattle.rewrite.specs.View.{first_of, actions_after, Fitting, FittingNext, Planned, put, Peephole}
use Rattle.rewrite.proofs.Decoding.{First, first, first-is, first-none}

-- ---- bytes put over others

module _ (code : List ℕ) (to : ℕ) (bytes : List ℕ) (fits : to + length bytes ≤ length code) where
  put-head : length (take to code ++ bytes) ≡ to + length bytes
  put-head =
      let t : length (take to code) ≡ to = length-take-le to code (omega arith) in
      simp (length-append, t)

  pub take_put : take (to + length bytes) (put code to bytes) ≡ take to code ++ bytes
  unfolding put
  take_put = take_at (take to code ++ bytes) _ _ put-head

  pub drop-put-end : drop (to + length bytes) (put code to bytes) ≡ drop (to + length bytes) code
  unfolding put
  drop-put-end = drop_at (take to code ++ bytes) _ _ put-head

  pub length-put : length (put code to bytes) ≡ length code
  unfolding put
  length-put = simp (length-append (take to code ++ bytes), put-head, length-drop) (omega arith)

  pub drop-put : (n : ℕ) → to + length bytes ≤ n → drop n (put code to bytes) ≡ drop n code
  drop-put n h =
      let e : n ≡ to + length bytes + (n - (to + length bytes)) = omega arith in
      rw e (sym (drop-drop (n - (to + length bytes)) (to + length bytes) (put code to bytes)) ∙ ap (λ (l : List ℕ). drop (n - (to + length bytes)) l) drop-put-end ∙ drop-drop (n - (to + length bytes)) (to + length bytes) code)

-- ---- actions

-- nothing grows
pub applied-short : (x : Action) (i : Bytes) (z : ℕ) → length i ≡ z → Fitting x z → length (applied x i) ≤ z
unfolding Fitting applied le16
applied-short keep i z e f = omega arith
applied-short remove i z e f = omega arith
applied-short (rewrite_operand n) i z e f = rw f (omega arith)

module _ (s : Sheet) (matches : Matcher) (protected : List ℕ) where
  -- the last instruction is kept
  pub acts-last : (at : ℕ) (a : Bytes) → actions s matches protected at (a ∷ []) ≡ keep ∷ actions s matches protected (at + length a) []
  unfolding actions
  acts-last at a = refl

  -- what a pair comes to, by the two tests
  unfoldable pub paired : ℕ → Bytes → Bytes → List Bytes → Option (Action × Action) → List Action
  paired at a b is none = keep ∷ actions s matches protected (at + length a) (b ∷ is)
  paired at a b is (some two) = two.0 ∷ two.1 ∷ actions s matches protected (at + length a + length b) is

  pub acts-pair : (at : ℕ) (a b : Bytes) (is : List Bytes) → actions s matches protected at (a ∷ b ∷ is)
      ≡ elim (has protected at || has protected (at + length a)) [ true ↦ paired at a b is none | false ↦ paired at a b is (matches (instruction s a) (instruction s b)) ]
  unfolding actions paired
  acts-pair at a b is = elim (has protected at || has protected (at + length a)) as (λ t. ◌≡◌ {A = List Action} (elim t [
    | true ↦ keep ∷ actions s matches protected (at + length a) (b ∷ is)
    | false ↦ elim (matches (instruction s a) (instruction s b)) [
      | some two ↦ two.0 ∷ two.1 ∷ actions s matches protected (at + length a + length b) is
      | none ↦ keep ∷ actions s matches protected (at + length a) (b ∷ is)
    ]
  ]) (elim t [ true ↦ paired at a b is none | false ↦ paired at a b is (matches (instruction s a) (instruction s b)) ])) [
    | true ↦ refl
    | false ↦ elim (matches (instruction s a) (instruction s b)) as (λ q. ◌≡◌ {A = List Action} (elim q [
      | some two ↦ two.0 ∷ two.1 ∷ actions s matches protected (at + length a + length b) is
      | none ↦ keep ∷ actions s matches protected (at + length a) (b ∷ is)
    ]) (paired at a b is q)) [ some two ↦ refl | none ↦ refl ]
  ]

  -- a pair with either start protected is skipped by one
  pub acts-protected : (at : ℕ) (a b : Bytes) (is : List Bytes) → (has protected at || has protected (at + length a)) ≡ true
      → actions s matches protected at (a ∷ b ∷ is) ≡ keep ∷ actions s matches protected (at + length a) (b ∷ is)
  unfolding paired
  acts-protected at a b is h = rw (acts-pair at a b is, h)

  -- and so is one that no rule fits; a match advances by two
  pub acts-asked : (at : ℕ) (a b : Bytes) (is : List Bytes) (q : Option (Action × Action)) → (has protected at || has protected (at + length a)) ≡ false
      → matches (instruction s a) (instruction s b) ≡ q
      → actions s matches protected at (a ∷ b ∷ is) ≡ paired at a b is q
  acts-asked at a b is q h m = rw (acts-pair at a b is, h, m)

  -- so that a pair that no rule fits is skipped by one, protected or not
  pub acts-unstarted : (at : ℕ) (a b : Bytes) (is : List Bytes) → matches (instruction s a) (instruction s b) ≡ none
      → actions s matches protected at (a ∷ b ∷ is) ≡ keep ∷ actions s matches protected (at + length a) (b ∷ is)
  unfolding paired
  acts-unstarted at a b is m = go (has protected at || has protected (at + length a)) refl
    where
      go : (t : Bool) → (has protected at || has protected (at + length a)) ≡ t → actions s matches protected at (a ∷ b ∷ is) ≡ keep ∷ actions s matches protected (at + length a) (b ∷ is)
      go true q = acts-protected at a b is q
      go false q = acts-asked at a b is none q m

-- ---- what is decided for an instruction, by the tests that led there

module _ (s : Sheet) (matches : Matcher) (protected code : List ℕ) (at : ℕ) (a : Bytes) (here : a ≡ first_of (decode s (drop at code))) where
  pub plan-known : (x : Action) → 1 ≤ length a → FittingNext (some x) (first_of (decode s (drop at code))) → Planned s matches protected code at (some x) (length a) x none
  unfolding Fitting FittingNext actions_after
  plan-known x h f = record { long = ap length here; full = h; acts = rw (first-is s code at a here h); fits = rw here f; later = tt }

  plan-keep : 1 ≤ length a → (is : List Bytes) → decode s (drop (at + length a) code) ≡ is
      → actions s matches protected at (a ∷ is) ≡ keep ∷ actions s matches protected (at + length a) is
      → Planned s matches protected code at none (length a) keep none
  unfolding Fitting FittingNext actions_after
  plan-keep h is e acts = record { long = ap length here; full = h; acts = rw (first-is s code at a here h, e) acts; fits = tt; later = tt }

  -- no rule fits whatever follows
  pub plan-unstarted : 1 ≤ length a → ((b : Bytes) → matches (instruction s a) (instruction s b) ≡ none) → Planned s matches protected code at none (length a) keep none
  plan-unstarted full m = go (decode s (drop (at + length a) code)) refl
    where
      go : (is : List Bytes) → decode s (drop (at + length a) code) ≡ is → Planned s matches protected code at none (length a) keep none
      go [] e = plan-keep full [] e (acts-last s matches protected at a)
      go (b ∷ is) e = plan-keep full (b ∷ is) e (acts-unstarted s matches protected at a b is (m b))

  module _ (b : Bytes) (next : b ≡ first_of (decode s (drop (at + length a) code))) (full : 1 ≤ length a) where
    pub plan-last : length b ≡ 0 → Planned s matches protected code at none (length a) keep none
    plan-last z = plan-keep full [] (first-none s code (at + length a) b next z) (acts-last s matches protected at a)

    module _ (more : 1 ≤ length b) where
      pub plan-protected : (has protected at || has protected (at + length a)) ≡ true → Planned s matches protected code at none (length a) keep none
      plan-protected h = plan-keep full _ (first-is s code (at + length a) b next more) (acts-protected s matches protected at a b _ h)

      pub plan-unmatched : (has protected at || has protected (at + length a)) ≡ false → matches (instruction s a) (instruction s b) ≡ none
          → Planned s matches protected code at none (length a) keep none
      unfolding paired
      plan-unmatched h m = plan-keep full _ (first-is s code (at + length a) b next more) (acts-asked s matches protected at a b _ none h m)

      pub plan-matched : (x y : Action) → (has protected at || has protected (at + length a)) ≡ false → matches (instruction s a) (instruction s b) ≡ some (x, y)
          → Fitting x (length a) → Fitting y (length b) → Planned s matches protected code at none (length a) x (some y)
      unfolding FittingNext actions_after paired
      plan-matched x y h m fx fy =
          let e = first-is s code (at + length a) b next more in
          record {
            long = ap length here;
            full = full;
            acts = rw (first-is s code at a here full, e) (acts-asked s matches protected at a b _ (some (x, y)) h m);
            fits = fx;
            later = rw (← next) fy;
          }

-- ---- the loop

pub moved_here : (k v : ℕ) (more : OffsetMap) → moved_to ((k, v) ∷ more) k ≡ v
unfolding moved_to
moved_here k v more = rw (eq-eqb k k refl, moved_to)

pub moved-past : (k v x : ℕ) (more : OffsetMap) → (k ≡ x → ⊥) → moved_to ((k, v) ∷ more) x ≡ moved_to more x
unfolding moved_to
moved-past k v x more h = rw (ne_eqb k x h, moved_to)

-- old offsets rise, so a map says nothing below its first
pub moved-below : (acts : List Action) (is : List Bytes) (old new x : ℕ) → x < old → moved_to (offsets acts is old new) x ≡ 0
unfolding offsets moved_to
moved-below [] is old new x h = moved-past old new x [] (λ e. omega arith)
moved-below (a ∷ acts) [] old new x h = moved-past old new x [] (λ e. omega arith)
moved-below (a ∷ acts) (i ∷ is) old new x h = moved-past old new x (offsets acts is (old + length i) (new + length (applied a i))) (λ e. omega arith) ∙ moved-below acts is (old + length i) (new + length (applied a i)) x (omega arith)

-- one more entry of the map: stored at its offset, or still to come
pub moved-set : (map : List ℕ) (at to x : ℕ) (more : OffsetMap) → at < length map → get_or map at 0 ≡ 0 → moved_to more at ≡ 0
    → get_or map x 0 + moved_to ((at, to) ∷ more) x ≡ get_or (set map at to) x 0 + moved_to more x
moved-set map at to x more h free later = by_test (eqb at x) refl
  where
    by_test : (t : Bool) → eqb at x ≡ t → get_or map x 0 + moved_to ((at, to) ∷ more) x ≡ get_or (set map at to) x 0 + moved_to more x
    by_test true e =
        let same = eqb-true at x e in
        rw (← same, moved_here at to more, get_or-set_same map at to 0 h, free, later) (omega arith)
    by_test false e =
        let other = eqb-false at x e in
        rw (moved-past at to x more other, get_or-set_other map at x to 0 (λ q. other (sym q)))

-- a bound of a list's numbers, after a store
set-small : (l : List ℕ) (i v b : ℕ) → ((x : ℕ) → get_or l x 0 ≤ b) → v ≤ b → (x : ℕ) → get_or (set l i v) x 0 ≤ b
set-small [] i v b h k x = h x
set-small (y ∷ l) zero v b h k zero = k
set-small (y ∷ l) zero v b h k (suc x) = h (suc x)
set-small (y ∷ l) (suc i) v b h k zero = h zero
set-small (y ∷ l) (suc i) v b h k (suc x) = set-small l i v b (λ z. h (suc z)) k x

module _ (s : Sheet) (matches : Matcher) (protected code₀ : List ℕ) where
  -- what is left of a pass, at `at` in the code and `to` in what is written; the map has k elements
  pub record Going (k : ℕ) (code map : List ℕ) (at to : ℕ) (next : Option Action) : Type 0 where
    pub behind : to ≤ at
    pub within : at ≤ length code
    pub room : length code ≡ length code₀
    pub long : length map ≡ k
    pub slots : length code₀ < k
    pub later : FittingNext next (first_of (decode s (drop at code)))
    pub out : (apply_peephole s matches protected code₀).0
        ≡ take to code ++ output (actions_after s matches protected next at (decode s (drop at code))) (decode s (drop at code))
    pub moved : (x : ℕ) → moved_to (apply_peephole s matches protected code₀).1 x
        ≡ get_or map x 0 + moved_to (offsets (actions_after s matches protected next at (decode s (drop at code))) (decode s (drop at code)) at to) x
    pub fresh : (x : ℕ) → at ≤ x → get_or map x 0 ≡ 0
    pub small : (x : ℕ) → get_or map x 0 ≤ to

  pub begins : (map : List ℕ) → length code₀ < length map → ((x : ℕ) → get_or map x 0 ≡ 0) → Going (length map) code₀ map 0 0 none
  unfolding FittingNext actions_after apply_peephole
  begins map slots free = record {
    behind = omega arith;
    within = omega arith;
    room = refl;
    long = refl;
    slots = slots;
    later = tt;
    out = refl;
    moved = λ x. rw (free x) (omega arith);
    fresh = λ x _. free x;
    small = λ x. rw (free x) (omega arith);
  }

  pub goes_on : {k : ℕ} {code map : List ℕ} {at to z : ℕ} {next then : Option Action} {x : Action} → Going k code map at to next
      → Planned s matches protected code at next z x then
      → Going k (put code to (applied x (take z (drop at code)))) (set map at to) (at + z) (to + length (applied x (take z (drop at code)))) then
  unfolding output offsets
  goes_on {k} {code} {map} {at} {to} {z} {next} {then} {x} g p =
      let h = p.full in
      let D' = decode s (drop (at + z) code) in
      let a = take z (drop at code) in
      let f : First s code at z = rw (← p.long) at (first s code at) in
      let inside = f.within h in
      let la : length a ≡ z = length-take-le z (drop at code) (simp length-drop (omega arith)) in
      let short = applied-short x a z la p.fits in
      let fits : to + length (applied x a) ≤ length code = omega (arith, g.behind) in
      let rest : drop (at + z) (put code to (applied x a)) ≡ drop (at + z) code = drop-put code to (applied x a) fits (at + z) (omega (arith, g.behind)) in
      let acts = p.acts in
      let out = rw (acts, f.some h) at g.out in
      record {
        behind = omega (arith, g.behind);
        within = rw (length-put code to (applied x a) fits) inside;
        room = length-put code to (applied x a) fits ∙ g.room;
        long = length-set map at to ∙ g.long;
        slots = g.slots;
        later = rw rest p.later;
        out = rw (rest, take_put code to (applied x a) fits) (out ∙ sym (append_assoc (take to code) (applied x a) _));
        moved = λ y.
            let m = rw (acts, f.some h, la) at (g.moved y) in
            rw rest (m ∙ moved-set map at to y _ (omega (arith, g.room, g.long, g.slots, g.within)) (g.fresh at (omega arith)) (moved-below (actions_after s matches protected then (at + z) D') D' (at + z) (to + length (applied x a)) at (omega arith)));
        fresh = λ y k. get_or-set_other map at y to 0 (λ e. omega arith) ∙ g.fresh y (omega arith);
        small = set-small map at to (to + length (applied x a)) (λ y. le_trans (g.small y) (omega arith)) (omega arith);
      }

  -- nothing is left
  pub ends : {k : ℕ} {code map : List ℕ} {at to : ℕ} {next : Option Action} → Going k code map at to next → decode s (drop at code) ≡ []
      → Peephole (apply_peephole s matches protected code₀) code₀ (zeroed_from to code) (set map at to) to
  unfolding output offsets actions_after actions moved_to filled
  ends {k} {code} {map} {at} {to} {next} g e =
      let none_left : (n : Option Action) → actions_after s matches protected n at [] ≡ [] = λ n. elim n as (λ o. actions_after s matches protected o at [] ≡ []) [ none ↦ refl | some x ↦ refl ] in
      let out = rw (e, none_left next) at g.out in
      let is : (apply_peephole s matches protected code₀).0 ≡ take to code = out ∙ append-nil (take to code) in
      let long : length (take to code) ≡ to = length-take-le to code (omega (arith, g.behind, g.within)) in
      record {
        is = rw (is, long, ← g.room) (zeroed-is to code);
        end = rw is (sym long);
        moved = λ x.
            let m = rw (e, none_left next) at (g.moved x) in
            sym (m ∙ moved-set map at to x [] (omega (arith, g.room, g.long, g.slots, g.within)) (g.fresh at (omega arith)) refl ∙ add-zero (get_or (set map at to) x 0));
        small = set-small map at to to g.small (omega arith);
        within = omega (arith, g.behind, g.within, g.room);
      }
