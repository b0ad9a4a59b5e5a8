-- What `expand` does.
use Prim.Native.Nat.{ℕ, ◌+◌, ◌-◌, suc, zero, ◌≤◌, zero-le}
use mathlib.Core.Path.{◌≡◌, refl, sym, ◌∙◌, ap, fun_ext}
use mathlib.Core.List.{List, [], ◌∷◌}
use mathlib.Core.Bool.{Bool, true, false, ◌||◌}
use mathlib.Core.Option.{Option, some, none}
use lib.ListN.{length, get_or}
use lib.Dec.{eqb, ltb}
use borrow.Author.Tests.{eqb-true, eqb-false, ltb-true, ltb-false}
use native.Mathlib.Omega.{arith}
use Rattle.definition.specs.Field.{has}
use Rattle.definition.specs.Opcode.{shift, up, down, same}
use Rattle.definition.specs.Opcode as def
use Rattle.definition.specs.Runs.{target}
use Rattle.definition.specs.Check.{starts, exits}
use Rattle.definition.specs.Claims as claims
use Rattle.definition.specs.Claims.{left, right, branches}
use Rattle.opcode.specs.View.{effect_view, flow_view}
use Rattle.opcode.specs.declared.Effect.{Effect}
use Rattle.opcode.specs.declared.Flow as declared
use Rattle.opcode.specs.declared.Flow.TheVariants.{Onward, Away, Either, Stop}
use Rattle.opcode.specs.declared.Traits.{Traits}
use Rattle.opcode.specs.Table.{sheet_in}
use Rattle.field.proofs.Results.{never}
use Rattle.image_check.specs.Graph.{Node, Table, and_then, wrong, behind, meet_at, meet, meet_all, expand}
use Rattle.image_check.specs.Place.{halts}
use Rattle.image_check.specs.View.{stack_of, table_of, view, blanks, Ready, flagged, is_place, Image, met_if, Meets, node_in, Looks, wrong_by, behind_by, Expands}
use Rattle.std.specs.Prelude as std
use Rattle.std.specs.Prelude.{Some, None}
use Rattle.image_check.specs.declared.Trip.{Trip}
use Rattle.image_check.proofs.Starts.{start-holds}
use Rattle.image_check.proofs.Nodes.{node_end, node-role, node-off}

pub shift-most : (e : def.Effect) (g : ℕ) → shift e g ≤ suc g
unfolding shift
shift-most up g = omega arith
shift-most down zero = zero-le
shift-most down (suc g) = omega arith
shift-most same g = omega arith

-- no instruction adds more than one
pub behind-most : (w : Bool) (e : Effect) (g : ℕ) → behind_by w e g ≤ suc g
behind-most true e g = zero-le
behind-most false e g = shift-most (effect_view e) g

-- ---- chains

pub then_some : {A : Type 0} (x : Option A) → and_then x (λ y. some y) ≡ x
unfolding and_then
then_some none = refl
then_some (some a) = refl

meet-any : (h : ℕ) (x : Table) (q : ℕ) (a b : Node) (m : ℕ) → meet_at h x q (some a) m ≡ meet_at h x q (some b) m
unfolding meet_at
meet-any h x q a b zero = refl
meet-any h x q a b (suc g) = refl

module _ (sheet code flags : List ℕ) (image : Image sheet code flags) where
  abbrev node : ℕ → Option Node
  node p = node_in sheet code p

  abbrev L : ℕ
  L = length code

  -- a place is a start or the end
  pub place-known : (q : ℕ) → is_place flags L q ≡ true → claims.Either (has (starts (sheet_in sheet) code) q ≡ true) (q ≡ L)
  place-known q t = by (eqb q L) refl (ltb L q) refl t
    where
      by : (b : Bool) → eqb q L ≡ b → (c : Bool) → ltb L q ≡ c → elim b [ true ↦ true | false ↦ elim c [ true ↦ false | false ↦ flagged flags q ] ] ≡ true → claims.Either (has (starts (sheet_in sheet) code) q ≡ true) (q ≡ L)
      by true k c l e = right (eqb-true q L k)
      by false k true l e = never (cc)
      by false k false l e = left (sym (image.known q (let a = ltb-false L q l in let b = eqb-false q L k in omega (arith, b))) ∙ e)

  pub place-low : (q : ℕ) → is_place flags L q ≡ true → q ≤ L
  place-low q t = by (place-known q t)
    where
      by : claims.Either (has (starts (sheet_in sheet) code) q ≡ true) (q ≡ L) → q ≤ L
      by (left h) = let l = (start-holds (sheet_in sheet) code q h).0 in omega arith
      by (right e) = omega arith

  place-node : (q : ℕ) → is_place flags L q ≡ true → (nd : Node) × (node q ≡ some nd)
  place-node q t = by (place-known q t)
    where
      by : claims.Either (has (starts (sheet_in sheet) code) q ≡ true) (q ≡ L) → (nd : Node) × (node q ≡ some nd)
      by (left h) = let r = start-holds (sheet_in sheet) code q h in (_, node-role (sheet_in sheet) code q r.1 h r.2)
      by (right e) = (_, node_end (sheet_in sheet) code q e)

  off-node : (q : ℕ) → is_place flags L q ≡ false → node q ≡ none
  off-node q t = by (eqb q L) refl (ltb L q) refl (has (starts (sheet_in sheet) code) q) refl t
    where
      by : (b : Bool) → eqb q L ≡ b → (c : Bool) → ltb L q ≡ c → (h : Bool) → has (starts (sheet_in sheet) code) q ≡ h → elim b [ true ↦ true | false ↦ elim c [ true ↦ false | false ↦ flagged flags q ] ] ≡ false → node q ≡ none
      by true k c l h i e = never (cc)
      by false k c l false i e = node-off (sheet_in sheet) code q (eqb-false q L k) i
      by false k true l true i e = let a = (start-holds (sheet_in sheet) code q i).0 in let b = ltb-true L q l in absurd (omega arith)
      by false k false l true i e = let z = image.known q (let a = ltb-false L q l in let b = eqb-false q L k in omega (arith, b)) in never (cc)

  pub met-node : (h q : ℕ) (x : Table) → met_if (is_place flags L q) h q x ≡ meet node h x (some q)
  unfolding meet met_if meet_at
  met-node h q x = by (is_place flags L q) refl
    where
      by : (b : Bool) → is_place flags L q ≡ b → met_if b h q x ≡ meet_at h x q (node q) (x.marks q)
      by true e = let n = place-node q e in meet-any h x q (record { needs = 0; effect = same; exits = []; stops = false }) n.0 (x.marks q) ∙ ap (λ y. meet_at h x q y (x.marks q)) (sym n.1)
      by false e = sym (ap (λ y. meet_at h x q y (x.marks q)) (off-node q e))

  -- ---- expand
  module _ (marks work : List ℕ) (t : Trip) (depth p : ℕ) (ready : Ready L flags marks work t.count) where
    abbrev E : Option Table
    E = expand node depth (node p) (get_or marks p 0 - 1) (table_of t marks work)

    pub expand-off : is_place flags L p ≡ false → Expands sheet code flags marks work t depth p marks work None
    unfolding view expand
    expand-off e = record { ready = tt; is = sym (ap (λ y. expand node depth y (get_or marks p 0 - 1) (table_of t marks work)) (off-node p e)) }

    module _ (seen : Traits) (lk : Looks sheet code p seen) (next g h : ℕ) (k w b : Bool) (nn : next ≡ p + seen.size) (gg : g ≡ get_or marks p 0 - 1) (kk : k ≡ halts (flow_view seen.flow)) (ww : w ≡ wrong_by depth seen.needs k g) (hh : h ≡ behind_by w seen.effect g)
        (bb : b ≡ (t.bad || w)) where
      abbrev nd : Node
      nd = lk.nd

      abbrev u : Trip
      u = record { count = t.count; bad = b }

      wrong-is : w ≡ wrong depth nd g
      unfolding wrong
      wrong-is = ww ∙ (ap (λ n. wrong_by depth n k g) lk.needed ∙ ap (λ x. wrong_by depth nd.needs x g) (kk ∙ lk.stopped))

      behind-is : h ≡ behind depth nd g
      unfolding behind
      behind-is = hh ∙ (ap (λ x. elim x as (λ c. ℕ) [ true ↦ 0 | false ↦ shift (effect_view seen.effect) g ]) wrong-is ∙ ap (λ e. elim (wrong depth nd g) as (λ c. ℕ) [ true ↦ 0 | false ↦ shift e g ]) lk.shifts)

      -- the height behind is one that can be met
      pub behind-low : h + blanks marks L ≤ L + 2
      behind-low = by (get_or marks p 0) refl
        where
          by : (m : ℕ) → get_or marks p 0 ≡ m → h + blanks marks L ≤ L + 2
          by zero e = let a = behind-most w seen.effect g in let f = ready.fits in omega arith
          by (suc m) e = let a = behind-most w seen.effect g in let l = ready.low p in omega arith

      abbrev U : Table
      U = table_of u marks work

      meets : Table → Option Table
      meets y = meet_all node h (exits (flow_view seen.flow) code next) y

      expand-is : E ≡ meets U
      unfolding expand meets table_of
      expand-is = ap (λ y. expand node depth y (get_or marks p 0 - 1) (table_of t marks work)) lk.is ∙ (ap (λ y. expand node depth (some nd) y (table_of t marks work)) (sym gg)
          ∙ (ap (λ y. meet_all node y nd.exits (T (t.bad || wrong depth nd g))) (sym behind-is)
          ∙ (ap (λ y. meet_all node h y (T (t.bad || wrong depth nd g))) (lk.leads ∙ ap (λ z. exits (flow_view seen.flow) code z) (sym nn)) ∙ ap (λ y. meet_all node h (exits (flow_view seen.flow) code next) (T y)) (ap (λ y. t.bad || y) (sym wrong-is) ∙ sym bb))))
        where
          T : Bool → Table
          T y = record { marks = λ x. get_or marks x 0; work = stack_of work t.count; bad = y }

      flows : {e : declared.Flow} → seen.flow ≡ e → E ≡ meet_all node h (exits (flow_view e) code next) U
      unfolding meets
      flows q = expand-is ∙ ap (λ z. meet_all node h (exits (flow_view z) code next) U) q

      pub expand-stop : seen.flow ≡ Stop → Expands sheet code flags marks work t depth p marks work (Some u)
      unfolding exits meet_all view
      expand-stop q = record { ready = ready; is = sym (flows q) }

      one-meet : (q : Option ℕ) → meet_all node h (q ∷ []) U ≡ meet node h U q
      unfolding meet_all
      one-meet q = then_some (meet node h U q)

      -- one exit leads nowhere, or is met
      gone : (q : Option ℕ) → none ≡ q → none ≡ meet_all node h (q ∷ []) U
      unfolding meet
      gone q k = ap (λ z. meet node h U z) k ∙ sym (one-meet q)

      lone : {marks' work' : List ℕ} {r : std.Option Trip} (x : ℕ) (q : Option ℕ) → some x ≡ q → Meets L flags marks work u h x marks' work' r → view r marks' work' ≡ meet_all node h (q ∷ []) U
      lone x q k m = m.is ∙ (met-node h x U ∙ (ap (λ z. meet node h U z) k ∙ sym (one-meet q)))

      pub expand-below : seen.flow ≡ Away → none ≡ target code next → Expands sheet code flags marks work t depth p marks work None
      unfolding exits view
      expand-below e k = record { ready = tt; is = gone (target code next) k ∙ sym (flows e) }

      pub expand-away : {q : ℕ} {marks' work' : List ℕ} {r : std.Option Trip} → seen.flow ≡ Away → some q ≡ target code next → Meets L flags marks work u h q marks' work' r → Expands sheet code flags marks work t depth p marks' work' r
      unfolding exits
      expand-away {q = q} e k m = record { ready = m.ready; is = lone q (target code next) k m ∙ sym (flows e) }

      pub expand-onward : {marks' work' : List ℕ} {r : std.Option Trip} → seen.flow ≡ Onward → Meets L flags marks work u h next marks' work' r → Expands sheet code flags marks work t depth p marks' work' r
      unfolding exits
      expand-onward e m = record { ready = m.ready; is = lone next (some next) refl m ∙ sym (flows e) }

      -- of two exits, behind the first
      behind-first : {marks' work' : List ℕ} {v : std.Option Trip} → seen.flow ≡ Either → Meets L flags marks work u h next marks' work' v → E ≡ and_then (view v marks' work') (λ y. meet node h y (target code next))
      unfolding exits meet_all
      behind-first e m = flows e ∙ (ap (λ z. and_then (meet node h U (some next)) z) (fun_ext (λ y. then_some (meet node h y (target code next))))
          ∙ ap (λ z. and_then z (λ y. meet node h y (target code next))) (sym (met-node h next U) ∙ sym m.is))

      pub expand-lost : {marks' work' : List ℕ} → seen.flow ≡ Either → Meets L flags marks work u h next marks' work' None → Expands sheet code flags marks work t depth p marks' work' None
      unfolding view and_then
      expand-lost e m = record { ready = tt; is = sym (behind-first e m) }

      module _ {marks' work' : List ℕ} {v : Trip} (e : seen.flow ≡ Either) (m : Meets L flags marks work u h next marks' work' (Some v)) where
        second : E ≡ meet node h (table_of v marks' work') (target code next)
        unfolding view and_then
        second = behind-first e m

        pub expand-half : none ≡ target code next → Expands sheet code flags marks work t depth p marks' work' None
        unfolding view meet
        expand-half k = record { ready = tt; is = ap (λ z. meet node h (table_of v marks' work') z) k ∙ sym second }

        pub expand-either : {q : ℕ} {marks'' work'' : List ℕ} {r : std.Option Trip} → some q ≡ target code next → Meets L flags marks' work' v h q marks'' work'' r → Expands sheet code flags marks work t depth p marks'' work'' r
        expand-either {q = q} k n = record { ready = n.ready; is = n.is ∙ (met-node h q (table_of v marks' work') ∙ (ap (λ z. meet node h (table_of v marks' work') z) k ∙ sym second)) }

      -- a branch has its offset bytes
      pub branch-next : branches (flow_view seen.flow) ≡ true → 2 ≤ next
      branch-next e = let l = lk.offset e in omega arith
