-- How the longest run goes on from a place: by a table of counts, and as the longest run itself does.
use Prim.Native.Nat.{ℕ, ◌≤◌, ◌<◌}
use mathlib.Core.Path.{◌≡◌, refl, sym, ◌∙◌, ap}
use mathlib.Core.List.{List, [], ◌++◌}
use mathlib.Core.Bool.{Bool, true, false, ◌&&◌}
use mathlib.Core.Option.{Option, some, none}
use lib.Dec.{leb}
use borrow.Author.Tests.{leb-false, le-leb}
use native.Mathlib.Omega.{arith}
use Rattle.definition.specs.Opcode.{Flow, onward, away, either, stop}
use Rattle.definition.specs.Runs.{target}
use Rattle.definition.specs.Claims.{branches}
use Rattle.definition.specs.Slowest.{leads_back}
use Rattle.field.proofs.Results.{never}
use Rattle.slowest.specs.Longest.{Best, nothing, onwards, choose, best_to, best_flow}
use Rattle.slowest.specs.View.{place_or, ahead, longer, way_by, is_back_way, is_last_way, way_place, way_count, way_outcomes}
use Rattle.slowest.specs.declared.Way.{Way}
use Rattle.slowest.specs.declared.Way.TheVariants.{Back, Ends, Onwards, Falls, Jumps}

-- the run that goes on so
unfoldable pub best_way : (ℕ → Best) → Way → Best
best_way f Back = nothing
best_way f (Ends n) = record { count = n; outcomes = [] }
best_way f (Onwards q) = onwards (f q)
best_way f (Falls q) = choose true (f q) nothing
best_way f (Jumps q) = choose false nothing (f q)

pub counts-way : (f : ℕ → Best) (w : Way) → (best_way f w).count ≡ way_count (λ q. (f q).count) w
unfolding best_way nothing onwards choose
counts-way f Back = refl
counts-way f (Ends n) = refl
counts-way f (Onwards q) = refl
counts-way f (Falls q) = refl
counts-way f (Jumps q) = refl

pub ends-way : (f : ℕ → Best) (w : Way) → is_last_way w ≡ true → (best_way f w).outcomes ≡ []
unfolding best_way nothing
ends-way f Back e = refl
ends-way f (Ends n) e = refl
ends-way f (Onwards q) e = never (cc)
ends-way f (Falls q) e = never (cc)
ends-way f (Jumps q) e = never (cc)

pub goes-way : (f : ℕ → Best) (p : ℕ) (w : Way) → is_last_way w ≡ false → (best_way f w).outcomes ≡ way_outcomes w ++ (f (way_place w p)).outcomes
unfolding best_way onwards choose
goes-way f p Back e = never (cc)
goes-way f p (Ends n) e = never (cc)
goes-way f p (Onwards q) e = refl
goes-way f p (Falls q) e = refl
goes-way f p (Jumps q) e = refl

-- it goes on forward, or ends after one instruction at most
unfoldable pub Leads : ℕ → Way → Type 0
Leads p Back = Unit {0}
Leads p (Ends n) = n ≤ 1
Leads p (Onwards q) = p < q
Leads p (Falls q) = p < q
Leads p (Jumps q) = p < q

pub leads-on : (p : ℕ) (w : Way) → Leads p w → is_last_way w ≡ false → p < way_place w p
unfolding Leads
leads-on p Back l e = never (cc)
leads-on p (Ends n) l e = never (cc)
leads-on p (Onwards q) l e = l
leads-on p (Falls q) l e = l
leads-on p (Jumps q) l e = l

-- ---- by an instruction

module _ (code : List ℕ) (p next : ℕ) (far : p < next) where
  abbrev t : Option ℕ
  t = target code next

  abbrev q : ℕ
  q = place_or 0 t

  longer_by : ℕ → Bool → Way
  longer_by x b = elim b [ true ↦ Falls next | false ↦ Jumps x ]

  ahead_by : Bool → Way → Way
  ahead_by b w = elim b [ true ↦ Back | false ↦ w ]

  pub leads : (fl : Flow) (f : ℕ → ℕ) → Leads p (way_by fl code p next f)
  unfolding way_by ahead longer Leads ahead_by longer_by
  leads onward f = far
  leads away f = by (leb q p) refl
    where
      by : (b : Bool) → leb q p ≡ b → Leads p (ahead_by b (Onwards q))
      by true e = tt
      by false e = leb-false q p e
  leads either f = by (leb q p) refl (leb (f q) (f next))
    where
      by : (b : Bool) → leb q p ≡ b → (c : Bool) → Leads p (ahead_by b (longer_by q c))
      by true e c = tt
      by false e true = far
      by false e false = leb-false q p e
  leads stop f = omega arith

  -- where it leads back, the place that stands for its target is p or before it
  back-place : (x : Option ℕ) → leb (place_or 0 x) p ≡ leads_back p x
  unfolding place_or leads_back
  back-place none = le-leb 0 p (omega arith)
  back-place (some y) = refl

  pub is-back : (fl : Flow) (f : ℕ → ℕ) → is_back_way (way_by fl code p next f) ≡ (branches fl && leads_back p t)
  unfolding way_by ahead longer branches ahead_by longer_by
  is-back onward f = refl
  is-back away f = by (leb q p) ∙ back-place t
    where
      by : (b : Bool) → is_back_way (ahead_by b (Onwards q)) ≡ b
      by true = refl
      by false = refl
  is-back either f = by (leb q p) (leb (f q) (f next)) ∙ back-place t
    where
      by : (b c : Bool) → is_back_way (ahead_by b (longer_by q c)) ≡ b
      by true c = refl
      by false true = refl
      by false false = refl
  is-back stop f = refl

  -- only the counts ahead matter
  pub same_way : (fl : Flow) (f g : ℕ → ℕ) → ((x : ℕ) → p < x → f x ≡ g x) → way_by fl code p next f ≡ way_by fl code p next g
  unfolding way_by ahead longer ahead_by longer_by
  same_way onward f g e = refl
  same_way away f g e = refl
  same_way either f g e = by (leb q p) refl
    where
      by : (b : Bool) → leb q p ≡ b → ahead_by b (longer_by q (leb (f q) (f next))) ≡ ahead_by b (longer_by q (leb (g q) (g next)))
      by true k = refl
      by false k = ap (λ x. longer_by q (leb x (f next))) (e q (leb-false q p k)) ∙ ap (λ x. longer_by q (leb (g q) x)) (e next far)
  same_way stop f g e = refl

  -- where the branch leads forward it goes on as the longest run does
  module _ (f : ℕ → Best) where
    away-way : (x : Option ℕ) → leads_back p x ≡ false → onwards (best_to f x) ≡ best_way f (ahead_by (leb (place_or 0 x) p) (Onwards (place_or 0 x)))
    unfolding leads_back place_or best_to best_way ahead_by
    away-way none e = never (cc)
    away-way (some y) e = sym (ap (λ b. best_way f (ahead_by b (Onwards y))) e)

    either_way : (x : Option ℕ) → leads_back p x ≡ false → choose (leb (best_to f x).count (f next).count) (f next) (best_to f x) ≡ best_way f (ahead_by (leb (place_or 0 x) p) (longer_by (place_or 0 x) (leb (f (place_or 0 x)).count (f next).count)))
    unfolding leads_back place_or best_to best_way ahead_by longer_by choose
    either_way none e = never (cc)
    either_way (some y) e = by (leb (f y).count (f next).count) ∙ sym (ap (λ b. best_way f (ahead_by b (longer_by y (leb (f y).count (f next).count)))) e)
      where
        by : (c : Bool) → choose c (f next) (f y) ≡ best_way f (longer_by y c)
        by true = refl
        by false = refl

    pub best-way : (fl : Flow) → (branches fl && leads_back p t) ≡ false → best_flow fl code next f ≡ best_way f (way_by fl code p next (λ x. (f x).count))
    unfolding way_by ahead longer best_flow best_way branches ahead_by longer_by onwards nothing
    best-way onward e = refl
    best-way away e = away-way t e
    best-way either e = either_way t e
    best-way stop e = refl
