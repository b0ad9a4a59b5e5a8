-- The loop of the traversal.
use Prim.Native.Nat.{ℕ, ◌+◌, ◌-◌, suc, zero, ◌≤◌, ◌<◌}
use mathlib.Core.Path.{◌≡◌, refl, sym, ◌∙◌, ap}
use mathlib.Core.List.{List, [], ◌∷◌}
use mathlib.Core.Bool.{Bool}
use mathlib.Core.Option.{Option, some}
use lib.ListN.{length, get_or}
use native.Mathlib.Omega.{arith}
use Rattle.image_check.specs.Graph.{Node, and_then, traverse}
use Rattle.image_check.specs.View.{stack_of, table_of, view, Ready, node_in, Expands, on_from, Going, Traverses}
use Rattle.std.specs.Prelude as std
use Rattle.std.specs.Prelude.{Some, None}
use Rattle.image_check.specs.declared.Trip.{Trip}

traverse-empty : (node : ℕ → Option Node) (depth n : ℕ) (m : ℕ → ℕ) (b : Bool) → traverse node depth n m [] b ≡ some (record { marks = m; work = []; bad = b })
unfolding traverse
traverse-empty node depth zero m b = refl
traverse-empty node depth (suc n) m b = refl

module _ (sheet code flags marks₀ work₀ : List ℕ) (t₀ : Trip) (depth : ℕ) where
  pub begins : Ready (length code) flags marks₀ work₀ t₀.count → Going sheet code flags marks₀ work₀ t₀ depth marks₀ work₀ t₀ (length code + 1)
  begins r = record { ready = r; more = ap (λ n. on_from sheet code depth n (table_of t₀ marks₀ work₀)) (let k : suc (length code) ≡ length code + 1 = omega arith in k) }

  module _ (marks work : List ℕ) (t : Trip) (n : ℕ) (g : Going sheet code flags marks₀ work₀ t₀ depth marks work t n) where
    pub ends-spent : n ≤ 0 → Traverses sheet code marks₀ work₀ t₀ depth marks work (Some t)
    unfolding on_from traverse Traverses view table_of
    ends-spent e = sym (g.more ∙ ap (λ k. on_from sheet code depth k (table_of t marks work)) (let k : n ≡ 0 = omega arith in k))

    pub ends-empty : t.count ≡ 0 → Traverses sheet code marks₀ work₀ t₀ depth marks work (Some t)
    unfolding on_from table_of stack_of Traverses view
    ends-empty e = ap (λ k. some (record { marks = λ x. get_or marks x 0; work = stack_of work k; bad = t.bad })) e
        ∙ sym (g.more ∙ (ap (λ k. traverse (node_in sheet code) depth n (λ x. get_or marks x 0) (stack_of work k) t.bad) e ∙ traverse-empty (node_in sheet code) depth n (λ x. get_or marks x 0) t.bad))

    module _ (some-left : t.count ≡ 0 → ⊥) where
      pub ready-less : Ready (length code) flags marks work (t.count - 1)
      ready-less = let r = g.ready in record { small = r.small; starts = r.starts; slots = r.slots; room = r.room; fits = let f = r.fits in omega (arith, some-left); low = r.low }

      pub within : t.count - 1 < length work
      within = let r = g.ready in let f = r.fits in let a = r.room in omega (arith, some-left)

      module _ (m : ℕ) (k : n ≡ suc m) (marks' work' : List ℕ) where
        abbrev pub Step : std.Option Trip → Type 0
        Step r = Expands sheet code flags marks work (record { count = t.count - 1; bad = t.bad }) depth (get_or work (t.count - 1) 0) marks' work' r

        stepped : (r : std.Option Trip) → Step r → on_from sheet code depth (suc (length code)) (table_of t₀ marks₀ work₀) ≡ and_then (view r marks' work') (λ y. on_from sheet code depth m y)
        unfolding on_from table_of stack_of traverse
        stepped r x =
            let p : ℕ = get_or work (t.count - 1) 0 in
            let c : t.count ≡ suc (t.count - 1) = omega (arith, some-left) in
            g.more ∙ (ap (λ j. traverse (node_in sheet code) depth n (λ y. get_or marks y 0) (stack_of work j) t.bad) c
            ∙ (ap (λ j. traverse (node_in sheet code) depth j (λ y. get_or marks y 0) (p ∷ stack_of work (t.count - 1)) t.bad) k
            ∙ ap (λ y. and_then y (λ z. on_from sheet code depth m z)) (sym x.is)))

        pub goes_on : (r : Trip) → Step (Some r) → Going sheet code flags marks₀ work₀ t₀ depth marks' work' r m
        unfolding and_then view
        goes_on r x = record { ready = x.ready; more = stepped (Some r) x }

        pub goes-astray : Step None → Traverses sheet code marks₀ work₀ t₀ depth marks' work' None
        unfolding and_then view Traverses
        goes-astray x = sym (stepped None x)
