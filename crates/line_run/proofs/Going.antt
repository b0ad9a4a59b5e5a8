-- The loop of `remap_line_map`, over plain lists: where it stands between two turns, and that a turn keeps it so.
use mathlib.Core.Path.{◌≡◌, refl, sym, ap, ◌∙◌}
use mathlib.Core.List.{List, [], ◌∷◌, ◌++◌, append-nil, append_assoc}
use Prim.Native.Nat.{ℕ, zero, suc, ◌+◌, ◌≤◌, ◌<◌}
use native.Mathlib.Omega.{arith}
use native.Mathlib.Nat.{not-suc-le-zero, le_of_suc-le-suc}
use lib.ListN.{length, get_or, set, take, drop, length-append, length-map, length-take, get_or-map, drop_of_length-le}
use Rattle.definition.specs.Emit as def
use Rattle.definition.specs.Optimize.{remap_line_map}
use Rattle.line_map.specs.declared.LineEntry.{LineEntry}
use Rattle.line_map.specs.View.{entry_view}
use Rattle.std.specs.Prelude as std
use Rattle.std.specs.Prelude.{Some, None}
use Rattle.field.specs.View.{option_of}
use Rattle.optimize.specs.View.{map_in, remapped_view, last_after}
use Rattle.optimize.proofs.Lines.{remap-more}
use Rattle.line_run.specs.Run.{entries_in, over, kept, RemapsRun}

-- ---- lists

-- what stands where there is no entry
abbrev pub blank : LineEntry
blank = record { offset = 0; pos = record { line = 0; column = 0 } }

module _ {X : Type 0} where
  over-get : (ds ys : List X) (i : ℕ) (d : X) → length ds ≤ i → length ds ≤ length ys → get_or (over ds ys) i d ≡ get_or ys i d
  over-get [] ys i d l m = refl
  over-get (x ∷ ds) [] i d l m = absurd (not-suc-le-zero m)
  over-get (x ∷ ds) (y ∷ ys) zero d l m = absurd (not-suc-le-zero l)
  over-get (x ∷ ds) (y ∷ ys) (suc i) d l m = over-get ds ys i d (le_of_suc-le-suc l) (le_of_suc-le-suc m)

  over-set : (ds ys : List X) (x : X) → length ds < length ys → set (over ds ys) (length ds) x ≡ over (ds ++ x ∷ []) ys
  over-set ds [] x l = absurd (not-suc-le-zero l)
  over-set [] (y ∷ ys) x l = refl
  over-set (d ∷ ds) (y ∷ ys) x l = ap {B = List X} (λ r. d ∷ r) (over-set ds ys x (le_of_suc-le-suc l))

  next_of : (ys : List X) (i n : ℕ) (d : X) → i < n → n ≤ length ys → drop i (take n ys) ≡ get_or ys i d ∷ drop (suc i) (take n ys)
  next_of ys i zero d l m = absurd (not-suc-le-zero l)
  next_of [] i (suc n) d l m = absurd (not-suc-le-zero m)
  next_of (y ∷ ys) zero (suc n) d l m = refl
  next_of (y ∷ ys) (suc i) (suc n) d l m = next_of ys i n d (le_of_suc-le-suc l) (le_of_suc-le-suc m)

  none_of : (ys : List X) (i n : ℕ) → n ≤ i → drop i (take n ys) ≡ []
  none_of ys i n l = drop_of_length-le (take n ys) {i = i} (omega (arith, length-take n ys, l))

-- an entry of the run stored
entry_set : (xs : List LineEntry) (i : ℕ) (e : LineEntry) → entries_in (set xs i e) ≡ set (entries_in xs) i (entry_view e)
entry_set [] i e = refl
entry_set (x ∷ xs) zero e = refl
entry_set (x ∷ xs) (suc i) e = ap {B = List def.LineEntry} (λ r. entry_view x ∷ r) (entry_set xs i e)

one : (n : ℕ) → n + 1 ≡ suc n
one n = omega arith

-- ---- the loop

module _ (moves : List ℕ) (end : ℕ) (ys : List LineEntry) (count : ℕ) where
  abbrev All : List def.LineEntry
  All = kept moves end count ys

  -- what is kept of the entries from a place on
  abbrev Left : std.Option ℕ → ℕ → List def.LineEntry
  Left last at = remap_line_map (map_in moves) end (option_of last) (drop at (take count (entries_in ys)))

  -- before entry `at`: done are the n entries kept, which stand at the front, and what is kept of the rest comes after them
  pub record Going (at n : ℕ) (last : std.Option ℕ) (zs : List LineEntry) : Type 0 where
    pub done : List def.LineEntry
    pub many : n ≡ length done
    pub behind : n ≤ at
    pub stands : entries_in zs ≡ over done (entries_in ys)
    pub more : All ≡ done ++ Left last at

  pub begins : Going 0 0 None ys
  begins = record { done = []; many = refl; behind = omega arith; stands = refl; more = refl }

  module _ (enough : count ≤ length ys) where
    none_left : (last : std.Option ℕ) → remap_line_map (map_in moves) end (option_of last) [] ≡ []
    unfolding remap_line_map
    none_left last = refl

    pub ends : {at n : ℕ} {last : std.Option ℕ} {zs : List LineEntry} → Going at n last zs → count ≤ at → RemapsRun moves end count ys zs n
    ends {at} {last = last} g past =
        let e : All ≡ g.done = g.more ∙ rw (none_of (entries_in ys) at count past, none_left last) (append-nil g.done) in
        record { many = g.many ∙ ap length (sym e); is = g.stands ∙ ap (λ (l : List def.LineEntry). over l (entries_in ys)) (sym e) }

    module _ {at n : ℕ} {last : std.Option ℕ} {zs : List LineEntry} (g : Going at n last zs) (l : at < count) where
      short : length g.done ≤ length (entries_in ys)
      short = omega (arith, g.many, g.behind, enough, length-map ys entry_view)

      -- the entry that is read is the run's own
      reads : drop at (take count (entries_in ys)) ≡ entry_view (get_or zs at blank) ∷ drop (suc at) (take count (entries_in ys))
      reads =
          let same : entry_view (get_or zs at blank) ≡ get_or (entries_in ys) at (entry_view blank) =
          sym (get_or-map entry_view zs at blank) ∙ rw g.stands (over-get g.done (entries_in ys) at (entry_view blank) (omega (arith, g.many, g.behind)) short) in
          rw same (next_of (entries_in ys) at count (entry_view blank) l (omega (arith, enough, length-map ys entry_view)))

      module _ (r : std.Option LineEntry) (is : remapped_view r ≡ remap_line_map (map_in moves) end (option_of last) (entry_view (get_or zs at blank) ∷ [])) where
        pub went : All ≡ g.done ++ (remapped_view r ++ Left (last_after r last) (at + 1))
        went = g.more ∙ ap (λ (xs : List def.LineEntry). g.done ++ xs) (rw (one at, reads) (remap-more (map_in moves) end r last (entry_view (get_or zs at blank)) _ is))

      pub goes-gone : [] ≡ remap_line_map (map_in moves) end (option_of last) (entry_view (get_or zs at blank) ∷ []) → Going (at + 1) n last zs
      goes-gone is = record { done = g.done; many = g.many; behind = omega (arith, g.behind); stands = g.stands; more = went None is }

      pub goes-kept : (e : LineEntry) → entry_view e ∷ [] ≡ remap_line_map (map_in moves) end (option_of last) (entry_view (get_or zs at blank) ∷ []) → Going (at + 1) (n + 1) (Some e.offset) (set zs n e)
      goes-kept e is = record {
        done = g.done ++ entry_view e ∷ [];
        many = omega (arith, length-append g.done (entry_view e ∷ []), g.many);
        behind = omega (arith, g.behind);
        stands = entry_set zs n e ∙ rw (g.stands, g.many) (over-set g.done (entries_in ys) (entry_view e) (omega (arith, g.many, g.behind, enough, l, length-map ys entry_view)));
        more = went (Some e) is ∙ sym (append_assoc g.done (entry_view e ∷ []) _);
      }
