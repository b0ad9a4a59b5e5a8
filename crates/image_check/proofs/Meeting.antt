-- What each return of `meet` gives.
use Prim.Native.Nat.{ℕ, ◌+◌, ◌-◌, ◌*◌, suc, zero, ◌≤◌, ◌<◌}
use mathlib.Core.Path.{◌≡◌, refl, sym, ◌∙◌, ap, subst, fun_ext}
use mathlib.Core.List.{List, [], ◌∷◌}
use mathlib.Core.Bool.{Bool, true, false, not, ◌||◌}
use mathlib.Core.Option.{Option, some, none}
use lib.ListN.{length, get_or, set, length-set}
use lib.Seq.{get_or-set_same, get_or-set_other}
use lib.Dec.{eqb, leb, ltb}
use borrow.Author.Tests.{eq-eqb, ne_eqb, eqb-true, eqb-false, ltb-false, lt-ltb, le-ltb, le-leb, lt-leb}
use native.Mathlib.Omega.{arith}
use Rattle.definition.specs.Opcode.{same}
use Rattle.definition.specs.Runs.{target}
use Rattle.field.proofs.Results.{never}
use Rattle.field.specs.View.{option_of}
use Rattle.image_check.specs.Graph.{Node, Table, marked, blank, meet_at}
use Rattle.image_check.specs.View.{stack_of, table_of, view, blanks, Ready, flagged, is_place, met_if, Meets}
use Rattle.std.specs.Prelude as std
use Rattle.std.specs.Prelude.{Some, None, SomeIff}
use Rattle.image_check.specs.declared.Trip.{Trip}
use Rattle.image_check.proofs.Marks.{marked-same, marked_other, blank-marked}

module _ (end : ℕ) (flags marks work : List ℕ) (t : Trip) (h q : ℕ) (ready : Ready end flags marks work t.count) where
  abbrev T : Table
  T = table_of t marks work

  -- it is no place
  pub met-off : is_place flags end q ≡ false → (r : std.Option Trip) → r ≡ None → Meets end flags marks work t h q marks work r
  unfolding met_if view
  met-off e r off = rw off (record { ready = tt; fewer = omega arith; is = sym (ap (λ b. met_if b h q T) e) })

  module _ (there : is_place flags end q ≡ true) where
    abbrev here : Node
    here = record { needs = 0; effect = same; exits = []; stops = false }

    then-met : (m : ℕ) → get_or marks q 0 ≡ m → met_if (is_place flags end q) h q T ≡ meet_at h T q (some here) m
    unfolding met_if table_of
    then-met m e = ap (λ b. met_if b h q T) there ∙ ap (λ x. meet_at h T q (some here) x) e

    -- it was met at this height
    pub met-same : get_or marks q 0 ≡ suc h → Meets end flags marks work t h q marks work (Some t)
    unfolding meet_at table_of view
    met-same e = record { ready = ready; fewer = omega arith; is = sym (then-met (suc h) e ∙ ap (λ b. some (record { marks = λ x. get_or marks x 0; work = stack_of work t.count; bad = b })) (or_same t.bad)) }
      where
        or_same : (b : Bool) → (b || not (eqb h h)) ≡ b
        or_same true = refl
        or_same false = ap not (eq-eqb h h refl)

    -- at another one
    pub met-other : (g : ℕ) → get_or marks q 0 ≡ suc g → (g ≡ h → ⊥) → Meets end flags marks work t h q marks work (Some (record { count = t.count; bad = true }))
    unfolding meet_at table_of view
    met-other g e n = record {
      ready = ready;
      fewer = omega arith;
      is = sym (then-met (suc g) e ∙ ap (λ b. some (record { marks = λ x. get_or marks x 0; work = stack_of work t.count; bad = b })) (or-true t.bad));
    }
      where
        or-true : (b : Bool) → (b || not (eqb g h)) ≡ true
        or-true true = refl
        or-true false = ap not (ne_eqb g h n)

    -- a place lies within the code
    pub place-within : q ≤ end
    place-within = by (eqb q end) refl (ltb end q) refl there
      where
        by : (b : Bool) → eqb q end ≡ b → (c : Bool) → ltb end q ≡ c → elim b [ true ↦ true | false ↦ elim c [ true ↦ false | false ↦ flagged flags q ] ] ≡ true → q ≤ end
        by true k c l e = let z = eqb-true q end k in omega arith
        by false k true l e = never (cc)
        by false k false l e = ltb-false end q l

    module _ (new : get_or marks q 0 ≡ 0) where
      less : suc (blank (marked (λ x. get_or marks x 0) q h) (suc end)) ≡ blanks marks end
      less = blank-marked (λ x. get_or marks x 0) q h (suc end) new (let l = place-within in omega arith)

      pub has_room : t.count < length work
      has_room = let a = less in let b = ready.fits in let c = ready.room in omega arith

      marks-set : (x : ℕ) → get_or (set marks q (h + 1)) x 0 ≡ marked (λ x. get_or marks x 0) q h x
      marks-set x = by (eqb x q) refl
        where
          by : (b : Bool) → eqb x q ≡ b → get_or (set marks q (h + 1)) x 0 ≡ marked (λ x. get_or marks x 0) q h x
          by true k =
              let z = eqb-true x q k in
              let n : h + 1 ≡ suc h = omega arith in
              ap (λ y. get_or (set marks q (h + 1)) y 0) z ∙ (get_or-set_same marks q (h + 1) 0 (let a = ready.slots in let b = place-within in omega arith) ∙ (n ∙ sym (marked-same (λ x. get_or marks x 0) q h x z)))
          by false k = get_or-set_other marks q x (h + 1) 0 (eqb-false x q k) ∙ sym (marked_other (λ x. get_or marks x 0) q h x (eqb-false x q k))

      stack-below : (n : ℕ) → n ≤ t.count → stack_of (set work t.count q) n ≡ stack_of work n
      unfolding stack_of
      stack-below zero le = refl
      stack-below (suc n) le = ap (λ y. y ∷ stack_of (set work t.count q) n) (get_or-set_other work t.count n q 0 (λ e. omega arith)) ∙ ap (λ y. get_or work n 0 ∷ y) (stack-below n (omega arith))

      stack_set : stack_of (set work t.count q) (t.count + 1) ≡ q ∷ stack_of work t.count
      unfolding stack_of
      stack_set =
          let n : t.count + 1 ≡ suc t.count = omega arith in
          ap (λ y. stack_of (set work t.count q) y) n ∙ (ap (λ y. y ∷ stack_of (set work t.count q) t.count) (get_or-set_same work t.count q 0 has_room) ∙ ap (λ y. q ∷ y) (stack-below t.count (omega arith)))

      fewer-by-one : suc (blanks (set marks q (h + 1)) end) ≡ blanks marks end
      fewer-by-one = ap (λ f. suc (blank f (suc end))) (fun_ext marks-set) ∙ less

      low-set : h + blanks marks end ≤ end + 2 → (x : ℕ) → get_or (set marks q (h + 1)) x 0 + blanks (set marks q (h + 1)) end ≤ end + 2
      low-set k x = by (eqb x q) refl
        where
          by : (b : Bool) → eqb x q ≡ b → get_or (set marks q (h + 1)) x 0 + blanks (set marks q (h + 1)) end ≤ end + 2
          by true e = let a = marks-set x in let b = marked-same (λ x. get_or marks x 0) q h x (eqb-true x q e) in let c = fewer-by-one in omega arith
          by false e = let a = marks-set x in let b = marked_other (λ x. get_or marks x 0) q h x (eqb-false x q e) in let c = fewer-by-one in let d = ready.low x in omega arith

      pub met-first : h + blanks marks end ≤ end + 2 → Meets end flags marks work t h q (set marks q (h + 1)) (set work t.count q) (Some (record { count = t.count + 1; bad = t.bad }))
      unfolding meet_at table_of view
      met-first k = record {
        ready = record {
          small = ready.small;
          starts = ready.starts;
          slots = subst (λ n. end < n) (sym (length-set marks q (h + 1))) ready.slots;
          room = subst (λ n. end < n) (sym (length-set work t.count q)) ready.room;
          fits = let a = fewer-by-one in let b = ready.fits in omega arith;
          low = low-set k;
        };
        fewer = let a = fewer-by-one in omega arith;
        is = ap (λ f. some (record { marks = f; work = stack_of (set work t.count q) (t.count + 1); bad = t.bad })) (fun_ext marks-set)
            ∙ (ap (λ w. some (record { marks = marked (λ x. get_or marks x 0) q h; work = w; bad = t.bad })) stack_set ∙ sym (then-met 0 new));
      }

    pub met-equal : get_or marks q 0 ≡ h + 1 → Meets end flags marks work t h q marks work (Some t)
    met-equal e = met-same (let n : h + 1 ≡ suc h = omega arith in e ∙ n)

    pub met-else : (get_or marks q 0 ≡ 0 → ⊥) → (get_or marks q 0 ≡ h + 1 → ⊥) → Meets end flags marks work t h q marks work (Some (record { count = t.count; bad = true }))
    met-else a b = by (get_or marks q 0) refl
      where
        by : (m : ℕ) → get_or marks q 0 ≡ m → Meets end flags marks work t h q marks work (Some (record { count = t.count; bad = true }))
        by zero e = absurd (a e)
        by (suc g) e = met-other g e (λ k. b (let n : h + 1 ≡ suc h = omega arith in e ∙ (ap suc k ∙ sym n)))

-- ---- where a branch leads

target_by : Bool → Bool → ℕ → ℕ → Option ℕ
target_by a b d next = elim a [ true ↦ some (next + d) | false ↦ elim b [ true ↦ some (next + d - 65536) | false ↦ none ] ]

module _ (code : List ℕ) (next low high : ℕ) (l : low ≡ get_or code (next - 2) 0) (h : high ≡ get_or code (next - 1) 0) where
  abbrev d : ℕ
  d = low + 256 * high

  target_is : target code next ≡ target_by (ltb d 32768) (leb (65536 - d) next) d next
  unfolding target target_by
  target_is = ap (λ x. target_by (ltb (x + 256 * get_or code (next - 1) 0) 32768) (leb (65536 - (x + 256 * get_or code (next - 1) 0)) next) (x + 256 * get_or code (next - 1) 0) next) (sym l)
      ∙ ap (λ x. target_by (ltb (low + 256 * x) 32768) (leb (65536 - (low + 256 * x)) next) (low + 256 * x) next) (sym h)

  pub leads-on : d < 32768 → some (next + d) ≡ target code next
  unfolding target_by
  leads-on lt = sym (target_is ∙ ap (λ b. target_by b (leb (65536 - d) next) d next) (lt-ltb d 32768 lt))

  leads-back : 32768 ≤ d → d ≤ 65536 → 65536 - d ≤ next → some (next - (65536 - d)) ≡ target code next
  unfolding target_by
  leads-back ge le lt =
      let n : next - (65536 - d) ≡ next + d - 65536 = omega arith in
      ap some n ∙ sym (target_is ∙ (ap (λ b. target_by b (leb (65536 - d) next) d next) (le-ltb d 32768 ge) ∙ ap (λ b. target_by false b d next) (le-leb (65536 - d) next lt)))

  leads-below : 32768 ≤ d → next < 65536 - d → none ≡ target code next
  unfolding target_by
  leads-below ge lt = sym (target_is ∙ (ap (λ b. target_by b (leb (65536 - d) next) d next) (le-ltb d 32768 ge) ∙ ap (λ b. target_by false b d next) (lt-leb (65536 - d) next lt)))

  pub leads-left : 32768 ≤ d → d ≤ 65536 → (o : std.Option ℕ) → SomeIff o (65536 - d ≤ next) (next - (65536 - d)) → option_of o ≡ target code next
  leads-left ge le (Some x) s = ap some s.1 ∙ leads-back ge le s.0
  leads-left ge le None n = leads-below ge (omega (arith, n))
