-- The lookup, row by row.
use mathlib.Core.Path.{◌≡◌, refl, ap, sym, ◌∙◌}
use mathlib.Core.Bool.{Bool, true, false, ◌&&◌, and_assoc, and-false}
use mathlib.Core.List.{List, [], ◌∷◌, map}
use Prim.Native.Nat.{ℕ, zero, suc, ◌+◌, ◌-◌, ◌*◌, ◌≤◌, ◌<◌, min}
use native.Mathlib.Nat.{min-eq_left}
use native.Mathlib.Numerals.{add-one}
use native.Mathlib.Omega.{arith}
use borrow.Author.Tests.{eq-eqb, ne_eqb, eqb-true, lt-ltb, le-ltb}
use lib.Dec.{eqb}
use lib.ListN.{get_or, take, drop}
use lib.Seq.{drop-drop, get_or-take, get_or-drop}
use Rattle.definition.specs.Rules as def
use Rattle.definition.specs.Rules.{keep, rule_of, role_numbered, test_numbered, action_numbered, test_holds, fits, matches}
use Rattle.field.proofs.Tests.{and_right}
use Rattle.rules.specs.declared.Action.{Action}
use Rattle.rules.specs.declared.Instruction.{Instruction}
use Rattle.std.specs.Prelude as code
use Rattle.std.specs.Prelude.{Some, None}
use Rattle.rules.specs.View.{row_size, pass_at, first_at, second_at, test_at, number_at, one_at, one_operand_at, two_at, two_operand_at, action_view, instruction_view, rules_in, row_at, rule_at, row_count, row_starts, row_fits, found_from, found_in, actions_in, IsRules, RowAt, Inside, pair_at, Finds}
use Rattle.rules.proofs.Rows.{number-back, has-number}
use Rattle.rules.proofs.Table.{rules-long, row-at}

cell : (table : List ℕ) (at k : ℕ) → k < row_size → get_or (take row_size (drop (at * row_size) table)) k 0 ≡ get_or table (at * row_size + k) 0
cell table at k h = get_or-take row_size (drop (at * row_size) table) k 0 h ∙ get_or-drop (at * row_size) table k 0

-- ---- one row

abbrev Cell : List ℕ → ℕ → ℕ → ℕ
Cell table at k = get_or table (at * row_size + k) 0

-- how it starts
module _ (table : List ℕ) (at pass role : ℕ) where
  start-cells : row_starts pass role (row_at table at) ≡ eqb (Cell table at pass_at) pass && eqb (Cell table at first_at) role
  unfolding row_starts
  start-cells = rw (cell table at pass_at (omega arith), cell table at first_at (omega arith))

  pub start-role : row_starts pass role (row_at table at) ≡ true → Cell table at first_at ≡ role
  start-role e = eqb-true (Cell table at first_at) role (and_right (eqb (Cell table at pass_at) pass) _ (sym start-cells ∙ e))

  pub start-same : Cell table at pass_at ≡ pass → Cell table at first_at ≡ role → row_starts pass role (row_at table at) ≡ true
  start-same p q = rw (start-cells, eq-eqb (Cell table at pass_at) pass p, eq-eqb (Cell table at first_at) role q)

  pub start-pass : (Cell table at pass_at ≡ pass → ⊥) → row_starts pass role (row_at table at) ≡ false
  start-pass h = rw (start-cells, ne_eqb (Cell table at pass_at) pass h)

  pub start-other : (Cell table at first_at ≡ role → ⊥) → row_starts pass role (row_at table at) ≡ false
  start-other h = rw (start-cells, ne_eqb (Cell table at first_at) role h, and-false (eqb (Cell table at pass_at) pass))

module _ (table : List ℕ) (at pass : ℕ) (a b : Instruction) where
  cells : row_fits pass (row_at table at) a b
      ≡ eqb (Cell table at pass_at) pass && eqb (Cell table at first_at) a.role
      && (eqb (Cell table at second_at) b.role && test_holds (test_numbered (Cell table at test_at) (Cell table at number_at)) a.operand b.operand)
  unfolding row_fits
  cells = rw (start-cells table at pass a.role, cell table at second_at (omega arith), cell table at test_at (omega arith), cell table at number_at (omega arith))

  -- a row fits by its numbers where its rule does
  fits-row : RowAt table at → fits pass (rule_at table at) (instruction_view a) (instruction_view b) ≡ row_fits pass (row_at table at) a b
  unfolding fits rule_at rule_of
  fits-row row =
      rw (
        cells,
        and_assoc (eqb (Cell table at pass_at) pass) (eqb (Cell table at first_at) a.role),
        has-number (role_numbered (get_or (row_at table at) first_at 0)) a.role,
        has-number (role_numbered (get_or (row_at table at) second_at 0)) b.role,
        cell table at pass_at (omega arith),
        cell table at first_at (omega arith),
        cell table at second_at (omega arith),
        cell table at test_at (omega arith),
        cell table at number_at (omega arith),
        number-back (Cell table at first_at) row.first,
        number-back (Cell table at second_at) row.second,
      )

-- the pair of actions of a row
module _ (table : List ℕ) (at : ℕ) where
  pub actions-whole : at < row_count table → actions_in table at ≡ (rule_at table at).one ∷ (rule_at table at).two ∷ []
  unfolding actions_in
  actions-whole h = rw (actions_in, lt-ltb at (row_count table) h)

  pub actions-past : row_count table ≤ at → keep ∷ keep ∷ [] ≡ actions_in table at
  unfolding actions_in
  actions-past h = rw (actions_in, le-ltb at (row_count table) h)

pub pair_is : (table : List ℕ) (at : ℕ) (x y : Action)
    → at < row_count table
    → action_view x ≡ action_numbered (get_or (row_at table at) one_at 0) (get_or (row_at table at) one_operand_at 0)
    → action_view y ≡ action_numbered (get_or (row_at table at) two_at 0) (get_or (row_at table at) two_operand_at 0)
    → map action_view (x ∷ y ∷ []) ≡ actions_in table at
unfolding rule_at rule_of
pair_is table at x y h e f = rw (actions-whole table at h, e, f)

-- ---- all rows

pub next_row : (table : List ℕ) (i : ℕ) → drop row_size (drop (i * row_size) table) ≡ drop (suc i * row_size) table
next_row table i = let far : suc i * row_size ≡ i * row_size + row_size = omega arith in rw (far, ← drop-drop row_size (i * row_size) table)

-- what is found from row i on
module _ (table : List ℕ) (count pass : ℕ) (a b : Instruction) where
  abbrev pub found_after : ℕ → code.Option ℕ
  found_after i = found_from pass a b i (count - i) (drop (i * row_size) table)

  module _ {i : ℕ} where
    pub found-past : count ≤ i → found_after i ≡ None
    unfolding found_from
    found-past h = let none_left : count - i ≡ 0 = omega arith in rw none_left

    module _ (h : i < count) where
      left : count - i ≡ suc (count - (i + 1))
      left = omega arith

      pub found_here : row_fits pass (row_at table i) a b ≡ true → found_after i ≡ Some i
      unfolding found_from
      found_here f = rw (left, found_from, f)

      pub found-next : row_fits pass (row_at table i) a b ≡ false → found_after i ≡ found_after (i + 1)
      unfolding found_from
      found-next f = rw (left, found_from, f, add-one i, next_row table i)

-- ---- in a table that was read
module _ {table : List ℕ} {count : ℕ} (t : IsRules table count) where
  rules-whole : count ≤ row_count table
  unfolding row_count
  rules-whole = omega (arith, rules-long t, t.few)

  module _ (pass : ℕ) (a b : Instruction) where
    finds-from : (n i : ℕ) (l : List ℕ) → l ≡ drop (i * row_size) table → i + n ≡ count
        → (Inside count (found_from pass a b i n l)) × (pair_at table (found_from pass a b i n l) ≡ matches pass (rules_in l n) (instruction_view a) (instruction_view b))
    unfolding found_from rules_in matches Inside pair_at rule_at
    finds-from zero i l e c = (tt, refl)
    finds-from (suc n) i l e c =
        let here : fits pass (rule_of (take row_size l)) (instruction_view a) (instruction_view b) ≡ row_fits pass (take row_size l) a b = rw e (fits-row table i pass a b (row-at t (omega arith))) in
        let more = finds-from n (suc i) (drop row_size l) (ap (drop row_size) e ∙ next_row table i) (omega arith) in
        go (row_fits pass (take row_size l) a b) refl here more
      where
        go : (r : Bool) → row_fits pass (take row_size l) a b ≡ r → fits pass (rule_of (take row_size l)) (instruction_view a) (instruction_view b) ≡ row_fits pass (take row_size l) a b
            → (Inside count (found_from pass a b (suc i) n (drop row_size l))) × (pair_at table (found_from pass a b (suc i) n (drop row_size l)) ≡ matches pass (rules_in (drop row_size l) n) (instruction_view a) (instruction_view b))
            → (Inside count (found_from pass a b i (suc n) l)) × (pair_at table (found_from pass a b i (suc n) l) ≡ matches pass (rules_in l (suc n)) (instruction_view a) (instruction_view b))
        go true q f more = rw (found_from, matches, f, q) (omega arith, rw e)
        go false q f more = rw (found_from, matches, f, q) more

    found-whole : found_in table count pass a b ≡ found_from pass a b 0 count table
    unfolding found_in
    found-whole = let n : min count (row_count table) ≡ count = min-eq_left rules-whole in rw n

    pub found_all : found_in table count pass a b ≡ found_after table count pass a b 0
    found_all = let n : count - 0 ≡ count = omega arith in found-whole ∙ rw n

    -- what is found is the definition's
    pub found-finds : Finds table count pass a b (found_in table count pass a b)
    found-finds =
        let f = finds-from count 0 table refl (omega arith) in
        rw found-whole (record { inside = f.0; is = f.1 })

  -- the actions of a rule that was found
  pub actions-there : {i : ℕ} → i < count → actions_in table i ≡ (rule_at table i).one ∷ (rule_at table i).two ∷ []
  actions-there h = actions-whole table _ (omega (arith, rules-whole))

-- ---- the two actions of a rule
module _ (d : Action) {x y : def.Action} where
  pub first-action : (l : List Action) → map action_view l ≡ x ∷ y ∷ [] → action_view (get_or l 0 d) ≡ x
  first-action [] e = absurd (cc)
  first-action (p ∷ l) e = cc

  pub second-action : (l : List Action) → map action_view l ≡ x ∷ y ∷ [] → action_view (get_or l 1 d) ≡ y
  second-action [] e = absurd (cc)
  second-action (p ∷ []) e = absurd (cc)
  second-action (p ∷ q ∷ l) e = cc
