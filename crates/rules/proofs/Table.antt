-- The table: rows of rules, and 0 behind them.
use mathlib.Core.Path.{◌≡◌, refl, ap, sym, ◌∙◌}
use mathlib.Core.List.{List, [], ◌∷◌, ◌++◌, append_assoc, append-nil}
use Prim.Native.Nat.{ℕ, zero, suc, ◌+◌, ◌-◌, ◌*◌, ◌≤◌, ◌<◌}
use native.Mathlib.Omega.{arith}
use lib.ListN.{length, get_or, take, drop, length-append}
use lib.Seq.{drop-drop, get_or-drop}
use Rattle.definition.specs.Limits.{max_rules}
use Rattle.definition.specs.Lent.{zeros, filled}
use Rattle.definition.specs.Opcode.{number}
use Rattle.definition.specs.Rules.{Rule}
use Rattle.rules.specs.View.{row_size, first_at, second_at, table_size, row_of, rows_of, table_of, rules_in, Each, IsRules, RowAt}
use Rattle.store.proofs.Fills.{length-zeros}
use Rattle.rules.proofs.Rows.{rule-back, number_small}

-- ---- the rows of rules

pub rows_long : (rs : List Rule) → length (rows_of rs) ≡ length rs * row_size
unfolding rows_of row_of
rows_long [] = refl
rows_long (r ∷ rs) = omega (arith, rows_long rs)

pub rows_more : (rs : List Rule) (r : Rule) → rows_of (rs ++ (r ∷ [])) ≡ rows_of rs ++ row_of r
unfolding rows_of
rows_more [] r = append-nil (row_of r)
rows_more (q ∷ rs) r = ap (λ (l : List ℕ). row_of q ++ l) (rows_more rs r) ∙ sym (append_assoc (row_of q) (rows_of rs) (row_of r))

pub table-long : (rs : List Rule) → length rs ≤ max_rules → length (table_of rs) ≡ table_size
unfolding table_of filled
table-long rs h = length-append (rows_of rs) (zeros (table_size - length (rows_of rs))) ∙ omega (arith, rows_long rs, length-zeros (table_size - length (rows_of rs)))

-- ---- reading the rules of a table

-- a row and what follows it, apart
row-taken : (r : Rule) (y : List ℕ) → take row_size (row_of r ++ y) ≡ row_of r
unfolding row_of
row-taken r y = refl

row-dropped : (r : Rule) (y : List ℕ) → drop row_size (row_of r ++ y) ≡ y
unfolding row_of
row-dropped r y = refl

rules-there : (rs : List Rule) (z : List ℕ) → rules_in (rows_of rs ++ z) (length rs) ≡ rs
unfolding rules_in rows_of
rules-there [] z = refl
rules-there (r ∷ rs) z = rw (append_assoc (row_of r) (rows_of rs) z, row-taken r (rows_of rs ++ z), row-dropped r (rows_of rs ++ z), rule-back r, rules-there rs z)

pub rules-back : (rs : List Rule) → rules_in (table_of rs) (length rs) ≡ rs
unfolding table_of filled
rules-back rs = rules-there rs (zeros (table_size - length (rows_of rs)))

pub rules-many : (table : List ℕ) (n : ℕ) → length (rules_in table n) ≡ n
unfolding rules_in
rules-many table zero = refl
rules-many table (suc n) = ap suc (rules-many (drop row_size table) n)

-- a table as reading leaves it is one
pub is-rules : (rs : List Rule) → length rs ≤ max_rules → Each rs → IsRules (table_of rs) (length rs)
is-rules rs h e = record { few = h; is = ap table_of (sym (rules-back rs)); accepted = rw (rules-back rs) e }

-- the row of a rule of a table
row-there : (rs : List Rule) (z : List ℕ) (i : ℕ) → i < length rs → (r : Rule) × (y : List ℕ) × (drop (i * row_size) (rows_of rs ++ z) ≡ row_of r ++ y)
unfolding rows_of
row-there [] z i h = absurd (omega arith)
row-there (r ∷ rs) z zero h = (r, rows_of rs ++ z, append_assoc (row_of r) (rows_of rs) z)
row-there (r ∷ rs) z (suc i) h =
    let (q, y, e) = row-there rs z i (omega arith) in
    let far : suc i * row_size ≡ row_size + i * row_size = omega arith in
    let rest : drop row_size ((row_of r ++ rows_of rs) ++ z) ≡ rows_of rs ++ z = rw (append_assoc (row_of r) (rows_of rs) z) (row-dropped r (rows_of rs ++ z)) in
    (q, y, rw far (sym (drop-drop (i * row_size) row_size ((row_of r ++ rows_of rs) ++ z)) ∙ rw rest e))

table-row : (rs : List Rule) (i : ℕ) → i < length rs → (r : Rule) × (y : List ℕ) × (drop (i * row_size) (table_of rs) ≡ row_of r ++ y)
unfolding table_of filled
table-row rs i h = row-there rs (zeros (table_size - length (rows_of rs))) i h

first-is : (r : Rule) (y : List ℕ) → get_or (row_of r ++ y) first_at 0 ≡ number r.first
unfolding row_of
first-is r y = refl

second_is_lem : (r : Rule) (y : List ℕ) → get_or (row_of r ++ y) second_at 0 ≡ number r.second
unfolding row_of
second_is_lem r y = refl

pub rules-long : {table : List ℕ} {count : ℕ} → IsRules table count → length table ≡ table_size
rules-long {table} {count} t = ap length t.is ∙ table-long (rules_in table count) (rw (rules-many table count) t.few)

pub row-at : {table : List ℕ} {count i : ℕ} → IsRules table count → i < count → RowAt table i
row-at {table} {count} {i} t h =
    let rs = rules_in table count in
    let many : length rs ≡ count = rules-many table count in
    let (r, y, e) = table-row rs i (omega arith) in
    let one : get_or table (i * row_size + first_at) 0 ≡ number r.first = sym (get_or-drop (i * row_size) table first_at 0) ∙ ap (λ (l : List ℕ). get_or l first_at 0) (ap (drop (i * row_size)) t.is ∙ e) ∙ first-is r y in
    let two : get_or table (i * row_size + second_at) 0 ≡ number r.second = sym (get_or-drop (i * row_size) table second_at 0) ∙ ap (λ (l : List ℕ). get_or l second_at 0) (ap (drop (i * row_size)) t.is ∙ e) ∙ second_is_lem r y in
    record {
      there = omega (arith, t.few);
      long = rules-long t;
      first = rw one (number_small r.first);
      second = rw two (number_small r.second);
    }
