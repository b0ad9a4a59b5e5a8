-- Lists of offsets checked one by one.
use mathlib.Core.Path.{◌≡◌, refl, ap, sym, ◌∙◌}
use mathlib.Core.Bool.{Bool, true, false}
use mathlib.Core.List.{List, ◌∷◌, ◌++◌}
use Prim.Native.Nat.{ℕ, suc, ◌+◌, ◌≤◌, ◌<◌}
use native.Mathlib.Numerals.{add-one}
use native.Mathlib.Omega.{arith}
use lib.ListN.{length, get_or, drop, drop_of_length-le, get_or-eq_default}
use lib.Dec.{leb}
use borrow.Author.Tests.{leb-true, leb-false}
use lib.Seq.{drop-cons}
use Rattle.definition.specs.Limits.{entry_size, bad_code}
use Rattle.definition.specs.Res.{ok, refuse, ◌>>◌, demand}
use Rattle.definition.specs.Field.{has}
use Rattle.definition.specs.Lent.{entry_in}
use Rattle.definition.specs.Alone.{boundaries}
use Rattle.std.specs.Prelude.{Ok, Err}
use Rattle.optimize.specs.View.{fixed_in, entry_offsets, Checks}
use Rattle.optimize.proofs.Tables.{fixed-small}
use Rattle.line_map.specs.declared.LineEntry.{LineEntry}
use Rattle.line_map.specs.View.{entry_view}
use Rattle.line_map.proofs.Entries.{entries-chunk, entries-few}

pub bounds-more : (places : List ℕ) (x : ℕ) (xs : List ℕ) → has places x ≡ true → boundaries places (x ∷ xs) ≡ boundaries places xs
unfolding boundaries ◌>>◌ demand
bounds-more places x xs h = ap (λ (t : Bool). demand t bad_code x >> boundaries places xs) h

pub bounds-bad : (places : List ℕ) (x : ℕ) (xs : List ℕ) → has places x ≡ false → boundaries places (x ∷ xs) ≡ refuse bad_code x
unfolding boundaries ◌>>◌ demand
bounds-bad places x xs h = ap (λ (t : Bool). demand t bad_code x >> boundaries places xs) h

-- ---- a plain list

pub record Checking (places : List ℕ) (n : ℕ) (list : List ℕ) (i : ℕ) : Type 0 where
  pub left : boundaries places list ≡ boundaries places (drop i list)
  pub small : (k : ℕ) → k < i → get_or list k 0 < n

module _ (table list : List ℕ) where
  pub check-begins : Checking (fixed_in table) (length table) list 0
  check-begins = record { left = refl; small = λ k h. absurd (omega arith) }

  pub check-goes-on : (i : ℕ) → 1 ≤ length table → Checking (fixed_in table) (length table) list i → i < length list → has (fixed_in table) (get_or list i 0) ≡ true → Checking (fixed_in table) (length table) list (i + 1)
  check-goes-on i slots c h on = record {
    left = c.left ∙ rw (drop-cons list i 0 h, add-one i) (bounds-more (fixed_in table) (get_or list i 0) (drop (suc i) list) on);
    small = λ k q. by_place k q (leb i k) refl;
  }
    where
      by_place : (k : ℕ) → k < i + 1 → (t : Bool) → leb i k ≡ t → get_or list k 0 < length table
      by_place k q true e =
          let same : k ≡ i = omega (arith, leb-true i k e) in
          rw same (fixed-small table (get_or list i 0) slots on)
      by_place k q false e = c.small k (leb-false _ _ e)

  pub check-bad : (i : ℕ) → Checking (fixed_in table) (length table) list i → i < length list → has (fixed_in table) (get_or list i 0) ≡ false
      → Checks (boundaries (fixed_in table) list) (length table) list (Err (get_or list i 0))
  check-bad i c h off = record {
    is = sym (c.left ∙ rw (drop-cons list i 0 h) (bounds-bad (fixed_in table) (get_or list i 0) (drop (suc i) list) off));
    small = λ e. absurd (let n : ◌≡◌ {A = ℕ} 0 1 = cc in omega arith);
  }

  pub check-ends : (i : ℕ) → 1 ≤ length table → Checking (fixed_in table) (length table) list i → length list ≤ i → Checks (boundaries (fixed_in table) list) (length table) list (Ok tt)
  unfolding boundaries
  check-ends i slots c h = record {
    is = sym (c.left ∙ rw (drop_of_length-le list h));
    small = λ _. record { at = λ k. by_place k (leb (length list) k) refl };
  }
    where
      by_place : (k : ℕ) (t : Bool) → leb (length list) k ≡ t → get_or list k 0 < length table
      by_place k true e = rw (get_or-eq_default list 0 (leb-true _ _ e)) (omega arith)
      by_place k false e = c.small k (omega (arith, leb-false (length list) k e))

-- ---- line entries, of what is left of the list

module _ (places lines : List ℕ) where
  -- the next entry's numbers and those after them
  module _ {left : List ℕ} (x rest : List ℕ) (e : LineEntry) (c : boundaries places (entry_offsets lines) ≡ boundaries places (entry_offsets left))
      (cut : left ≡ x ++ rest) (h : length x ≡ entry_size) (is : entry_view e ≡ entry_in x) where
    offsets : entry_offsets left ≡ e.offset ∷ entry_offsets rest
    offsets = rw (cut, entries-chunk x rest h, ← is)

    pub lines-go-on : has places e.offset ≡ true → boundaries places (entry_offsets lines) ≡ boundaries places (entry_offsets rest)
    lines-go-on on = c ∙ rw offsets (bounds-more places e.offset (entry_offsets rest) on)

    pub lines-bad : has places e.offset ≡ false → refuse bad_code e.offset ≡ boundaries places (entry_offsets lines)
    lines-bad off = sym (c ∙ rw offsets (bounds-bad places e.offset (entry_offsets rest) off))

  pub lines_end : (left : List ℕ) → boundaries places (entry_offsets lines) ≡ boundaries places (entry_offsets left) → length left < entry_size → ok tt ≡ boundaries places (entry_offsets lines)
  unfolding boundaries
  lines_end left c h = sym (c ∙ rw (entries-few left h))
