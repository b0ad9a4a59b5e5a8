-- The check of what is handed over alone.
use mathlib.Core.Path.{◌≡◌, refl, ◌∙◌}
use mathlib.Core.Bool.{true, false}
use mathlib.Core.List.{List}
use Prim.Native.Nat.{ℕ, suc}
use native.Mathlib.Omega.{arith}
use borrow.Author.Tests.{eq-eqb, ne_eqb}
use lib.Dec.{eqb}
use lib.ListN.{length}
use Rattle.definition.specs.Limits.{bad_code}
use Rattle.definition.specs.Res.{ok, refuse, ◌>>◌, demand}
use Rattle.definition.specs.Opcode.{Sheet}
use Rattle.definition.specs.Rewrite.{decode, end_from, boundaries_from}
use Rattle.definition.specs.Alone.{boundaries, checked}
use Rattle.std.specs.Prelude.{Result, Ok, Err}
use Rattle.optimize.specs.View.{fixed_in, Bounds, entry_offsets, offset_view, Checks, given, Passed}
use Rattle.optimize.proofs.Bounds.{table-has, same-bounds}

module _ (s : Sheet) (code protected lines table : List ℕ) (end : ℕ) (b : Bounds s code table end) where
  order : checked s (given code protected lines)
      ≡ (demand (eqb (end_from 0 (decode s code)) (length code)) bad_code (end_from 0 (decode s code))
      >> (boundaries (boundaries_from 0 (decode s code)) protected >> boundaries (boundaries_from 0 (decode s code)) (entry_offsets lines)))
  unfolding checked
  order = refl

  listed : (xs : List ℕ) → boundaries (fixed_in table) xs ≡ boundaries (boundaries_from 0 (decode s code)) xs
  listed xs = same-bounds (fixed_in table) (boundaries_from 0 (decode s code)) xs (table-has b)

  pub bad-end : (end ≡ length code → ⊥) → Passed s (given code protected lines) table (Err end)
  unfolding ◌>>◌ demand
  bad-end h =
      let off : eqb (end_from 0 (decode s code)) (length code) ≡ false = rw (← b.end) (ne_eqb end (length code) h) in
      record { is = rw (order, off, b.end); end = end; bounds = b; small = λ q. absurd (let z : ◌≡◌ {A = ℕ} 0 1 = cc in omega arith) }

  module _ (whole : end ≡ length code) (exact : length table ≡ suc (length code)) where
    on : eqb (end_from 0 (decode s code)) (length code) ≡ true
    on = rw (← b.end) (eq-eqb end (length code) whole)

    pub bad-protected : {x : ℕ} → Checks (boundaries (fixed_in table) protected) (length table) protected (Err x) → Passed s (given code protected lines) table (Err x)
    unfolding ◌>>◌ demand
    bad-protected {x} c =
        let r : refuse bad_code x ≡ boundaries (boundaries_from 0 (decode s code)) protected = c.is ∙ listed protected in
        record { is = rw (order, on, ← r); end = end; bounds = b; small = λ e. absurd (let z : ◌≡◌ {A = ℕ} 0 1 = cc in omega arith) }

    pub checked-lines : {r : Result (Unit {0}) ℕ} → Checks (boundaries (fixed_in table) protected) (length table) protected (Ok tt) → offset_view r ≡ boundaries (fixed_in table) (entry_offsets lines) → Passed s (given code protected lines) table r
    unfolding ◌>>◌ demand
    checked-lines c l =
        let p : ok tt ≡ boundaries (boundaries_from 0 (decode s code)) protected = c.is ∙ listed protected in
        record { is = rw (order, on, ← p) (l ∙ listed (entry_offsets lines)); end = end; bounds = b; small = λ _. rw exact at (c.small refl) }
