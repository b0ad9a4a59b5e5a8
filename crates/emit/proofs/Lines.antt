-- The book's line entries as a part of it, in numbers.
use mathlib.Core.Path.{◌≡◌, refl, ap, sym, ◌∙◌}
use mathlib.Core.List.{List, [], ◌∷◌, append-nil}
use Prim.Native.Nat.{ℕ, zero, suc, ◌+◌, ◌-◌, ◌*◌, ◌≤◌}
use native.Mathlib.Nat.{mul-suc}
use native.Mathlib.Omega.{arith}
use lib.ListN.{length, take, drop, length-drop}
use lib.Seq.{take-add, take-take, length-take-le, drop-drop}
use Rattle.definition.specs.Limits.{max_lines, entry_size}
use Rattle.definition.specs.Lent.{entry_in, entry_numbers, entries_of, one_entry}
use Rattle.line_map.proofs.Entries.{in-front, numbers-append, entries-back}
use Rattle.emit.specs.Book.{line_base, book_size, row, rows, lines_in}

-- the entries of a table as numbers are the table itself
module _ (base : ℕ) (book : List ℕ) where
  pub numbers-rows : (n : ℕ) → base + entry_size * n ≤ length book → entry_numbers (rows entry_in base entry_size book n) ≡ take (entry_size * n) (drop base book)
  unfolding rows entry_numbers
  numbers-rows zero h = refl
  numbers-rows (suc n) h =
      let m : entry_size * suc n ≡ entry_size * n + entry_size = mul-suc entry_size n in
      let part = row base entry_size book n in
      let long : entry_size ≤ length part = rw (length-take-le entry_size (drop (base + entry_size * n) book) (rw (length-drop (base + entry_size * n) book) (omega arith))) (omega arith) in
      let one : one_entry (entry_in part) ≡ part = in-front part long ∙ take-take entry_size entry_size (drop (base + entry_size * n) book) (omega arith) in
      numbers-append (rows entry_in base entry_size book n) (entry_in part ∷ [])
      ∙ rw (numbers-rows n (omega arith), one, append-nil part, m) (sym (take-add (entry_size * n) entry_size (drop base book) ∙ rw (drop-both n)))
    where
      drop-both : (n : ℕ) → drop (entry_size * n) (drop base book) ≡ drop (base + entry_size * n) book
      drop-both n = drop-drop (entry_size * n) base book

-- as a part of the book
module _ (book : List ℕ) (n : ℕ) (slots : length book ≡ book_size) (few : n ≤ max_lines) where
  abbrev part : List ℕ
  part = take (line_base + entry_size * n - line_base) (drop line_base book)

  size_is : line_base + entry_size * n - line_base ≡ entry_size * n
  size_is = omega arith

  pub lines-there : entries_of part ≡ lines_in book n
  lines-there = rw size_is (ap entries_of (sym (numbers-rows line_base book n (omega arith))) ∙ entries-back (lines_in book n))

  pub lines_long : length part ≡ entry_size * n
  lines_long = rw size_is (length-take-le (entry_size * n) (drop line_base book) (rw (length-drop line_base book) (omega arith)))
