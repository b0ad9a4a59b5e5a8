-- How long a text of the passes program and a listing can be.
use mathlib.Core.Path.{◌≡◌, refl, ◌∙◌}
use mathlib.Core.Bool.{Bool, true, false}
use mathlib.Core.List.{List, [], ◌∷◌}
use Prim.Native.Nat.{ℕ, zero, suc, ◌+◌, ◌-◌, ◌*◌, ◌/◌, ◌%◌, ◌^◌, ◌≤◌, ◌<◌}
use native.Mathlib.Nat.{suc-mul}
use native.Mathlib.Omega.{arith}
use borrow.Author.Tests.{ltb-true, ltb-false}
use lib.Dec.{eqb, ltb}
use lib.ListN.{length, take, drop, get_or, length-append, length-drop}
use lib.Seq.{length-take-le, get_or-take, get_or-drop}
use Rattle.definition.specs.Limits.{max_code, max_constants, max_protected, max_lines, entry_size, width}
use Rattle.definition.specs.Res.{ok, refuse}
use Rattle.definition.specs.Field.{digit0}
use Rattle.definition.specs.Opcode.{Sheet}
use Rattle.definition.specs.Emit.{LineEntry}
use Rattle.definition.specs.Lent.{one_entry, entry_numbers}
use Rattle.definition.specs.Rewrite.{decode}
use Rattle.definition.specs.Alone.{Rewritten}
use Rattle.definition.specs.Compile.{FinalizedFunction}
use Rattle.definition.specs.Iec.{signed_of}
use Rattle.definition.specs.Listing as listing
use Rattle.definition.specs.Listing.{digits_onto, decimal, signed_decimal, fields, number_line, constant_lines, entry_lines, instruction_lines}
use Rattle.definition.specs.Passes.{malformed_line, offset_lines, refusal_line, text}
use Rattle.store.proofs.Fills.{small-front, small-back}
use Rattle.line_map.proofs.Entries.{length-one}
use Rattle.rewrite.proofs.Decoding.{First, first}
use Rattle.text.specs.Text.{text_room, listing_room}
use Rattle.text.proofs.Decimals.{digits-one, digits_more, one-or-more, shorter, signed-positive, signed-negative}

-- ---- digits

length_digits : (f n k : ℕ) (more : List ℕ) → n < 10 ^ suc k → length (digits_onto f n more) ≤ suc k + length more
unfolding digits_onto
length_digits zero n k more h = omega arith
length_digits (suc f) n zero more h = one-or-more n (λ o. rw (digits-one f n more o) (omega arith)) (λ o. absurd (omega arith))
length_digits (suc f) n (suc k) more h = one-or-more n
    (λ o. rw (digits-one f n more o) (omega arith))
    (λ o.
    let l = length_digits f (n / 10) k ((digit0 + n % 10) ∷ more) (shorter n (suc k) h) in
    rw (digits_more f n more o) (omega arith))

length-any : (f n : ℕ) (more : List ℕ) → length (digits_onto f n more) ≤ f + length more
unfolding digits_onto
length-any zero n more = omega arith
length-any (suc f) n more = one-or-more n
    (λ o. rw (digits-one f n more o) (omega arith))
    (λ o.
    let l = length-any f (n / 10) ((digit0 + n % 10) ∷ more) in
    rw (digits_more f n more o) (omega arith))

-- a number below 10 ^ k has at most k digits, and none has more than twenty
pub length-decimal : (n k : ℕ) → n < 10 ^ suc k → length (decimal n) ≤ suc k
unfolding decimal
length-decimal n k h = omega (arith, length_digits 20 n k [] h)

pub length-decimal-any : (n : ℕ) → length (decimal n) ≤ 20
unfolding decimal
length-decimal-any n = omega (arith, length-any 20 n [])

-- ---- lines

length_fields : (n : ℕ) (ns : List ℕ) → length (fields (n ∷ ns)) ≡ 1 + length (decimal n) + length (fields ns)
unfolding fields
length_fields n ns = simp length-append (omega arith)

length-end : length (fields []) ≡ 1
unfolding fields
length-end = refl

more-fields : (m w : ℕ) → suc m * suc w ≡ suc w + m * suc w
more-fields m w = suc-mul m (suc w) ∙ omega arith

-- numbers of at most w digits
length-list : (w : ℕ) (ns : List ℕ) → ((i : ℕ) → i < length ns → length (decimal (get_or ns i 0)) ≤ w) → length (fields ns) ≤ length ns * suc w + 1
length-list w [] h = omega (arith, length-end)
length-list w (n ∷ ns) h =
    let d = h 0 (omega arith) in
    let f = length_fields n ns in
    let r = length-list w ns (λ i k. h (suc i) (omega arith)) in
    omega (arith, more-fields (length ns) w)

length-words : (ns : List ℕ) → ((i : ℕ) → get_or ns i 0 < 2 ^ 16) → length (fields ns) ≤ length ns * 6 + 1
length-words ns h = length-list 5 ns (λ i k. length-decimal (get_or ns i 0) 4 (omega (arith, h i)))

length-line : (n : ℕ) (ns : List ℕ) → length (number_line n ns) ≡ length (decimal n) + length (fields ns)
unfolding number_line
length-line n ns = length-append (decimal n) (fields ns)

pub length-refusal : (n p : ℕ) → length (refusal_line n p) ≤ 42
unfolding refusal_line
length-refusal n p =
    let d = length-decimal-any n in
    let e = length-decimal-any p in
    let l = length_fields p [] in
    let m = length-line n (p ∷ []) in
    elim (eqb n malformed_line) as (λ t. length {A = ℕ} (elim t [ true ↦ n ∷ fields (p ∷ []) | false ↦ number_line n (p ∷ []) ]) ≤ 42) [
      | true ↦ omega (arith, length-end)
      | false ↦ omega (arith, length-end)
    ]

length-offsets : (l : List ℕ) → ((i : ℕ) → get_or l i 0 < 2 ^ 16) → length (offset_lines l) ≤ length l * 8
unfolding offset_lines
length-offsets [] h = omega arith
length-offsets (x ∷ l) h =
    let f = length-words (x ∷ []) (small-front (2 ^ 16) (x ∷ []) l (omega arith) h) in
    let r = length-offsets l (λ i. h (suc i)) in
    simp length-append (omega arith)

length-entries : (l : List LineEntry) → ((i : ℕ) → get_or (entry_numbers l) i 0 < 2 ^ 16) → length (entry_lines l) ≤ length l * (2 + entry_size * 6)
unfolding entry_lines entry_numbers
length-entries [] h = omega arith
length-entries (x ∷ l) h =
    let f = length-words (one_entry x) (small-front (2 ^ 16) (one_entry x) (entry_numbers l) (omega arith) h) in
    let r = length-entries l (small-back (2 ^ 16) (one_entry x) (entry_numbers l) h) in
    simp length-append (omega (arith, length-one x))

-- ---- instructions

module _ (s : Sheet) (l : List ℕ) (few : length l ≤ max_code) (small : (i : ℕ) → get_or l i 0 < 2 ^ 8) where
  by_first : (at z : ℕ) → First s l at z → ((to : ℕ) → at < to → to ≤ length l → length (instruction_lines to (decode s (drop to l))) ≤ (length l - to) * 12)
      → length (instruction_lines at (decode s (drop at l))) ≤ (length l - at) * 12
  unfolding instruction_lines
  by_first at zero f more = rw (f.none refl) (omega arith)
  by_first at (suc z) f more =
      let w = f.within (omega arith) in
      let long : length (take (suc z) (drop at l)) ≡ suc z = length-take-le (suc z) (drop at l) (simp length-drop (omega arith)) in
      let d = length-decimal at 4 (omega arith) in
      let a = length_fields at (take (suc z) (drop at l)) in
      let b = length-list 3 (take (suc z) (drop at l)) (λ i k. length-decimal (get_or (take (suc z) (drop at l)) i 0) 2 (rw (get_or-take (suc z) (drop at l) i 0 (omega (arith, long)), get_or-drop at l i 0) (omega (arith, small (at + i))))) in
      let r = more (at + suc z) (omega arith) w in
      let j = length-append (fields (at ∷ take (suc z) (drop at l))) (instruction_lines (at + suc z) (decode s (drop (at + suc z) l))) in
      rw (f.some (omega arith), long) (omega arith)

  length-within : (left at : ℕ) → length l - at ≤ left → length (instruction_lines at (decode s (drop at l))) ≤ (length l - at) * 12
  length-within zero at h = by_first at _ (first s l at) (λ to a b. absurd (omega arith))
  length-within (suc left) at h = by_first at _ (first s l at) (λ to a b. length-within left to (omega arith))

  pub length-instructions : length (instruction_lines 0 (decode s l)) ≤ length l * 12
  length-instructions = let w = length-within (length l) 0 (omega arith) in omega arith

-- ---- constants

length-signed : (k : ℕ) → k < 2 ^ width → length (signed_decimal (signed_of width k)) ≤ 11
length-signed k h = go (ltb k (2 ^ (width - 1))) refl
  where
    go : (t : Bool) → ltb k (2 ^ (width - 1)) ≡ t → length (signed_decimal (signed_of width k)) ≤ 11
    go true e = let l = ltb-true _ _ e in rw (signed-positive width k l) (omega (arith, length-decimal k 9 (omega arith)))
    go false e = let l = ltb-false _ _ e in rw (signed-negative width k l h) (omega (arith, length-decimal (2 ^ width - k) 9 (omega arith)))

length-constants : (l : List ℕ) → ((i : ℕ) → get_or l i 0 < 2 ^ width) → length (constant_lines l) ≤ length l * 14
unfolding constant_lines
length-constants [] h = omega arith
length-constants (k ∷ l) h =
    let d = length-signed k (h 0) in
    let r = length-constants l (λ i. h (suc i)) in
    simp length-append (omega arith)

-- ---- the whole text

-- what is printed of an answer keeps within the limits
pub record Small (r : Rewritten) : Type 0 where
  pub code : length r.code ≤ max_code
  pub protected : length r.protected ≤ max_protected
  pub lines : length r.line_map ≤ max_lines
  pub bytes : (i : ℕ) → get_or r.code i 0 < 2 ^ 8
  pub offsets : (i : ℕ) → get_or r.protected i 0 < 2 ^ 16
  pub entries : (i : ℕ) → get_or (entry_numbers r.line_map) i 0 < 2 ^ 16

length-counts : (ns : List ℕ) → ((i : ℕ) → get_or ns i 0 < 2 ^ 16) → length (number_line 0 ns) ≤ length ns * 6 + 2
length-counts ns h =
    let d = length-decimal 0 0 (omega arith) in
    let f = length-words ns h in
    omega (arith, length-line 0 ns)

counts-small : (a b c : ℕ) → a < 2 ^ 16 → b < 2 ^ 16 → c < 2 ^ 16 → (i : ℕ) → get_or (a ∷ b ∷ c ∷ []) i 0 < 2 ^ 16
counts-small a b c ha hb hc zero = ha
counts-small a b c ha hb hc (suc zero) = hb
counts-small a b c ha hb hc (suc (suc zero)) = hc
counts-small a b c ha hb hc (suc (suc (suc i))) = omega arith

pub text-fits : (s : Sheet) (r : Rewritten) → Small r → length (text (ok (s, r))) ≤ text_room
unfolding text
text-fits s r h =
    let c = length-counts (length r.code ∷ length r.protected ∷ length r.line_map ∷ []) (counts-small _ _ _ (omega (arith, h.code)) (omega (arith, h.protected)) (omega (arith, h.lines))) in
    let o = length-offsets r.protected h.offsets in
    let e = length-entries r.line_map h.entries in
    let i = length-instructions s r.code h.code h.bytes in
    simp length-append (omega (arith, h.code, h.protected, h.lines))

pub refusal-fits : (n p : ℕ) → length (text (refuse n p)) ≤ text_room
unfolding text
refusal-fits n p = omega (arith, length-refusal n p)

-- ---- a whole listing

-- what is printed of finished code keeps within the limits
pub record Brief (f : FinalizedFunction) : Type 0 where
  pub code : length f.bytecode ≤ max_code
  pub constants : length f.constants ≤ max_constants
  pub lines : length f.line_map ≤ max_lines
  pub bytes : (i : ℕ) → get_or f.bytecode i 0 < 256
  pub words : (i : ℕ) → get_or f.constants i 0 < 2 ^ width
  pub entries : (i : ℕ) → get_or (entry_numbers f.line_map) i 0 < 65536

-- a depth of any size
length-sizes : (a d b c : ℕ) → a < 65536 → b < 65536 → c < 65536 → length (number_line 0 (a ∷ d ∷ b ∷ c ∷ [])) ≤ 41
length-sizes a d b c ha hb hc =
    let zero = length-decimal 0 0 (omega arith) in
    let one = length-decimal a 4 (omega (arith, ha)) in
    let two = length-decimal-any d in
    let three = length-decimal b 4 (omega (arith, hb)) in
    let four = length-decimal c 4 (omega (arith, hc)) in
    omega (arith, length-line 0 (a ∷ d ∷ b ∷ c ∷ []), length_fields a (d ∷ b ∷ c ∷ []), length_fields d (b ∷ c ∷ []), length_fields b (c ∷ []), length_fields c [], length-end)

pub listing-fits : (s : Sheet) (f : FinalizedFunction) → Brief f → length (listing.text (ok (s, f))) ≤ listing_room
unfolding listing.text
listing-fits s f h =
    let c = length-sizes (length f.bytecode) f.depth (length f.constants) (length f.line_map) (omega (arith, h.code)) (omega (arith, h.constants)) (omega (arith, h.lines)) in
    let k = length-constants f.constants h.words in
    let e = length-entries f.line_map h.entries in
    let i = length-instructions s f.bytecode h.code h.bytes in
    simp length-append (omega (arith, h.code, h.constants, h.lines))

pub refused-fits : (n p : ℕ) → length (listing.text (refuse n p)) ≤ listing_room
unfolding listing.text
refused-fits n p =
    let d = length-decimal-any n in
    let e = length-decimal-any p in
    omega (arith, length-line n (p ∷ []), length_fields p [], length-end)
