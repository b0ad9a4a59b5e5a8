-- Fields and lines put into a store.
use mathlib.Core.Path.{◌≡◌, refl, ap, sym, ◌∙◌}
use mathlib.Core.List.{List, [], ◌∷◌, ◌++◌, map, append_assoc}
use Prim.Native.Nat.{ℕ, suc, ◌+◌, ◌≤◌, ◌<◌}
use Prim.Native.Char.{code}
use native.Mathlib.Numerals.{add-one}
use native.Mathlib.Omega.{arith}
use lib.ListN.{length, drop, get_or, drop_of_length-le}
use lib.Seq.{drop-cons, take_all}
use Rattle.std.proofs.lemmas.List.{get_or-map}
use Rattle.definition.specs.Field.{lf, comma}
use Rattle.definition.specs.Iec.{signed_of}
use Rattle.definition.specs.Opcode.{Sheet}
use Rattle.definition.specs.Limits.{entry_size, width}
use Rattle.definition.specs.Lent.{one_entry, entry_in, entries_of}
use Rattle.definition.specs.Rewrite.{Bytes, decode}
use Rattle.definition.specs.Listing.{decimal, signed_decimal, fields, number_line, constant_lines, entry_lines, instruction_lines}
use Rattle.definition.specs.Passes.{malformed_line, offset_lines, refusal_line}
use Rattle.definition.specs.Sheet.{read_sheet}
use Rattle.std.specs.Prelude.{Result, Ok, Err}
use Rattle.definition.specs.declared.Refused.{Refused}
use Rattle.definition.specs.View.{res_of}
use Rattle.opcode.specs.Table.{sheet_in}
use Rattle.opcode.specs.Reading.{Reads, Accepts}
use Rattle.line_map.proofs.Entries.{in-front, entries-chunk, entries-few}
use Rattle.rewrite.specs.View.{first_of}
use Rattle.rewrite.proofs.Decoding.{first-is, first-none, first-within}
use Rattle.store.specs.Store.{Store, at, push, push_all}
use Rattle.store.proofs.Stores.{push_all-append}
use Rattle.text.specs.Text.{field_of, constant_line, instruction_line, instructions_by}
use Rattle.text.proofs.Puts.{Putting, put_first, put_then, put_one, put-goes-on, put-ends, put-ends-none}

-- ---- one line

pub put-fields : (s : Store) {t u : Store} (n : ℕ) (ns : List ℕ) → t ≡ push_all s (field_of n) → u ≡ push_all t (fields ns) → u ≡ push_all s (fields (n ∷ ns))
unfolding fields
put-fields s n ns e f = put_then s (field_of n) (fields ns) e f

pub put-end : (s : Store) {t : Store} → t ≡ push s lf → t ≡ push_all s (fields [])
unfolding fields
put-end s e = put_one s lf e

pub put-line : (s : Store) {t u : Store} (n : ℕ) (ns : List ℕ) → t ≡ push_all s (decimal n) → u ≡ push_all t (fields ns) → u ≡ push_all s (number_line n ns)
unfolding number_line
put-line s n ns e f = put_then s (decimal n) (fields ns) e f

pub put-marked : (s : Store) {t u : Store} (n : ℕ) → t ≡ push s malformed_line → u ≡ push_all t (fields (n ∷ [])) → u ≡ push_all s (refusal_line malformed_line n)
unfolding refusal_line
put-marked s n e f = put_first s malformed_line (fields (n ∷ [])) e f

-- ---- the fields of a line

abbrev pub fields_from : List ℕ → ℕ → List ℕ
fields_from l i = fields (drop i l)

pub fields-on : (l : List ℕ) (s : Store) {t u : Store} {i n : ℕ} → Putting (fields_from l) (length l) s t i → n ≡ get_or l i 0 → u ≡ push_all t (field_of n) → i < length l
    → Putting (fields_from l) (length l) s u (i + 1)
unfolding fields
fields-on l s {i = i} {n = n} p e f h = put-goes-on (fields_from l) (length l) s (field_of n) p f (rw (add-one i, drop-cons l i 0 h, e)) (omega arith)

pub fields-end : (l : List ℕ) (s : Store) {t u : Store} {i : ℕ} → Putting (fields_from l) (length l) s t i → u ≡ push t lf → length l ≤ i → u ≡ push_all s (fields l)
fields-end l s {t} p f h = put-ends (fields_from l) (length l) s p (rw (drop_of_length-le l h) (put-end t f))

-- of numbers of any type
pub value-at : {A : Type 0} (f : A → ℕ) (l : List A) (i : ℕ) (x : A) → i < length l → x ≡ get_or l i x → f x ≡ get_or (map f l) i 0
value-at f l i x h e = ap f e ∙ sym (get_or-map f l i x 0 h)

pub numbers-are : (l : List ℕ) → map (λ (n : ℕ). n) l ≡ l
numbers-are [] = refl
numbers-are (n ∷ l) = ap (λ (m : List ℕ). n ∷ m) (numbers-are l)

-- ---- a line for each offset

abbrev pub offsets_from : List ℕ → ℕ → List ℕ
offsets_from l i = offset_lines (drop i l)

pub offsets-on : (l : List ℕ) (s : Store) {t v u : Store} {i n : ℕ} → Putting (offsets_from l) (length l) s t i → n ≡ get_or l i 0 → v ≡ push t (code "p") → u ≡ push_all v (fields (n ∷ [])) → i < length l
    → Putting (offsets_from l) (length l) s u (i + 1)
unfolding offset_lines
offsets-on l s {t} {i = i} {n = n} p e a f h =
    put-goes-on (offsets_from l) (length l) s (code "p" ∷ fields (n ∷ [])) p (put_first t (code "p") (fields (n ∷ [])) a f) (rw (add-one i, drop-cons l i 0 h, e)) (omega arith)

pub offsets-end : (l : List ℕ) (s : Store) {t : Store} {i : ℕ} → Putting (offsets_from l) (length l) s t i → length l ≤ i → t ≡ push_all s (offset_lines l)
unfolding offset_lines
offsets-end l s p h = put-ends-none (offsets_from l) (length l) s p (rw (drop_of_length-le l h))

-- ---- a line for each constant

pub put-constant : (s : Store) {t v u x : Store} (k : ℕ) → t ≡ push s (code "k") → v ≡ push t comma → u ≡ push_all v (signed_decimal (signed_of width k)) → x ≡ push u lf → x ≡ push_all s (constant_line k)
put-constant s {t} {v} {u} k e f g h =
    let d = signed_decimal (signed_of width k) in
    put_first s (code "k") (comma ∷ d ++ (lf ∷ [])) e (put_first t comma (d ++ (lf ∷ [])) f (put_then v d (lf ∷ []) g (put_one u lf h)))

abbrev pub constants_from : List ℕ → ℕ → List ℕ
constants_from l i = constant_lines (drop i l)

constants-first : (k : ℕ) (l : List ℕ) → constant_lines (k ∷ l) ≡ constant_line k ++ constant_lines l
unfolding constant_lines
constants-first k l = ap (λ (x : List ℕ). code "k" ∷ comma ∷ x) (sym (append_assoc (signed_decimal (signed_of width k)) (lf ∷ []) (constant_lines l)))

pub constants-on : (l : List ℕ) (s : Store) {t u : Store} {i n : ℕ} → Putting (constants_from l) (length l) s t i → n ≡ get_or l i 0 → u ≡ push_all t (constant_line n) → i < length l
    → Putting (constants_from l) (length l) s u (i + 1)
constants-on l s {i = i} {n = n} p e f h =
    put-goes-on (constants_from l) (length l) s (constant_line n) p f (rw (add-one i, drop-cons l i 0 h, e) (constants-first (get_or l i 0) (drop (suc i) l))) (omega arith)

pub constants-end : (l : List ℕ) (s : Store) {t : Store} {i : ℕ} → Putting (constants_from l) (length l) s t i → length l ≤ i → t ≡ push_all s (constant_lines l)
unfolding constant_lines
constants-end l s p h = put-ends-none (constants_from l) (length l) s p (rw (drop_of_length-le l h))

-- ---- a line for each entry

module _ (left x rest : List ℕ) (cut : left ≡ x ++ rest) (h : length x ≡ entry_size) where
  pub entries-on : (t : Store) {v u : Store} → v ≡ push t (code "l") → u ≡ push_all v (fields (map (λ (n : ℕ). n) x))
      → push_all t (entry_lines (entries_of left)) ≡ push_all u (entry_lines (entries_of rest))
  unfolding entry_lines
  entries-on t m f =
      let one : one_entry (entry_in x) ≡ x = in-front x (omega arith) ∙ take_all entry_size x (omega arith) in
      let line : push_all t (code "l" ∷ fields x) ≡ _ = sym (put_first t (code "l") (fields x) m (rw numbers-are at f)) in
      rw (cut, entries-chunk x rest h, one) (push_all-append t (code "l" ∷ fields x) (entry_lines (entries_of rest)) ∙ ap (λ (w : Store). push_all w (entry_lines (entries_of rest))) line)

pub entries-end : (s : Store) {t : Store} (left all : List ℕ) → push_all s all ≡ push_all t (entry_lines (entries_of left)) → length left < entry_size → t ≡ push_all s all
unfolding entry_lines push_all
entries-end s {t} left all e h = sym (rw (entries-few left h) at e)

-- ---- a line for each instruction

pub put-instruction : (s : Store) {t v u : Store} (at : ℕ) (i : Bytes) → t ≡ push s (code "b") → v ≡ push_all t (field_of at) → u ≡ push_all v (fields (map (λ (n : ℕ). n) i)) → u ≡ push_all s (instruction_line at i)
put-instruction s {t} at i e f g = put_first s (code "b") (fields (at ∷ i)) e (put-fields t at i f (rw numbers-are at g))

abbrev pub decoded_from : Sheet → List ℕ → ℕ → List ℕ
decoded_from s l i = instruction_lines i (decode s (drop i l))

module _ (s : Sheet) (l : List ℕ) (w : Store) {t : Store} {i : ℕ} (p : Putting (decoded_from s l) (length l) w t i) (a : Bytes) (here : a ≡ first_of (decode s (drop i l))) where
  pub decoded-on : {u : Store} → u ≡ push_all t (instruction_line i a) → 1 ≤ length a → Putting (decoded_from s l) (length l) w u (i + length a)
  unfolding instruction_lines
  decoded-on f full =
      put-goes-on (decoded_from s l) (length l) w (instruction_line i a) p f (rw (first-is s l i a here full)) (first-within s l i a here full)

  pub decoded-end : length a ≡ 0 → t ≡ push_all w (instruction_lines 0 (decode s l))
  unfolding instruction_lines
  decoded-end z = put-ends-none (decoded_from s l) (length l) w p (rw (first-none s l i a here z))

-- by a sheet's text
pub put-by-sheet : {text table : List ℕ} (s : Store) {t : Store} (l : List ℕ) → Accepts text table → t ≡ push_all s (instruction_lines 0 (decode (sheet_in table) l)) → t ≡ push_all s (instructions_by (read_sheet text) l)
unfolding instructions_by
put-by-sheet s l d p = rw d.is p

pub put-no-sheet : (text table : List ℕ) (r : Result (Unit {0}) Refused) (s : Store) (l : List ℕ) → Reads text table (res_of (λ u. u) r) → ((u : Unit {0}) → r ≡ Ok u → ⊥) → s ≡ push_all s (instructions_by (read_sheet text) l)
unfolding instructions_by push_all
put-no-sheet text table (Ok u) s l d h = absurd (h u refl)
put-no-sheet text table (Err e) s l d h = rw d.is
