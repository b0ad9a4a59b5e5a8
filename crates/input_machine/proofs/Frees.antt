-- The sheet that the machine keeps is the input's first line clipped, and nothing after that line changes it: a place at fault in the one is so in the other.
use mathlib.Core.Path.{◌≡◌, refl, ap, sym, ◌∙◌}
use mathlib.Core.Logic.{◌⊎◌, inl, inr}
use mathlib.Core.Bool.{Bool, true, false, ◌&&◌, ◌||◌}
use mathlib.Core.List.{List, [], ◌∷◌, ◌++◌}
use Prim.Native.Nat.{ℕ, suc, ◌-◌}
use native.Mathlib.Omega.{arith}
use lib.Dec.{eqb, leb, ltb}
use Rattle.definition.specs.Limits.{max_field, max_rules, entry_size}
use Rattle.definition.specs.Field.{lf, comma}
use Rattle.definition.specs.Compile.{Free}
use Rattle.definition.specs.Listing.{cut_line}
use Rattle.store.specs.Store.{push_all}
use Rattle.input_machine.specs.Machine.{Phase, sheet_line, count_line, rule_line, code_line, offset_line, entry_line, program_text, malformed, uncounted, Head, blank, line_after, line_in, start, with_kept, with_number, field_after, keeps, text_byte, number_after, digit_byte, stop, is_blank, rules_at, counted, list_comma, list_end, list_byte, entry_comma, entry_end, entry_byte, max_byte, next_in, next, Put, into_rules, into_code, into_offsets, into_entries, put_if, is_kept, ends, put_in, Stores, stored, State, step, steps}
use Rattle.input_machine.proofs.Text.{state, has_lf, cut, cut-ended, cut-open}
use Rattle.input_machine.proofs.Clip.{clipped}
use Rattle.input_machine.proofs.Readings.{sheet-read, sheet-fault}
use Rattle.input_machine.proofs.Kept.{on_sheet, sheet-ended, sheet-open}

-- ---- no line but the first is the sheet's

unfoldable pub is_sheet : Phase → Bool
is_sheet sheet_line = true
is_sheet count_line = false
is_sheet rule_line = false
is_sheet code_line = false
is_sheet offset_line = false
is_sheet entry_line = false
is_sheet program_text = false
is_sheet malformed = false
is_sheet uncounted = false

record Past (h : Head) : Type 0 where
  is : is_sheet h.phase ≡ false

either : {a b : Head} (c : Bool) → Past a → Past b → Past (elim c [ true ↦ a | false ↦ b ])
either true p q = p
either false p q = q

past-line : (p : Phase) (line left : ℕ) → is_sheet p ≡ false → Past (line_in p line left)
unfolding line_in
past-line p line left e = record { is = e }

-- what follows the rules is no sheet
past-rules : (q : Phase) → is_sheet q ≡ false → (line left : ℕ) → Past (rules_at q line left)
unfolding rules_at is_sheet
past-rules q behind line left = either (eqb left 0) (past-line q line 0 behind) (past-line rule_line line left refl)

module _ (h : Head) (b : ℕ) (o : Past h) where
  past-text : Past (text_byte h b)
  unfolding text_byte with_kept
  past-text = either (eqb b comma) (record { is = o.is }) (either (keeps h) (record { is = o.is }) o)

  past-number : (i n : ℕ) → Past (with_number i n h)
  unfolding with_number
  past-number i n = record { is = o.is }

  past-digit : Past (digit_byte h b)
  unfolding digit_byte
  past-digit = past-number h.index (number_after h.number b)

  past_stop : (p : Phase) → is_sheet p ≡ false → Past (stop p h)
  unfolding stop
  past_stop p e = past-line p h.line 0 e

  past-list : (most : ℕ) (q : Phase) → is_sheet q ≡ false → Past (list_byte most q h b)
  unfolding list_byte list_end list_comma is_sheet
  past-list most q e =
      either (eqb b lf) (either (is_blank h || leb h.number most) (past-line q (line_after h.line) 0 e) (past_stop malformed refl))
      (either (eqb b comma) (either (leb h.number most) (past-number (field_after h.index) blank) (past_stop malformed refl)) past-digit)

  past-entry : Past (entry_byte h b)
  unfolding entry_byte entry_end entry_comma is_sheet
  past-entry =
      either (eqb b lf) (either (leb h.number max_field && eqb (suc h.index) entry_size) (past-line entry_line (line_after h.line) 0 refl) (past_stop malformed refl))
      (either (eqb b comma) (either (leb h.number max_field && ltb (suc h.index) entry_size) (past-number (suc h.index) blank) (past_stop malformed refl)) past-digit)

  past-in : (q : Phase) → is_sheet q ≡ false → (p : Phase) → is_sheet p ≡ false → Past (next_in q p h b)
  unfolding next_in counted is_sheet
  past-in q behind sheet_line e = absurd (let z : ◌≡◌ {A = ℕ} 0 1 = cc in omega arith)
  past-in q behind count_line e = either (eqb b lf) (either (leb h.number max_rules) (past-rules q behind (line_after h.line) h.number) (past_stop uncounted refl)) past-digit
  past-in q behind rule_line e = either (eqb b lf) (past-rules q behind (line_after h.line) (h.left - 1)) past-text
  past-in q behind code_line e = past-list max_byte offset_line refl
  past-in q behind offset_line e = past-list max_field entry_line refl
  past-in q behind entry_line e = past-entry
  past-in q behind program_text e = o
  past-in q behind malformed e = o
  past-in q behind uncounted e = o

-- ---- and none of them puts anything into it

apart_if : (s : Stores) (c : Bool) (x : Put) → (stored s x).sheet ≡ s.sheet → (stored s (put_if c x)).sheet ≡ s.sheet
unfolding put_if stored
apart_if s true x e = e
apart_if s false x e = refl

puts-apart : (s : Stores) (h : Head) (b : ℕ) (p : Phase) → is_sheet p ≡ false → (stored s (put_in p h b)).sheet ≡ s.sheet
unfolding put_in stored is_sheet
puts-apart s h b sheet_line e = absurd (let z : ◌≡◌ {A = ℕ} 0 1 = cc in omega arith)
puts-apart s h b count_line e = refl
puts-apart s h b rule_line e = apart_if s (is_kept h b) (into_rules b) refl
puts-apart s h b code_line e = apart_if s (ends max_byte h b) (into_code h.number) refl
puts-apart s h b offset_line e = apart_if s (ends max_field h b) (into_offsets h.number) refl
puts-apart s h b entry_line e = apart_if s (ends max_field h b) (into_entries h.number) refl
puts-apart s h b program_text e = refl
puts-apart s h b malformed e = refl
puts-apart s h b uncounted e = refl

module _ (q : Phase) (behind : is_sheet q ≡ false) where
  sheet-past : (bs : List ℕ) (h : Head) (s : Stores) → Past h → (steps q (state h s) bs).stores.sheet ≡ s.sheet
  unfolding steps step next
  sheet-past [] h s o = refl
  sheet-past (b ∷ bs) h s o = sheet-past bs (next q h b) (stored s (put_in h.phase h b)) (past-in h b o q behind h.phase o.is) ∙ puts-apart s h b h.phase o.is

-- ---- what is kept of the first line

pub sheet-left : (q : Phase) → is_sheet q ≡ false → (s : Stores) (input : List ℕ) → (steps q (state start s) input).stores.sheet ≡ push_all s.sheet (clipped (cut_line input).0)
unfolding on_sheet is_sheet
sheet-left q behind s input = go (cut input)
  where
    go : ((l m : List ℕ) × (has_lf l ≡ false) × (input ≡ l ++ (lf ∷ m))) ⊎ (has_lf input ≡ false)
        → (steps q (state start s) input).stores.sheet ≡ push_all s.sheet (clipped (cut_line input).0)
    go (inl p) =
        let n = p.2 in
        rw (p.3, cut-ended p.0 p.1 n)
        (ap (λ (x : State). x.stores.sheet) (sheet-ended q s p.0 p.1 n) ∙ sheet-past q behind p.1 (line_in count_line 2 0) (on_sheet s (clipped (p.0 ++ (lf ∷ [])))) (past-line count_line 2 0 refl))
    go (inr n) = rw (cut-open input n) (ap (λ (x : State). x.stores.sheet) (sheet-open q s input n).2)

pub free-clipped : (t : List ℕ) (place : ℕ) → Free (clipped t) place → Free t place
unfolding Free
free-clipped t place f = λ e. sym (sheet-fault t place) ∙ f (sheet-read t ∙ e)
