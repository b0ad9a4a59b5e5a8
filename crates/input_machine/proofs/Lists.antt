-- A line of any count of numbers: what the machine takes of it is what the definition reads.
use mathlib.Core.Path.{◌≡◌, refl, ap, sym, ◌∙◌}
use mathlib.Core.Bool.{Bool, true, false, ◌&&◌, ◌||◌}
use mathlib.Core.Option.{Option, some, none}
use mathlib.Core.List.{List, [], ◌∷◌, ◌++◌}
use Prim.Native.Nat.{ℕ, zero, suc, ◌≤◌}
use native.Mathlib.Omega.{arith}
use borrow.Author.Tests.{eq-eqb, ne_eqb, ltb-false, leb-true, eqb-true}
use lib.Dec.{leb, ltb, eqb, eqb-zero-suc, eqb-suc-zero, eqb-suc-suc}
use lib.ListN.{length}
use Rattle.field.proofs.Parts.{split-is, split-sep, split-other}
use Rattle.definition.specs.Limits.{max_field, bad_sheet}
use Rattle.definition.specs.Res.{Res, refuse, ◌>>=◌, given}
use Rattle.definition.specs.Field.{lf, comma, onto, split, up_to, field, numbers}
use Rattle.definition.specs.Opcode.{Sheet}
use Rattle.definition.specs.Sheet.{repeated, read_sheet}
use Rattle.definition.specs.Rules.{read_rules}
use Rattle.definition.specs.Alone.{Rewritten}
use Rattle.definition.specs.Passes.{these, list_line, malformed_line}
use Rattle.store.specs.Store.{contents}
use Rattle.input_machine.specs.Machine as machine
use Rattle.input_machine.specs.Machine.{Phase, Head, Put, Stores, cut, blank, field_room, line_after, line_in, with_number, field_after, number_after, digit_byte, stop, is_blank, list_comma, list_end, list_byte, next_in, next, put_if, ends, put_in, stored, step, steps, ending_in, ending, concluded_as, concluded}
use Rattle.input_machine.proofs.Text.{has_lf, no-lf, state, in_line, stored_all}
use Rattle.input_machine.proofs.Numbers.{both, these-and}
use Rattle.input_machine.proofs.Scan.{number_in, up_to_of, scanned, not-blank}

-- ---- the parts of a line between commas, the first of which goes on from a number so far

unfoldable pub read_on : ℕ → ℕ → List (List ℕ) → Option (List ℕ)
read_on m x [] = some []
read_on m x (p ∷ ps) = both (up_to_of m (number_in x p)) (read_on m blank ps)

both-none : (o : Option ℕ) → both o none ≡ none
unfolding both
both-none none = refl
both-none (some x) = refl

-- so many fields up to m
pub numbers-read : (m : ℕ) → m ≤ max_field → (c : ℕ) (ps : List (List ℕ))
    → these (numbers (repeated (up_to m) c) ps) ≡ elim (eqb (length ps) c) [ true ↦ read_on m blank ps | false ↦ none ]
unfolding numbers repeated these read_on
numbers-read m low zero [] = refl
numbers-read m low zero (p ∷ ps) = rw (eqb-suc-zero (length ps))
numbers-read m low (suc c) [] = rw (eqb-zero-suc c)
numbers-read m low (suc c) (p ∷ ps) =
    these-and (field (up_to m) p) (numbers (repeated (up_to m) c) ps)
    ∙ rw (scanned m low p, numbers-read m low c ps, eqb-suc-suc (length ps) c)
    (elim (eqb (length ps) c)
    as (λ t. both (up_to_of m (number_in blank p)) (elim t [ true ↦ read_on m blank ps | false ↦ none ]) ≡ elim t [ true ↦ both (up_to_of m (number_in blank p)) (read_on m blank ps) | false ↦ none ])
    [ true ↦ refl | false ↦ both-none (up_to_of m (number_in blank p)) ])

-- a byte that is no comma goes to the number so far
pub read-other : (m x b : ℕ) (l : List ℕ) → read_on m x (onto b (split comma l)) ≡ read_on m (number_after x b) (split comma l)
unfolding read_on number_in onto
read-other m x b l = let p = split-is comma l in rw p.2

-- ---- a line of any count

-- the numbers of the rest of a line, in its field i with the number x so far
unfoldable pub list_on : ℕ → ℕ → ℕ → List ℕ → Option (List ℕ)
list_on m i x [] = elim (eqb i 0 && eqb x blank) [ true ↦ some [] | false ↦ read_on m x ([] ∷ []) ]
list_on m i x (b ∷ l) = read_on m x (split comma (b ∷ l))

-- the line is not empty
pub list_on_lem : (m i x : ℕ) (l : List ℕ) → (eqb i 0 && eqb x blank) ≡ false → list_on m i x l ≡ read_on m x (split comma l)
unfolding list_on split
list_on_lem m i x [] e = rw (e, list_on)
list_on_lem m i x (b ∷ l) e = refl

pub list_read : (m : ℕ) → m ≤ max_field → (l : List ℕ) → list_on m 0 blank l ≡ list_line (up_to m) l
unfolding list_on list_line
list_read m low [] = refl
list_read m low (b ∷ l) = sym (numbers-read m low (length (split comma (b ∷ l))) (split comma (b ∷ l)) ∙ rw (eq-eqb (length (split comma (b ∷ l))) (length (split comma (b ∷ l))) refl))

-- ---- the machine

-- what the passes program answers after some bytes more
abbrev pub outcome : ℕ → Head → Stores → List ℕ → Res (Sheet × Rewritten)
outcome place h s bs = concluded place (steps machine.code_line (state h s) bs)

-- a refusal after the sheet's and the rules'
unfoldable pub refused : ℕ → Stores → ℕ → ℕ → Res (Sheet × Rewritten)
refused place s m n = do
  sheet ← given (read_sheet (contents s.sheet)) bad_sheet place
  rules ← read_rules (contents s.rules)
  refuse m n

-- what follows a malformed line does not matter
pub malformed-stays : (place n : ℕ) (s : Stores) (bs : List ℕ) → outcome place (line_in machine.malformed n 0) s bs ≡ refused place s malformed_line n
unfolding steps step next next_in put_in stored concluded concluded_as ending ending_in line_in refused
malformed-stays place n s [] = refl
malformed-stays place n s (b ∷ bs) = malformed-stays place n s bs

-- a phase that reads a line of numbers up to m, puts them away, and is followed by q
pub record IsList (m : ℕ) (p q : Phase) (into : ℕ → Put) : Type 0 where
  pub low : m ≤ max_field
  pub goes : (h : Head) (b : ℕ) → next_in machine.code_line p h b ≡ list_byte m q h b
  pub puts : (h : Head) (b : ℕ) → put_in p h b ≡ put_if (ends m h b) (into h.number)
  pub cuts : (h : Head) → ending_in p h ≡ cut h.line
  -- a refusal does not see what was put away
  pub apart : (place x a b : ℕ) (s : Stores) → refused place (stored s (into x)) a b ≡ refused place s a b

unfoldable pub after_line : ℕ → ℕ → Phase → (ℕ → Put) → Stores → List ℕ → Option (List ℕ) → Res (Sheet × Rewritten)
after_line place n q into s rest none = refused place s malformed_line n
after_line place n q into s rest (some ns) = outcome place (line_in q (line_after n) 0) (stored_all into s ns) rest

-- a number before the others
pub after_both : (place n : ℕ) (q : Phase) (into : ℕ → Put) (s : Stores) (rest : List ℕ) (x : ℕ) (o : Option (List ℕ))
    → refused place (stored s (into x)) malformed_line n ≡ refused place s malformed_line n
    → after_line place n q into (stored s (into x)) rest o ≡ after_line place n q into s rest (both (some x) o)
unfolding after_line both stored_all
after_both place n q into s rest x none e = e
after_both place n q into s rest x (some ns) e = refl

next_field : (i : ℕ) → eqb (field_after i) 0 ≡ false
unfolding field_after
next_field i = go (ltb i field_room) refl
  where
    go : (t : Bool) → ltb i field_room ≡ t → eqb (elim t [ true ↦ suc i | false ↦ i ]) 0 ≡ false
    go true e = ne_eqb (suc i) 0 (λ z. omega arith)
    go false e = let l = ltb-false i field_room e in ne_eqb i 0 (λ z. omega arith)

pub and-false : (t : Bool) → (t && false) ≡ false
and-false true = refl
and-false false = refl

module _ (place : ℕ) {m : ℕ} {p q : Phase} {into : ℕ → Put} (z : IsList m p q into) where
  -- one byte: what is next, and what is put away
  reads_byte : (n i x b : ℕ) (s : Stores) (bs : List ℕ)
      → outcome place (in_line p n i x) s (b ∷ bs) ≡ outcome place (list_byte m q (in_line p n i x) b) (stored s (put_if (ends m (in_line p n i x) b) (into x))) bs
  unfolding steps step next
  reads_byte n i x b s bs = let h = in_line p n i x in rw (z.goes h b, z.puts h b)

  reads-comma : (n i x b : ℕ) (s : Stores) (bs : List ℕ) → eqb b lf ≡ false → eqb b comma ≡ true
      → outcome place (in_line p n i x) s (b ∷ bs)
      ≡ elim (leb x m) [ true ↦ outcome place (in_line p n (field_after i) blank) (stored s (into x)) bs | false ↦ refused place s malformed_line n ]
  unfolding list_byte list_comma ends put_if stored with_number stop
  reads-comma n i x b s bs e c = reads_byte n i x b s bs ∙ rw (list_byte, ends, e, c)
      (elim (leb x m)
      as (λ t. outcome place (elim t [ true ↦ in_line p n (field_after i) blank | false ↦ line_in machine.malformed n 0 ]) (stored s (put_if t (into x))) bs
      ≡ elim t [ true ↦ outcome place (in_line p n (field_after i) blank) (stored s (into x)) bs | false ↦ refused place s malformed_line n ])
      [ true ↦ refl | false ↦ malformed-stays place n s bs ])

  reads_other : (n i x b : ℕ) (s : Stores) (bs : List ℕ) → eqb b lf ≡ false → eqb b comma ≡ false
      → outcome place (in_line p n i x) s (b ∷ bs) ≡ outcome place (in_line p n i (number_after x b)) s bs
  unfolding list_byte ends put_if stored digit_byte with_number
  reads_other n i x b s bs e c = reads_byte n i x b s bs ∙ rw (list_byte, ends, e, c)

  reads_end : (n i x : ℕ) (s : Stores) (rest : List ℕ) → outcome place (in_line p n i x) s (lf ∷ rest) ≡ after_line place n q into s rest (list_on m i x [])
  unfolding list_byte list_end is_blank ends put_if stored stop list_on read_on number_in up_to_of both after_line stored_all
  reads_end n i x s rest = reads_byte n i x lf s rest ∙ go (eqb i 0 && eqb x blank) (leb x m) refl refl
    where
      never : (t : Bool) → (t && eqb x blank) ≡ true → leb x m ≡ true → ⊥
      never true e f = let a = eqb-true x blank e in let b = leb-true x m f in omega (arith, z.low)
      never false e f = let k : ◌≡◌ {A = ℕ} 0 1 = cc in omega arith

      go : (t u : Bool) → (eqb i 0 && eqb x blank) ≡ t → leb x m ≡ u
          → outcome place (elim (t || u) [ true ↦ line_in q (line_after n) 0 | false ↦ line_in machine.malformed n 0 ]) (stored s (put_if u (into x))) rest
          ≡ after_line place n q into s rest (elim t [ true ↦ some [] | false ↦ both (elim u [ true ↦ some x | false ↦ none ]) (some []) ])
      go true true e f = absurd (never (eqb i 0) e f)
      go true false e f = refl
      go false true e f = refl
      go false false e f = malformed-stays place n s rest

  -- a line with its LF
  pub list-line : (n i x : ℕ) (s : Stores) (l rest : List ℕ) → has_lf l ≡ false
      → outcome place (in_line p n i x) s (l ++ (lf ∷ rest)) ≡ after_line place n q into s rest (list_on m i x l)
  unfolding list_on read_on number_in up_to_of after_line both
  list-line n i x s [] rest h = reads_end n i x s rest
  list-line n i x s (b ∷ l) rest h =
      let k = no-lf b l h in
      go (eqb b comma) refl k.0
      (list-line n (field_after i) blank (stored s (into x)) l rest k.1)
      (list-line n i (number_after x b) s l rest k.1)
    where
      go : (t : Bool) → eqb b comma ≡ t → eqb b lf ≡ false
          → outcome place (in_line p n (field_after i) blank) (stored s (into x)) (l ++ (lf ∷ rest)) ≡ after_line place n q into (stored s (into x)) rest (list_on m (field_after i) blank l)
          → outcome place (in_line p n i (number_after x b)) s (l ++ (lf ∷ rest)) ≡ after_line place n q into s rest (list_on m i (number_after x b) l)
          → outcome place (in_line p n i x) s (b ∷ l ++ (lf ∷ rest)) ≡ after_line place n q into s rest (read_on m x (split comma (b ∷ l)))
      go true c e more same =
          reads-comma n i x b s (l ++ (lf ∷ rest)) e c
          ∙ rw (split-sep comma b l c)
          (elim (leb x m)
          as (λ t. elim t [ true ↦ outcome place (in_line p n (field_after i) blank) (stored s (into x)) (l ++ (lf ∷ rest)) | false ↦ refused place s malformed_line n ]
          ≡ after_line place n q into s rest (both (elim t [ true ↦ some x | false ↦ none ]) (read_on m blank (split comma l)))) [
            | true ↦ more ∙ ap (after_line place n q into (stored s (into x)) rest) (list_on_lem m (field_after i) blank l (rw (next_field i)))
                ∙ after_both place n q into s rest x (read_on m blank (split comma l)) (z.apart place x malformed_line n s)
            | false ↦ refl
          ])
      go false c e more same =
          reads_other n i x b s (l ++ (lf ∷ rest)) e c
          ∙ same
          ∙ ap (after_line place n q into s rest)
          (list_on_lem m i (number_after x b) l (rw (not-blank x b) (and-false (eqb i 0))) ∙ sym (read-other m x b l) ∙ ap (read_on m x) (sym (split-other comma b l c)))

  -- one with none, at the end of the input
  pub list_open : (n i x : ℕ) (s : Stores) (l : List ℕ) → has_lf l ≡ false → outcome place (in_line p n i x) s l ≡ refused place s malformed_line n
  unfolding steps concluded concluded_as ending refused
  list_open n i x s [] h = rw (z.cuts (in_line p n i x))
  list_open n i x s (b ∷ l) h =
      let k = no-lf b l h in
      go (eqb b comma) refl k.0
      (list_open n (field_after i) blank (stored s (into x)) l k.1)
      (list_open n i (number_after x b) s l k.1)
    where
      go : (t : Bool) → eqb b comma ≡ t → eqb b lf ≡ false
          → outcome place (in_line p n (field_after i) blank) (stored s (into x)) l ≡ refused place (stored s (into x)) malformed_line n
          → outcome place (in_line p n i (number_after x b)) s l ≡ refused place s malformed_line n
          → outcome place (in_line p n i x) s (b ∷ l) ≡ refused place s malformed_line n
      go true c e more same =
          reads-comma n i x b s l e c
          ∙ elim (leb x m)
          as (λ t. elim t [ true ↦ outcome place (in_line p n (field_after i) blank) (stored s (into x)) l | false ↦ refused place s malformed_line n ] ≡ refused place s malformed_line n)
          [ true ↦ more ∙ z.apart place x malformed_line n s | false ↦ refl ]
      go false c e more same = reads_other n i x b s l e c ∙ same

-- ---- code and offsets

pub code-list : IsList machine.max_byte machine.code_line machine.offset_line machine.into_code
unfolding next_in put_in ending_in stored refused
code-list = record { low = omega arith; goes = λ h b. refl; puts = λ h b. refl; cuts = λ h. refl; apart = λ place x a b s. refl }

pub offset-list : IsList max_field machine.offset_line machine.entry_line machine.into_offsets
unfolding next_in put_in ending_in stored refused
offset-list = record { low = omega arith; goes = λ h b. refl; puts = λ h b. refl; cuts = λ h. refl; apart = λ place x a b s. refl }
