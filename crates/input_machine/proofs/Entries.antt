-- Lines of entries, and the three lists one after the other: what the machine answers after them is what the definition reads.
use mathlib.Core.Path.{◌≡◌, refl, ap, sym, ◌∙◌}
use mathlib.Core.Bool.{Bool, true, false, ◌&&◌}
use mathlib.Core.Logic.{◌⊎◌, inl, inr}
use mathlib.Core.Option.{Option, some, none}
use mathlib.Core.List.{List, [], ◌∷◌, ◌++◌}
use Prim.Native.Nat.{ℕ, zero, suc, ◌+◌, ◌≤◌, ◌<◌}
use native.Mathlib.Numerals.{add-one}
use native.Mathlib.Omega.{arith}
use borrow.Author.Tests.{ne_eqb, ltb-false}
use lib.Dec.{leb, ltb, eqb, eqb-suc-zero}
use lib.ListN.{length, length-append}
use Rattle.field.proofs.Parts.{split-is, split-sep, split-other}
use Rattle.definition.specs.Limits.{max_field, entry_size}
use Rattle.definition.specs.Res.{Res, ok, refuse, ◌>>=◌, ◌>>◌, demand, given}
use Rattle.definition.specs.Field.{lf, comma, onto, split, Field, up_to}
use Rattle.definition.specs.Opcode.{Sheet}
use Rattle.definition.specs.Sheet.{byte}
use Rattle.definition.specs.Rules.{is_empty}
use Rattle.definition.specs.Alone.{Given, Rewritten}
use Rattle.definition.specs.Passes.{malformed_line, word, list_line, entry_line, entries_from, offsets_from, given_from}
use Rattle.input_machine.specs.Machine as machine
use Rattle.input_machine.specs.Machine.{Phase, Put, Stores, Ending, cut, whole, into_code, into_offsets, into_entries, blank, last_line, line_after, line_in, with_number, number_after, digit_byte, stop, is_blank, entry_comma, entry_end, entry_byte, next_in, next, put_if, ends, put_in, stored, step, steps, ending_in, ending, concluded_as, concluded}
use Rattle.input_machine.proofs.Text.{has_lf, no-lf, in_line, split-ended, split-open, stored_all, all_append, line_after_lem}
use Rattle.input_machine.proofs.Numbers.{both}
use Rattle.input_machine.proofs.Text as text
use Rattle.input_machine.proofs.Scan.{number_in, up_to_of, not-blank}
use Rattle.input_machine.proofs.Lists.{read_on, numbers-read, list_read, outcome, refused, malformed-stays, IsList, after_line, after_both, and-false, list-line, list_open, code-list, offset-list}

-- ---- one entry

-- the numbers of the rest of a line, in its field i with the number x so far
unfoldable pub entry_parts : ℕ → ℕ → List (List ℕ) → Option (List ℕ)
entry_parts i x ps = elim (eqb (i + length ps) entry_size) [ true ↦ read_on max_field x ps | false ↦ none ]

abbrev pub entry_on : ℕ → ℕ → List ℕ → Option (List ℕ)
entry_on i x l = entry_parts i x (split comma l)

entry_read : (l : List ℕ) → entry_on 0 blank l ≡ entry_line l
unfolding entry_parts entry_line
entry_read l = let k : 0 + length (split comma l) ≡ length (split comma l) = omega arith in rw (entry_parts, k) (sym (numbers-read max_field (omega arith) entry_size (split comma l)))

entry-onto : (i x b : ℕ) (p : List ℕ) (ps : List (List ℕ)) → entry_parts i (number_after x b) (p ∷ ps) ≡ entry_parts i x (onto b (p ∷ ps))
unfolding entry_parts read_on number_in onto
entry-onto i x b p ps = refl

entry_other : (i x b : ℕ) (l : List ℕ) → eqb b comma ≡ false → entry_on i (number_after x b) l ≡ entry_on i x (b ∷ l)
entry_other i x b l c = let p = split-is comma l in rw (split-other comma b l c, p.2) (entry-onto i x b p.0 p.1)

entry-comma : (i x : ℕ) (ps : List (List ℕ)) → 1 ≤ length ps
    → entry_parts i x ([] ∷ ps) ≡ elim (leb x max_field && ltb (suc i) entry_size) [ true ↦ both (some x) (entry_parts (suc i) blank ps) | false ↦ none ]
unfolding entry_parts read_on number_in up_to_of both
entry-comma i x ps h =
    let k : i + suc (length ps) ≡ suc i + length ps = omega arith in
    rw (entry_parts, k) (go (leb x max_field) (ltb (suc i) entry_size) refl)
  where
    R : Option (List ℕ)
    R = read_on max_field blank ps

    go : (t u : Bool) → ltb (suc i) entry_size ≡ u
        → ◌≡◌ {A = Option (List ℕ)} (elim (eqb (suc i + length ps) entry_size) [ true ↦ both (elim t [ true ↦ some x | false ↦ none ]) R | false ↦ none ])
        (elim (t && u) [ true ↦ both (some x) (elim (eqb (suc i + length ps) entry_size) [ true ↦ R | false ↦ none ]) | false ↦ none ])
    go true true e =
        elim (eqb (suc i + length ps) entry_size)
        as (λ c. ◌≡◌ {A = Option (List ℕ)} (elim c [ true ↦ both (some x) R | false ↦ none ]) (both (some x) (elim c [ true ↦ R | false ↦ none ])))
        [ true ↦ refl | false ↦ refl ]
    go true false e = let l = ltb-false (suc i) entry_size e in rw (ne_eqb (suc i + length ps) entry_size (λ z. omega arith))
    go false u e = elim (eqb (suc i + length ps) entry_size) as (λ c. ◌≡◌ {A = Option (List ℕ)} (elim c [ true ↦ none | false ↦ none ]) none) [ true ↦ refl | false ↦ refl ]

-- what follows the last LF
unfoldable pub open_end : ℕ → Bool → List ℕ → Ending
open_end n t [] = elim t [ true ↦ whole | false ↦ cut n ]
open_end n t (b ∷ l) = cut n

open-left : (n : ℕ) (l : List ℕ) → open_end n false l ≡ cut n
unfolding open_end
open-left n [] = refl
open-left n (b ∷ l) = refl

some-parts : (l : List ℕ) → 1 ≤ length (split comma l)
some-parts l = let p = split-is comma l in rw p.2 (omega arith)

module _ (place n : ℕ) where
  -- a comma
  reads-comma : (i x b : ℕ) (s : Stores) (bs : List ℕ) → eqb b lf ≡ false → eqb b comma ≡ true
      → outcome place (in_line machine.entry_line n i x) s (b ∷ bs)
      ≡ elim (leb x max_field && ltb (suc i) entry_size) [
        | true ↦ outcome place (in_line machine.entry_line n (suc i) blank) (stored s (into_entries x)) bs
        | false ↦ refused place s malformed_line n
      ]
  unfolding steps step next next_in put_in entry_byte entry_comma ends put_if stored with_number stop refused
  reads-comma i x b s bs e c = rw (entry_byte, ends, e, c) (go (leb x max_field) (ltb (suc i) entry_size))
    where
      go : (t u : Bool)
          → outcome place (elim (t && u) [ true ↦ in_line machine.entry_line n (suc i) blank | false ↦ line_in machine.malformed n 0 ]) (stored s (put_if t (into_entries x))) bs
          ≡ elim (t && u) [ true ↦ outcome place (in_line machine.entry_line n (suc i) blank) (stored s (into_entries x)) bs | false ↦ refused place s malformed_line n ]
      go true true = refl
      go true false = malformed-stays place n (stored s (into_entries x)) bs
      go false u = malformed-stays place n s bs

  reads_other : (i x b : ℕ) (s : Stores) (bs : List ℕ) → eqb b lf ≡ false → eqb b comma ≡ false
      → outcome place (in_line machine.entry_line n i x) s (b ∷ bs) ≡ outcome place (in_line machine.entry_line n i (number_after x b)) s bs
  unfolding steps step next next_in put_in entry_byte ends put_if stored digit_byte with_number
  reads_other i x b s bs e c = rw (entry_byte, ends, e, c)

  reads_end : (i x : ℕ) (s : Stores) (rest : List ℕ)
      → outcome place (in_line machine.entry_line n i x) s (lf ∷ rest) ≡ after_line place n machine.entry_line into_entries s rest (entry_on i x [])
  unfolding steps step next next_in put_in entry_byte entry_end ends put_if stored stop refused entry_parts split read_on number_in up_to_of both after_line stored_all
  reads_end i x s rest = rw (entry_parts, add-one i) (go (leb x max_field) (eqb (suc i) entry_size))
    where
      go : (t u : Bool)
          → outcome place (elim (t && u) [ true ↦ line_in machine.entry_line (line_after n) 0 | false ↦ line_in machine.malformed n 0 ]) (stored s (put_if t (into_entries x))) rest
          ≡ after_line place n machine.entry_line into_entries s rest (elim u [ true ↦ both (elim t [ true ↦ some x | false ↦ none ]) (some []) | false ↦ none ])
      go true true = refl
      go true false = malformed-stays place n (stored s (into_entries x)) rest
      go false true = malformed-stays place n s rest
      go false false = malformed-stays place n s rest

  -- a line with its LF
  pub entry-line : (i x : ℕ) (s : Stores) (l rest : List ℕ) → has_lf l ≡ false
      → outcome place (in_line machine.entry_line n i x) s (l ++ (lf ∷ rest)) ≡ after_line place n machine.entry_line into_entries s rest (entry_on i x l)
  unfolding after_line stored refused
  entry-line i x s [] rest h = reads_end i x s rest
  entry-line i x s (b ∷ l) rest h =
      let k = no-lf b l h in
      go (eqb b comma) refl k.0
      (entry-line (suc i) blank (stored s (into_entries x)) l rest k.1)
      (entry-line i (number_after x b) s l rest k.1)
    where
      go : (t : Bool) → eqb b comma ≡ t → eqb b lf ≡ false
          → outcome place (in_line machine.entry_line n (suc i) blank) (stored s (into_entries x)) (l ++ (lf ∷ rest))
          ≡ after_line place n machine.entry_line into_entries (stored s (into_entries x)) rest (entry_on (suc i) blank l)
          → outcome place (in_line machine.entry_line n i (number_after x b)) s (l ++ (lf ∷ rest)) ≡ after_line place n machine.entry_line into_entries s rest (entry_on i (number_after x b) l)
          → outcome place (in_line machine.entry_line n i x) s (b ∷ l ++ (lf ∷ rest)) ≡ after_line place n machine.entry_line into_entries s rest (entry_on i x (b ∷ l))
      go true c e more same =
          reads-comma i x b s (l ++ (lf ∷ rest)) e c
          ∙ rw (split-sep comma b l c, entry-comma i x (split comma l) (some-parts l))
          (elim (leb x max_field && ltb (suc i) entry_size)
          as (λ t. elim t [ true ↦ outcome place (in_line machine.entry_line n (suc i) blank) (stored s (into_entries x)) (l ++ (lf ∷ rest)) | false ↦ refused place s malformed_line n ]
          ≡ after_line place n machine.entry_line into_entries s rest (elim t [ true ↦ both (some x) (entry_on (suc i) blank l) | false ↦ none ]))
          [ true ↦ more ∙ after_both place n machine.entry_line into_entries s rest x (entry_on (suc i) blank l) refl | false ↦ refl ])
      go false c e more same = reads_other i x b s (l ++ (lf ∷ rest)) e c ∙ same ∙ ap (after_line place n machine.entry_line into_entries s rest) (entry_other i x b l c)

  entry-open : (i x : ℕ) (s : Stores) (l : List ℕ) → has_lf l ≡ false → outcome place (in_line machine.entry_line n i x) s l ≡ concluded_as (open_end n (eqb i 0 && eqb x blank) l) place s
  unfolding steps concluded concluded_as ending ending_in is_blank refused stored open_end
  entry-open i x s [] h = refl
  entry-open i x s (b ∷ l) h =
      let k = no-lf b l h in
      go (eqb b comma) refl k.0
      (entry-open (suc i) blank (stored s (into_entries x)) l k.1)
      (entry-open i (number_after x b) s l k.1)
    where
      go : (t : Bool) → eqb b comma ≡ t → eqb b lf ≡ false
          → outcome place (in_line machine.entry_line n (suc i) blank) (stored s (into_entries x)) l ≡ concluded_as (open_end n (eqb (suc i) 0 && eqb blank blank) l) place (stored s (into_entries x))
          → outcome place (in_line machine.entry_line n i (number_after x b)) s l ≡ concluded_as (open_end n (eqb i 0 && eqb (number_after x b) blank) l) place s
          → outcome place (in_line machine.entry_line n i x) s (b ∷ l) ≡ concluded_as (cut n) place s
      go true c e more same =
          reads-comma i x b s l e c
          ∙ elim (leb x max_field && ltb (suc i) entry_size)
          as (λ t. elim t [ true ↦ outcome place (in_line machine.entry_line n (suc i) blank) (stored s (into_entries x)) l | false ↦ refused place s malformed_line n ] ≡ concluded_as (cut n) place s)
          [ true ↦ rw (eqb-suc-zero i, open-left n l) at more | false ↦ refl ]
      go false c e more same = reads_other i x b s l e c ∙ (rw (not-blank x b, and-false (eqb i 0), open-left n l) at same)

-- ---- line after line

-- a text by its lines, from the last
pub by_lines : (P : List ℕ → Type 0) → ((l : List ℕ) → has_lf l ≡ false → P l) → ((l m : List ℕ) → has_lf l ≡ false → P m → P (l ++ (lf ∷ m))) → (bs : List ℕ) → P bs
by_lines P last more bs = go (suc (length bs)) bs (omega arith)
  where
    part : (k : ℕ) (bs : List ℕ) → length bs < suc k → ((m : List ℕ) → length m < k → P m)
        → ((l m : List ℕ) × (has_lf l ≡ false) × (bs ≡ l ++ (lf ∷ m))) ⊎ (has_lf bs ≡ false) → P bs
    part k bs h below (inl p) =
        let size : length bs ≡ length p.0 + suc (length p.1) = ap length p.3 ∙ length-append p.0 (lf ∷ p.1) in
        rw p.3 (more p.0 p.1 p.2 (below p.1 (omega arith)))
    part k bs h below (inr e) = last bs e

    go : (k : ℕ) (bs : List ℕ) → length bs < k → P bs
    go zero bs h = absurd (omega arith)
    go (suc k) bs h = part k bs h (go k) (text.cut bs)

refused_all : (place a b : ℕ) (into : ℕ → Put) → ((x : ℕ) (s : Stores) → refused place (stored s (into x)) a b ≡ refused place s a b)
    → (xs : List ℕ) (s : Stores) → refused place (stored_all into s xs) a b ≡ refused place s a b
unfolding stored_all
refused_all place a b into same [] s = refl
refused_all place a b into same (x ∷ xs) s = refused_all place a b into same xs (stored s (into x)) ∙ same x s

-- what is answered once the rest is read, or refused
unfoldable pub afterwards : {B : Type 0} → ℕ → (Stores → B → Stores) → Stores → Res B → Res (Sheet × Rewritten)
afterwards place put s (ok b) = concluded_as whole place (put s b)
afterwards place put s (refuse a b) = refused place s a b

-- a line, and then the rest
module _ (place : ℕ) {B C : Type 0} (q : Phase) (into : ℕ → Put) (put : Stores → B → Stores) (put' : Stores → C → Stores) (pair : List ℕ → B → C)
    (joins : (s : Stores) (xs : List ℕ) (b : B) → put (stored_all into s xs) b ≡ put' s (pair xs b))
    (apart : (x a b : ℕ) (s : Stores) → refused place (stored s (into x)) a b ≡ refused place s a b) where
  after_line_lem : (n : ℕ) (s : Stores) (m : List ℕ) (o : Option (List ℕ)) (r : Res B)
      → ((t : Stores) → outcome place (line_in q (line_after n) 0) t m ≡ afterwards place put t r)
      → after_line place n q into s m o ≡ afterwards place put' s (given o malformed_line n >>= (λ xs. r >>= (λ b. ok (pair xs b))))
  unfolding after_line afterwards given ◌>>=◌
  after_line_lem n s m none r rest = refl
  after_line_lem n s m (some xs) (ok b) rest = rest (stored_all into s xs) ∙ ap (concluded_as whole place) (joins s xs b)
  after_line_lem n s m (some xs) (refuse a b) rest = rest (stored_all into s xs) ∙ refused_all place a b into (λ x t. apart x a b t) xs s

  pub line-then : (n : ℕ) (s : Stores) (l m : List ℕ) (o : Option (List ℕ)) (r : Res B) → n + length (l ++ (lf ∷ m)) ≤ last_line
      → (n + 1 + length m ≤ last_line → (t : Stores) → outcome place (line_in q (n + 1) 0) t m ≡ afterwards place put t r)
      → after_line place n q into s m o ≡ afterwards place put' s (given o malformed_line n >>= (λ xs. r >>= (λ b. ok (pair xs b))))
  line-then n s l m o r near rest =
      let size = length-append l (lf ∷ m) in
      after_line_lem n s m o r (rw (line_after_lem n (omega arith), ← add-one n) (rest (omega arith)))

-- ---- entries

abbrev EntriesRead : ℕ → List ℕ → Type 0
EntriesRead place bs = (n : ℕ) (s : Stores) → n + length bs ≤ last_line
    → outcome place (line_in machine.entry_line n 0) s bs ≡ afterwards place (stored_all into_entries) s (entries_from n (split lf bs))

entries-last : (place : ℕ) (l : List ℕ) → has_lf l ≡ false → EntriesRead place l
unfolding line_in open_end entries_from is_empty demand ◌>>◌ afterwards concluded_as refused stored_all
entries-last place [] h n s near = rw (split-open [] h) (entry-open place n 0 blank s [] h)
entries-last place (b ∷ l) h n s near = rw (split-open (b ∷ l) h) (entry-open place n 0 blank s (b ∷ l) h)

entries-more : (place : ℕ) (l m : List ℕ) → has_lf l ≡ false → EntriesRead place m → EntriesRead place (l ++ (lf ∷ m))
unfolding line_in entries_from stored refused
entries-more place l m h rest n s near =
    let p = split-is lf m in
    entry-line place n 0 blank s l m h
    ∙ ap (after_line place n machine.entry_line into_entries s m) (entry_read l)
    ∙ rw (split-ended l m h, p.2)
    (line-then place machine.entry_line into_entries (stored_all into_entries) (stored_all into_entries) ◌++◌ (λ t xs ys. sym (all_append into_entries t xs ys)) (λ x a b t. refl)
    n s l m (entry_line l) (entries_from (n + 1) (p.0 ∷ p.1)) near (λ k t. rw p.2 at (rest (n + 1) t k)))

pub entries : (place : ℕ) (bs : List ℕ) → EntriesRead place bs
entries place = by_lines (EntriesRead place) (entries-last place) (entries-more place)

-- ---- a list, and then the rest

unfoldable pub list_from : {B C : Type 0} → Field → (ℕ → List (List ℕ) → Res B) → (List ℕ → B → C) → ℕ → List (List ℕ) → Res C
list_from f R pair n [] = refuse malformed_line n
list_from f R pair n (l ∷ []) = refuse malformed_line n
list_from f R pair n (l ∷ m ∷ ls) = given (list_line f l) malformed_line n >>= (λ xs. R (n + 1) (m ∷ ls) >>= (λ b. ok (pair xs b)))

module _ (place : ℕ) {B C : Type 0} {m : ℕ} {p q : Phase} {into : ℕ → Put} (z : IsList m p q into)
    (put : Stores → B → Stores) (put' : Stores → C → Stores) (pair : List ℕ → B → C)
    (joins : (s : Stores) (xs : List ℕ) (b : B) → put (stored_all into s xs) b ≡ put' s (pair xs b)) (R : ℕ → List (List ℕ) → Res B)
    (rest : (bs : List ℕ) (n : ℕ) (s : Stores) → n + length bs ≤ last_line → outcome place (line_in q n 0) s bs ≡ afterwards place put s (R n (split lf bs))) where
  list-ended : (l r : List ℕ) → has_lf l ≡ false → (n : ℕ) (s : Stores) → n + length (l ++ (lf ∷ r)) ≤ last_line
      → outcome place (line_in p n 0) s (l ++ (lf ∷ r)) ≡ afterwards place put' s (list_from (up_to m) R pair n (split lf (l ++ (lf ∷ r))))
  unfolding line_in list_from
  list-ended l r h n s near =
      let k = split-is lf r in
      list-line place z n 0 blank s l r h
      ∙ ap (after_line place n q into s r) (list_read m z.low l)
      ∙ rw (split-ended l r h, k.2)
      (line-then place q into put put' pair joins (λ x a b t. z.apart place x a b t)
      n s l r (list_line (up_to m) l) (R (n + 1) (k.0 ∷ k.1)) near (λ e t. rw k.2 at (rest r (n + 1) t e)))

  pub list-then : (bs : List ℕ) (n : ℕ) (s : Stores) → n + length bs ≤ last_line
      → outcome place (line_in p n 0) s bs ≡ afterwards place put' s (list_from (up_to m) R pair n (split lf bs))
  unfolding line_in list_from afterwards
  list-then bs n s near = go (text.cut bs)
    where
      go : ((l r : List ℕ) × (has_lf l ≡ false) × (bs ≡ l ++ (lf ∷ r))) ⊎ (has_lf bs ≡ false)
          → outcome place (line_in p n 0) s bs ≡ afterwards place put' s (list_from (up_to m) R pair n (split lf bs))
      go (inr h) = rw (split-open bs h) (list_open place z n 0 blank s bs h)
      go (inl k) = rw k.3 (list-ended k.0 k.1 k.2 n s (rw k.3 at near))

-- ---- code, offsets, entries

unfoldable pub put_offsets : Stores → List ℕ × List ℕ → Stores
put_offsets s r = stored_all into_entries (stored_all into_offsets s r.0) r.1

unfoldable pub put_given : Stores → Given → Stores
put_given s g = put_offsets (stored_all into_code s g.code) (g.protected, g.lines)

offsets-from : (n : ℕ) (ls : List (List ℕ)) → list_from word entries_from (λ ps es. (ps, es)) n ls ≡ offsets_from n ls
unfolding list_from offsets_from
offsets-from n [] = refl
offsets-from n (l ∷ []) = refl
offsets-from n (l ∷ m ∷ ls) = refl

given-from : (n : ℕ) (ls : List (List ℕ)) → list_from byte offsets_from (λ cs r. record { code = cs; protected = r.0; lines = r.1 }) n ls ≡ given_from n ls
unfolding list_from given_from
given-from n [] = refl
given-from n (l ∷ []) = refl
given-from n (l ∷ m ∷ ls) = refl

offsets : (place : ℕ) (bs : List ℕ) (n : ℕ) (s : Stores) → n + length bs ≤ last_line
    → outcome place (line_in machine.offset_line n 0) s bs ≡ afterwards place put_offsets s (offsets_from n (split lf bs))
unfolding put_offsets
offsets place bs n s near =
    list-then place offset-list (stored_all into_entries) put_offsets (λ ps es. (ps, es)) (λ t xs b. refl) entries_from (entries place) bs n s near
    ∙ ap (afterwards place put_offsets s) (offsets-from n (split lf bs))

-- what the machine answers from the code on
pub lists : (place : ℕ) (bs : List ℕ) (n : ℕ) (s : Stores) → n + length bs ≤ last_line
    → outcome place (line_in machine.code_line n 0) s bs ≡ afterwards place put_given s (given_from n (split lf bs))
unfolding put_given
lists place bs n s near =
    list-then place code-list put_offsets put_given (λ cs r. record { code = cs; protected = r.0; lines = r.1 }) (λ t xs b. refl) offsets_from (offsets place) bs n s near
    ∙ ap (afterwards place put_given s) (given-from n (split lf bs))
