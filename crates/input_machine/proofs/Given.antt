-- What the stores hold of the three lists is all that the call looks at; so the machine from the code on answers as the definition.
use mathlib.Core.Path.{◌≡◌, refl, ◌∙◌}
use mathlib.Core.Bool.{Bool, true, false}
use mathlib.Core.Logic.{◌⊎◌, inl, inr}
use mathlib.Core.List.{List, [], ◌∷◌}
use Prim.Native.Nat.{ℕ, ◌+◌, ◌≤◌, ◌<◌}
use native.Mathlib.Omega.{arith}
use borrow.Author.Tests.{lt-leb, leb-true, leb-false}
use lib.Dec.{leb}
use lib.ListN.{length, take, length-take}
use lib.Seq.{take_all}
use Rattle.definition.specs.Limits.{max_code, max_protected, max_lines, bad_sheet, code_full, labels_full, lines_full}
use Rattle.definition.specs.Res.{Res, ok, refuse, ◌>>=◌, ◌>>◌, demand, given}
use Rattle.definition.specs.Field.{lf, split}
use Rattle.definition.specs.Opcode.{Sheet}
use Rattle.definition.specs.Sheet.{read_sheet}
use Rattle.definition.specs.Rules.{Rule, read_rules}
use Rattle.definition.specs.Lent.{entries_of}
use Rattle.definition.specs.Alone.{Given, Rewritten, checked, rewritten, rewrite_files}
use Rattle.definition.specs.Passes.{given_from}
use Rattle.line_map.proofs.Entries.{count_entries}
use Rattle.store.specs.Store.{contents, push_all}
use Rattle.input_machine.specs.Machine.{Stores, into_offsets, into_entries, code_line, whole, last_line, code_room, offset_room, entry_room, line_in, stored, given_in, concluded_as}
use Rattle.input_machine.proofs.Text.{stored_all}
use Rattle.input_machine.proofs.Begin.{Empty, kept, all-code}
use Rattle.input_machine.proofs.Lists.{outcome, refused}
use Rattle.input_machine.proofs.Entries.{afterwards, put_offsets, put_given, lists}

-- ---- a list that was cut is as much over its limit as the whole

-- nothing was cut, or both are over
abbrev Cut : (List ℕ → ℕ) → ℕ → ℕ → List ℕ → Type 0
Cut count room limit xs = (take room xs ≡ xs) ⊎ ((leb (count (take room xs)) limit ≡ false) × (leb (count xs) limit ≡ false))

cut_list : (room limit : ℕ) (xs : List ℕ) → limit < room → Cut (λ l. length l) room limit xs
cut_list room limit xs h = go (leb (length xs) limit) refl
  where
    go : (t : Bool) → leb (length xs) limit ≡ t → Cut (λ l. length l) room limit xs
    go true e = let l = leb-true (length xs) limit e in inl (take_all room xs (omega arith))
    go false e = let l = leb-false (length xs) limit e in inr (lt-leb (length (take room xs)) limit (omega (arith, length-take room xs)), e)

cut-entries : (room : ℕ) (xs : List ℕ) → entry_room ≤ room → Cut (λ l. length (entries_of l)) room max_lines xs
cut-entries room xs h = go (leb (length (entries_of xs)) max_lines) refl
  where
    go : (t : Bool) → leb (length (entries_of xs)) max_lines ≡ t → Cut (λ l. length (entries_of l)) room max_lines xs
    go true e = let l = leb-true (length (entries_of xs)) max_lines e in inl (take_all room xs (omega (arith, count_entries xs)))
    go false e =
        let l = leb-false (length (entries_of xs)) max_lines e in
        inr (lt-leb (length (entries_of (take room xs))) max_lines (omega (arith, count_entries xs, count_entries (take room xs), length-take room xs)), e)

-- the call by its tests, in their order
body : Res Sheet → Res (List Rule) → Bool → Bool → Bool → (Sheet → List Rule → Res Rewritten) → Res Rewritten
body S R a b c more = S >>= (λ s. R >>= (λ rs. demand a code_full 0 >> (demand b labels_full 0 >> (demand c lines_full 0 >> more s rs))))

module _ (more more' : Sheet → List Rule → Res Rewritten) where
  code-over : (S : Res Sheet) (R : Res (List Rule)) (b b' c c' : Bool) → body S R false b c more ≡ body S R false b' c' more'
  unfolding body ◌>>=◌ ◌>>◌ demand
  code-over (refuse x y) R b b' c c' = refl
  code-over (ok s) (refuse x y) b b' c c' = refl
  code-over (ok s) (ok rs) b b' c c' = refl

  offsets-over : (S : Res Sheet) (R : Res (List Rule)) (a c c' : Bool) → body S R a false c more ≡ body S R a false c' more'
  unfolding body ◌>>=◌ ◌>>◌ demand
  offsets-over (refuse x y) R a c c' = refl
  offsets-over (ok s) (refuse x y) a c c' = refl
  offsets-over (ok s) (ok rs) true c c' = refl
  offsets-over (ok s) (ok rs) false c c' = refl

  entries_over : (S : Res Sheet) (R : Res (List Rule)) (a b : Bool) → body S R a b false more ≡ body S R a b false more'
  unfolding body ◌>>=◌ ◌>>◌ demand
  entries_over (refuse x y) R a b = refl
  entries_over (ok s) (refuse x y) a b = refl
  entries_over (ok s) (ok rs) false b = refl
  entries_over (ok s) (ok rs) true false = refl
  entries_over (ok s) (ok rs) true true = refl

abbrev lists_of : List ℕ → List ℕ → List ℕ → Given
lists_of cs ps es = record { code = cs; protected = ps; lines = es }

module _ (place : ℕ) (sheet rules : List ℕ) where
  files-are : (cs ps es : List ℕ) → rewrite_files place sheet rules (lists_of cs ps es)
      ≡ body (given (read_sheet sheet) bad_sheet place) (read_rules rules) (leb (length cs) max_code) (leb (length ps) max_protected) (leb (length (entries_of es)) max_lines)
      (λ s rs. checked s (lists_of cs ps es) >> ok (rewritten s rs (lists_of cs ps es)))
  unfolding rewrite_files body
  files-are cs ps es = refl

  limited : (cs ps es : List ℕ) (c p e : ℕ)
      → Cut (λ l. length l) c max_code cs → Cut (λ l. length l) p max_protected ps → Cut (λ l. length (entries_of l)) e max_lines es
      → rewrite_files place sheet rules (lists_of (take c cs) (take p ps) (take e es)) ≡ rewrite_files place sheet rules (lists_of cs ps es)
  limited cs ps es c p e (inr x) y z = rw (files-are (take c cs) (take p ps) (take e es), files-are cs ps es, x.0, x.1) (code-over _ _ _ _ _ _ _ _)
  limited cs ps es c p e (inl x) (inr y) z = rw (x, files-are cs (take p ps) (take e es), files-are cs ps es, y.0, y.1) (offsets-over _ _ _ _ _ _ _)
  limited cs ps es c p e (inl x) (inl y) (inr z) = rw (x, y, files-are cs ps (take e es), files-are cs ps es, z.0, z.1) (entries_over _ _ _ _ _ _)
  limited cs ps es c p e (inl x) (inl y) (inl z) = rw (x, y, z)

-- ---- what the stores hold

all-offsets : (s : Stores) (xs : List ℕ)
    → stored_all into_offsets s xs ≡ record { sheet = s.sheet; rules = s.rules; code = s.code; offsets = push_all s.offsets xs; entries = s.entries }
unfolding stored_all stored push_all
all-offsets s [] = refl
all-offsets s (x ∷ xs) = all-offsets (stored s (into_offsets x)) xs

all-entries : (s : Stores) (xs : List ℕ)
    → stored_all into_entries s xs ≡ record { sheet = s.sheet; rules = s.rules; code = s.code; offsets = s.offsets; entries = push_all s.entries xs }
unfolding stored_all stored push_all
all-entries s [] = refl
all-entries s (x ∷ xs) = all-entries (stored s (into_entries x)) xs

put-given : (s : Stores) (g : Given) → put_given s g
    ≡ record { sheet = s.sheet; rules = s.rules; code = push_all s.code g.code; offsets = push_all s.offsets g.protected; entries = push_all s.entries g.lines }
unfolding put_given put_offsets
put-given s g = rw (all-code s g.code, all-offsets, all-entries)

pub record Lent (s : Stores) : Type 0 where
  pub code : Empty code_room s.code
  pub offsets : Empty offset_room s.offsets
  pub entries : Empty entry_room s.entries

-- the rules are read before the lists, and once more by the call
rules-first : (S : Res Sheet) (R : Res (List Rule)) (a b c : Bool) (more : Sheet → List Rule → Res Rewritten)
    → ◌≡◌ {A = Res (Sheet × Rewritten)} (S >>= (λ x. body S R a b c more >>= (λ r. ok (x, r)))) (S >>= (λ x. R >>= (λ rs. body S R a b c more >>= (λ r. ok (x, r)))))
unfolding body ◌>>=◌
rules-first (refuse x y) R a b c more = refl
rules-first (ok s) (refuse x y) a b c more = refl
rules-first (ok s) (ok rs) a b c more = refl

files-first : (place : ℕ) (sheet rules : List ℕ) (g : Given)
    → ◌≡◌ {A = Res (Sheet × Rewritten)} (given (read_sheet sheet) bad_sheet place >>= (λ s. rewrite_files place sheet rules g >>= (λ r. ok (s, r))))
    (given (read_sheet sheet) bad_sheet place >>= (λ s. read_rules rules >>= (λ rs. rewrite_files place sheet rules g >>= (λ r. ok (s, r)))))
files-first place sheet rules g = rw (files-are place sheet rules g.code g.protected g.lines) (rules-first _ _ _ _ _ _)

-- what is answered, from a sheet's text, the rules' and what they are to rewrite
unfoldable pub answered : ℕ → List ℕ → List ℕ → (List Rule → Res Given) → Res (Sheet × Rewritten)
answered place sheet rules handed = do
  s ← given (read_sheet sheet) bad_sheet place
  rs ← read_rules rules
  g ← handed rs
  r ← rewrite_files place sheet rules g
  ok (s, r)

module _ (place : ℕ) (s : Stores) (lent : Lent s) where
  whole_is : (g : Given) → concluded_as whole place (put_given s g) ≡ answered place (contents s.sheet) (contents s.rules) (λ rs. ok g)
  unfolding concluded_as given_in answered ◌>>=◌
  whole_is g =
      let sheet = contents s.sheet in
      let rules = contents s.rules in
      let c = length s.code.cells in
      let p = length s.offsets.cells in
      rw (
        put-given s g,
        kept s.code lent.code g.code,
        kept s.offsets lent.offsets g.protected,
        kept s.entries lent.entries g.lines,
        limited place sheet rules g.code g.protected g.lines c p (length s.entries.cells)
            (cut_list c max_code g.code lent.code.room) (cut_list p max_protected g.protected lent.offsets.room) (cut-entries _ g.lines lent.entries.room),
      )
      (files-first place sheet rules g)

  answers : (r : Res Given) → afterwards place put_given s r ≡ answered place (contents s.sheet) (contents s.rules) (λ rs. r)
  unfolding afterwards refused answered ◌>>=◌
  answers (ok g) = whole_is g
  answers (refuse a b) = refl

-- from the code on the machine answers as the definition
pub code-on : (place n : ℕ) (s : Stores) (bs : List ℕ) → Lent s → n + length bs ≤ last_line
    → outcome place (line_in code_line n 0) s bs ≡ answered place (contents s.sheet) (contents s.rules) (λ rs. given_from n (split lf bs))
code-on place n s bs lent near = lists place bs n s near ∙ answers place s lent (given_from n (split lf bs))
