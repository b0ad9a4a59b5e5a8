-- From the start up to the rules, whatever follows them and whatever is concluded at the end: shared by the listing and the passes program.
use mathlib.Core.Path.{◌≡◌, refl, ap, ◌∙◌}
use mathlib.Core.Logic.{◌⊎◌, inl, inr}
use mathlib.Core.Bool.{false}
use mathlib.Core.Option.{Option, some, none}
use mathlib.Core.List.{List, [], ◌∷◌, ◌++◌}
use Prim.Native.Nat.{ℕ, suc, ◌+◌, ◌≤◌, ◌<◌}
use native.Mathlib.Omega.{arith}
use lib.ListN.{length, take, length-append}
use Rattle.definition.specs.Limits.{max_rules}
use Rattle.definition.specs.Field.{lf}
use Rattle.definition.specs.Sheet.{read_sheet}
use Rattle.definition.specs.Rules.{read_rules}
use Rattle.definition.specs.Compile.{Free}
use Rattle.definition.specs.Listing.{cut_line, cut_lines, without_lf, count_line}
use Rattle.store.specs.Store.{Store, contents, push_all}
use Rattle.store.proofs.Stores.{contents-room, contents-push_all}
use Rattle.input_machine.specs.Machine as machine
use Rattle.input_machine.specs.Machine.{Phase, Head, into_code, line_in, start, rules_at, Stores, stored, State, steps, last_line, sheet_room, rule_room, countless, ending_in, ending}
use Rattle.input_machine.proofs.Text.{state, stored_all, has_lf, cut, cut-ended, cut-open}
use Rattle.input_machine.proofs.Clip.{clipped, sheet-room, room}
use Rattle.input_machine.proofs.Readings.{sheet-read, rules-read}
use Rattle.input_machine.proofs.Kept.{on_sheet, on_rules, sheet-ended, sheet-open}
use Rattle.input_machine.proofs.Frees.{is_sheet, sheet-left, free-clipped}
use Rattle.input_machine.proofs.Count.{on_count, count-on, count_small}

-- ---- stores

-- an empty store with room for n
pub record Empty (n : ℕ) (s : Store) : Type 0 where
  pub room : n ≤ length s.cells
  pub unused : s.used ≡ 0

pub kept : {n : ℕ} (s : Store) → Empty n s → (xs : List ℕ) → contents (push_all s xs) ≡ take (length s.cells) xs
unfolding contents
kept s e xs = contents-push_all s xs (rw e.unused (omega arith)) ∙ rw e.unused

pub contents-filled : {least : ℕ} (s : Store) (xs : List ℕ) → Empty least s → length xs ≤ least → contents (push_all s xs) ≡ xs
unfolding contents
contents-filled s xs e h = contents-room s xs (omega (arith, e.unused, e.room)) ∙ rw e.unused

-- what is put into the code, or into the program
pub all-code : (s : Stores) (xs : List ℕ)
    → stored_all into_code s xs ≡ record { sheet = s.sheet; rules = s.rules; code = push_all s.code xs; offsets = s.offsets; entries = s.entries }
unfolding stored_all stored push_all
all-code s [] = refl
all-code s (x ∷ xs) = all-code (stored s (into_code x)) xs

-- a sheet's text that is kept in a store
unfoldable pub Holds : Stores → List ℕ → Type 0
Holds s sheet = read_sheet (contents s.sheet) ≡ read_sheet sheet

sheet-held : (s : Stores) (bs : List ℕ) → Empty sheet_room s.sheet → Holds (on_sheet s (clipped (cut_line bs).0)) (cut_line bs).0
unfolding Holds on_sheet
sheet-held s bs e = ap read_sheet (contents-filled s.sheet (clipped (cut_line bs).0) e (sheet-room bs)) ∙ sheet-read (cut_line bs).0

-- the rules that are kept, and the sheet with them
module _ (k : ℕ) (s : Stores) (sheet bs : List ℕ) (holds : Holds s sheet) (empty : Empty rule_room s.rules) (small : k ≤ max_rules) where
  pub rules-kept : read_rules (contents (on_rules s (clipped (cut_lines k bs).0)).rules) ≡ read_rules (cut_lines k bs).0
  unfolding on_rules
  rules-kept = ap read_rules (contents-filled s.rules (clipped (cut_lines k bs).0) empty (omega (arith, room k bs))) ∙ rules-read (cut_lines k bs).0

  pub sheet-kept : (xs : List ℕ) → read_sheet (contents (on_rules s xs).sheet) ≡ read_sheet sheet
  unfolding on_rules Holds
  sheet-kept xs = holds

-- ---- the sheet's line and the count line

rest-near : (bs : List ℕ) → 2 + length bs ≤ last_line → 3 + length (cut_line bs).1 ≤ last_line
rest-near bs h = go (cut bs)
  where
    go : ((l m : List ℕ) × (has_lf l ≡ false) × (bs ≡ l ++ (lf ∷ m))) ⊎ (has_lf bs ≡ false) → 3 + length (cut_line bs).1 ≤ last_line
    go (inl p) =
        let q : cut_line bs ≡ (p.0 ++ (lf ∷ []), p.1) = ap cut_line p.3 ∙ cut-ended p.0 p.1 p.2 in
        let long : length bs ≡ length p.0 + suc (length p.1) = ap length p.3 ∙ length-append p.0 (lf ∷ p.1) in
        rw q (omega arith)
    go (inr n) = rw (cut-open bs n) (omega arith)

no-count : count_line (without_lf (cut_line []).0) ≡ none
unfolding count_line without_lf cut_line
no-count = refl

sheet-countless : (h : Head) → h.phase ≡ machine.sheet_line → ending h ≡ countless
unfolding ending ending_in
sheet-countless h e = rw e

-- what is concluded, by the end of the input; and what is to be answered, from the sheet's line, what follows the count line and the count
module _ {A : Type 0} (q : Phase) (conclude : State → A) (nothing : Stores → A) (none-at : (h : Head) (s : Stores) → ending h ≡ countless → conclude (state h s) ≡ nothing s)
    (answered : List ℕ → List ℕ → Option ℕ → A) (s : Stores) (empty : Empty sheet_room s.sheet)
    (without : (xs sheet bs : List ℕ) → Holds (on_sheet s xs) sheet → nothing (on_sheet s xs) ≡ answered sheet bs none)
    (with-rules : (xs sheet bs : List ℕ) (k : ℕ) → Holds (on_sheet s xs) sheet → k ≤ max_rules → 3 + length bs ≤ last_line → conclude (steps q (state (rules_at q 3 k) (on_sheet s xs)) bs) ≡ answered sheet bs (some k))
    (input : List ℕ) where
  -- the stores after the sheet's line
  abbrev after : Stores
  after = on_sheet s (clipped (cut_line input).0)

  abbrev begun : A
  begun = answered (cut_line input).0 (cut_line (cut_line input).1).1 (count_line (without_lf (cut_line (cut_line input).1).0))

  counted-on : (bs : List ℕ) (o : Option ℕ) → ((k : ℕ) → o ≡ some k → k ≤ max_rules) → 3 + length bs ≤ last_line → on_count q conclude nothing after bs o ≡ answered (cut_line input).0 bs o
  unfolding on_count
  counted-on bs none small h = without (clipped (cut_line input).0) (cut_line input).0 bs (sheet-held s input empty)
  counted-on bs (some k) small h = with-rules (clipped (cut_line input).0) (cut_line input).0 bs k (sheet-held s input empty) (small k refl) h

  ended-on : (l m : List ℕ) → has_lf l ≡ false → input ≡ l ++ (lf ∷ m) → length input < last_line → conclude (steps q (state start s) input) ≡ begun
  ended-on l m n e h =
      let cuts : cut_line input ≡ (l ++ (lf ∷ []), m) = ap cut_line e ∙ cut-ended l m n in
      let one : steps q (state start s) input ≡ steps q (state (line_in machine.count_line 2 0) (on_sheet s (clipped (cut_line input).0))) (cut_line input).1 =
      rw cuts (ap (steps q (state start s)) e ∙ sheet-ended q s l m n) in
      let long : length input ≡ length l + suc (length m) = ap length e ∙ length-append l (lf ∷ m) in
      let near : 2 + length (cut_line input).1 ≤ last_line = rw cuts (omega arith) in
      let count = without_lf (cut_line (cut_line input).1).0 in
      ap conclude one ∙ count-on q conclude nothing none-at after (cut_line input).1
      ∙ counted-on (cut_line (cut_line input).1).1 (count_line count) (count_small count) (rest-near (cut_line input).1 near)

  open-on : has_lf input ≡ false → conclude (steps q (state start s) input) ≡ begun
  open-on n =
      let r = sheet-open q s input n in
      let held : Holds (on_sheet s (clipped input)) input = rw (cut-open input n) at (sheet-held s input empty) in
      rw (cut-open input n, no-count)
      (ap conclude r.2 ∙ none-at r.0 (on_sheet s (clipped input)) (sheet-countless r.0 r.1) ∙ without (clipped input) input (cut_line []).1 held)

  pub start-on : length input < last_line → conclude (steps q (state start s) input) ≡ begun
  start-on h = go (cut input)
    where
      go : ((l m : List ℕ) × (has_lf l ≡ false) × (input ≡ l ++ (lf ∷ m))) ⊎ (has_lf input ≡ false) → conclude (steps q (state start s) input) ≡ begun
      go (inl p) = ended-on p.0 p.1 p.2 p.3 h
      go (inr n) = open-on n

-- a place that is at fault in the sheet that was kept is so in the input's
pub frees : (q : Phase) → is_sheet q ≡ false → (place : ℕ) (s : Stores) (input : List ℕ) → Empty sheet_room s.sheet
    → Free (contents (steps q (state start s) input).stores.sheet) place → Free (cut_line input).0 place
frees q behind place s input empty f =
    let same : contents (steps q (state start s) input).stores.sheet ≡ clipped (cut_line input).0 =
    ap contents (sheet-left q behind s input) ∙ contents-filled s.sheet (clipped (cut_line input).0) empty (sheet-room input) in
    free-clipped (cut_line input).0 place (rw same at f)
