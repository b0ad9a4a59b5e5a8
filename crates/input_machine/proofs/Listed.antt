-- The whole input of the listing: the machine answers what the definition does.
use mathlib.Core.Path.{◌≡◌, refl, ap, sym, ◌∙◌}
use mathlib.Core.Bool.{Bool, true, false}
use mathlib.Core.Option.{Option, some, none}
use mathlib.Core.List.{List, [], ◌∷◌}
use Prim.Native.Nat.{ℕ, ◌+◌, ◌≤◌, ◌<◌}
use native.Mathlib.Omega.{arith}
use borrow.Author.Tests.{lt-leb, leb-true, leb-false}
use lib.Dec.{leb}
use lib.ListN.{length, take, length-take}
use lib.Seq.{take_all}
use Rattle.definition.specs.Limits.{max_program, max_rules, bad_sheet, bad_rule}
use Rattle.definition.specs.Res.{Res, ok, ◌>>=◌, ◌>>◌, demand, given}
use Rattle.definition.specs.Opcode.{Sheet}
use Rattle.definition.specs.Sheet.{read_sheet}
use Rattle.definition.specs.Rules.{read_rules}
use Rattle.definition.specs.Program.{read_program}
use Rattle.definition.specs.Compile.{FinalizedFunction, compile_files}
use Rattle.definition.specs.Listing.{cut_line, cut_lines, without_lf, count_line, listed}
use Rattle.store.specs.Store.{contents}
use Rattle.input_machine.specs.Machine.{Head, rule_line, program_text, into_code, line_in, start, rules_at, next_in, next, put_in, Stores, stored, step, steps, last_line, sheet_room, rule_room, program_room, Ending, countless, ending_in, ending, listed_from, listed_as, listed_at}
use Rattle.input_machine.proofs.Text.{state, stored_all}
use Rattle.input_machine.proofs.Clip.{clipped}
use Rattle.input_machine.proofs.Kept.{on_sheet, on_rules, RulesDone, RulesShort, by-rules}
use Rattle.input_machine.proofs.Begin.{Empty, kept, all-code, Holds, rules-kept, sheet-kept, start-on}

-- empty stores with room for a listing's input: nothing is put into the others
pub record Spacious (s : Stores) : Type 0 where
  pub sheet : Empty sheet_room s.sheet
  pub rules : Empty rule_room s.rules
  pub program : Empty program_room s.code

-- ---- the program

-- one byte too many is as good as all of them
program-cut : (n : ℕ) (t : List ℕ) → max_program < n → read_program (take n t) ≡ read_program t
unfolding read_program demand ◌>>◌
program-cut n t h = go (leb (length t) max_program) refl
  where
    go : (b : Bool) → leb (length t) max_program ≡ b → read_program (take n t) ≡ read_program t
    go true e = let l = leb-true (length t) max_program e in ap read_program (take_all n t (omega arith))
    go false e =
        let l = leb-false (length t) max_program e in
        let short : leb (length (take n t)) max_program ≡ false = lt-leb (length (take n t)) max_program (omega (arith, length-take n t)) in
        rw (short, e)

program-steps : (n : ℕ) (s : Stores) (bs : List ℕ) → steps program_text (state (line_in program_text n 0) s) bs ≡ state (line_in program_text n 0) (stored_all into_code s bs)
unfolding steps step next next_in put_in stored line_in stored_all
program-steps n s [] = refl
program-steps n s (b ∷ bs) = program-steps n (stored s (into_code b)) bs

-- ---- what is answered

-- from a sheet's text, the rules' and the program's
unfoldable from_files : ℕ → List ℕ → List ℕ → List ℕ → Res (Sheet × FinalizedFunction)
from_files place sheet rules program = do
  s ← given (read_sheet sheet) bad_sheet place
  f ← compile_files place sheet rules program
  ok (s, f)

-- it goes by what the texts read as
files-same : (place : ℕ) (a b c d e f : List ℕ) → read_sheet a ≡ read_sheet d → read_rules b ≡ read_rules e → read_program c ≡ read_program f → from_files place a b c ≡ from_files place d e f
unfolding from_files compile_files
files-same place a b c d e f p q r = rw (p, q, r)

unfoldable from_count : ℕ → List ℕ → List ℕ → Option ℕ → Res (Sheet × FinalizedFunction)
from_count place sheet bs o = do
  s ← given (read_sheet sheet) bad_sheet place
  k ← given o bad_rule 0
  f ← compile_files place sheet (cut_lines k bs).0 (cut_lines k bs).1
  ok (s, f)

listed-count : (place : ℕ) (input : List ℕ) → listed place input ≡ from_count place (cut_line input).0 (cut_line (cut_line input).1).1 (count_line (without_lf (cut_line (cut_line input).1).0))
unfolding listed from_count
listed-count place input = refl

-- ---- after the rules

ends-whole : (place n : ℕ) (s : Stores) → listed_at place (state (line_in program_text n 0) s) ≡ from_files place (contents s.sheet) (contents s.rules) (contents s.code)
unfolding listed_at listed_as listed_from from_files ending ending_in line_in
ends-whole place n s = refl

ends-short : (place : ℕ) (h : Head) (s : Stores) → h.phase ≡ rule_line → listed_at place (state h s) ≡ from_files place (contents s.sheet) (contents s.rules) (contents s.code)
unfolding listed_at listed_as listed_from from_files ending ending_in
ends-short place h s e = rw e

on-rules-code : (s : Stores) (xs : List ℕ) → (on_rules s xs).code ≡ s.code
unfolding on_rules
on-rules-code s xs = refl

module _ (place k : ℕ) (s : Stores) (sheet bs : List ℕ) (holds : Holds s sheet) (rules : Empty rule_room s.rules) (program : Empty program_room s.code) (small : k ≤ max_rules) where
  abbrev answer : Res (Sheet × FinalizedFunction)
  answer = from_files place sheet (cut_lines k bs).0 (cut_lines k bs).1

  done_on : RulesDone program_text k 3 s bs → listed_at place (steps program_text (state (rules_at program_text 3 k) s) bs) ≡ answer
  unfolding rules_at
  done_on d =
      let s₂ = on_rules s (clipped (cut_lines k bs).0) in
      let rest = (cut_lines k bs).1 in
      let code : read_program (contents (stored_all into_code s₂ rest).code) ≡ read_program rest =
      ap (λ (x : Stores). read_program (contents x.code)) (all-code s₂ rest)
      ∙ ap read_program (kept {n = program_room} s₂.code (rw (on-rules-code s (clipped (cut_lines k bs).0)) program) rest)
      ∙ program-cut (length s₂.code.cells) rest (rw (on-rules-code s (clipped (cut_lines k bs).0)) program.room) in
      ap (listed_at place) (d.goes ∙ program-steps (3 + k) s₂ rest)
      ∙ ends-whole place (3 + k) (stored_all into_code s₂ rest)
      ∙ files-same place _ _ _ sheet (cut_lines k bs).0 rest
      (ap (λ (x : Stores). read_sheet (contents x.sheet)) (all-code s₂ rest) ∙ sheet-kept k s sheet bs holds rules small (clipped (cut_lines k bs).0))
      (ap (λ (x : Stores). read_rules (contents x.rules)) (all-code s₂ rest) ∙ rules-kept k s sheet bs holds rules small)
      code

  none_kept : (xs : List ℕ) → contents (on_rules s xs).code ≡ []
  unfolding contents
  none_kept xs = rw (on-rules-code s xs, program.unused)

  short_on : RulesShort program_text k 3 s bs → listed_at place (steps program_text (state (rules_at program_text 3 k) s) bs) ≡ answer
  short_on d =
      let s₂ = on_rules s (clipped bs) in
      let all : (cut_lines k bs).0 ≡ bs = ap (λ (x : List ℕ × List ℕ). x.0) d.all in
      let rules₂ : read_rules (contents s₂.rules) ≡ read_rules bs = rw all at (rules-kept k s sheet bs holds rules small) in
      ap (listed_at place) d.goes
      ∙ ends-short place d.head s₂ d.phase
      ∙ files-same place _ _ _ sheet bs [] (sheet-kept k s sheet bs holds rules small (clipped bs)) rules₂ (ap read_program (none_kept (clipped bs)))
      ∙ rw d.all

  rules-on : 3 + length bs ≤ last_line → listed_at place (steps program_text (state (rules_at program_text 3 k) s) bs) ≡ answer
  rules-on h = by-rules program_text k 3 s bs h done_on short_on

-- ---- after the count, and from the start

countless-on : (place : ℕ) (s : Stores) (sheet bs : List ℕ) → Holds s sheet → listed_as countless place s ≡ from_count place sheet bs none
unfolding Holds listed_as from_count ◌>>=◌ given
countless-on place s sheet bs h = rw h

countless-at : (place : ℕ) (h : Head) (s : Stores) → ending h ≡ countless → listed_at place (state h s) ≡ listed_as countless place s
unfolding listed_at
countless-at place h s e = ap (λ (x : Ending). listed_as x place s) e

counted-on : (place k : ℕ) (s : Stores) (xs sheet bs : List ℕ) → Holds (on_sheet s xs) sheet → Spacious s → k ≤ max_rules → 3 + length bs ≤ last_line
    → listed_at place (steps program_text (state (rules_at program_text 3 k) (on_sheet s xs)) bs) ≡ from_count place sheet bs (some k)
unfolding on_sheet from_count from_files ◌>>=◌ given
counted-on place k s xs sheet bs holds r small h = rules-on place k (on_sheet s xs) sheet bs holds r.rules r.program small h

-- for every input that is shorter than the last line's number, in stores with room
pub lists : (place : ℕ) (s : Stores) (input : List ℕ) → Spacious s → length input < last_line → listed_at place (steps program_text (state start s) input) ≡ listed place input
lists place s input r h =
    start-on program_text (listed_at place) (listed_as countless place) (countless-at place) (from_count place) s r.sheet
    (λ xs sheet bs holds. countless-on place (on_sheet s xs) sheet bs holds)
    (λ xs sheet bs k holds small near. counted-on place k s xs sheet bs holds r small near)
    input h
    ∙ sym (listed-count place input)
