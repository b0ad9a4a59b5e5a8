-- The text is never longer than listing_room.
use mathlib.Core.Path.{◌≡◌, refl, ap, sym, ◌∙◌}
use mathlib.Core.List.{List}
use Prim.Native.Nat.{ℕ, ◌*◌, ◌^◌, ◌≤◌}
use native.Mathlib.Omega.{arith}
use lib.ListN.{length}
use Rattle.definition.specs.Limits.{max_code, max_constants, max_lines, entry_size, width, bad_sheet, bad_rule}
use Rattle.definition.specs.Res.{Res, ok, refuse, given}
use Rattle.definition.specs.Opcode.{Sheet}
use Rattle.definition.specs.Sheet.{read_sheet}
use Rattle.definition.specs.Lent.{entry_numbers}
use Rattle.definition.specs.Compile.{FinalizedFunction, Answer, answer, compile_files, compile_into}
use Rattle.definition.specs.Listing.{text}
use Rattle.field.proofs.Results.{ok-is, ok-bind}
use Rattle.line_map.proofs.Entries.{length-numbers}
use Rattle.store.specs.Store.{contents}
use Rattle.text.specs.Text.{listing_room}
use Rattle.text.proofs.Room.{Brief, listing-fits, refused-fits}
use Rattle.text.proofs.Told.{filled-room, small-start}
use Rattle.input_machine.specs.Machine.{Stores, Ending, whole, cut, countless, listed_from, listed_as}
use Rattle.input_reader.specs.View.{handed_rules}
use Rattle.listing_answer.specs.View.{handed_program, full_room, Known}
use Rattle.listing_answer.proofs.Conclusion.{into-files}

-- ---- an answer within the limits

pub record Sized (bytes words list : List ℕ) : Type 0 where
  pub code : length bytes ≡ max_code
  pub constants : length words ≡ max_constants
  pub lines : length list ≡ max_lines * entry_size

brief : (f : FinalizedFunction) (a : Answer) → a ≡ answer full_room (ok f) → Sized a.code a.constants a.lines → Known a.code a.constants a.lines → Brief f
unfolding answer
brief f a e z k =
    let lines : length (entry_numbers f.line_map) ≤ max_lines * entry_size = filled-room (max_lines * entry_size) (entry_numbers f.line_map) (rw (← ap (λ (x : Answer). x.lines) e) z.lines) in
    record {
      code = filled-room max_code f.bytecode (rw (← ap (λ (x : Answer). x.code) e) z.code);
      constants = filled-room max_constants f.constants (rw (← ap (λ (x : Answer). x.constants) e) z.constants);
      lines = omega (arith, lines, length-numbers f.line_map);
      bytes = small-start max_code 256 f.bytecode (omega arith) (rw (← ap (λ (x : Answer). x.code) e) k.code);
      words = small-start max_constants (2 ^ width) f.constants (omega arith) (rw (← ap (λ (x : Answer). x.constants) e) k.constants);
      entries = small-start (max_lines * entry_size) 65536 (entry_numbers f.line_map) (omega arith) (rw (← ap (λ (x : Answer). x.lines) e) k.numbers);
    }

-- ---- what is concluded

-- a result is the call's
from-result : (place : ℕ) (s : Stores) (x : Sheet × FinalizedFunction) → listed_from place s ≡ ok x → compile_files place (contents s.sheet) (contents s.rules) (contents s.code) ≡ ok x.1
unfolding listed_from
from-result place s x h =
    let a = ok-bind (given (read_sheet (contents s.sheet)) bad_sheet place) _ x h in
    let b = ok-bind (compile_files place (contents s.sheet) (contents s.rules) (contents s.code)) _ x a.2 in
    b.1 ∙ ap (λ (y : Sheet × FinalizedFunction). ok y.1) (sym (ok-is b.2))

result : (e : Ending) (place : ℕ) (s : Stores) (x : Sheet × FinalizedFunction) → listed_as e place s ≡ ok x → compile_files place (contents s.sheet) (handed_rules e s) (handed_program e s) ≡ ok x.1
unfolding listed_as handed_rules handed_program
result whole place s x h = from-result place s x h
result (cut n) place s x h = from-result place s x h
result countless place s x h = let a = ok-bind (given (read_sheet (contents s.sheet)) bad_sheet place) _ x h in absurd (let q : refuse bad_rule 0 ≡ ok x = a.2 in cc)

pub text-short : (e : Ending) (place : ℕ) (s : Stores) (a : Answer) → a ≡ answer full_room (compile_into place full_room (contents s.sheet) (handed_rules e s) (handed_program e s))
    → Sized a.code a.constants a.lines → Known a.code a.constants a.lines → length (text (listed_as e place s)) ≤ listing_room
text-short e place s a c z k = go (listed_as e place s) refl
  where
    go : (x : Res (Sheet × FinalizedFunction)) → listed_as e place s ≡ x → length (text x) ≤ listing_room
    go (refuse n p) h = refused-fits n p
    go (ok x) h =
        let r : a ≡ answer full_room (ok x.1) = c ∙ ap (answer full_room) (into-files place (contents s.sheet) (handed_rules e s) (handed_program e s) ∙ result e place s x h) in
        listing-fits x.0 x.1 (brief x.1 a r z k)
