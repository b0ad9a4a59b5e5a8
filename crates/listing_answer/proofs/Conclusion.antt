-- The text made of the call's answer is the text of what the machine concludes.
use mathlib.Core.Path.{◌≡◌, refl, ◌∙◌}
use mathlib.Core.Bool.{true, false}
use mathlib.Core.List.{List, []}
use mathlib.Core.Option.{Option, some, none}
use Prim.Native.Nat.{ℕ}
use borrow.Author.Tests.{ne_eqb}
use Rattle.definition.specs.Limits.{bad_sheet, bad_text}
use Rattle.definition.specs.Res.{Res, ok, refuse, ◌>>=◌, ◌>>◌, demand, given, open-Res}
use Rattle.definition.specs.Opcode.{Sheet}
use Rattle.definition.specs.Sheet.{read_sheet}
use Rattle.definition.specs.Program.{ends_in_lf, read_program}
use Rattle.definition.specs.Compile.{FinalizedFunction, compile_files, compile_into, roomy, answer}
use Rattle.definition.specs.Listing.{text}
use Rattle.rules.proofs.File.{no-rules}
use Rattle.runs.proofs.Answers.{Refuses, call-numbered}
use Rattle.store.specs.Store.{contents}
use Rattle.store.proofs.Fills.{front_of}
use Rattle.input_machine.specs.Machine.{Stores, Ending, whole, cut, countless, listed_from, listed_as}
use Rattle.input_reader.specs.View.{is_counted, handed_rules}
use Rattle.text.specs.Text.{instructions_by}
use Rattle.text.proofs.Told.{entries-of}
use Rattle.listing_answer.specs.View.{handed_program, full_room, whole_text, countless_text, answer_text}

-- ---- the call

pub into-files : (place : ℕ) (sheet rules program : List ℕ) → compile_into place full_room sheet rules program ≡ compile_files place sheet rules program
unfolding compile_into roomy demand ◌>>◌
into-files place sheet rules program = refl

no-sheet-files : (place : ℕ) (sheet rules program : List ℕ) → read_sheet sheet ≡ none → compile_files place sheet rules program ≡ refuse bad_sheet place
unfolding compile_files open-Res
no-sheet-files place sheet rules program e = rw e refl

no_program : read_program [] ≡ refuse bad_text 0
unfolding read_program ends_in_lf open-Res
no_program = refl

-- a sheet alone is refused for want of a program
sheet-files : (place : ℕ) (sheet : List ℕ) (t : Sheet) → read_sheet sheet ≡ some t → compile_files place sheet [] [] ≡ refuse bad_text 0
unfolding compile_files open-Res
sheet-files place sheet t e = rw (e, no-rules, no_program) refl

-- ---- all that was read

-- what a call comes to is printed from the outputs
done-text : (t : Sheet) (x : Res FinalizedFunction) → Refuses x → answer_text true (some t) (answer full_room x) ≡ text (x >>= λ f. ok (t, f))
unfolding answer_text whole_text answer text instructions_by Refuses ◌>>=◌
done-text t (ok f) h =
    rw (front_of full_room.code f.bytecode refl, front_of full_room.constants f.constants refl, entries-of full_room.lines f.line_map) refl
done-text t (refuse n p) h = rw (ne_eqb n 0 h, answer_text) refl

no-sheet-text : (place : ℕ) → answer_text true none (answer full_room (refuse bad_sheet place)) ≡ text (refuse bad_sheet place)
unfolding answer_text answer text
no-sheet-text place = refl

counted-text : (place : ℕ) (s : Stores) (o : Option Sheet) → read_sheet (contents s.sheet) ≡ o → Refuses (compile_files place (contents s.sheet) (contents s.rules) (contents s.code))
    → answer_text true o (answer full_room (compile_files place (contents s.sheet) (contents s.rules) (contents s.code))) ≡ text (listed_from place s)
unfolding listed_from given ◌>>=◌
counted-text place s none e h = rw (no-sheet-files place (contents s.sheet) (contents s.rules) (contents s.code) e, e) (no-sheet-text place)
counted-text place s (some t) e h = done-text t (compile_files place (contents s.sheet) (contents s.rules) (contents s.code)) h ∙ rw e refl

all-text : (place : ℕ) (s : Stores)
    → answer_text true (read_sheet (contents s.sheet)) (answer full_room (compile_into place full_room (contents s.sheet) (contents s.rules) (contents s.code))) ≡ text (listed_from place s)
all-text place s =
    let same = into-files place (contents s.sheet) (contents s.rules) (contents s.code) in
    rw same (counted-text place s _ refl (rw same at (call-numbered place full_room (contents s.sheet) (contents s.rules) (contents s.code))))

-- ---- where no rules were counted

countless-text : (place : ℕ) (s : Stores) (o : Option Sheet) → read_sheet (contents s.sheet) ≡ o
    → answer_text false o (answer full_room (compile_files place (contents s.sheet) [] [])) ≡ text (listed_as countless place s)
unfolding answer_text countless_text answer text listed_as given ◌>>=◌
countless-text place s none e = rw (no-sheet-files place (contents s.sheet) [] [] e, e) refl
countless-text place s (some t) e = rw (sheet-files place (contents s.sheet) t e, e) refl

-- ---- the text of the call's answer, whatever the sheet

pub concluded-text : (e : Ending) (place : ℕ) (s : Stores)
    → answer_text (is_counted e) (read_sheet (contents s.sheet)) (answer full_room (compile_into place full_room (contents s.sheet) (handed_rules e s) (handed_program e s))) ≡ text (listed_as e place s)
unfolding is_counted handed_rules handed_program listed_as
concluded-text whole place s = all-text place s
concluded-text (cut n) place s = all-text place s
concluded-text countless place s = rw (into-files place (contents s.sheet) [] []) (countless-text place s _ refl)
