-- What is printed for a whole input, in however many parts it was read.
use mathlib.Core.Path.{◌≡◌, refl, ap, subst, ◌∙◌}
use mathlib.Core.List.{List}
use Prim.Native.Nat.{ℕ, ◌≤◌, ◌<◌}
use lib.ListN.{length, take}
use Rattle.definition.specs.Compile.{Free}
use Rattle.definition.specs.Listing.{cut_line}
use Rattle.definition.specs.Passes.{text, passed, Prints}
use Rattle.store.specs.Store.{contents}
use Rattle.text.specs.Text.{text_room, Told}
use Rattle.text.proofs.Told.{told-as, told_text}
use Rattle.input_machine.specs.Machine.{Phase, code_line, State, Stores, last_line, sheet_room, rule_room, code_room, offset_room, entry_room, start, steps, concluded}
use Rattle.input_machine.proofs.Text.{state}
use Rattle.input_machine.proofs.Whole.{Roomy, reads}
use Rattle.input_machine.proofs.Begin.{frees}
use Rattle.input_machine.proofs.Frees.{is_sheet}
use Rattle.input_reader.specs.View.{begun}

-- the end of a reading that began with nothing read
told-from : (s : Stores) (t : State) (input : List ℕ) {out : List ℕ} {r : ℕ} → Roomy s → length input < last_line → t ≡ steps code_line (state start s) input
    → Told text_room text (contents t.stores.sheet) (λ place. concluded place t) out r → Told text_room text (cut_line input).0 (λ place. passed place input) out r
unfolding is_sheet
told-from s t input room l e f =
    told-as f (λ place free. frees code_line refl place s input room.sheet (subst (λ (u : State). Free (contents u.stores.sheet) place) e free))
    (λ place. ap (concluded place) e ∙ reads place s input room l)

-- what is printed is what the definition says
pub prints : (input out : List ℕ) (r : ℕ) → Told text_room text (cut_line input).0 (λ place. passed place input) out r → Prints input (take r out)
prints input out r p = record { place = p.place; free = p.free; is = told_text p }

-- the same from an intake's start, in buffers that have room
pub answered : (sheet rules code offsets entries : List ℕ) {q : Phase} {u t : State} (input : List ℕ) {out : List ℕ} {n : ℕ} → q ≡ code_line → u ≡ begun sheet rules code offsets entries → t ≡ steps q u input
    → sheet_room ≤ length sheet → rule_room ≤ length rules → code_room ≤ length code → offset_room ≤ length offsets → entry_room ≤ length entries
    → length input < last_line → Told text_room text (contents t.stores.sheet) (λ place. concluded place t) out n → Told text_room text (cut_line input).0 (λ place. passed place input) out n
answered sheet rules code offsets entries {t = t} input h b e hs hr hc ho he l f =
    told-from (begun sheet rules code offsets entries).stores t input
    (record {
      sheet = record { room = hs; unused = refl };
      rules = record { room = hr; unused = refl };
      rest = record { code = record { room = hc; unused = refl }; offsets = record { room = ho; unused = refl }; entries = record { room = he; unused = refl } };
    }) l (rw (h, b) at e) f
