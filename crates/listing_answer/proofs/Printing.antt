-- What is printed for a whole input, in however many parts it was read.
use mathlib.Core.Path.{◌≡◌, refl, ap, subst, ◌∙◌}
use mathlib.Core.List.{List}
use Prim.Native.Nat.{ℕ, ◌≤◌, ◌<◌}
use lib.ListN.{length, take}
use Rattle.definition.specs.Compile.{Free}
use Rattle.definition.specs.Listing.{cut_line, listed, text, Lists}
use Rattle.store.specs.Store.{contents}
use Rattle.text.specs.Text.{listing_room, Told}
use Rattle.text.proofs.Told.{told-as, told_text}
use Rattle.input_machine.specs.Machine.{Phase, program_text, State, Stores, last_line, sheet_room, rule_room, program_room, start, steps, listed_at}
use Rattle.input_machine.proofs.Text.{state}
use Rattle.input_machine.proofs.Begin.{frees}
use Rattle.input_machine.proofs.Frees.{is_sheet}
use Rattle.input_machine.proofs.Listed.{Spacious, lists}
use Rattle.input_reader.specs.View.{begun}

-- the end of a reading that began with nothing read
told-from : (s : Stores) (t : State) (input : List ℕ) {out : List ℕ} {r : ℕ} → Spacious s → length input < last_line → t ≡ steps program_text (state start s) input
    → Told listing_room text (contents t.stores.sheet) (λ place. listed_at place t) out r → Told listing_room text (cut_line input).0 (λ place. listed place input) out r
unfolding is_sheet
told-from s t input room l e f =
    told-as f (λ place free. frees program_text refl place s input room.sheet (subst (λ (u : State). Free (contents u.stores.sheet) place) e free))
    (λ place. ap (listed_at place) e ∙ lists place s input room l)

-- what is printed is what the definition says
pub prints : (input out : List ℕ) (r : ℕ) → Told listing_room text (cut_line input).0 (λ place. listed place input) out r → Lists input (take r out)
prints input out r p = record { place = p.place; free = p.free; is = told_text p }

-- the same from an intake's start, in buffers that have room
pub answered : (sheet rules program offsets entries : List ℕ) {q : Phase} {u t : State} (input : List ℕ) {out : List ℕ} {n : ℕ} → q ≡ program_text → u ≡ begun sheet rules program offsets entries → t ≡ steps q u input
    → sheet_room ≤ length sheet → rule_room ≤ length rules → program_room ≤ length program → length input < last_line
    → Told listing_room text (contents t.stores.sheet) (λ place. listed_at place t) out n → Told listing_room text (cut_line input).0 (λ place. listed place input) out n
answered sheet rules program offsets entries {t = t} input h b e hs hr hp l f =
    told-from (begun sheet rules program offsets entries).stores t input
    (record { sheet = record { room = hs; unused = refl }; rules = record { room = hr; unused = refl }; program = record { room = hp; unused = refl } })
    l (rw (h, b) at e) f
