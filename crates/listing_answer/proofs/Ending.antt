-- The text for what a reader has read.
use mathlib.Core.Path.{◌≡◌, ap, ◌∙◌}
use mathlib.Core.Bool.{Bool, true}
use mathlib.Core.List.{List}
use Rattle.std.specs.Prelude.{Result, Ok, Err}
use Prim.Native.Nat.{ℕ}
use lib.ListN.{length}
use Rattle.definition.specs.Sheet.{read_sheet}
use Rattle.definition.specs.Compile.{Room, Answer, Compiles, answer, compile_into}
use Rattle.definition.specs.Listing.{text}
use Rattle.definition.specs.declared.Refused.{Refused}
use Rattle.compile.specs.Call.{answer_view}
use Rattle.compile.specs.declared.call.Compiled.{Compiled}
use Rattle.store.specs.Store.{at, contents, push_all}
use Rattle.store.specs.Fill.{zeroed_from}
use Rattle.input_machine.specs.Machine.{State, Ending, ending, listed_at}
use Rattle.input_reader.specs.Handed.{handed as part}
use Rattle.input_reader.specs.View.{is_counted, handed_rules}
use Rattle.text.specs.Text.{listing_room, Told}
use Rattle.text.proofs.Told.{told-put}
use Rattle.listing_answer.specs.View.{handed_program, full_room, answer_text, Known}
use Rattle.listing_answer.proofs.Conclusion.{concluded-text}
use Rattle.listing_answer.proofs.Short.{Sized, text-short}

-- the answer's outputs are the lent ones, refused or not
held : (P : List ℕ → List ℕ → List ℕ → Type 0) (r : Result Compiled Refused) (code constants lines : List ℕ) → P code constants lines
    → P (answer_view r code constants lines).code (answer_view r code constants lines).constants (answer_view r code constants lines).lines
held P (Ok f) code constants lines p = p
held P (Err e) code constants lines p = p

pub finished-by : (st : State) (before mid : List ℕ) {after : List ℕ} {m : ℕ} {room : Room} (r : Result Compiled Refused) {code constants lines sheet : List ℕ} {counted : Bool} (v : Ending) → length before ≡ listing_room
    → v ≡ ending st.head → counted ≡ is_counted v → room ≡ full_room
    → sheet ≡ part true st.stores.sheet
    → Compiles room (contents st.stores.sheet) (handed_rules (ending st.head) st.stores) (handed_program (ending st.head) st.stores) (answer_view r code constants lines)
    → at mid m ≡ push_all (at before 0) (answer_text counted (read_sheet sheet) (answer_view r code constants lines))
    → Sized code constants lines → Known code constants lines → after ≡ zeroed_from m mid
    → Told listing_room text (contents st.stores.sheet) (λ place. listed_at place st) after m
unfolding listed_at part
finished-by st before mid {m = m} {room = room} r {code = code} {constants = constants} {lines = lines} {sheet = sheet} {counted = counted} v long h cs full c f p z k rest =
    let a = answer_view r code constants lines in
    let e = ending st.head in
    let s = st.stores in
    let called : a ≡ answer full_room (compile_into f.place full_room (contents s.sheet) (handed_rules e s) (handed_program e s)) =
    f.is ∙ ap (λ (q : Room). answer q (compile_into f.place q (contents s.sheet) (handed_rules e s) (handed_program e s))) full in
    let put = p
    ∙ ap (λ (w : Bool). push_all (at before 0) (answer_text w (read_sheet sheet) a)) (cs ∙ ap is_counted h)
    ∙ ap (λ (l : List ℕ). push_all (at before 0) (answer_text (is_counted e) (read_sheet l) a)) c
    ∙ ap (λ (b : Answer). push_all (at before 0) (answer_text (is_counted e) (read_sheet (contents s.sheet)) b)) called
    ∙ ap (push_all (at before 0)) (concluded-text e f.place s) in
    told-put listing_room f.place before mid long (text-short e f.place s a called (held Sized r code constants lines z) (held Known r code constants lines k)) f.free put rest
