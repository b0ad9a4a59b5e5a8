-- The text for what a reader has read.
use mathlib.Core.Path.{◌≡◌, ap, ◌∙◌}
use mathlib.Core.Bool.{true}
use mathlib.Core.List.{List}
use Rattle.std.specs.Prelude.{Result, Ok, Err}
use Prim.Native.Nat.{ℕ}
use lib.ListN.{length}
use Rattle.definition.specs.Sheet.{read_sheet}
use Rattle.definition.specs.Alone.{Room, Answer, Rewrites, answer, rewrite_into}
use Rattle.definition.specs.Passes.{text}
use Rattle.definition.specs.declared.Refused.{Refused}
use Rattle.optimize.specs.View.{answer_view}
use Rattle.optimize.specs.declared.alone.Rewritten.{Rewritten}
use Rattle.store.specs.Store.{at, contents, push_all}
use Rattle.store.specs.Fill.{zeroed_from}
use Rattle.text.specs.Text.{text_room, Told}
use Rattle.text.proofs.Told.{told-put}
use Rattle.input_machine.specs.Machine.{State, Ending, ending, concluded}
use Rattle.passes_answer.specs.View.{handed, full_room, answer_text, Known}
use Rattle.input_reader.specs.Handed.{handed as part}
use Rattle.input_reader.specs.View.{handed_rules}
use Rattle.passes_answer.proofs.Conclusion.{concluded-text}
use Rattle.passes_answer.proofs.Short.{Sized, text-short}

-- the answer's outputs are the lent ones, refused or not
held : (P : List ℕ → List ℕ → List ℕ → Type 0) (r : Result Rewritten Refused) (bytes moved lines : List ℕ) → P bytes moved lines
    → P (answer_view r bytes moved lines).code (answer_view r bytes moved lines).protected (answer_view r bytes moved lines).lines
held P (Ok r) bytes moved lines p = p
held P (Err e) bytes moved lines p = p

pub finished-by : (st : State) (before mid : List ℕ) {after : List ℕ} {m : ℕ} {room : Room} (r : Result Rewritten Refused) {bytes moved lines sheet : List ℕ} (v : Ending) → length before ≡ text_room → v ≡ ending st.head → room ≡ full_room
    → sheet ≡ part true st.stores.sheet
    → Rewrites room (contents st.stores.sheet) (handed_rules (ending st.head) st.stores) (handed (ending st.head) st.stores) (answer_view r bytes moved lines)
    → at mid m ≡ push_all (at before 0) (answer_text v (read_sheet sheet) (answer_view r bytes moved lines))
    → Sized bytes moved lines → Known bytes moved lines → after ≡ zeroed_from m mid
    → Told text_room text (contents st.stores.sheet) (λ place. concluded place st) after m
unfolding concluded part
finished-by st before mid {m = m} {room = room} r {bytes = bytes} {moved = moved} {lines = lines} {sheet = sheet} v long h full c f p z k rest =
    let a = answer_view r bytes moved lines in
    let e = ending st.head in
    let s = st.stores in
    let called : a ≡ answer full_room (rewrite_into f.place full_room (contents s.sheet) (handed_rules e s) (handed e s)) =
    f.is ∙ ap (λ (q : Room). answer q (rewrite_into f.place q (contents s.sheet) (handed_rules e s) (handed e s))) full in
    let put = p
    ∙ ap (λ (w : Ending). push_all (at before 0) (answer_text w (read_sheet sheet) a)) h
    ∙ ap (λ (l : List ℕ). push_all (at before 0) (answer_text e (read_sheet l) a)) c
    ∙ ap (λ (b : Answer). push_all (at before 0) (answer_text e (read_sheet (contents s.sheet)) b)) called
    ∙ ap (push_all (at before 0)) (concluded-text e f.place s) in
    let short = text-short e f.place s a called (held Sized r bytes moved lines z) (held Known r bytes moved lines k) in
    told-put text_room f.place before mid long short f.free put rest
