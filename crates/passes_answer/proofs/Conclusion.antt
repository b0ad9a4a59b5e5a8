-- The text made of the call's answer is the text of what the machine concludes.
use mathlib.Core.Path.{◌≡◌, refl, ap, sym, ◌∙◌}
use mathlib.Core.Bool.{false}
use mathlib.Core.List.{List, []}
use mathlib.Core.Option.{Option, some, none}
use Prim.Native.Nat.{ℕ}
use native.Mathlib.Omega.{arith}
use borrow.Author.Tests.{ne_eqb}
use lib.Dec.{eqb}
use Rattle.definition.specs.Limits.{max_code, bad_sheet, bad_rule}
use Rattle.definition.specs.Res.{Res, ok, refuse, ◌>>=◌, ◌>>◌, demand, given, open-Res}
use Rattle.definition.specs.Opcode.{Sheet}
use Rattle.definition.specs.Sheet.{read_sheet}
use Rattle.definition.specs.Rules.{Rule, read_rules}
use Rattle.definition.specs.Rewrite.{decode, cut as cut_bytes, end_from, boundaries_from}
use Rattle.definition.specs.Lent.{first_entries, entries_of}
use Rattle.definition.specs.Alone.{Given, Rewritten, answer, boundaries, checked, rewritten, rewrite_files, rewrite_into, roomy}
use Rattle.definition.specs.Passes.{malformed_line, refusal_line, text}
use Rattle.rules.proofs.File.{no-rules}
use Rattle.store.specs.Store.{contents}
use Rattle.store.proofs.Fills.{front_of}
use Rattle.input_machine.specs.Machine.{Stores, Ending, whole, cut, countless, given_in, concluded_as}
use Rattle.text.specs.Text.{instructions_by}
use Rattle.text.proofs.Told.{entries-of}
use Rattle.input_reader.specs.View.{handed_rules}
use Rattle.passes_answer.specs.View.{handed, nothing_given, full_room, whole_text, ending_text, answer_text}
use Rattle.passes_answer.proofs.Refusing.{Proper, Properly, read_rules-proper, files-proper}

-- ---- refusals

-- a refusal's line, by its number and place
refused : (e : Ending) (sheet : Option Sheet) (n p : ℕ) → Proper n → answer_text e sheet (answer full_room (refuse n p)) ≡ refusal_line n p
unfolding answer_text answer refusal_line
refused e sheet n p h =
    let a : eqb n 0 ≡ false = ne_eqb n 0 (λ z. omega (arith, z, h.positive)) in
    let b : eqb n malformed_line ≡ false = ne_eqb n malformed_line (λ z. omega (arith, z, h.small)) in
    rw (a, answer_text, b, refusal_line)

-- ---- by the ending

pub into-files : (place : ℕ) (sheet rules : List ℕ) (g : Given) → rewrite_into place full_room sheet rules g ≡ rewrite_files place sheet rules g
unfolding rewrite_into roomy demand ◌>>◌
into-files place sheet rules g = refl

-- with nothing to rewrite, only the sheet and the rules can be refused
nothing-files : (place : ℕ) (s : Sheet) (sheet rules : List ℕ) → read_sheet sheet ≡ some s
    → rewrite_files place sheet rules nothing_given ≡ (read_rules rules >>= λ rs. ok (rewritten s rs nothing_given))
unfolding rewrite_files checked boundaries decode cut_bytes end_from boundaries_from entries_of first_entries open-Res
nothing-files place s sheet rules e = rw e refl

-- ---- no sheet

no-sheet-files : (place : ℕ) (sheet rules : List ℕ) (g : Given) → read_sheet sheet ≡ none → rewrite_files place sheet rules g ≡ refuse bad_sheet place
unfolding rewrite_files open-Res
no-sheet-files place sheet rules g e = rw e refl

no-sheet-end : (e : Ending) (place : ℕ) (s : Stores) → read_sheet (contents s.sheet) ≡ none → concluded_as e place s ≡ refuse bad_sheet place
unfolding concluded_as open-Res
no-sheet-end whole place s n = rw n refl
no-sheet-end (cut k) place s n = rw n refl
no-sheet-end countless place s n = rw n refl

-- ---- a sheet

-- what a whole input comes to is printed from the outputs
done-text : (s : Sheet) (x : Res Rewritten) → Properly x → answer_text whole (some s) (answer full_room x) ≡ text (x >>= λ r. ok (s, r))
unfolding answer_text ending_text whole_text answer text instructions_by Properly open-Res
done-text s (ok r) h =
    let c = front_of max_code r.code refl in
    rw (c, front_of full_room.protected r.protected refl, entries-of full_room.lines r.line_map) refl
done-text s (refuse n p) h = refused whole (some s) n p h

-- what is printed at a malformed line, once the rules are read
cut-text : (s : Sheet) (k : ℕ) (x : Res (List Rule)) → Properly x
    → answer_text (cut k) (some s) (answer full_room (x >>= λ rs. ok (rewritten s rs nothing_given))) ≡ text (x >>= λ rs. refuse malformed_line k)
unfolding answer_text ending_text answer text Properly open-Res
cut-text s k (ok rs) h = refl
cut-text s k (refuse n p) h = refused (cut k) (some s) n p h

-- and where none were counted
countless-text : (t : Sheet) → answer_text countless (some t) (answer full_room (ok [] >>= λ rs. ok (rewritten t rs nothing_given))) ≡ text (refuse bad_rule 0)
unfolding answer_text ending_text answer text refusal_line ◌>>=◌
countless-text t = refl

-- a sheet that was read goes on
going : {B : Type 0} (place : ℕ) (o : Option Sheet) (t : Sheet) (f : Sheet → Res B) → o ≡ some t → (given o bad_sheet place >>= f) ≡ f t
unfolding given ◌>>=◌
going place o t f e = rw e refl

sheet-text : (e : Ending) (place : ℕ) (s : Stores) (t : Sheet) → read_sheet (contents s.sheet) ≡ some t
    → answer_text e (some t) (answer full_room (rewrite_files place (contents s.sheet) (handed_rules e s) (handed e s))) ≡ text (concluded_as e place s)
unfolding handed_rules handed concluded_as
sheet-text whole place s t h =
    done-text t (rewrite_files place (contents s.sheet) (contents s.rules) (given_in s)) (files-proper place (contents s.sheet) (contents s.rules) (given_in s))
    ∙ ap text (sym (going place (read_sheet (contents s.sheet)) t _ h))
sheet-text (cut k) place s t h =
    ap (λ (x : Res Rewritten). answer_text (cut k) (some t) (answer full_room x)) (nothing-files place t (contents s.sheet) (contents s.rules) h)
    ∙ cut-text t k (read_rules (contents s.rules)) (read_rules-proper (contents s.rules))
    ∙ ap text (sym (going place (read_sheet (contents s.sheet)) t _ h))
sheet-text countless place s t h =
    ap (λ (x : Res Rewritten). answer_text countless (some t) (answer full_room x)) (nothing-files place t (contents s.sheet) [] h)
    ∙ ap (λ (x : Res (List Rule)). answer_text countless (some t) (answer full_room (x >>= λ rs. ok (rewritten t rs nothing_given)))) no-rules
    ∙ countless-text t
    ∙ ap text (sym (going place (read_sheet (contents s.sheet)) t (λ sheet. refuse bad_rule 0) h))

-- the text of the call's answer, whatever the sheet
pub concluded-text : (e : Ending) (place : ℕ) (s : Stores)
    → answer_text e (read_sheet (contents s.sheet)) (answer full_room (rewrite_into place full_room (contents s.sheet) (handed_rules e s) (handed e s))) ≡ text (concluded_as e place s)
unfolding refusal_line text
concluded-text e place s = rw (into-files place (contents s.sheet) (handed_rules e s) (handed e s)) (go (read_sheet (contents s.sheet)) refl)
  where
    go : (o : Option Sheet) → read_sheet (contents s.sheet) ≡ o
        → answer_text e (read_sheet (contents s.sheet)) (answer full_room (rewrite_files place (contents s.sheet) (handed_rules e s) (handed e s))) ≡ text (concluded_as e place s)
    go none h =
        ap (λ (x : Res Rewritten). answer_text e (read_sheet (contents s.sheet)) (answer full_room x)) (no-sheet-files place (contents s.sheet) (handed_rules e s) (handed e s) h)
        ∙ refused e (read_sheet (contents s.sheet)) bad_sheet place (record { positive = omega arith; small = omega arith })
        ∙ ap text (sym (no-sheet-end e place s h))
    go (some t) h = ap (λ (o : Option Sheet). answer_text e o (answer full_room (rewrite_files place (contents s.sheet) (handed_rules e s) (handed e s)))) h ∙ sheet-text e place s t h
