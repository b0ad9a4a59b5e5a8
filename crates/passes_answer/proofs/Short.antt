-- The text is never longer than text_room.
use mathlib.Core.Path.{◌≡◌, refl, ap, sym, ◌∙◌}
use mathlib.Core.List.{List}
use Prim.Native.Nat.{ℕ, ◌*◌, ◌^◌, ◌≤◌}
use native.Mathlib.Omega.{arith}
use lib.ListN.{length}
use Rattle.definition.specs.Limits.{max_code, max_protected, max_lines, entry_size, bad_sheet, bad_rule}
use Rattle.definition.specs.Res.{Res, ok, refuse, given}
use Rattle.definition.specs.Opcode.{Sheet}
use Rattle.definition.specs.Sheet.{read_sheet}
use Rattle.definition.specs.Rules.{read_rules}
use Rattle.definition.specs.Lent.{entry_numbers}
use Rattle.definition.specs.Alone.{Rewritten, Answer, answer, rewrite_files, rewrite_into}
use Rattle.definition.specs.Passes.{malformed_line, text}
use Rattle.field.proofs.Results.{ok-is, ok-bind}
use Rattle.line_map.proofs.Entries.{length-numbers}
use Rattle.store.specs.Store.{contents}
use Rattle.text.specs.Text.{text_room}
use Rattle.text.proofs.Room.{Small, text-fits, refusal-fits}
use Rattle.input_machine.specs.Machine.{Stores, Ending, whole, cut, countless, given_in, concluded_as}
use Rattle.passes_answer.specs.View.{handed, full_room, Known}
use Rattle.input_reader.specs.View.{handed_rules}
use Rattle.text.proofs.Told.{filled-room, small-start}
use Rattle.passes_answer.proofs.Conclusion.{into-files}

-- ---- an answer within the limits

pub record Sized (bytes moved list : List ℕ) : Type 0 where
  pub code : length bytes ≡ max_code
  pub protected : length moved ≡ max_protected
  pub lines : length list ≡ max_lines * entry_size

small : (r : Rewritten) (a : Answer) → a ≡ answer full_room (ok r) → Sized a.code a.protected a.lines → Known a.code a.protected a.lines → Small r
unfolding answer
small r a e z k =
    let lines : length (entry_numbers r.line_map) ≤ max_lines * entry_size = filled-room (max_lines * entry_size) (entry_numbers r.line_map) (rw (← ap (λ (x : Answer). x.lines) e) z.lines) in
    record {
      code = filled-room max_code r.code (rw (← ap (λ (x : Answer). x.code) e) z.code);
      protected = filled-room max_protected r.protected (rw (← ap (λ (x : Answer). x.protected) e) z.protected);
      lines = omega (arith, lines, length-numbers r.line_map);
      bytes = small-start max_code (2 ^ 8) r.code (omega arith) (rw (← ap (λ (x : Answer). x.code) e) k.code);
      offsets = small-start max_protected (2 ^ 16) r.protected (omega arith) (rw (← ap (λ (x : Answer). x.protected) e) k.protected);
      entries = small-start (max_lines * entry_size) (2 ^ 16) (entry_numbers r.line_map) (omega arith) (rw (← ap (λ (x : Answer). x.lines) e) k.numbers);
    }

-- ---- what is concluded

no_result : {A : Type 0} (n p : ℕ) (x : A) → refuse n p ≡ ok x → ⊥
no_result n p x e = cc

-- only a whole input has a result, and it is the call's
whole-result : (e : Ending) (place : ℕ) (s : Stores) (x : Sheet × Rewritten) → concluded_as e place s ≡ ok x
    → rewrite_files place (contents s.sheet) (handed_rules e s) (handed e s) ≡ ok x.1
unfolding concluded_as handed_rules handed
whole-result whole place s x h =
    let a = ok-bind (given (read_sheet (contents s.sheet)) bad_sheet place) _ x h in
    let b = ok-bind (rewrite_files place (contents s.sheet) (contents s.rules) (given_in s)) _ x a.2 in
    b.1 ∙ ap (λ (y : Sheet × Rewritten). ok y.1) (sym (ok-is b.2))
whole-result (cut n) place s x h =
    let a = ok-bind (given (read_sheet (contents s.sheet)) bad_sheet place) _ x h in
    let b = ok-bind (read_rules (contents s.rules)) _ x a.2 in
    absurd (no_result malformed_line n x b.2)
whole-result countless place s x h =
    let a = ok-bind (given (read_sheet (contents s.sheet)) bad_sheet place) _ x h in
    absurd (no_result bad_rule 0 x a.2)

pub text-short : (e : Ending) (place : ℕ) (s : Stores) (a : Answer) → a ≡ answer full_room (rewrite_into place full_room (contents s.sheet) (handed_rules e s) (handed e s))
    → Sized a.code a.protected a.lines → Known a.code a.protected a.lines → length (text (concluded_as e place s)) ≤ text_room
text-short e place s a c z k = go (concluded_as e place s) refl
  where
    go : (x : Res (Sheet × Rewritten)) → concluded_as e place s ≡ x → length (text x) ≤ text_room
    go (refuse n p) h = refusal-fits n p
    go (ok x) h =
        let r : a ≡ answer full_room (ok x.1) = c ∙ ap (answer full_room) (into-files place (contents s.sheet) (handed_rules e s) (handed e s) ∙ whole-result e place s x h) in
        text-fits x.0 x.1 (small x.1 a r z k)
