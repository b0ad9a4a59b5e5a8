-- The theorem applied, from the text of the files on, to a program with an IF, a CASE, a REPEAT, a FOR and a division whose divisor is a starting value. No
-- premise of it is empty.
use Prim.Native.Nat.{ℕ, ◌*◌}
use mathlib.Core.Path.{◌≡◌, refl, sym, ◌∙◌, ap}
use mathlib.Core.List.{List, []}
use mathlib.Core.Bool.{Bool, true, false}
use mathlib.Core.Option.{Option, some, none}
use lib.Signed.{quot_z}
use borrow.Author.Tests.{eq-eqb, ne_eqb}
use Rattle.definition.specs.Limits.{max_code, max_constants, max_lines, entry_size, width}
use Rattle.definition.specs.Res.{Res, ok, refuse}
use Rattle.definition.specs.Iec.{Values, stored, on_numbers, divided_by}
use Rattle.definition.specs.Sheet.{read_sheet}
use Rattle.definition.specs.Tree.{Program}
use Rattle.definition.specs.Program.{read_program}
use Rattle.definition.specs.Meaning.{and_then, on_value, ends, spent, run_block}
use Rattle.definition.specs.Meaning as meaning
use Rattle.definition.specs.Machine as machine
use Rattle.definition.specs.Compile.{Room, Answer, answer, compile_into, Compiles}
use Rattle.definition.specs.Claims.{Until, Finishes, image_in, Faithful}
use Rattle.definition.specs.Cases.{bytes, plain_sheet, open-Definition}
use Rattle.field.proofs.Results.{never}
use Rattle.meaning.proofs.Faithful.{compiled-faithful}

-- v1 := 7; v2 := 0;
-- FOR v0 := 1 TO 3 DO IF v1 > 2 THEN v1 := v1 / 2; ELSE v2 := v2 + 1; END_IF END_FOR
-- REPEAT v2 := v2 + 2; UNTIL v2 >= 5 END_REPEAT
-- CASE v2 OF 5: v2 := v1; ELSE RETURN; END_CASE
-- v3 := 100 / v3;
unfoldable text : List ℕ
text = bytes "P,4,6,1,1\nA,2,1,1\nK,7\nA,3,1,2\nK,0\nF,4,1,0,0,1,1\nK,1\nK,3\nI,5,1,1,1\nC,4\nD,1\nK,2\nA,6,1,1\nO,3\nD,1\nK,2\nA,7,1,2\nO,0\nD,2\nK,1\nL,8,1,0,1,1\nA,9,1,2\nO,0\nD,2\nK,2\nI,10,1,1,0\nC,5\nD,2\nK,5\nX,10,1,0\nS,11,1,1,1\nD,2\nM,1,1\nQ,5\nA,12,1,2\nD,1\nR,13,1\nA,14,1,3\nO,3\nK,100\nD,3\n"

unfoldable room : Room
room = record { code = max_code; constants = max_constants; lines = max_lines * entry_size }

-- what the call answers
unfoldable given : Answer
given = answer room (compile_into 0 room plain_sheet [] text)

-- `unfolding open-Example` names the files and all that is made of them
unfoldable open-Example : Unit {0}
unfolding text room given bytes plain_sheet open-Definition
open-Example = tt

is-given : Compiles room plain_sheet [] text given
unfolding open-Example
is-given = record { place = 0; free = λ (e : read_sheet plain_sheet ≡ none). never (cc); is = refl }

accepted : given.number ≡ 0
unfolding open-Example
accepted = refl

faithful : Faithful plain_sheet text given
faithful = compiled-faithful room plain_sheet [] text given is-given accepted refl

-- ---- what the statements come to

-- the variables before the division
unfoldable before : Values → Values
before σ = stored (stored (stored (stored (stored (stored (stored (stored (stored (stored (stored (stored σ 1 7) 2 0) 0 1) 1 3) 0 2) 1 1) 0 3) 2 1) 0 4) 2 3) 2 5) 2 1

-- and what is made of them, by the quotient
unfoldable divided : Values → Option ℕ → meaning.Answer
divided σ q = and_then (on_value q (before σ) λ x. ends (stored (before σ) 3 x)) λ τ. ends τ

-- the FOR goes back three times, the REPEAT once
unfoldable meant_by : Res Program → Values → meaning.Answer
meant_by (ok p) σ = run_block width p.body 3 σ
meant_by (refuse n p) σ = spent

computes : (σ : Values) → meant_by (read_program text) σ ≡ divided σ (divided_by width quot_z 100 (σ 3))
unfolding meant_by divided before open-Example
computes σ = refl

comes : (σ : Values) (q : Option ℕ) → divided_by width quot_z 100 (σ 3) ≡ q → run_block width faithful.tree.body 3 σ ≡ divided σ q
unfolding meant_by
comes σ q e = sym (ap (λ r. meant_by r σ) faithful.program_read) ∙ (computes σ ∙ ap (divided σ) e)

-- ---- so, whatever the variables hold, the code given back does the same

abbrev image : machine.Image
image = image_in faithful.s given

stops-at-zero : (σ : Values) → σ 3 ≡ 0 → Until image machine.stops σ (before σ)
unfolding image_in divided_by divided and_then on_value
stops-at-zero σ e = (faithful.does σ).stops 3 (before σ) (comes σ none (ap (λ (b : Bool). elim b [ true ↦ none | false ↦ some (on_numbers width quot_z 100 (σ 3)) ]) (eq-eqb (σ 3) 0 e)))

finishes-else : (σ : Values) → (σ 3 ≡ 0 → ⊥) → Finishes image σ (stored (before σ) 3 (on_numbers width quot_z 100 (σ 3)))
unfolding image_in divided_by divided and_then on_value
finishes-else σ e =
    (faithful.does σ).ends 3 _ (comes σ (some (on_numbers width quot_z 100 (σ 3))) (ap (λ (b : Bool). elim b [ true ↦ none | false ↦ some (on_numbers width quot_z 100 (σ 3)) ]) (ne_eqb (σ 3) 0 e)))
