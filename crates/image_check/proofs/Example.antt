-- The theorem that our own code passes, applied from the text of the files on to a program with a fused comparison; and the answer that it speaks of, computed.
use Prim.Native.Nat.{ℕ, ◌*◌}
use mathlib.Core.Path.{◌≡◌, refl}
use mathlib.Core.List.{List, []}
use mathlib.Core.Option.{none}
use lib.ListN.{take}
use Rattle.definition.specs.Limits.{max_code, max_constants, max_lines, entry_size}
use Rattle.definition.specs.Sheet.{read_sheet}
use Rattle.definition.specs.Compile.{Room, Answer, answer, compile_into, Compiles}
use Rattle.definition.specs.Check.{Checks}
use Rattle.definition.specs.Cases.{bytes, plain_sheet}
use Rattle.field.proofs.Results.{never}
use Rattle.runs.proofs.Safe.{compiled-checks}
use Rattle.image_check.proofs.Tells.{checks-by, open-Traversal}

-- IF v0 > 3 THEN v0 := v0 + 1; ELSE RETURN; END_IF
unfoldable pub text : List ℕ
text = bytes "P,1,1,1,1\nI,1,1,1,1\nC,4\nD,0\nK,3\nA,2,1,0\nO,0\nD,0\nK,1\nR,3,1\n"

unfoldable pub room : Room
room = record { code = max_code; constants = max_constants; lines = max_lines * entry_size }

-- what the call answers
unfoldable pub given : Answer
given = answer room (compile_into 0 room plain_sheet [] text)

unfoldable pub open-Example : Unit {0}
unfolding text room given open-Traversal
open-Example = tt

is-given : Compiles room plain_sheet [] text given
unfolding open-Example
is-given = record { place = 0; free = λ (e : read_sheet plain_sheet ≡ none). never (cc); is = refl }

accepted : given.number ≡ 0
unfolding open-Example
accepted = refl

-- whatever its check answers, it is 0
own : {n place : ℕ} → Checks plain_sheet (take given.code_length given.code) given.depth n place → (n ≡ 0) × (place ≡ 0)
own = compiled-checks room plain_sheet [] text given is-given accepted

-- and it does answer
own-answer : Checks plain_sheet (take given.code_length given.code) given.depth 0 0
unfolding open-Example
own-answer = checks-by plain_sheet (take given.code_length given.code) given.depth 0 refl
