-- What is said of 15, applied from the text of the files on: the code of a program with a fused comparison is short, and answered as it is finished. (One with a far branch has over 32,768
-- bytes of code, too many to compute here: the gate runs some, crate compile_test.)
use Prim.Native.Nat.{ℕ, ◌*◌, ◌≤◌}
use mathlib.Core.Path.{◌≡◌, refl, sym, ◌∙◌, ap}
use mathlib.Core.List.{List, []}
use mathlib.Core.Option.{none}
use native.Mathlib.Omega.{arith}
use lib.ListN.{length}
use Rattle.definition.specs.Limits.{max_code, max_back, max_constants, max_lines, entry_size}
use Rattle.definition.specs.Res.{ok}
use Rattle.definition.specs.Sheet.{read_sheet}
use Rattle.definition.specs.Compile.{FinalizedFunction, finalize_function, Room, Answer, answer, compile_into, Compiles}
use Rattle.definition.specs.Cases.{bytes, plain_sheet, open-Definition}
use Rattle.field.proofs.Results.{never}
use Rattle.runs.proofs.Safe.{Compiled, given, is-answer, made}
use Rattle.runs.proofs.Far.{short-answers}

-- IF v0 > 3 THEN v0 := v0 + 1; ELSE RETURN; END_IF
unfoldable text : List ℕ
text = bytes "P,1,1,1,1\nI,1,1,1,1\nC,4\nD,0\nK,3\nA,2,1,0\nO,0\nD,0\nK,1\nR,3,1\n"

unfoldable room : Room
room = record { code = max_code; constants = max_constants; lines = max_lines * entry_size }

-- what the call answers
unfoldable answered : Answer
answered = answer room (compile_into 0 room plain_sheet [] text)

unfoldable open-Example : Unit {0}
unfolding text room answered bytes plain_sheet open-Definition
open-Example = tt

is-answered : Compiles room plain_sheet [] text answered
unfolding open-Example
is-answered = record { place = 0; free = λ (e : read_sheet plain_sheet ≡ none). never (cc); is = refl }

accepted : answered.number ≡ 0
unfolding open-Example
accepted = refl

short : answered.code_length ≤ max_back
unfolding open-Example
short = omega arith

abbrev read : Compiled plain_sheet [] text (given room plain_sheet [] text answered is-answered accepted)
read = made room plain_sheet [] text answered is-answered accepted

-- its code, as it is finished
unfoldable code : FinalizedFunction
code = finalize_function read.s read.rs read.e

length-is : length code.bytecode ≡ answered.code_length
unfolding code answer
length-is = sym (ap (λ (a : Answer). a.code_length) (is-answer room plain_sheet [] text answered is-answered accepted) ∙ ap (λ (f : FinalizedFunction). length f.bytecode) read.finish)

as-finished : answered ≡ answer room (ok code)
unfolding code open-Example
as-finished = short-answers room plain_sheet [] text answered is-answered refl read.sheet_read read.rules_read read.program_read read.emission (let n = length-is in let m = short in omega arith)
