-- What reading an input to its end comes to.
use Rattle.std.specs.Prelude.{ℕ, ◌≤◌, ◌≡◌, Option, Result, IfOk, List, Bool, true, false, length}
use Rattle.std.specs.Io.KnownBytes.{Consumes, IsAtEnd}
use Rattle.input_machine.specs.Machine.{Phase, State}
use Rattle.input_reader.specs.View.{Reading}

-- Some bytes were read from one state to the other, q being what follows the rules, after an error too. There may be more (`Ok true`) only where they are `turns` at
-- least. `known` and `left` are what is known of the bytes that the input has, before and after: those that were read are the first of them, and all
-- unless there may be more or a read failed. Of standard input nothing is known (`read` of the C library promises a count and no bytes), so which bytes were read of
-- it is open, and that all of them were.
pub record Turned {E : Type 0} (known left : Option (List ℕ)) (q : Phase) (before after : State) (turns : ℕ) (more : Result Bool E) : Type 0 where
  pub reading : Reading q before after
  pub many : IfOk more (λ m. m ≡ true → turns ≤ length reading.bytes)
  pub given : Consumes known left reading.bytes
  pub all : IfOk more (λ m. m ≡ false → IsAtEnd left)
