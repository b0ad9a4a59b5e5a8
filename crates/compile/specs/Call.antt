-- What the parts of the call give, said of the definition.
use Rattle.std.specs.Prelude.{◌≡◌, ℕ, ◌*◌, ◌≤◌, List, length}
use Rattle.definition.specs.Limits.{max_code, max_constants, max_lines, entry_size}
use Rattle.std.specs.Prelude.{Result, Ok, Err}
use Rattle.definition.specs.Res.{Res, ok, refuse, ◌>>=◌}
use Rattle.definition.specs.View.{refusal_number, res_of}
use Rattle.definition.specs.declared.Refused.{Refused}
use Rattle.definition.specs.Opcode.{Sheet}
use Rattle.definition.specs.Rules.{Rule}
use Rattle.definition.specs.Emit as def
use Rattle.definition.specs.Lent.{zeros, filled, entry_numbers}
use Rattle.definition.specs.Compile as compile
use Rattle.definition.specs.Compile.{FinalizedFunction, Room, answer}
use Rattle.compile.specs.View.{finalizing}
use Rattle.compile.specs.declared.call.Compiled.{Compiled}

abbrev pub room_of : ℕ → ℕ → ℕ → Room
room_of code constants lines = record { code = code; constants = constants; lines = lines }

abbrev pub room : List ℕ → List ℕ → List ℕ → Room
room code constants lines = room_of (length code) (length constants) (length lines)

-- outputs that no result is too long for
pub record Roomy (r : Room) : Type 0 where
  pub code : max_code ≤ r.code
  pub constants : max_constants ≤ r.constants
  pub lines : max_lines * entry_size ≤ r.lines

-- the answer with what the outputs hold
abbrev pub answer_view : Result Compiled Refused → List ℕ → List ℕ → List ℕ → compile.Answer
answer_view (Err e) code constants lines = record {
  number = refusal_number e.refusal;
  place = e.place;
  code_length = 0;
  depth = 0;
  constant_count = 0;
  entry_count = 0;
  code = code;
  constants = constants;
  lines = lines;
}
answer_view (Ok r) code constants lines = record {
  number = 0;
  place = 0;
  code_length = r.bytes;
  depth = r.depth;
  constant_count = r.constants;
  entry_count = r.entries;
  code = code;
  constants = constants;
  lines = lines;
}

-- what follows emission
abbrev pub finishing : Sheet → List Rule → Res def.Emitter → Res FinalizedFunction
finishing s rs x = x >>= λ d. finalizing s rs d

-- what the part behind the sheet comes to
abbrev pub outcome_of : Res FinalizedFunction → Res Compiled
outcome_of (refuse n p) = refuse n p
outcome_of (ok f) = ok (record { bytes = length f.bytecode; depth = f.depth; constants = length f.constants; entries = length f.line_map })

-- the outputs hold a result, and 0 up to their ends
pub record Held (f : FinalizedFunction) (bytes words numbers bytes' words' numbers' : List ℕ) : Type 0 where
  pub code : bytes' ≡ filled (length bytes) f.bytecode
  pub constants : words' ≡ filled (length words) f.constants
  pub lines : numbers' ≡ filled (length numbers) (entry_numbers f.line_map)

-- a refusal, after which nothing is said of the outputs; or a result in them
pub record Ends (x : Res FinalizedFunction) (bytes words numbers bytes' words' numbers' : List ℕ) (r : Result Compiled Refused) : Type 0 where
  pub is : res_of (λ c. c) r ≡ outcome_of x
  pub held : (f : FinalizedFunction) → x ≡ ok f → Held f bytes words numbers bytes' words' numbers'

-- what an output holds once an outcome is answered: 0 all through after a refusal, else what it held
abbrev pub output_after : {E : Type 0} → Result Compiled E → List ℕ → List ℕ
output_after (Err e) xs = zeros (length xs)
output_after (Ok r) xs = xs

-- the answer that follows: only here are outputs zeroed
abbrev pub settled : Result Compiled Refused → List ℕ → List ℕ → List ℕ → compile.Answer
settled (Err e) code constants lines = answer (room code constants lines) (refuse (refusal_number e.refusal) e.place)
settled (Ok r) code constants lines = answer_view (Ok r) code constants lines

-- the answer where a refusal is any number with a place, as (u8, usize)
abbrev pub numbered_view : Result Compiled (ℕ × ℕ) → List ℕ → List ℕ → List ℕ → compile.Answer
numbered_view (Err e) code constants lines = record (answer_view (Ok (record { bytes = 0; depth = 0; constants = 0; entries = 0 })) code constants lines) { number = e.0; place = e.1 }
numbered_view (Ok r) code constants lines = answer_view (Ok r) code constants lines
