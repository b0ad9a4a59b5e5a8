-- What a caller in C or Rust has of an answer: its numbers in a lent array, in the order of the definition's fields, and what the outputs hold.
use Rattle.std.specs.Prelude.{ℕ, List, get_or}
use Rattle.definition.specs.Compile as compile
use Rattle.definition.specs.Alone as alone
use Rattle.definition.specs.Slowest as slowest

abbrev pub compiled : List ℕ → List ℕ → List ℕ → List ℕ → compile.Answer
compiled answer code constants lines = record {
  number = get_or answer 0 0;
  place = get_or answer 1 0;
  code_length = get_or answer 2 0;
  depth = get_or answer 3 0;
  constant_count = get_or answer 4 0;
  entry_count = get_or answer 5 0;
  code = code;
  constants = constants;
  lines = lines;
}

abbrev pub rewritten : List ℕ → List ℕ → List ℕ → List ℕ → alone.Answer
rewritten answer bytes offsets entries = record {
  number = get_or answer 0 0;
  place = get_or answer 1 0;
  code_length = get_or answer 2 0;
  protected_count = get_or answer 3 0;
  entry_count = get_or answer 4 0;
  code = bytes;
  protected = offsets;
  lines = entries;
}

abbrev pub measured : List ℕ → List ℕ → slowest.Answer
measured answer outcomes = record {
  number = get_or answer 0 0;
  place = get_or answer 1 0;
  loops = get_or answer 2 0;
  instruction_count = get_or answer 3 0;
  outcome_count = get_or answer 4 0;
  outcomes = outcomes;
}
