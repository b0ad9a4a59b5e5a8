-- How the machine's end is answered: what is handed to rewriting called alone, and the text made of its answer.
use Rattle.std.specs.Prelude.{ℕ, ◌*◌, ◌^◌, ◌<◌, Bool, true, false, List, [], ◌∷◌, ◌++◌, eqb, take, get_or}
use Rattle.std.proofs.Math.Option.{Option}
use Rattle.definition.specs.Limits.{max_code, max_protected, max_lines, entry_size, bad_rule}
use Rattle.definition.specs.Opcode.{Sheet}
use Rattle.definition.specs.Lent.{entries_of}
use Rattle.definition.specs.Alone.{Given, Room, Answer}
use Rattle.definition.specs.Listing.{number_line, entry_lines}
use Rattle.definition.specs.Passes.{malformed_line, offset_lines, refusal_line}
use Rattle.input_machine.specs.Machine.{Stores, Ending, whole, cut, countless, given_in}
use Rattle.text.specs.Text.{instructions_by}

-- ---- what is handed over: only what the ending leaves to be read

abbrev pub nothing_given : Given
nothing_given = record { code = []; protected = []; lines = [] }

unfoldable pub handed : Ending → Stores → Given
handed whole s = given_in s
handed (cut n) s = nothing_given
handed countless s = nothing_given

-- outputs as long as their limits
abbrev pub full_room : Room
full_room = record { code = max_code; protected = max_protected; lines = max_lines * entry_size }

-- ---- the text of an answer

unfoldable pub whole_text : Option Sheet → Answer → List ℕ
whole_text sheet a =
    number_line 0 (a.code_length ∷ a.protected_count ∷ a.entry_count ∷ [])
    ++ offset_lines (take a.protected_count a.protected)
    ++ entry_lines (entries_of (take (a.entry_count * entry_size) a.lines))
    ++ instructions_by sheet (take a.code_length a.code)

-- where nothing was refused
unfoldable pub ending_text : Ending → Option Sheet → Answer → List ℕ
ending_text whole sheet a = whole_text sheet a
ending_text (cut n) sheet a = refusal_line malformed_line n
ending_text countless sheet a = number_line bad_rule (0 ∷ [])

unfoldable pub answer_text : Ending → Option Sheet → Answer → List ℕ
answer_text e sheet a = elim (eqb a.number 0) [ true ↦ ending_text e sheet a | false ↦ number_line a.number (a.place ∷ []) ]

-- what the types of the outputs say of their elements
pub record Known (bytes moved lines : List ℕ) : Type 0 where
  pub code : (i : ℕ) → get_or bytes i 0 < 2 ^ 8
  pub protected : (i : ℕ) → get_or moved i 0 < 2 ^ 16
  pub numbers : (i : ℕ) → get_or lines i 0 < 2 ^ 16

-- ---- what this crate's functions hand over

unfoldable pub is_whole : Ending → Bool
is_whole whole = true
is_whole (cut n) = false
is_whole countless = false
