-- How the end of a listing's input is answered: what is handed to the call, and the text made of its answer.
use Rattle.std.specs.Prelude.{ℕ, ◌*◌, ◌^◌, ◌<◌, Bool, true, false, List, [], ◌∷◌, ◌++◌, eqb, take, get_or}
use Rattle.std.proofs.Math.Option.{Option}
use Rattle.definition.specs.Limits.{max_code, max_constants, max_lines, entry_size, width, bad_sheet, bad_rule}
use Rattle.definition.specs.Opcode.{Sheet}
use Rattle.definition.specs.Lent.{entries_of}
use Rattle.definition.specs.Compile.{Room, Answer}
use Rattle.definition.specs.Listing.{number_line, constant_lines, entry_lines}
use Rattle.store.specs.Store.{contents}
use Rattle.input_machine.specs.Machine.{Stores, Ending, whole, cut, countless}
use Rattle.text.specs.Text.{instructions_by}

-- the program, where rules were counted
unfoldable pub handed_program : Ending → Stores → List ℕ
handed_program whole s = contents s.code
handed_program (cut n) s = contents s.code
handed_program countless s = []

-- outputs as long as their limits
abbrev pub full_room : Room
full_room = record { code = max_code; constants = max_constants; lines = max_lines * entry_size }

-- ---- the text of an answer

unfoldable pub whole_text : Option Sheet → Answer → List ℕ
whole_text sheet a =
    number_line 0 (a.code_length ∷ a.depth ∷ a.constant_count ∷ a.entry_count ∷ [])
    ++ constant_lines (take a.constant_count a.constants)
    ++ entry_lines (entries_of (take (a.entry_count * entry_size) a.lines))
    ++ instructions_by sheet (take a.code_length a.code)

-- a call on the sheet alone can be refused by it; else the count line is
unfoldable pub countless_text : ℕ → ℕ → List ℕ
countless_text number place = elim (eqb number bad_sheet) [ true ↦ number_line number (place ∷ []) | false ↦ number_line bad_rule (0 ∷ []) ]

unfoldable pub answer_text : Bool → Option Sheet → Answer → List ℕ
answer_text true sheet a = elim (eqb a.number 0) [ true ↦ whole_text sheet a | false ↦ number_line a.number (a.place ∷ []) ]
answer_text false sheet a = countless_text a.number a.place

-- what the types of the outputs say of their elements
pub record Known (bytes words list : List ℕ) : Type 0 where
  pub code : (i : ℕ) → get_or bytes i 0 < 256
  pub constants : (i : ℕ) → get_or words i 0 < 2 ^ width
  pub numbers : (i : ℕ) → get_or list i 0 < 65536
