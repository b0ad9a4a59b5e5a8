-- What this crate's types stand for in the machine.
use Rattle.std.specs.Prelude.{ℕ, ◌≡◌, Bool, true, false, List, []}
use Rattle.store.specs.Store.{Store, at, contents}
use Rattle.input_machine.specs.Machine as def
use Rattle.input_reader.specs.declared.Phase.{Phase}
use Rattle.input_reader.specs.declared.Phase.TheVariants.{SheetLine, CountLine, RuleLine, CodeLine, OffsetLine, EntryLine, ProgramText, Malformed, Uncounted}
use Rattle.input_reader.specs.declared.Head.{Head}
use Rattle.input_reader.specs.declared.Reader.{Reader}
use Rattle.input_reader.specs.declared.Intake.{Intake}
use Rattle.input_reader.specs.declared.Ending.{Ending}
use Rattle.input_reader.specs.declared.Ending.TheVariants.{Whole, Cut, Countless}

abbrev pub phase_view : Phase → def.Phase
phase_view SheetLine = def.sheet_line
phase_view CountLine = def.count_line
phase_view RuleLine = def.rule_line
phase_view CodeLine = def.code_line
phase_view OffsetLine = def.offset_line
phase_view EntryLine = def.entry_line
phase_view ProgramText = def.program_text
phase_view Malformed = def.malformed
phase_view Uncounted = def.uncounted

abbrev pub head_view : Head → def.Head
head_view h = record {
  phase = phase_view h.phase;
  line = h.line;
  left = h.left;
  index = h.index;
  kept = h.kept;
  number = h.number;
}

abbrev pub ending_view : Ending → def.Ending
ending_view Whole = def.whole
ending_view (Cut n) = def.cut n
ending_view Countless = def.countless

-- ---- where the reading stands, and what the buffers hold

abbrev pub stores_of : Store → Store → Store → Store → Store → def.Stores
stores_of sheet rules code offsets entries = record { sheet = sheet; rules = rules; code = code; offsets = offsets; entries = entries }

abbrev pub state_of : Head → def.Stores → def.State
state_of h s = record { head = head_view h; stores = s }

-- a reader's
abbrev pub stores_view : Reader → def.Stores
stores_view r =
    stores_of (at r.sheet.cells.now r.sheet.used) (at r.rules.cells.now r.rules.used) (at r.code.cells.now r.code.used)
    (at r.offsets.cells.now r.offsets.used) (at r.entries.cells.now r.entries.used)

abbrev pub state_view : Reader → def.State
state_view r = state_of r.head (stores_view r)

-- an intake's
abbrev pub intake_stores : Intake → def.Stores
intake_stores r =
    stores_of (at r.sheet.cells.now r.sheet.used) (at r.rules.cells.now r.rules.used) (at r.code.cells.now r.code.used)
    (at r.offsets.cells.now r.offsets.used) (at r.entries.cells.now r.entries.used)

abbrev pub intake_view : Intake → def.State
intake_view r = state_of r.head (intake_stores r)

-- the machine's start, over these buffers
abbrev pub begun : List ℕ → List ℕ → List ℕ → List ℕ → List ℕ → def.State
begun sheet rules code offsets entries = record {
  head = def.start;
  stores = record { sheet = at sheet 0; rules = at rules 0; code = at code 0; offsets = at offsets 0; entries = at entries 0 };
}

-- the same rules' end, and the same lent buffers, whatever they hold
pub record SameBuffers (r t : Intake) : Type 0 where
  pub follows : t.follows ≡ r.follows
  pub sheet : t.sheet.cells.ghost_name ≡ r.sheet.cells.ghost_name
  pub rules : t.rules.cells.ghost_name ≡ r.rules.cells.ghost_name
  pub code : t.code.cells.ghost_name ≡ r.code.cells.ghost_name
  pub offsets : t.offsets.cells.ghost_name ≡ r.offsets.cells.ghost_name
  pub entries : t.entries.cells.ghost_name ≡ r.entries.cells.ghost_name

-- some bytes were read from one state to the other, q being what follows the rules
pub record Reading (q : def.Phase) (before after : def.State) : Type 0 where
  pub bytes : List ℕ
  pub is : after ≡ def.steps q before bytes

-- ---- what is handed over at the end: only what the ending leaves to be read

-- is there a count of rules, so that they are read?
unfoldable pub is_counted : def.Ending → Bool
is_counted def.whole = true
is_counted (def.cut n) = true
is_counted def.countless = false

unfoldable pub handed_rules : def.Ending → def.Stores → List ℕ
handed_rules def.whole s = contents s.rules
handed_rules (def.cut n) s = contents s.rules
handed_rules def.countless s = []

-- `unfolding open_machine` names the machine's definitions, and this module's, at once
unfoldable pub open_machine : Unit {0}
unfolding def.open-Machine is_counted handed_rules
open_machine = tt
