-- Parts of a step, for the functions inside this crate.
use Rattle.std.specs.Prelude.{ℕ, ◌+◌, ◌*◌, ◌≤◌, ◌≡◌, List, ◌∷◌, ◌++◌, leb, length, Some, None, Result, Ok, Err}
use Rattle.definition.specs.Limits.{max_code, code_full}
use Rattle.definition.specs.Res.{Res, ok, ◌>>=◌, ◌>>◌, demand}
use Rattle.definition.specs.Opcode.{Sheet, Role, CompareOp, comparison_byte}
use Rattle.definition.specs.Emit as def
use Rattle.definition.specs.declared.Refusal.{Refusal}
use Rattle.definition.specs.declared.Refused.{Refused}
use Rattle.definition.specs.Emit.{LineEntry, PendingPatch, add, added, recorded, patched, le16}
use Rattle.line_map.specs.declared.Pos.{Pos}
use Rattle.emit.specs.declared.Emitter.{Emitter}
use Rattle.emit.specs.declared.Last.{Last}
use Rattle.emit.specs.Book.{book_size}
use Rattle.emit.specs.View.{world, last_view}
use Rattle.emit.specs.Steps.{Step, Did, once, Fine, Kept, Coded}

-- the struct with other size, last instruction and depths
abbrev pub altered : Emitter → ℕ → Last → ℕ → ℕ → Emitter
altered e size last depth deepest = record e { size = size; last = last; depth = depth; deepest = deepest }

-- with other counts of labels, patches, line entries and constants
abbrev pub counted : Emitter → ℕ → ℕ → ℕ → ℕ → Emitter
counted e labels patches lines constants = record e { labels = labels; patches = patches; lines = lines; constants = constants }

-- at another position
abbrev pub placed : Emitter → Pos → Emitter
placed e p = record e { position = p }

-- refused
abbrev pub stopped : Emitter → Refused → Emitter
stopped e r = record e { refused = Some r }

-- with so many line entries, or refused with no place
abbrev pub readied : Emitter → Result ℕ Refusal → Emitter
readied e (Ok lines) = record e { lines = lines }
readied e (Err refusal) = stopped e (record { refusal = refusal; place = 0 })

-- an emitter with other line entries
unfoldable pub lined : List LineEntry → def.Emitter → def.Emitter
lined entries e = record {
  bytecode = e.bytecode;
  labels = e.labels;
  patches = e.patches;
  line_map = entries;
  constants = e.constants;
  last = e.last;
  depth = e.depth;
  max_depth = e.max_depth;
  position = e.position;
}

-- room for so many bytes, and a line entry
unfoldable pub prepared : ℕ → def.Emitter → Res def.Emitter
prepared n e = demand (leb (length e.bytecode + n) max_code) code_full 0 >> (recorded e >>= λ entries. ok (lined entries e))

-- a step that changes the book alone
pub record Noted (f : Step) (e : Emitter) (book : List ℕ) (r : Emitter) (book' : List ℕ) : Type 0 where
  pub fine : Fine r
  pub slots : length book' ≡ book_size
  pub kept : (code pool : List ℕ) → Kept (world e code book pool) (world r code book' pool)
  pub did : (code pool : List ℕ) → length code ≡ max_code → Did f (world e code book pool) (world r code book' pool)

pub record Prepared (n : ℕ) (e : Emitter) (book : List ℕ) (r : Emitter) (book' : List ℕ) : Type 0 where
  pub noted : Noted (once (prepared n)) e book r book'
  pub fits : r.refused ≡ None → r.size + n ≤ max_code

-- a step that changes the code alone
pub record Written (f : Step) (e : Emitter) (code : List ℕ) (r : Emitter) (code' : List ℕ) : Type 0 where
  pub fine : Fine r
  pub room : length code' ≡ max_code
  pub kept : (book pool : List ℕ) → Kept (world e code book pool) (world r code' book pool)
  pub did : (book pool : List ℕ) → Did f (world e code book pool) (world r code' book pool)

-- there is a byte for a patch more
abbrev pub Branched : Emitter → Type 0
Branched e = e.refused ≡ None → 3 * e.patches + 3 ≤ e.size

-- the bytes of an instruction that is prepared
abbrev pub putting : Sheet → Role → List ℕ → def.Last → def.Emitter → Res def.Emitter
putting s r operand l e = ok (added s r operand l e.line_map e)

pub record Put (s : Sheet) (r : Role) (operand : List ℕ) (l : Last) (e : Emitter) (code : List ℕ) (e' : Emitter) (code' : List ℕ) : Type 0 where
  pub fine : Fine e'
  pub coded : (book : List ℕ) → length book ≡ book_size → Coded (once (putting s r operand (last_view l))) e code book e' code' book
  -- one of three bytes or more
  pub branched : 2 ≤ length operand → Branched e'

-- an instruction of role r with these operand bytes
pub record Added (s : Sheet) (r : Role) (operand : List ℕ) (l : Last) (e : Emitter) (code book : List ℕ) (e' : Emitter) (code' book' : List ℕ) : Type 0 where
  pub coded : Coded (once (add s r operand (last_view l))) e code book e' code' book'
  -- one of three bytes or more
  pub branched : 2 ≤ length operand → Branched e'

-- the operand bytes of a CMP_BR
unfoldable pub cmp_operand : Sheet → CompareOp → ℕ → ℕ → List ℕ
cmp_operand s c v i = (comparison_byte s c ∷ le16 v ++ le16 i) ++ le16 0

-- the patch of a branch whose opcode the code ends before
abbrev pub patching : PendingPatch → def.Emitter → Res def.Emitter
patching p e = ok (patched p e)
