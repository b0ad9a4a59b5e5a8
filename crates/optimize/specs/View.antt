-- What this crate's functions give, said of the definition.
use Rattle.std.specs.Prelude.{ℕ, ◌*◌, ◌/◌, ◌≤◌, ◌<◌, suc, ◌≡◌, true, false, List, [], ◌∷◌, map, eqb, leb, length, get_or}
use Rattle.std.specs.Prelude as std
use Rattle.std.specs.Prelude.{Some, None, Result, Ok, Err}
use Rattle.definition.specs.Limits.{max_code, max_protected, max_lines, entry_size, bad_code, code_full, labels_full, lines_full}
use Rattle.definition.specs.Res.{Res, ok, refuse, ◌>>=◌, ◌>>◌, demand}
use Rattle.definition.specs.Field.{has}
use Rattle.definition.specs.Emit as def
use Rattle.definition.specs.Opcode.{Sheet}
use Rattle.definition.specs.Rewrite.{OffsetMap, decode, end_from, moved_to}
use Rattle.definition.specs.Lent.{filled, entry_numbers, entries_of}
use Rattle.definition.specs.Optimize.{Pipeline, run, identity}
use Rattle.definition.specs.Rules.{Rule, read_rules}
use Rattle.opcode.specs.Table.{IsTable}
use Rattle.definition.specs.Alone as def-alone
use Rattle.definition.specs.Alone.{Given, Rewritten, Room, checked, rewritten, rewrite_into, answer}
use Rattle.definition.specs.View.{refusal_number}
use Rattle.definition.specs.Compile.{Free}
use Rattle.definition.specs.declared.Refused.{Refused}
use Rattle.optimize.specs.declared.alone.Rewritten as code
use Rattle.line_map.specs.View.{entry_view}
use Rattle.rewrite.specs.View.{offsets_where, marked}
use Rattle.line_map.specs.declared.LineEntry.{LineEntry}

-- ---- tables by offset

-- offsets that such a table of k elements has a place for
pub record Small (k : ℕ) (list : List ℕ) : Type 0 where
  pub at : (i : ℕ) → get_or list i 0 < k

-- a table that marks these offsets and no others
pub record Marks (protected marks : List ℕ) : Type 0 where
  pub is : (x : ℕ) → has (marked marks) x ≡ has protected x

-- the map that a table is: each offset below its length with what stands there
unfoldable pub map_from : ℕ → List ℕ → OffsetMap
map_from at [] = []
map_from at (y ∷ ys) = (at, y) ∷ map_from (suc at) ys

unfoldable pub map_in : List ℕ → OffsetMap
map_in table = map_from 0 table

-- the offsets that a table leaves where they are
unfoldable pub fixed_in : List ℕ → List ℕ
fixed_in table = offsets_where (λ x y. eqb y x) 0 table

-- the starts and the end of some code, each at its own place, and 0 elsewhere; the end is answered
pub record Bounds (s : Sheet) (code table : List ℕ) (r : ℕ) : Type 0 where
  pub end : r ≡ end_from 0 (decode s code)
  pub moved : (x : ℕ) → get_or table x 0 ≡ moved_to (identity s code) x
  pub slots : length code < length table
  pub within : r ≤ length code

-- ---- the code between passes

abbrev pub pipeline : List ℕ → List ℕ → List ℕ → Pipeline
pipeline code protected total = record { bytecode = code; protected = protected; map = map_in total }

-- the three passes of some rules
unfoldable pub passes : Sheet → List Rule → Pipeline → Pipeline
passes s rules p = run s rules 3 (run s rules 2 (run s rules 1 p))

-- what is lent to a pass beside its rules
pub record Runnable (sheet code protected : List ℕ) : Type 0 where
  pub table : IsTable sheet
  pub few : length code ≤ max_code
  pub small : Small (suc (length code)) protected

-- the slices hold what is left of the code and then 0, the protected offsets and the map so far; the code's length is answered
pub record Ran (p : Pipeline) (code code' protected' total' : List ℕ) (r : ℕ) : Type 0 where
  pub bytes : code' ≡ filled (length code) p.bytecode
  pub end : r ≡ length p.bytecode
  pub within : r ≤ length code
  pub protected : protected' ≡ p.protected
  pub map : map_in total' ≡ p.map
  pub small : Small (suc r) protected'

-- the same in outputs that have room for more: 0 up to their ends
pub record Rewrote (p : Pipeline) (bytes offsets bytes' offsets' total' : List ℕ) (r : ℕ) : Type 0 where
  pub code : bytes' ≡ filled (length bytes) p.bytecode
  pub protected : offsets' ≡ filled (length offsets) p.protected
  pub map : map_in total' ≡ p.map
  pub end : r ≡ length p.bytecode

-- ---- the types of this crate

-- an entry that is kept, or none
abbrev pub remapped_view : std.Option LineEntry → List def.LineEntry
remapped_view None = []
remapped_view (Some e) = entry_view e ∷ []

-- the last kept entry's offset, after one entry more
abbrev pub last_after : std.Option LineEntry → std.Option ℕ → std.Option ℕ
last_after None last = last
last_after (Some e) last = Some e.offset

-- one offset's check, by the offsets that are fine
abbrev pub CheckedOffset : List ℕ → ℕ → Result (Unit {0}) ℕ → Type 0
CheckedOffset fine x (Ok u) = has fine x ≡ true
CheckedOffset fine x (Err y) = (y ≡ x) × (has fine x ≡ false)

-- what the check of a list of offsets comes to
abbrev pub offset_view : Result (Unit {0}) ℕ → Res (Unit {0})
offset_view (Ok u) = ok tt
offset_view (Err x) = refuse bad_code x

-- the offsets of a line list's entries
abbrev pub entry_offsets : List ℕ → List ℕ
entry_offsets lines = map (λ (x : def.LineEntry). x.offset) (entries_of lines)

-- where nothing is bad, every offset has a place in a table of k elements
pub record Checks (result : Res (Unit {0})) (k : ℕ) (list : List ℕ) (r : Result (Unit {0}) ℕ) : Type 0 where
  pub is : offset_view r ≡ result
  pub small : r ≡ Ok tt → Small k list

-- the entries kept from the start of an output of numbers, and 0 up to its end
pub record Remaps (kept : List def.LineEntry) (out out' : List ℕ) (r : ℕ) : Type 0 where
  pub is : out' ≡ filled (length out) (entry_numbers kept)
  pub count : r ≡ length kept

-- ---- called alone

abbrev pub given : List ℕ → List ℕ → List ℕ → Given
given code protected lines = record { code = code; protected = protected; lines = lines }

-- the check of code, protected offsets and line offsets, and the table of boundaries that it leaves
pub record Passed (s : Sheet) (g : Given) (table : List ℕ) (r : Result (Unit {0}) ℕ) : Type 0 where
  pub is : offset_view r ≡ checked s g
  pub end : ℕ
  pub bounds : Bounds s g.code table end
  pub small : r ≡ Ok tt → Small (suc (length g.code)) g.protected

abbrev pub room_of : ℕ → ℕ → ℕ → Room
room_of bytes offsets entries = record { code = bytes; protected = offsets; lines = entries }

abbrev pub room : List ℕ → List ℕ → List ℕ → Room
room bytes offsets entries = room_of (length bytes) (length offsets) (length entries)

-- the answer with what the outputs hold
abbrev pub answer_view : Result code.Rewritten Refused → List ℕ → List ℕ → List ℕ → def-alone.Answer
answer_view (Ok r) bytes offsets entries = record {
  number = 0;
  place = 0;
  code_length = r.bytes;
  protected_count = r.protected;
  entry_count = r.entries;
  code = bytes;
  protected = offsets;
  lines = entries;
}
answer_view (Err e) bytes offsets entries = record {
  number = refusal_number e.refusal;
  place = e.place;
  code_length = 0;
  protected_count = 0;
  entry_count = 0;
  code = bytes;
  protected = offsets;
  lines = entries;
}

-- what is found before the outputs are zeroed, which hold anything where it is a refusal
abbrev pub Gives : Room → Res Rewritten → Result code.Rewritten Refused → List ℕ → List ℕ → List ℕ → Type 0
Gives room x (Ok r) bytes offsets entries = answer_view (Ok r) bytes offsets entries ≡ answer room x
Gives room x (Err e) bytes offsets entries = x ≡ refuse (refusal_number e.refusal) e.place

-- all of it is fixed but 7's place
pub record Finds (room : Room) (sheet rules : List ℕ) (g : Given) (r : Result code.Rewritten Refused) (bytes offsets entries : List ℕ) : Type 0 where
  pub place : ℕ
  pub free : Free sheet place
  pub is : Gives room (rewrite_into place room sheet rules g) r bytes offsets entries

-- outputs that no result is too long for
pub record Roomy (r : Room) : Type 0 where
  pub code : max_code ≤ r.code
  pub protected : max_protected ≤ r.protected
  pub lines : max_lines * entry_size ≤ r.lines

-- what is handed over is within the limits, and the outputs have room for it
pub record Within (g : Given) (r : Room) : Type 0 where
  pub few : length g.code ≤ max_code
  pub code : length g.code ≤ r.code
  pub protected : length g.protected ≤ r.protected
  pub lines : length g.lines / entry_size * entry_size ≤ r.lines

-- 10, 11 and 12, for so many bytes, protected offsets and entries
unfoldable pub limited : ℕ → ℕ → ℕ → Res (Unit {0})
limited code protected entries = do
  demand (leb code max_code) code_full 0
  demand (leb protected max_protected) labels_full 0
  demand (leb entries max_lines) lines_full 0

-- what is left of the call after 10, 11 and 12, and before them
unfoldable pub after_limits : Sheet → List Rule → Given → Res Rewritten
after_limits s rs g = checked s g >> ok (rewritten s rs g)

unfoldable pub after_rules : Sheet → List Rule → Given → Res Rewritten
after_rules s rs g = do
  demand (leb (length g.code) max_code) code_full 0
  demand (leb (length g.protected) max_protected) labels_full 0
  demand (leb (length (entries_of g.lines)) max_lines) lines_full 0
  after_limits s rs g

-- and before the rules are read
unfoldable pub after_sheet : Sheet → List ℕ → Given → Res Rewritten
after_sheet s rules g = do
  rs ← read_rules rules
  after_rules s rs g
