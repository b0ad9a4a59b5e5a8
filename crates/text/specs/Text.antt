-- Parts of the printed lines that the definition does not name, and how long a text of the passes program and a listing can be.
use Rattle.std.specs.Prelude.{ℕ, ◌+◌, ◌*◌, ◌≤◌, ◌≡◌, List, [], ◌∷◌, ◌++◌, length}
use Prim.Native.Char.{code}
use Rattle.std.proofs.Math.Option.{Option, some, none}
use Rattle.definition.specs.Limits.{max_code, max_constants, max_protected, max_lines, entry_size, width}
use Rattle.definition.specs.Field.{comma, lf}
use Rattle.definition.specs.Opcode.{Sheet}
use Rattle.definition.specs.Iec.{signed_of}
use Rattle.definition.specs.Rewrite.{Bytes, decode}
use Rattle.definition.specs.Lent.{filled}
use Rattle.definition.specs.Compile.{Free}
use Rattle.store.specs.Store.{Store, at}
use Rattle.text.specs.declared.Text.{Text}
use Rattle.definition.specs.Listing.{decimal, signed_decimal, fields, instruction_lines}

-- an output that is filled from its start
abbrev pub store_of : Text → Store
store_of t = at t.out.now t.used

-- one field behind its comma
abbrev pub field_of : ℕ → List ℕ
field_of n = comma ∷ decimal n

-- a constant's line
abbrev pub constant_line : ℕ → List ℕ
constant_line k = code "k" ∷ comma ∷ signed_decimal (signed_of width k) ++ (lf ∷ [])

-- an instruction's line
abbrev pub instruction_line : ℕ → Bytes → List ℕ
instruction_line at i = code "b" ∷ fields (at ∷ i)

-- the instruction lines of some code by a sheet; none where there is no sheet
unfoldable pub instructions_by : Option Sheet → List ℕ → List ℕ
instructions_by none bytes = []
instructions_by (some s) bytes = instruction_lines 0 (decode s bytes)

-- bytes that hold any text of the passes program
abbrev pub text_room : ℕ
text_room = 33 + max_protected * 8 + max_lines * (2 + entry_size * 6) + max_code * 12

-- bytes that hold any listing: a depth has at most twenty digits, a constant ten and a minus
abbrev pub listing_room : ℕ
listing_room = 41 + max_constants * 14 + max_lines * (2 + entry_size * 6) + max_code * 12

-- an output of so many bytes that holds the text of a result, all of it, and then 0; the text's length is answered. All is fixed but 7's place, which is
-- one at fault in the sheet
pub record Told {A : Type 0} (room : ℕ) (text : A → List ℕ) (sheet : List ℕ) (result : ℕ → A) (out : List ℕ) (r : ℕ) : Type 0 where
  pub place : ℕ
  pub free : Free sheet place
  pub is : out ≡ filled room (text (result place))
  pub end : r ≡ length (text (result place))
  pub fits : r ≤ room

-- `unfolding open-Text` names all of this module's definitions at once
unfoldable pub open-Text : Unit {0}
unfolding instructions_by
open-Text = tt
