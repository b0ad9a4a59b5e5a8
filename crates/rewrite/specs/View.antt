-- What this crate's functions give, said of the definition: the first instruction of some bytes, and what is left of a pass at a place.
use Rattle.std.specs.Prelude.{ℕ, ◌+◌, ◌≤◌, ◌<◌, suc, ◌≡◌, Bool, true, false, not, List, [], ◌∷◌, ◌++◌, eqb, length, get_or, take, drop}
use Rattle.std.specs.Prelude as std
use Rattle.std.specs.Prelude.{Some, None}
use Rattle.std.specs.Option.{option_map}
use Rattle.std.specs.Borrow.{Bor}
use Rattle.std.proofs.Math.Option.{Option, some, none}
use Rattle.definition.specs.Limits.{max_code}
use Rattle.definition.specs.Opcode.{Sheet}
use Rattle.definition.specs.Rules.{Action, keep, remove, rewrite_operand, matches}
use Rattle.definition.specs.Rewrite.{Bytes, Matcher, OffsetMap, decode, actions, moved_to}
use Rattle.definition.specs.Lent.{filled}
use Rattle.field.specs.View.{option_of}
use Rattle.opcode.specs.Table.{IsTable}
use Rattle.rules.specs.View.{action_view, rules_in, Inside, pair_at}
use Rattle.rules.specs.declared.Action as code
use Rattle.rules.specs.declared.Matcher as lent
use Rattle.rewrite.specs.declared.Plan.{Plan}

-- the first of some instructions; no bytes where there is none
unfoldable pub first_of : List Bytes → Bytes
first_of [] = []
first_of (i ∷ is) = i

-- the bytes of an instruction that code may have; none where there is none
abbrev pub part_of : std.Option (Bor Bytes) → Bytes
part_of None = []
part_of (Some i) = i.now

-- the offsets, from `at` on, whose number in a table passes a test
unfoldable pub offsets_where : (ℕ → ℕ → Bool) → ℕ → List ℕ → List ℕ
offsets_where test at [] = []
offsets_where test at (n ∷ ns) = elim (test at n) [ true ↦ at ∷ offsets_where test (suc at) ns | false ↦ offsets_where test (suc at) ns ]

-- a mark is any number but 0
unfoldable pub is_mark : ℕ → Bool
is_mark n = not (eqb n 0)

-- the offsets that a table of marks marks
unfoldable pub marked : List ℕ → List ℕ
marked ms = offsets_where (λ x m. is_mark m) 0 ms

-- the actions from `at` on, where the first of them may be known: the second of a pair that matched
unfoldable pub actions_after : Sheet → Matcher → List ℕ → Option Action → ℕ → List Bytes → List Action
actions_after s matches protected none at is = actions s matches protected at is
actions_after s matches protected (some x) at [] = []
actions_after s matches protected (some x) at (i ∷ is) = x ∷ actions s matches protected (at + length i) is

-- only an instruction of three bytes has its operand rewritten, so that nothing grows
unfoldable pub Fitting : Action → ℕ → Type 0
Fitting keep z = Unit {0}
Fitting remove z = Unit {0}
Fitting (rewrite_operand n) z = z ≡ 3

unfoldable pub FittingNext : Option Action → Bytes → Type 0
FittingNext none i = Unit {0}
FittingNext (some x) i = Fitting x (length i)

-- what a pass asks of two neighbours, in a table of rules
abbrev pub matcher : List ℕ → ℕ → ℕ → Matcher
matcher table count pass = λ a b. matches pass (rules_in table count) a b

-- the same in code
abbrev pub matches_in : lent.Matcher → Matcher
matches_in m = matcher m.rules.table.now m.rules.count m.pass

-- the pair of actions that was asked for is that of a rule of the table
pub record Looked (table : List ℕ) (count : ℕ) (result : Option (Action × Action)) (r : std.Option ℕ) : Type 0 where
  pub is : pair_at table r ≡ result
  pub inside : Inside count r

-- what is known of the next instruction's action
abbrev pub next_view : std.Option code.Action → Option Action
next_view o = option_of (option_map action_view o)

-- the plan that keeps an instruction and knows nothing of the next
pub record Kept (z : ℕ) (r : Plan) : Type 0 where
  pub size : r.size ≡ z
  pub action : action_view r.action ≡ keep
  pub next : next_view r.next ≡ none

-- what is lent to a pass beside its rules: the table of a sheet, a mark for each offset, and code within its limit
pub record Ready (sheet marks code : List ℕ) : Type 0 where
  pub table : IsTable sheet
  pub slots : length code < length marks
  pub small : length code ≤ max_code

-- elements of a table by offset: one for each offset of the longest code, its end among them
abbrev pub slot_count : ℕ
slot_count = max_code + 1

-- the longest code that has small tables, and the elements of one by offset
abbrev pub small_code : ℕ
small_code = 1024

abbrev pub small_slots : ℕ
small_slots = small_code + 1

-- the same of middle tables
abbrev pub middle_code : ℕ
middle_code = 16384

abbrev pub middle_slots : ℕ
middle_slots = middle_code + 1

-- a table by offset with nothing in it, and an element for each offset of code of n bytes, its end among them
pub record Clear (n : ℕ) (table : List ℕ) : Type 0 where
  pub slots : n < length table
  pub none : (x : ℕ) → get_or table x 0 ≡ 0

-- what is decided for the instruction at a place: its size, its action, and what is then known of the next one's
pub record Planned (s : Sheet) (matches : Matcher) (protected code : List ℕ) (at : ℕ) (next : Option Action) (size : ℕ) (x : Action) (then : Option Action) : Type 0 where
  pub long : size ≡ length (first_of (decode s (drop at code)))
  pub full : 1 ≤ size
  pub acts : actions_after s matches protected next at (decode s (drop at code))
      ≡ x ∷ actions_after s matches protected then (at + size) (decode s (drop (at + size) code))
  pub fits : Fitting x size
  pub later : FittingNext then (first_of (decode s (drop (at + size) code)))

-- the plan for a place, if an instruction can be decoded there
abbrev pub Decided : Sheet → Matcher → List ℕ → List ℕ → ℕ → Option Action → std.Option Plan → Type 0
Decided s matches protected code at next None = first_of (decode s (drop at code)) ≡ []
Decided s matches protected code at next (Some p) = Planned s matches protected code at next p.size (action_view p.action) (next_view p.next)

-- bytes put over others from a place on
unfoldable pub put : List ℕ → ℕ → List ℕ → List ℕ
put code to bytes = take to code ++ bytes ++ drop (to + length bytes) code

pub record Puts (bytes code code' : List ℕ) (to r : ℕ) : Type 0 where
  pub is : code' ≡ put code to bytes
  pub end : r ≡ to + length bytes

-- one pass over a whole slice: the rewritten code from its start and 0 up to its end, and the map by old offset, which is 0 where no
-- instruction starts or ends
pub record Peephole (result : List ℕ × OffsetMap) (code code' map' : List ℕ) (r : ℕ) : Type 0 where
  pub is : code' ≡ filled (length code) result.0
  pub end : r ≡ length result.0
  pub moved : (x : ℕ) → get_or map' x 0 ≡ moved_to result.1 x
  pub small : (x : ℕ) → get_or map' x 0 ≤ r
  pub within : r ≤ length code
