-- The traversal's tables as code holds them.
use Rattle.std.specs.Prelude.{ℕ, ◌+◌, ◌-◌, suc, zero, ◌≤◌, ◌<◌, ◌≡◌, List, [], ◌∷◌, Bool, true, false, not, ◌&&◌, ◌||◌, length, get_or, drop, eqb, ltb}
use Rattle.std.specs.Prelude as std
use Rattle.std.specs.Prelude.{Some, None, IfSome, Result, Ok, Err}
use Rattle.std.proofs.Math.Option.{Option, some, none}
use Rattle.definition.specs.Limits.{max_code}
use Rattle.definition.specs.Field.{has}
use Rattle.definition.specs.Opcode.{Role, traits, role_of, shift, same}
use Rattle.definition.specs.Rewrite.{decode, starts_from}
use Rattle.definition.specs.Claims.{branches}
use Rattle.definition.specs.Sheet.{read_sheet}
use Rattle.definition.specs.Check.{up_to_unlisted, starts, exits, Checks}
use Rattle.definition.specs.View.{refusal_number}
use Rattle.definition.specs.declared.Refusal.{Refusal}
use Rattle.definition.specs.declared.Refused.{Refused}
use Rattle.opcode.specs.View.{effect_view, flow_view, AreTraits}
use Rattle.opcode.specs.Table.{sheet_in, IsTable}
use Rattle.opcode.specs.declared.Effect.{Effect}
use Rattle.opcode.specs.declared.Traits.{Traits}
use Rattle.image_check.specs.Place.{halts, node_at}
use Rattle.image_check.specs.Graph.{Node, Table, blank, meet_at, expand, traverse}
use Rattle.image_check.specs.declared.Trip.{Trip}

-- ---- answers

-- the number of a fault, or 0
abbrev pub fault_of : Result (Unit {0}) Refusal → ℕ
fault_of (Ok x) = 0
fault_of (Err r) = refusal_number r

-- the number of a refusal with its place, or 0
abbrev pub number_of : {A : Type 0} → Result A Refused → ℕ
number_of (Ok x) = 0
number_of (Err e) = refusal_number e.refusal

-- and the place, or 0
abbrev pub place_of : {A : Type 0} → Result A Refused → ℕ
place_of (Ok x) = 0
place_of (Err e) = e.place

-- ---- the table

-- a stack of n places, the last on top
unfoldable pub stack_of : List ℕ → ℕ → List ℕ
stack_of w zero = []
stack_of w (suc n) = get_or w n 0 ∷ stack_of w n

unfoldable pub table_of : Trip → List ℕ → List ℕ → Table
table_of t marks work = record { marks = λ x. get_or marks x 0; work = stack_of work t.count; bad = t.bad }

-- none once a walk went astray
unfoldable pub view : std.Option Trip → List ℕ → List ℕ → Option Table
view None marks work = none
view (Some t) marks work = some (table_of t marks work)

-- places that were not met
abbrev pub blanks : List ℕ → ℕ → ℕ
blanks marks end = blank (λ x. get_or marks x 0) (suc end)

-- the tables have a slot for each place; what waits has room; and no height is above the number of places met, so that none leaves its type
pub record Ready (end : ℕ) (flags marks work : List ℕ) (count : ℕ) : Type 0 where
  pub small : end ≤ max_code
  pub starts : end < length flags
  pub slots : end < length marks
  pub room : end < length work
  pub fits : count + blanks marks end ≤ suc end
  pub low : (q : ℕ) → get_or marks q 0 + blanks marks end ≤ end + 2

-- ---- starts

abbrev pub flagged : List ℕ → ℕ → Bool
flagged flags q = not (eqb (get_or flags q 0) 0)

-- is a place a start or the end?
abbrev pub is_place : List ℕ → ℕ → ℕ → Bool
is_place flags end q = elim (eqb q end) [ true ↦ true | false ↦ elim (ltb end q) [ true ↦ false | false ↦ flagged flags q ] ]

-- the starts before `at` are flagged, and the others are to come
pub record Marking (sheet code flags : List ℕ) (at : ℕ) : Type 0 where
  pub room : length code < length flags
  pub within : at ≤ length code
  pub known : (q : ℕ) → has (starts (sheet_in sheet) code) q ≡ (flagged flags q || has (starts_from at (up_to_unlisted (sheet_in sheet) (decode (sheet_in sheet) (drop at code)))) q)

-- the flags are those of the starts
pub record Image (sheet code flags : List ℕ) : Type 0 where
  pub table : IsTable sheet
  pub small : length code ≤ max_code
  pub room : length code < length flags
  pub known : (q : ℕ) → q < length code → flagged flags q ≡ has (starts (sheet_in sheet) code) q

-- ---- a place is met

-- the node does not matter here
unfoldable pub met_if : Bool → ℕ → ℕ → Table → Option Table
met_if false h q t = none
met_if true h q t = meet_at h t q (some (record { needs = 0; effect = same; exits = []; stops = false })) (t.marks q)

pub record Meets (end : ℕ) (flags marks work : List ℕ) (t : Trip) (h q : ℕ) (marks' work' : List ℕ) (r : std.Option Trip) : Type 0 where
  pub ready : IfSome r (λ u. Ready end flags marks' work' u.count)
  pub fewer : blanks marks' end ≤ blanks marks end
  pub is : view r marks' work' ≡ met_if (is_place flags end q) h q (table_of t marks work)

-- ---- a place is looked at

abbrev pub node_in : List ℕ → List ℕ → ℕ → Option Node
node_in sheet code p = node_at (sheet_in sheet) code (starts (sheet_in sheet) code) p

-- the traits of what stands at a start, as code has them
pub record TraitsAt (sheet code : List ℕ) (p : ℕ) (r : Traits) : Type 0 where
  pub role : Role
  pub known : role_of (sheet_in sheet) (get_or code p 0) ≡ some role
  pub are : AreTraits (traits role) r

-- the node at a place, by its traits as code has them
pub record Looks (sheet code : List ℕ) (p : ℕ) (r : Traits) : Type 0 where
  pub nd : Node
  pub is : node_in sheet code p ≡ some nd
  pub needed : r.needs ≡ nd.needs
  pub shifts : effect_view r.effect ≡ nd.effect
  pub leads : nd.exits ≡ exits (flow_view r.flow) code (p + r.size)
  pub stopped : halts (flow_view r.flow) ≡ nd.stops
  pub offset : branches (flow_view r.flow) ≡ true → 2 ≤ r.size

abbrev pub wrong_by : ℕ → ℕ → Bool → ℕ → Bool
wrong_by depth needs stops g = ltb depth g || (ltb g needs || (stops && ltb 0 g))

abbrev pub behind_by : Bool → Effect → ℕ → ℕ
behind_by w e g = elim w [ true ↦ 0 | false ↦ shift (effect_view e) g ]

pub record Expands (sheet code flags marks work : List ℕ) (t : Trip) (depth p : ℕ) (marks' work' : List ℕ) (r : std.Option Trip) : Type 0 where
  pub ready : IfSome r (λ u. Ready (length code) flags marks' work' u.count)
  pub is : view r marks' work' ≡ expand (node_in sheet code) depth (node_in sheet code p) (get_or marks p 0 - 1) (table_of t marks work)

-- ---- until no place is left

-- what is left to do, over at most n places
unfoldable pub on_from : List ℕ → List ℕ → ℕ → ℕ → Table → Option Table
on_from sheet code depth n x = traverse (node_in sheet code) depth n x.marks x.work x.bad

pub record Going (sheet code flags marks₀ work₀ : List ℕ) (t₀ : Trip) (depth : ℕ) (marks work : List ℕ) (t : Trip) (n : ℕ) : Type 0 where
  pub ready : Ready (length code) flags marks work t.count
  pub more : on_from sheet code depth (suc (length code)) (table_of t₀ marks₀ work₀) ≡ on_from sheet code depth n (table_of t marks work)

unfoldable pub Traverses : List ℕ → List ℕ → List ℕ → List ℕ → Trip → ℕ → List ℕ → List ℕ → std.Option Trip → Type 0
Traverses sheet code marks₀ work₀ t₀ depth marks work r = view r marks work ≡ on_from sheet code depth (suc (length code)) (table_of t₀ marks₀ work₀)

-- ---- what stands before the check

-- the table is the sheet's, and the code is within its limit
pub record Admitted (sheet code table : List ℕ) : Type 0 where
  pub ready : IsTable table
  pub read : read_sheet sheet ≡ some (sheet_in table)
  pub small : length code ≤ max_code

-- else it is refused, whatever the depth
abbrev pub Rejects : List ℕ → List ℕ → Refused → Type 0
Rejects sheet code e = (depth : ℕ) → Checks sheet code depth (refusal_number e.refusal) e.place
