-- What this crate's types stand for in the definition, and what its functions answer.
use Rattle.std.specs.Prelude.{Bool, true, false, ◌&&◌, ◌||◌, ◌≡◌, List, [], ◌∷◌, ℕ, zero, suc, ◌+◌, ◌-◌, ◌*◌, ◌^◌, ◌≤◌, min, eqb, leb, ltb, length, get_or, drop}
use Rattle.std.specs.Prelude.{Result, Ok, Err, Some, None}
use Rattle.std.specs.Prelude as code
use Rattle.std.proofs.Math.Option.{Option, some, none}
use Rattle.definition.specs.Field as def
use Rattle.definition.specs.Limits.{width}
use Rattle.field.specs.declared.Kind.{Kind}
use Rattle.field.specs.declared.Kind.TheVariants.{UpTo, Below, Value}
use Rattle.field.specs.declared.Fault.{Fault}
use Rattle.field.specs.declared.Fault.TheVariants.{Malformed, Outside}

abbrev pub kind_of : Kind → def.Field
kind_of (UpTo m) = def.up_to m
kind_of (Below m) = def.below m
kind_of Value = def.value width

abbrev pub read_of : Result ℕ Fault → def.Read
read_of (Ok n) = def.is n
read_of (Err Malformed) = def.malformed
read_of (Err Outside) = def.outside

-- code's option as the definition's, which is another type
abbrev pub option_of : {A : Type 0} → code.Option A → Option A
option_of None = none
option_of (Some x) = some x

-- where the counting of digits stops: above every number of 64 bits with a sign
abbrev pub cap : ℕ
cap = 10000000000000000000

-- a number, as far as it is counted
unfoldable pub capped : Option ℕ → Option ℕ
capped none = none
capped (some n) = some (min n cap)

abbrev pub is_digit : ℕ → Bool
is_digit b = leb def.digit0 b && leb b def.digit9

-- digits after those that make n, counted up to the cap
unfoldable pub count : ℕ → List ℕ → Option ℕ
count n [] = some n
count n (b ∷ bs) = elim (is_digit b) [ true ↦ count (min (n * 10 + (b - def.digit0)) cap) bs | false ↦ none ]

-- the number of so many digits that make n, by the first of them: a zero leads no others
unfoldable pub spelt : ℕ → ℕ → ℕ → Option ℕ
spelt b zero n = none
spelt b (suc zero) n = some n
spelt b (suc (suc k)) n = elim (eqb b def.digit0) [ true ↦ none | false ↦ some n ]

-- does a field's first byte sign it?
unfoldable pub signs : def.Field → ℕ → Bool
signs (def.up_to m) b = false
signs (def.below m) b = false
signs (def.value w) b = eqb b def.minus

-- behind a sign, if there is one
unfoldable pub past : Bool → ℕ → ℕ
past true at = at + 1
past false at = at

-- what a field holds, by its sign and its number
unfoldable pub decided : def.Field → Bool → Option ℕ → def.Read
decided (def.up_to m) s o = def.natural_within (λ n. ltb n (m + 1)) o
decided (def.below m) s o = def.natural_within (λ n. ltb n m) o
decided (def.value w) true o = def.negative w o
decided (def.value w) false o = def.natural_within (λ n. ltb n (2 ^ (w - 1))) o

-- counting up to the cap decides it
abbrev pub Capped : def.Field → Type 0
Capped (def.up_to m) = m + 1 ≤ cap
Capped (def.below m) = m ≤ cap
Capped (def.value w) = suc (2 ^ (w - 1)) ≤ cap

-- the bytes before the first that stops, or all of them
unfoldable pub until : (ℕ → Bool) → List ℕ → List ℕ
until stops [] = []
until stops (b ∷ bs) = elim (stops b) [ true ↦ [] | false ↦ b ∷ until stops bs ]

-- the bytes before the first `sep`
abbrev pub before : ℕ → List ℕ → List ℕ
before sep = until (λ b. eqb b sep)

-- where fields of a text end
abbrev pub separates : ℕ → Bool
separates b = eqb b def.comma || eqb b def.lf

abbrev pub first_field : List ℕ → List ℕ
first_field = until separates

-- r is where the part of `bytes` that starts at `at` ends, `part` giving a part of what is left; within `bytes` if `at` is
pub record Ends (part : List ℕ → List ℕ) (bytes : List ℕ) (at r : ℕ) : Type 0 where
  pub is : r ≡ at + length (part (drop at bytes))
  pub low : at ≤ r
  pub high : r ≤ at + (length bytes - at)

-- an end is looked for from `at` on, and nothing stops before i
pub record Finding (stops : ℕ → Bool) (bytes : List ℕ) (at i : ℕ) : Type 0 where
  pub low : at ≤ i
  pub high : i ≤ at + (length bytes - at)
  pub more : at + length (until stops (drop at bytes)) ≡ i + length (until stops (drop i bytes))

-- no digit stops a part
abbrev pub Passes : (ℕ → Bool) → Type 0
Passes stops = (b : ℕ) → true ≡ is_digit b → false ≡ stops b

-- the bytes of a part from `at` to i are digits that make n
pub record Sums (stops : ℕ → Bool) (text : List ℕ) (at n i : ℕ) : Type 0 where
  pub finding : Finding stops text at i
  pub makes : count 0 (until stops (drop at text)) ≡ count n (until stops (drop i text))

-- the field of a text that starts at `at`: where it ends, and the byte that it ends at
pub record Stops (text : List ℕ) (at end stop : ℕ) : Type 0 where
  pub ends : Ends first_field text at end
  pub byte : stop ≡ get_or text end 0

-- the same, and its number
pub record Counts (text : List ℕ) (at : ℕ) (o : Option ℕ) (end stop : ℕ) : Type 0 where
  pub makes : o ≡ capped (def.natural (first_field (drop at text)))
  pub stops : Stops text at end stop

-- the field of a text that starts at `at`: what it holds, where it ends, and the byte that it ends at
pub record Reads (f : def.Field) (text : List ℕ) (at : ℕ) (read : def.Read) (end stop : ℕ) : Type 0 where
  pub holds : read ≡ def.field f (first_field (drop at text))
  pub ends : Ends first_field text at end
  pub stops : stop ≡ get_or text end 0

-- where the line that `at` lies in ends, and its fields from there on
abbrev pub line_end : List ℕ → ℕ → ℕ
line_end text at = at + length (def.first_line (drop at text))

abbrev pub line_fields : List ℕ → ℕ → List (List ℕ)
line_fields text at = def.split def.comma (def.first_line (drop at text))

-- the byte that field k of a line ends at, whose last field is `last`
unfoldable pub separator : ℕ → ℕ → ℕ
separator k last = elim (ltb k last) [ true ↦ def.comma | false ↦ def.lf ]
