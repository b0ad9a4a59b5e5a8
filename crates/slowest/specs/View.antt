-- The table of counts as code holds it, and how the longest run goes on by it.
use Rattle.std.specs.Prelude.{ℕ, ◌+◌, suc, ◌≤◌, ◌<◌, ◌≡◌, List, [], ◌∷◌, ◌++◌, Bool, true, false, ltb, leb, length, get_or, take}
use Rattle.std.specs.Prelude as std
use Rattle.std.specs.Prelude.{Some, None, Result, Ok, Err}
use Rattle.std.proofs.Math.Option.{Option, some, none}
use Rattle.definition.specs.Limits.{max_outcomes}
use Rattle.definition.specs.View.{refusal_number}
use Rattle.definition.specs.declared.Refusal.{Refusal}
use Rattle.definition.specs.declared.Refused.{Refused}
use Rattle.definition.specs.Field.{has}
use Rattle.definition.specs.Opcode.{Role, Sheet, role_of, size, Flow, onward, away, either, stop, flow}
use Rattle.definition.specs.Runs.{target}
use Rattle.definition.specs.Check.{starts, Answers}
use Rattle.definition.specs.Slowest.{is_back, Loops, Slowest, outcome_bytes, Answer, Measures}
use Rattle.store.specs.Fill.{zeroed_from}
use Rattle.opcode.specs.Table.{sheet_in}
use Rattle.slowest.specs.Longest.{longest}
use Rattle.slowest.specs.declared.Way.{Way}
use Rattle.slowest.specs.declared.Way.TheVariants.{Back, Ends, Onwards, Falls, Jumps}
use Rattle.slowest.specs.declared.Measured.{Measured}
use Rattle.slowest.specs.declared.Measured.TheVariants as measured

-- ---- how a run goes on

-- by a table for the places up to the end; none is run past it
abbrev pub count_in : List ℕ → ℕ → ℕ → ℕ
count_in counts end q = elim (ltb end q) [ true ↦ 0 | false ↦ get_or counts q 0 ]

-- to a target q from p, if it leads forward
unfoldable pub ahead : ℕ → ℕ → Way → Way
ahead p q way = elim (leb q p) [ true ↦ Back | false ↦ way ]

unfoldable pub longer : (ℕ → ℕ) → ℕ → ℕ → Way
longer f next q = elim (leb (f q) (f next)) [ true ↦ Falls next | false ↦ Jumps q ]

unfoldable pub place_or : ℕ → Option ℕ → ℕ
place_or other none = other
place_or other (some q) = q

-- a target below 0 leads back as place 0 does
unfoldable pub way_by : Flow → List ℕ → ℕ → ℕ → (ℕ → ℕ) → Way
way_by onward code p next f = Onwards next
way_by away code p next f = ahead p (place_or 0 (target code next)) (Onwards (place_or 0 (target code next)))
way_by either code p next f = ahead p (place_or 0 (target code next)) (longer f next (place_or 0 (target code next)))
way_by stop code p next f = Ends 1

unfoldable pub way_role : Option Role → List ℕ → ℕ → (ℕ → ℕ) → Way
way_role none code p f = Ends 0
way_role (some r) code p f = way_by (flow r) code p (p + size r) f

unfoldable pub way_at : Sheet → List ℕ → List ℕ → ℕ → Way
way_at s code counts p = elim (has (starts s code) p) [ true ↦ way_role (role_of s (get_or code p 0)) code p (count_in counts (length code)) | false ↦ Ends 0 ]

-- ---- what is read off a way

abbrev pub is_back_way : Way → Bool
is_back_way Back = true
is_back_way (Ends n) = false
is_back_way (Onwards q) = false
is_back_way (Falls q) = false
is_back_way (Jumps q) = false

abbrev pub is_last_way : Way → Bool
is_last_way Back = true
is_last_way (Ends n) = true
is_last_way (Onwards q) = false
is_last_way (Falls q) = false
is_last_way (Jumps q) = false

abbrev pub way_place : Way → ℕ → ℕ
way_place Back p = p
way_place (Ends n) p = p
way_place (Onwards q) p = q
way_place (Falls q) p = q
way_place (Jumps q) p = q

-- where it goes on, if it does
abbrev pub way_next : Way → std.Option ℕ
way_next Back = None
way_next (Ends n) = None
way_next (Onwards q) = Some q
way_next (Falls q) = Some q
way_next (Jumps q) = Some q

abbrev pub last_count : Way → ℕ
last_count Back = 0
last_count (Ends n) = n
last_count (Onwards q) = 0
last_count (Falls q) = 0
last_count (Jumps q) = 0

-- instructions of the longest run that goes on so
abbrev pub way_count : (ℕ → ℕ) → Way → ℕ
way_count f w = elim (is_last_way w) [ true ↦ last_count w | false ↦ suc (f (way_place w 0)) ]

abbrev pub way_outcomes : Way → List Bool
way_outcomes Back = []
way_outcomes (Ends n) = []
way_outcomes (Onwards q) = []
way_outcomes (Falls q) = false ∷ []
way_outcomes (Jumps q) = true ∷ []

abbrev pub way_bytes : Way → List ℕ
way_bytes w = outcome_bytes (way_outcomes w)

-- ---- the sweep

-- no branch leads back, and the table holds the longest runs' counts
pub record Counted (sheet code counts : List ℕ) : Type 0 where
  pub room : length code < length counts
  pub straight : Loops (sheet_in sheet) code → ⊥
  pub exact : (q : ℕ) → q ≤ length code → get_or counts q 0 ≡ (longest (sheet_in sheet) code q).count

-- the places from p on are done; none of their branches leads back, and if no other does their counts are right
pub record Sweeping (sheet code counts : List ℕ) (p : ℕ) : Type 0 where
  pub room : length code < length counts
  pub within : p ≤ length code
  pub forward : (q : ℕ) → p ≤ q → has (starts (sheet_in sheet) code) q ≡ true → is_back (sheet_in sheet) code q ≡ true → ⊥
  pub low : (q : ℕ) → p ≤ q → q ≤ length code → get_or counts q 0 + q ≤ length code
  pub counted : (Loops (sheet_in sheet) code → ⊥) → (q : ℕ) → p ≤ q → q ≤ length code → get_or counts q 0 ≡ (longest (sheet_in sheet) code q).count

unfoldable pub Sweeps : List ℕ → List ℕ → List ℕ → Bool → Type 0
Sweeps sheet code counts true = Loops (sheet_in sheet) code
Sweeps sheet code counts false = Counted sheet code counts

-- ---- the run followed

-- the front of the output are these outcomes
pub record Fronted (outcomes : List ℕ) (n : ℕ) (os : List Bool) : Type 0 where
  pub front : take n outcomes ≡ outcome_bytes os
  pub many : n ≡ length os

-- the longest run is done up to p
pub record Following (sheet code outcomes : List ℕ) (n p : ℕ) : Type 0 where
  pub room : max_outcomes ≤ length outcomes
  pub done : List Bool
  pub fronted : Fronted outcomes n done
  pub is : (longest (sheet_in sheet) code 0).outcomes ≡ done ++ (longest (sheet_in sheet) code p).outcomes

abbrev pub Follows : List ℕ → List ℕ → List ℕ → ℕ → Type 0
Follows sheet code outcomes n = Fronted outcomes n (longest (sheet_in sheet) code 0).outcomes

-- ---- the answer

-- what is worked out for code with a sheet's table, and the front of the output
pub data Works (sheet code : List ℕ) (depth : ℕ) (outcomes : List ℕ) : Result Measured Refusal → Type 0 where
  refuses : {r : Refusal} → Answers (sheet_in sheet) code depth (refusal_number r) → Works sheet code depth outcomes (Err r)
  loops : Answers (sheet_in sheet) code depth 0 → Loops (sheet_in sheet) code → Works sheet code depth outcomes (Ok measured.Loops)
  measures : {count n : ℕ} {os : List Bool} → Answers (sheet_in sheet) code depth 0 → (Loops (sheet_in sheet) code → ⊥) → Slowest (sheet_in sheet) code count os → length os ≤ max_outcomes → Fronted outcomes n os
      → Works sheet code depth outcomes (Ok (measured.Run count n))

-- the outcomes that are given
abbrev pub used : Result Measured Refused → ℕ
used (Err e) = 0
used (Ok measured.Loops) = 0
used (Ok (measured.Run count n)) = n

-- the answer, with all that the output holds
abbrev pub answer_view : Result Measured Refused → List ℕ → Answer
answer_view (Err e) outcomes = record { number = refusal_number e.refusal; place = e.place; loops = 0; instruction_count = 0; outcome_count = 0; outcomes = outcomes }
answer_view (Ok measured.Loops) outcomes = record { number = 0; place = 0; loops = 1; instruction_count = 0; outcome_count = 0; outcomes = outcomes }
answer_view (Ok (measured.Run count n)) outcomes = record { number = 0; place = 0; loops = 0; instruction_count = count; outcome_count = n; outcomes = outcomes }

-- it is the answer once the output is zeroed behind the outcomes
abbrev pub Fronts : List ℕ → List ℕ → ℕ → List ℕ → Result Measured Refused → Type 0
Fronts sheet code depth outcomes r = Measures (length outcomes) sheet code depth (answer_view r (zeroed_from (used r) outcomes))
