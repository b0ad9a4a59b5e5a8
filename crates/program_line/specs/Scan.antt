-- The fields behind a line's letter, as they are read one by one.
use Rattle.std.specs.Prelude.{ℕ, ◌+◌, ◌≤◌, ◌<◌, ◌≡◌, ◌⊎◌, List, [], ◌∷◌, ◌++◌, Bool, true, false, eqb, length, Result, Ok, Err}
use Rattle.definition.specs.Field as def
use Rattle.definition.specs.Field.{comma, Field, Read, malformed, outside, Numbers, wrong, far, are, numbers}
use Rattle.definition.specs.Tree.{pos_numbers}
use Rattle.definition.specs.Program.{Line, pos_fields, by_letter, header_forms, stmt_forms, expr_forms, arm_forms, label_forms, placed, form}
use Rattle.definition.specs.declared.Refusal.{Refusal}
use Rattle.definition.specs.declared.Refusal.TheVariants.{BadForm, BadRange, TooDeep, WrongLines}
use Rattle.field.specs.View.{line_fields, line_end}
use Rattle.line_map.specs.declared.Pos.{Pos}
use Rattle.line_map.specs.View.{pos_view}
use Rattle.program_line.specs.declared.Next.{Next}
use Rattle.program_line.specs.declared.Verdict.{Verdict}
use Rattle.program_line.specs.declared.Verdict.TheVariants.{Good, Far, Wrong}
use Rattle.program_line.specs.declared.Place.{Place}
use Rattle.program_line.specs.declared.Place.TheVariants as place
use Rattle.program_line.specs.declared.Scan.{Scan}
use Rattle.program_line.specs.View.{line_of}

-- the fields from a place on
abbrev pub rest_from : List ℕ → Place → List (List ℕ)
rest_from text (place.Field at) = line_fields text at
rest_from text (place.End at) = []

abbrev pub rest : Scan → List (List ℕ)
rest s = rest_from s.text.now s.place

-- where their line ends
abbrev pub end_from : List ℕ → Place → ℕ
end_from text (place.Field at) = line_end text at
end_from text (place.End at) = at

abbrev pub ending : Scan → ℕ
ending s = end_from s.text.now s.place

unfoldable pub behind_if : Bool → ℕ → Place
behind_if true end = place.Field (end + 1)
behind_if false end = place.End end

-- the place behind the field that ends at `end`, at this byte
abbrev pub behind : ℕ → ℕ → Place
behind end stop = behind_if (eqb stop comma) end

-- 2 wins over 3
unfoldable pub farther : Verdict → Verdict
farther Good = Far
farther Far = Far
farther Wrong = Wrong

unfoldable pub worse : Verdict → Read → Verdict
worse f malformed = Wrong
worse f outside = farther f
worse f (def.is n) = f

unfoldable pub number_in : Read → ℕ
number_in malformed = 0
number_in outside = 0
number_in (def.is n) = n

-- the numbers that follow, after fields that stand so
unfoldable pub held : Verdict → Numbers → Numbers
held Good x = x
held Far wrong = wrong
held Far far = far
held Far (are ns) = far
held Wrong x = wrong

-- one number more in front
unfoldable pub push : ℕ → Numbers → Numbers
push n wrong = wrong
push n far = far
push n (are ns) = are (n ∷ ns)

unfoldable pub push_all : List ℕ → Numbers → Numbers
push_all [] x = x
push_all (n ∷ ns) x = push n (push_all ns x)

-- the numbers from a place on, by their fields
abbrev pub left : List Field → Scan → Numbers
left fs s = held s.verdict (numbers fs (rest s))

-- a bound of what a field that has no sign may hold
abbrev pub Bounded : Field → ℕ → Type 0
Bounded (def.up_to m) n = n ≤ m
Bounded (def.below m) n = n ≤ m
Bounded (def.value w) n = Unit {0}

-- one field was read: a number, and the place behind it
pub record Took (f : Field) (s : Scan) (n : ℕ) (t : Scan) : Type 0 where
  pub is : (fs : List Field) → left (f ∷ fs) s ≡ push n (left fs t)
  pub bound : Bounded f n
  pub line : ending s ≡ ending t

-- a position's fields were read
pub record TookPos (s : Scan) (p : Pos) (t : Scan) : Type 0 where
  pub is : (fs : List Field) → left (pos_fields ++ fs) s ≡ push_all (pos_numbers (pos_view p)) (left fs t)
  pub line : ending s ≡ ending t

-- the place behind the letter
abbrev pub Fresh : Scan → Type 0
Fresh s = s.verdict ≡ Good

-- what a line's fields make if they end here, or its refusal
unfoldable pub finished_by : {T : Type 0} → Place → Verdict → T → Result (Next T) Refusal
finished_by (place.Field at) f l = Err BadForm
finished_by (place.End at) Good l = Ok (record { line = l; end = at })
finished_by (place.End at) Far l = Err BadRange
finished_by (place.End at) Wrong l = Err BadForm

abbrev pub finished : {T : Type 0} → Scan → T → Result (Next T) Refusal
finished s l = finished_by s.place s.verdict l

-- ---- what is found

-- the line x, which ends at `stop` unless it is at fault
abbrev pub EndsAt : {T : Type 0} → Result (Next T) Refusal → ℕ → Type 0
EndsAt (Ok n) stop = n.end ≡ stop
EndsAt (Err e) stop = Unit {0}

pub record Found {T L : Type 0} (view : T → L) (r : Result (Next T) Refusal) (x : Line L) (stop : ℕ) : Type 0 where
  pub is : line_of view r ≡ x
  pub ends : EndsAt r stop

-- field 0 is the letter b, and s the place behind it
pub record Opened (text : List ℕ) (at b : ℕ) (s : Scan) : Type 0 where
  pub is : line_fields text at ≡ (b ∷ []) ∷ rest s
  pub fresh : Fresh s
  pub line : line_end text at ≡ ending s

abbrev pub Letterless : List (List ℕ) → Type 0
Letterless [] = Unit {0}
Letterless ([] ∷ fs) = Unit {0}
Letterless ((b ∷ []) ∷ fs) = ⊥
Letterless ((b ∷ c ∷ bs) ∷ fs) = Unit {0}

-- the answer for a line with so many nesting levels left: 6, 5, and then what `by` makes of its letter
pub record Fetched {T : Type 0} (by : ℕ → Scan → Result (Next T) Refusal → Type 0) (depth : ℕ) (text : List ℕ) (at : ℕ) (r : Result (Next T) Refusal) : Type 0 where
  pub missing : length text ≤ at → r ≡ Err WrongLines
  pub deep : at < length text → depth ≡ 0 → r ≡ Err TooDeep
  pub there : at < length text → (depth ≡ 0 → ⊥) → (Letterless (line_fields text at) × (r ≡ Err BadForm)) ⊎ ((b : ℕ) × (s : Scan) × Opened text at b s × by b s r)

-- `unfolding open_Scan` names the definitions that code mirrors
unfoldable pub open_Scan : Unit {0}
unfolding behind_if farther worse finished_by
open_Scan = tt

-- the same of the definition's letters
unfoldable pub open_forms : Unit {0}
unfolding by_letter header_forms stmt_forms expr_forms arm_forms label_forms placed form
open_forms = tt
