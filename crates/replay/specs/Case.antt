-- Stored answers as bytes: where the parts of a case lie, and what a case counts for.
use Rattle.std.specs.Prelude.{ℕ, ◌+◌, ◌≤◌, ◌<◌, min, zero, suc, ◌≡◌, Option, Bool, true, false, ◌&&◌, List, [], ◌∷◌, ◌++◌, eqb, ltb, length, drop}
use Rattle.std.specs.Fmt.{decimal}
use Rattle.std.specs.Io.KnownBytes.{Consumes, IsAtEnd}
use Rattle.replay.specs.declared.Case.{Case}

-- whether a text begins with these bytes
unfoldable pub begins : List ℕ → List ℕ → Bool
begins [] text = true
begins (p ∷ ps) [] = false
begins (p ∷ ps) (b ∷ bs) = eqb b p && begins ps bs

-- bytes that are read of stored answers at most
abbrev pub input_room : ℕ
input_room = 700000

abbrev pub lf : ℕ
lf = 10

-- the line ====
abbrev pub separator : List ℕ
separator = 61 ∷ 61 ∷ 61 ∷ 61 ∷ lf ∷ []

-- how many bytes stand before the first separator line, or at all; whether the first one starts a line
unfoldable pub part_size : Bool → List ℕ → ℕ
part_size starts [] = 0
part_size starts (b ∷ bs) = elim (starts && begins separator (b ∷ bs)) [ true ↦ 0 | false ↦ suc (part_size (eqb b lf) bs) ]

unfoldable pub part_end : List ℕ → ℕ → ℕ
part_end text from = from + part_size true (drop from text)

-- behind the separator line that stands here, or the end
unfoldable pub behind : List ℕ → ℕ → ℕ
behind text at = min (at + length separator) (length text)

-- the case that starts here: its input up to a separator line, its answer up to the next
unfoldable pub case_at : List ℕ → ℕ → Case
case_at text at =
    let end = part_end text at in
    let answer = behind text end in
    let stop = part_end text answer in
    record { end = end; answer = answer; stop = stop; next = behind text stop }

-- how many cases start from a place on, of which there are at most n
unfoldable pub cases_from : ℕ → List ℕ → ℕ → ℕ
cases_from zero text at = 0
cases_from (suc n) text at = elim (ltb at (length text)) [ true ↦ suc (cases_from n text (case_at text at).next) | false ↦ 0 ]

-- how many cases a text has: each takes a byte or more
unfoldable pub case_count : List ℕ → ℕ
case_count text = cases_from (length text) text 0

-- so many cases has the text that a reader gave, which fits the room, and is all that it had where the room is not full. What is known of a reader's bytes is so
-- before and after; of standard input's nothing is known, so which text it gave is open
pub record Replayed (before after : Option (List ℕ)) (cases : ℕ) : Type 0 where
  pub text : List ℕ
  pub within : length text ≤ input_room
  pub given : Consumes before after text
  pub all : length text < input_room → IsAtEnd after
  pub count : cases ≡ case_count text

-- what a case counts for among those that differ
unfoldable pub missing : Bool → ℕ
missing true = 0
missing false = 1

-- what is printed of a case, and at the end
unfoldable pub missed_line : Bool → ℕ → List ℕ
missed_line true number = []
missed_line false number = decimal number ++ lf ∷ []

abbrev pub total_line : ℕ → ℕ → List ℕ
total_line cases differ = decimal cases ++ 44 ∷ decimal differ ++ lf ∷ []

-- the parts lie in n bytes, from a place on, and the next case lies ahead
pub record Parts (n at : ℕ) (c : Case) : Type 0 where
  pub input : at ≤ c.end
  pub ends : c.end ≤ n
  pub answer : c.answer ≤ c.stop
  pub stops : c.stop ≤ n
  pub ahead : at < c.next
  pub within : c.next ≤ n
