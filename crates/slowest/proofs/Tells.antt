-- Small images with their slowest calls, as entries of one list that is computed. Each tells a wrong reading of document 02's L12 from the right one.
use Prim.Native.Nat.{ℕ, ◌≤◌, ◌<◌}
use mathlib.Core.Path.{◌≡◌, refl, subst}
use mathlib.Core.List.{List, [], ◌∷◌, map}
use mathlib.Core.Bool.{Bool, true, false}
use mathlib.Core.Option.{Option, some, none}
use lib.Dec.{leb}
use lib.ListN.{length}
use borrow.Author.Tests.{leb-true}
use native.Mathlib.Omega.{arith}
use Rattle.definition.specs.Limits.{max_code, max_outcomes, bad_sheet, astray, bad_height, output_short}
use Rattle.definition.specs.Opcode.{Sheet}
use Rattle.definition.specs.Sheet.{read_sheet}
use Rattle.definition.specs.Claims.{Each, empty, ◌also◌}
use Rattle.definition.specs.Slowest.{refused, Measures, refuses_room, refuses}
use Rattle.definition.specs.Cases.{bytes, plain_sheet}
use Rattle.field.proofs.Results.{never, some_is}
use Rattle.image_check.proofs.Tells.{open-Traversal, sheet-first}
use Rattle.slowest.specs.Longest.{open-Longest}
use Rattle.slowest.proofs.Answered.{any_back, Said, refusal, back, slow, answer_of, said_by, said, answered}

-- what is said of code within its limit
unfoldable pub said_of : Option Sheet → List ℕ → ℕ → Option Said
said_of none code depth = none
said_of (some s) code depth = elim (leb (length code) max_code) [ true ↦ some (said s code depth) | false ↦ none ]

pub measures-by : (room : ℕ) (sheet code : List ℕ) (depth : ℕ) (x : Said) → max_outcomes ≤ room → said_of (read_sheet sheet) code depth ≡ some x → Measures room sheet code depth (answer_of room x)
unfolding said_of
measures-by room sheet code depth x lent = by (read_sheet sheet) refl
  where
    small : (s : Sheet) → read_sheet sheet ≡ some s → (b : Bool) → leb (length code) max_code ≡ b → elim b [ true ↦ some (said s code depth) | false ↦ none ] ≡ some x → Measures room sheet code depth (answer_of room x)
    small s e true k q = subst (λ y. Measures room sheet code depth (answer_of room y)) (some_is q) (answered room sheet code depth s lent e (leb-true _ _ k))
    small s e false k q = never (cc)

    by : (y : Option Sheet) → read_sheet sheet ≡ y → said_of y code depth ≡ some x → Measures room sheet code depth (answer_of room x)
    by none e q = never (cc)
    by (some s) e q = small s e (leb (length code) max_code) refl q

pub record Tell : Type 0 where
  pub code : List ℕ
  pub depth : ℕ
  pub said : Said

abbrev pub tell : Said → ℕ → List ℕ → Tell
tell said depth code = record { code = code; depth = depth; said = said }

abbrev by : ℕ → List Bool → Said
by count outcomes = slow (record { count = count; outcomes = outcomes })

unfoldable pub tells : List Tell
tells =
    tell (by 0 []) 0 []
    -- a RET counts, and what lies behind it is not run, wherever it leads
    ∷ tell (by 1 []) 0 (0x1B ∷ [])
    ∷ tell (by 1 []) 0 (0x1B ∷ 0x18 ∷ 0x50 ∷ 0x00 ∷ [])
    -- a JMP counts too, and asks for no outcome
    ∷ tell (by 2 []) 0 (0x18 ∷ 0x01 ∷ 0x00 ∷ 0x1B ∷ 0x1B ∷ [])
    -- a branch to the byte behind it: at a tie it falls through
    ∷ tell (by 2 (false ∷ [])) 1 (0x06 ∷ 0x19 ∷ 0x00 ∷ 0x00 ∷ [])
    -- the jump is longer
    ∷ tell (by 5 (true ∷ [])) 1 (0x06 ∷ 0x19 ∷ 0x01 ∷ 0x00 ∷ 0x1B ∷ 0x06 ∷ 0x02 ∷ 0x1B ∷ [])
    -- a tie, and behind it a longer jump
    ∷ tell (by 7 (false ∷ true ∷ [])) 1 (0x06 ∷ 0x19 ∷ 0x00 ∷ 0x00 ∷ 0x06 ∷ 0x19 ∷ 0x01 ∷ 0x00 ∷ 0x1B ∷ 0x06 ∷ 0x02 ∷ 0x1B ∷ [])
    -- equal runs that end at two RETs
    ∷ tell (by 3 (false ∷ [])) 1 (0x06 ∷ 0x19 ∷ 0x04 ∷ 0x00 ∷ 0x1B ∷ 0x18 ∷ 0x01 ∷ 0x00 ∷ 0x1B ∷ [])
    -- case e
    ∷ tell (by 3 (false ∷ [])) 1 (0x1A ∷ 0x04 ∷ 0x00 ∷ 0x00 ∷ 0x00 ∷ 0x00 ∷ 0x06 ∷ 0x00 ∷ 0x05 ∷ 0x01 ∷ 0x00 ∷ 0x04 ∷ 0x01 ∷ 0x00 ∷ [])
    -- a branch to its own start or before it, reached or not; below 0, and to itself
    ∷ tell back 0 (0x1B ∷ 0x18 ∷ 0xFD ∷ 0xFF ∷ [])
    ∷ tell back 0 (0x1B ∷ 0x18 ∷ 0xFC ∷ 0xFF ∷ [])
    ∷ tell back 0 (0x18 ∷ 0xFD ∷ 0xFF ∷ [])
    ∷ tell back 0 (0x1B ∷ 0x18 ∷ 0x00 ∷ 0x80 ∷ [])
    -- into itself is forward; what lies behind a stop of decoding is not held
    ∷ tell (by 1 []) 0 (0x1B ∷ 0x18 ∷ 0xFE ∷ 0xFF ∷ [])
    ∷ tell (by 1 []) 0 (0x1B ∷ 0xFF ∷ 0x18 ∷ 0xFD ∷ 0xFF ∷ [])
    -- the refusals of the check come before 'loops'
    ∷ tell (refusal astray) 0 (0x18 ∷ 0xFC ∷ 0xFF ∷ [])
    ∷ tell (refusal bad_height) 9 (0x06 ∷ 0x18 ∷ 0xFC ∷ 0xFF ∷ [])
    ∷ tell (refusal bad_height) 0 (0x06 ∷ 0x02 ∷ [])
    ∷ []

abbrev answers_of : List Tell → List (Option Said)
answers_of ts = map (λ (t : Tell). said_of (read_sheet plain_sheet) t.code t.depth) ts

abbrev pub IsMeasured : Tell → Type 0
IsMeasured t = (room : ℕ) → max_outcomes ≤ room → Measures room plain_sheet t.code t.depth (answer_of room t.said)

all-measure : (ts : List Tell) → answers_of ts ≡ map (λ (t : Tell). some t.said) ts → Each IsMeasured ts
all-measure [] e = empty
all-measure (t ∷ ts) e = (λ room lent. measures-by room plain_sheet t.code t.depth t.said lent (cc)) also all-measure ts (cc)

-- `unfolding open-Said` names all that is said by
unfoldable pub open-Said : Unit {0}
unfolding open-Traversal open-Longest any_back said_by said said_of
open-Said = tt

tells-said : answers_of tells ≡ map (λ (t : Tell). some t.said) tells
unfolding open-Said tells
tells-said = refl

pub tells-measure : Each IsMeasured tells
tells-measure = all-measure tells tells-said

-- little room is told before a bad sheet, and a bad sheet before anything of the code
pub room-first : (room : ℕ) → room < max_outcomes → Measures room (bytes "1\n") (0x02 ∷ 0xFF ∷ []) 0 (refused room output_short 0)
room-first room l = refuses_room l

pub sheet-second : (room : ℕ) → max_outcomes ≤ room → Measures room (bytes "1\n") (0x02 ∷ 0xFF ∷ []) 0 (refused room bad_sheet 0)
sheet-second room l = refuses l sheet-first (λ e. omega arith)
