-- Small images with their answers, as entries of one list that is computed: the traversal's verdict, which is the definition's answer. Each tells a wrong reading
-- of document 02 from the right one.
use Prim.Native.Nat.{ℕ}
use mathlib.Core.Path.{◌≡◌, refl, subst}
use mathlib.Core.List.{List, [], ◌∷◌}
use mathlib.Core.Bool.{Bool, true, false, ◌&&◌}
use mathlib.Core.Option.{Option, some, none}
use lib.Dec.{eqb, leb}
use lib.ListN.{length}
use borrow.Author.Tests.{eqb-true, leb-true}
use Rattle.definition.specs.Limits.{max_code, bad_sheet, astray, bad_height}
use Rattle.definition.specs.Opcode.{Sheet}
use Rattle.definition.specs.Sheet.{read_sheet}
use Rattle.definition.specs.Claims.{Each, empty, ◌also◌}
use Rattle.definition.specs.Check.{starts, Checks, refuses_sheet}
use Rattle.definition.specs.Check as check
use Rattle.definition.specs.Cases.{bytes, plain_sheet, open-Definition}
use Rattle.field.proofs.Tests.{and_left, and_right}
use Rattle.field.proofs.Results.{never}
use Rattle.image_check.specs.Graph.{verdict, traversed, open-Graph}
use Rattle.image_check.specs.Place.{node_at, open-Place}
use Rattle.image_check.proofs.Nodes.{answers}

-- the traversal's verdict for code with this sheet
unfoldable pub verdict_of : Sheet → List ℕ → ℕ → ℕ
verdict_of s code depth = verdict (traversed (λ p. node_at s code (starts s code) p) depth (length code))

-- is this number the answer, for code within its limit?
unfoldable pub right_by : Option Sheet → List ℕ → ℕ → ℕ → Bool
right_by none code depth number = false
right_by (some s) code depth number = eqb (verdict_of s code depth) number && leb (length code) max_code

pub checks-by : (sheet code : List ℕ) (depth number : ℕ) → right_by (read_sheet sheet) code depth number ≡ true → Checks sheet code depth number 0
unfolding right_by verdict_of
checks-by sheet code depth number = by (read_sheet sheet) refl
  where
    by : (x : Option Sheet) → read_sheet sheet ≡ x → right_by x code depth number ≡ true → Checks sheet code depth number 0
    by none e r = never (cc)
    by (some s) e r =
        let k = eqb-true (verdict_of s code depth) number (and_left _ _ r) in
        check.answers e (leb-true (length code) max_code (and_right (eqb (verdict_of s code depth) number) _ r)) (subst (λ n. check.Answers s code depth n) k (answers s code depth))

pub record Tell : Type 0 where
  pub code : List ℕ
  pub depth : ℕ
  pub number : ℕ

abbrev pub tell : ℕ → ℕ → List ℕ → Tell
tell number depth code = record { code = code; depth = depth; number = number }

unfoldable pub tells : List Tell
tells =
    tell 0 0 []
    -- what lies behind a stop of decoding is no fault where nobody gets there; the end is a place all the same
    ∷ tell 0 0 (0x1B ∷ 0xFF ∷ [])
    ∷ tell 0 0 (0x18 ∷ 0x01 ∷ 0x00 ∷ 0xFF ∷ [])
    -- 20 is given if both occur
    ∷ tell astray 0 (0x02 ∷ 0xFF ∷ [])
    ∷ tell bad_height 0 (0x02 ∷ [])
    ∷ tell bad_height 1 (0x03 ∷ 0x00 ∷ 0x00 ∷ 0x1B ∷ [])
    -- an unlisted comparison byte, and the last listed one
    ∷ tell astray 0 (0x1A ∷ 0x07 ∷ 0x00 ∷ 0x00 ∷ 0x00 ∷ 0x00 ∷ 0x00 ∷ 0x00 ∷ [])
    ∷ tell 0 0 (0x1A ∷ 0x06 ∷ 0x00 ∷ 0x00 ∷ 0x00 ∷ 0x00 ∷ 0x00 ∷ 0x00 ∷ [])
    -- the depth itself is no fault, and it is not cut to 16 bits
    ∷ tell bad_height 0 (0x06 ∷ 0x02 ∷ [])
    ∷ tell 0 1 (0x06 ∷ 0x02 ∷ [])
    ∷ tell 0 65536 (0x06 ∷ 0x02 ∷ [])
    -- two heights, by one run and by two
    ∷ tell bad_height 9 (0x06 ∷ 0x18 ∷ 0xFC ∷ 0xFF ∷ [])
    ∷ tell bad_height 9 (0x06 ∷ 0x19 ∷ 0x01 ∷ 0x00 ∷ 0x06 ∷ 0x18 ∷ 0xFD ∷ 0xFF ∷ [])
    -- a target inside an instruction, below 0, past the end
    ∷ tell astray 0 (0x18 ∷ 0xFF ∷ 0xFF ∷ [])
    ∷ tell astray 0 (0x18 ∷ 0xFC ∷ 0xFF ∷ [])
    ∷ tell astray 0 (0x18 ∷ 0x01 ∷ 0x00 ∷ [])
    -- a height fault that nobody reaches; an endless run
    ∷ tell 0 0 (0x1B ∷ 0x02 ∷ [])
    ∷ tell 0 0 (0x18 ∷ 0xFD ∷ 0xFF ∷ [])
    ∷ []

unfoldable all_right : List Tell → Bool
all_right [] = true
all_right (t ∷ ts) = right_by (read_sheet plain_sheet) t.code t.depth t.number && all_right ts

all-check : (ts : List Tell) → all_right ts ≡ true → Each (λ t. Checks plain_sheet t.code t.depth t.number 0) ts
unfolding all_right
all-check [] e = empty
all-check (t ∷ ts) e = checks-by plain_sheet t.code t.depth t.number (and_left _ _ e) also all-check ts (and_right (right_by (read_sheet plain_sheet) t.code t.depth t.number) _ e)

-- `unfolding open-Traversal` names all that a verdict is computed by
unfoldable pub open-Traversal : Unit {0}
unfolding open-Definition bytes plain_sheet open-Graph open-Place verdict_of right_by
open-Traversal = tt

tells-right : all_right tells ≡ true
unfolding open-Traversal tells all_right
tells-right = refl

pub tells-check : Each (λ t. Checks plain_sheet t.code t.depth t.number 0) tells
tells-check = all-check tells tells-right

-- a bad sheet is told before anything of the code
pub sheet-first : Checks (bytes "1\n") (0x02 ∷ 0xFF ∷ []) 0 bad_sheet 0
unfolding open-Definition bytes
sheet-first = refuses_sheet refl refl
