-- Images from the old configurator (document 02, L11): which code passes with its declared depth, and which refusal other code has. Relations, and no way to
-- decide them.
use Rattle.std.specs.Prelude.{ℕ, ◌+◌, ◌≤◌, ◌<◌, ◌≡◌, ◌↔◌, List, [], ◌∷◌, Bool, true, false, length, get_or}
use Rattle.std.proofs.Math.Option.{Option, some, none}
use Rattle.definition.specs.Limits.{max_code, bad_sheet, code_full, astray, bad_height}
use Rattle.definition.specs.Field.{has}
use Rattle.definition.specs.Opcode.{Role, cmp_br, Sheet, role_of, size, Flow, onward, away, either, stop, flow}
use Rattle.definition.specs.Sheet.{read_sheet, sheet_fault}
use Rattle.definition.specs.Rules.{has_role}
use Rattle.definition.specs.Rewrite.{Bytes, opcode_of, decode, starts_from}
use Rattle.definition.specs.Runs.{empty_stack, finishes, breaks, Stand, start, target, run_over}
use Rattle.definition.specs.Claims.{FineOver}

-- ---- "its instruction starts are those met by decoding from the first byte on, up to an unlisted opcode, an unlisted comparison byte or a cut instruction"

-- is an instruction's comparison byte listed, if it is a CMP_BR?
unfoldable pub listed : Sheet → Bytes → Bool
listed s i = elim (has_role cmp_br (role_of s (opcode_of i))) [ true ↦ has s.comparisons (get_or i 1 0) | false ↦ true ]

-- instructions up to the first whose comparison byte is not
unfoldable pub up_to_unlisted : Sheet → List Bytes → List Bytes
up_to_unlisted s [] = []
up_to_unlisted s (i ∷ is) = elim (listed s i) [ true ↦ i ∷ up_to_unlisted s is | false ↦ [] ]

-- `decode` stops at the other two
unfoldable pub starts : Sheet → List ℕ → List ℕ
starts s code = starts_from 0 (up_to_unlisted s (decode s code))

-- ---- "it passes exactly if no run, over all branch outcomes, leaves the instruction starts and the end, pops an empty stack, exceeds the depth or ends unempty, and no
-- start is reached at two heights, by one run or by two"

-- where the run over some outcomes stands after at most n steps
unfoldable pub stands : Sheet → List ℕ → List Bool → ℕ → Stand
stands s code outcomes n = run_over (starts s code) s code n (start outcomes)

-- two runs stand at one start
pub record Meet (s : Sheet) (code : List ℕ) (x y : Stand) : Type 0 where
  pub start : has (starts s code) x.state.place ≡ true
  pub same : x.state.place ≡ y.state.place

pub record Passes (s : Sheet) (code : List ℕ) (depth : ℕ) : Type 0 where
  pub fine : (outcomes : List Bool) (n : ℕ) → FineOver (starts s code) code depth (stands s code outcomes n)
  pub once : (os₁ os₂ : List Bool) (n₁ n₂ : ℕ) → Meet s code (stands s code os₁ n₁) (stands s code os₂ n₂)
      → (stands s code os₁ n₁).state.height ≡ (stands s code os₂ n₂).state.height

-- ---- "20, a run that reaches a place neither start nor end": "20 follows branches only, heights ignored"

-- x is one of these
pub data OneOf {A : Type 0} (x : A) : List A → Type 0 where
  here : {y : A} {ys : List A} → x ≡ y → OneOf x (y ∷ ys)
  later : {y : A} {ys : List A} → OneOf x ys → OneOf x (y ∷ ys)

-- where an instruction may lead, behind which `next` stands; none is a target below 0
unfoldable pub exits : Flow → List ℕ → ℕ → List (Option ℕ)
exits onward code next = some next ∷ []
exits away code next = target code next ∷ []
exits either code next = some next ∷ target code next ∷ []
exits stop code next = []

-- where a walk over places may come
pub data Walks (s : Sheet) (code : List ℕ) : Option ℕ → Type 0 where
  begins : Walks s code (some 0)
  leads : {p : ℕ} {r : Role} {q : Option ℕ} → Walks s code (some p) → has (starts s code) p ≡ true → role_of s (get_or code p 0) ≡ some r
      → OneOf q (exits (flow r) code (p + size r)) → Walks s code q

-- neither start nor end
unfoldable pub Off : Sheet → List ℕ → Option ℕ → Type 0
Off s code none = Unit {0}
Off s code (some p) = (has (starts s code) p ≡ false) × (p ≡ length code → ⊥)

pub record Astray (s : Sheet) (code : List ℕ) : Type 0 where
  pub place : Option ℕ
  pub walk : Walks s code place
  pub off : Off s code place

-- ---- "21, any height fault"

-- a run stands above the depth, breaks off at an empty stack or finishes above 0; or a start has two heights, by one run or by two
pub data HeightFault (s : Sheet) (code : List ℕ) (depth : ℕ) : Type 0 where
  above : (outcomes : List Bool) (n : ℕ) → depth < (stands s code outcomes n).state.height → HeightFault s code depth
  empty : (outcomes : List Bool) (n : ℕ) → (stands s code outcomes n).how ≡ breaks empty_stack → HeightFault s code depth
  unempty : (outcomes : List Bool) (n : ℕ) → (stands s code outcomes n).how ≡ finishes → 0 < (stands s code outcomes n).state.height → HeightFault s code depth
  twice : (os₁ os₂ : List Bool) (n₁ n₂ : ℕ) → Meet s code (stands s code os₁ n₁) (stands s code os₂ n₂)
      → ((stands s code os₁ n₁).state.height ≡ (stands s code os₂ n₂).state.height → ⊥) → HeightFault s code depth

-- ---- the answer: 20 "is given if both occur"; 0 is what passes, and what has neither

-- a number is the answer, each exactly if
pub record Answers (s : Sheet) (code : List ℕ) (depth answer : ℕ) : Type 0 where
  pub strays : (answer ≡ astray) ↔ Astray s code
  pub faults : (answer ≡ bad_height) ↔ ((Astray s code → ⊥) × HeightFault s code depth)
  pub passes : (answer ≡ 0) ↔ Passes s code depth
  pub neither : (answer ≡ 0) ↔ ((Astray s code → ⊥) × (HeightFault s code depth → ⊥))

-- what the call answers, number and place, "tested after 14, 7 and 10" (nothing is lent here that 14 could test); 7's place is one at fault, any of them
pub data Checks (sheet code : List ℕ) (depth : ℕ) : ℕ → ℕ → Type 0 where
  refuses_sheet : {place : ℕ} → read_sheet sheet ≡ none → sheet_fault sheet place ≡ true → Checks sheet code depth bad_sheet place
  refuses_length : {s : Sheet} → read_sheet sheet ≡ some s → max_code < length code → Checks sheet code depth code_full 0
  answers : {s : Sheet} {n : ℕ} → read_sheet sheet ≡ some s → length code ≤ max_code → Answers s code depth n → Checks sheet code depth n 0

-- `unfolding open-Check` names all of this module's definitions at once
unfoldable pub open-Check : Unit {0}
unfolding listed up_to_unlisted starts stands exits Off
open-Check = tt
