-- The theorem applied, from the text of the files on: FOR v0 := -5 TO 7 BY 3, whose body has an IF, on a variable of any value, and an
-- inner FOR. No premise of the theorem is empty.
use Prim.Native.Nat.{ℕ, ◌-◌, ◌^◌, suc, zero}
use mathlib.Core.Path.{◌≡◌, refl, sym, subst}
use mathlib.Core.List.{List, [], ◌∷◌}
use mathlib.Core.Bool.{Bool, true, false, not, ◌&&◌}
use mathlib.Core.Option.{some}
use native.Mathlib.Omega.{arith}
use lib.Dec.{eqb, leb, ltb}
use lib.IntN.{pos}
use borrow.Author.Tests.{eqb-true, leb-true, ltb-true, not-true}
use Rattle.definition.specs.Limits.{width}
use Rattle.definition.specs.Res.{Res, ok, refuse}
use Rattle.definition.specs.Opcode.{Sheet, Add, Arithmetic, Gt}
use Rattle.definition.specs.Sheet.{read_sheet}
use Rattle.definition.specs.Tree.{Source, const, read, binary, compare, assign, if, for, done, ◌then◌, Program}
use Rattle.definition.specs.Program.{read_program}
use Rattle.definition.specs.Compile.{FinalizedFunction, compile_files}
use Rattle.definition.specs.Machine.{Image, image_of, State, Step, goes, finishes, stops, breaks, branch_if, compares, is_start, step, and_then}
use Rattle.definition.specs.For.{Places, Emits, For, for_stmt, places_of}
use Rattle.definition.specs.Count.{stores_to, Ends, ended, later, AlwaysEnds, CountsUp, Makes}
use Rattle.definition.specs.Cases.{bytes, plain_sheet, open-Definition}
use Rattle.field.proofs.Tests.{and_left, and_right}
use Rattle.field.proofs.Results.{never}
use Rattle.counting.proofs.Counting.{standing, as-standing}
use Rattle.counting.proofs.Passes.{in-files}

-- ---- the files, and what they are read as

unfoldable text : List ℕ
text = bytes "P,3,1,1,1\nF,2,1,0,0,3,2\nK,-5\nK,7\nI,3,1,1,0\nC,4\nD,1\nK,0\nA,4,1,1\nO,0\nD,1\nD,0\nF,5,1,1,2,1,1\nK,1\nK,2\nA,6,1,1\nO,0\nD,1\nD,2\n"

unfoldable stands : ℕ → ℕ → Source
stands line row = record { pos = record { line = line; column = 1 }; row = row }

unfoldable outer : For
outer = record {
  source = stands 2 2;
  loop = 0;
  control = 0;
  from = 2 ^ 32 - 5;
  to = 7;
  step = 3;
  body = if (stands 3 5) (compare Gt (read 1) (const 0)) (assign (stands 4 9) 1 (binary (Arithmetic Add) (read 1) (read 0)) then done) done
      then for (stands 5 13) 1 2 1 (const 1) (const 2) (assign (stands 6 16) 1 (binary (Arithmetic Add) (read 1) (read 2)) then done) then done;
}

unfoldable program : Program
program = record { pos = record { line = 1; column = 1 }; body = for_stmt outer then done }

unfoldable sheet : Sheet
sheet = record {
  opcodes = 1 ∷ 2 ∷ 3 ∷ 4 ∷ 5 ∷ 6 ∷ 7 ∷ 8 ∷ 9 ∷ 10 ∷ 11 ∷ 12 ∷ 13 ∷ 14 ∷ 15 ∷ 16 ∷ 17 ∷ 18 ∷ 19 ∷ 20 ∷ 21 ∷ 22 ∷ 23 ∷ 24 ∷ 25 ∷ 26 ∷ 27 ∷ [];
  comparisons = 1 ∷ 2 ∷ 3 ∷ 4 ∷ 5 ∷ 6 ∷ [];
}

unfoldable answered : Res FinalizedFunction → FinalizedFunction
answered (ok c) = c
answered (refuse n p) = record { bytecode = []; depth = 0; constants = []; line_map = [] }

unfoldable finished : FinalizedFunction
finished = answered (compile_files 0 plain_sheet [] text)

sheet-read : read_sheet plain_sheet ≡ some sheet
unfolding sheet plain_sheet bytes open-Definition
sheet-read = refl

program-read : read_program text ≡ ok program
unfolding text program outer stands bytes open-Definition
program-read = refl

unfoldable is_answer : Res FinalizedFunction → Bool
is_answer (ok c) = true
is_answer (refuse n p) = false

answer-is : (r : Res FinalizedFunction) → is_answer r ≡ true → r ≡ ok (answered r)
unfolding is_answer answered
answer-is (ok c) e = refl
answer-is (refuse n p) e = never (cc)

compiles : compile_files 0 plain_sheet [] text ≡ ok finished
unfolding is_answer finished text plain_sheet bytes open-Definition
compiles = answer-is (compile_files 0 plain_sheet [] text) refl

emits : Emits program (for_stmt outer)
unfolding program open-Definition
emits = record { before = []; loops = []; behind = []; is = refl }

-- ---- a body that ends, by computation

unfoldable none_left : List ℕ → Bool
none_left [] = true
none_left (a ∷ st) = false

none_is : (st : List ℕ) → none_left st ≡ true → st ≡ []
unfolding none_left
none_is [] e = refl
none_is (a ∷ st) e = never (cc)

-- does it end within n steps?
unfoldable ends_within : Image → Places → ℕ → ℕ → State → Bool
ends_within m f v zero x = false
ends_within m f v (suc n) x = elim (eqb x.place f.increment) [
  | true ↦ is_start m x.place && none_left x.stack
  | false ↦ (leb f.body x.place && ltb x.place f.increment) && (not (stores_to m v x) && and_then (step m x) false (λ y. ends_within m f v n y))
]

ends-within : (m : Image) (f : Places) (v n : ℕ) (x : State) → ends_within m f v n x ≡ true → Ends m f v x
unfolding ends_within and_then
ends-within m f v zero x e = never (cc)
ends-within m f v (suc n) x e = go (eqb x.place f.increment) refl e (λ y. ends-within m f v n y)
  where
    on : (s : Step) → step m x ≡ s → and_then s false (λ y. ends_within m f v n y) ≡ true → ((y : State) → ends_within m f v n y ≡ true → Ends m f v y)
        → (leb f.body x.place && ltb x.place f.increment) ≡ true → not (stores_to m v x) ≡ true → Ends m f v x
    on (goes y) g e more i k =
        later (leb-true f.body x.place (and_left _ _ i)) (ltb-true x.place f.increment (and_right (leb f.body x.place) _ i)) (not-true _ k) g (more y e)
    on finishes g e more i k = never (cc)
    on stops g e more i k = never (cc)
    on (breaks b) g e more i k = never (cc)

    go : (b : Bool) → eqb x.place f.increment ≡ b → elim b [
      | true ↦ is_start m x.place && none_left x.stack
      | false ↦ (leb f.body x.place && ltb x.place f.increment) && (not (stores_to m v x) && and_then (step m x) false (λ y. ends_within m f v n y))
    ] ≡ true → ((y : State) → ends_within m f v n y ≡ true → Ends m f v y) → Ends m f v x
    go true q e more = ended (eqb-true _ _ q) (and_left _ _ e) (none_is x.stack (and_right (is_start m x.place) _ e))
    go false q e more =
        let i = and_left _ _ e in
        let k = and_right (leb f.body x.place && ltb x.place f.increment) _ e in
        on (step m x) refl (and_right (not (stores_to m v x)) _ k) more i (and_left _ _ k)

-- ---- this body: the IF goes either way, and from each on the run computes, whatever the variables hold

unfoldable image : Image
image = image_of sheet finished

unfoldable places : Places
places = places_of sheet program outer emits

-- `unfolding open-Example` names the files and all that is made of them
unfoldable open-Example : Unit {0}
unfolding text stands outer program sheet answered finished emits image places bytes plain_sheet open-Definition
open-Example = tt

-- where the two ways lead
unfoldable way : Bool → ℕ
way true = 32
way false = 22

computes : (b : Bool) (vs : ℕ → ℕ) → ends_within image places 0 40 (standing (way b) [] vs) ≡ true
unfolding ends_within none_left way open-Example
computes true vs = refl
computes false vs = refl

tests : (vs : ℕ → ℕ) → step image (standing 14 [] vs) ≡ goes (standing (way (compares image 14 vs)) [] vs)
unfolding way open-Example
tests vs = go (compares image 14 vs)
  where
    go : (b : Bool) → branch_if b image.bytecode 22 [] vs ≡ goes (standing (way b) [] vs)
    go true = refl
    go false = refl

body-ends : (vs : ℕ → ℕ) → Ends image places 0 (standing 14 [] vs)
unfolding way open-Example
body-ends vs = later {x = standing 14 [] vs} (leb-true places.body 14 refl) (ltb-true 14 places.increment refl) refl (tests vs) (ends-within image places 0 40 _ (computes (compares image 14 vs) vs))

always : (x : State) → AlwaysEnds image places 0 x
unfolding open-Example
always x n y e p q = subst (λ z. Ends image places 0 z) (sym (as-standing y 14 [] p q)) (body-ends y.variables)

counts : CountsUp width outer.from outer.to outer.step
unfolding open-Example
counts = record { up = refl; ordered = refl; room = omega arith }

-- whatever the variables hold before it, the FOR makes five passes
five-passes : (vs : ℕ → ℕ) → Makes image places (standing 0 [] vs) (pos 5)
unfolding open-Example
five-passes vs = in-files 0 plain_sheet text sheet program finished sheet-read program-read compiles outer emits counts (standing 0 [] vs) refl refl (always (standing 0 [] vs))
