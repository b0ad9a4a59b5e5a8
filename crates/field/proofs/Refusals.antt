-- A line's refusal has a number from 1 to 14.
use Prim.Native.Nat.{ℕ, ◌≤◌}
use mathlib.Core.List.{List, [], ◌∷◌}
use mathlib.Core.Bool.{true, false}
use lib.Dec.{eqb, ltb}
use lib.ListN.{length, drop}
use native.Mathlib.Omega.{arith}
use Rattle.definition.specs.Limits.{too_deep, wrong_lines, output_short}
use Rattle.definition.specs.Field.{comma, split, first_line, Numbers, wrong, far, are, numbers}
use Rattle.definition.specs.Program.{Form, Line, is, not, made, by_letter, line_of, line_at}

-- the number of a refusal before there is code to finish
abbrev pub Number : ℕ → Type 0
Number n = (1 ≤ n) × (n ≤ output_short)

-- a line that is G, or one that refuses
unfoldable pub LineTold : {L : Type 0} → (L → Type 0) → Line L → Type 0
LineTold G (is l) = G l
LineTold G (not n) = Number n

-- what each form makes is of G
unfoldable pub Makes : {L : Type 0} → (L → Type 0) → List (Form L) → Type 0
Makes G [] = Unit {0}
Makes G (f ∷ fs) = ((ns : List ℕ) → G (f.make ns)) × Makes G fs

pub anything : {T : Type 0} (forms : List (Form T)) → Makes (λ l. Unit {0}) forms
unfolding Makes
anything [] = tt
anything (f ∷ fs) = (λ ns. tt, anything fs)

module _ {T : Type 0} (G : T → Type 0) where
  made_told : (f : List ℕ → T) (ns : Numbers) → ((xs : List ℕ) → G (f xs)) → LineTold G (made f ns)
  unfolding made LineTold
  made_told f wrong g = (omega arith, omega arith)
  made_told f far g = (omega arith, omega arith)
  made_told f (are xs) g = g xs

  letter-told : (forms : List (Form T)) (b : ℕ) (fs : List (List ℕ)) → Makes G forms → LineTold G (by_letter forms b fs)
  unfolding by_letter LineTold Makes
  letter-told [] b fs g = (omega arith, omega arith)
  letter-told (x ∷ xs) b fs g =
      elim (eqb x.letter b) as (λ t. LineTold G (elim t [ true ↦ made x.make (numbers x.fields fs) | false ↦ by_letter xs b fs ])) [
        | true ↦ made_told x.make (numbers x.fields fs) g.0
        | false ↦ letter-told xs b fs g.1
      ]

  line-told : (forms : List (Form T)) (fs : List (List ℕ)) → Makes G forms → LineTold G (line_of forms fs)
  unfolding line_of LineTold
  line-told forms [] g = (omega arith, omega arith)
  line-told forms ([] ∷ fs) g = (omega arith, omega arith)
  line-told forms ((b ∷ []) ∷ fs) g = letter-told forms b fs g
  line-told forms ((b ∷ c ∷ bs) ∷ fs) g = (omega arith, omega arith)

  pub at_told : (forms : List (Form T)) (left : ℕ) (text : List ℕ) (at : ℕ) → Makes G forms → LineTold G (line_at forms left text at)
  unfolding line_at LineTold
  at_told forms left text at g =
      elim (ltb at (length text)) as (λ t. LineTold G (elim t [ false ↦ not wrong_lines | true ↦ elim (eqb left 0) [ true ↦ not too_deep | false ↦ line_of forms (split comma (first_line (drop at text))) ] ])) [
        | false ↦ (omega arith, omega arith)
        | true ↦ elim (eqb left 0) as (λ t. LineTold G (elim t [ true ↦ not too_deep | false ↦ line_of forms (split comma (first_line (drop at text))) ])) [
          | true ↦ (omega arith, omega arith)
          | false ↦ line-told forms (split comma (first_line (drop at text))) g
        ]
      ]
