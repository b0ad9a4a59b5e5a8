-- A step over a list of starts: at the end, at a start, and elsewhere.
use Prim.Native.Nat.{ℕ}
use mathlib.Core.Path.{◌≡◌, ◌∙◌, ap}
use mathlib.Core.List.{List}
use mathlib.Core.Bool.{Bool, true, false}
use mathlib.Core.Option.{Option, some}
use lib.ListN.{length, get_or}
use borrow.Author.Tests.{eq-eqb, ne_eqb}
use Rattle.definition.specs.Field.{has}
use Rattle.definition.specs.Opcode.{Role, Sheet, role_of}
use Rattle.definition.specs.Runs.{State, off_code, Step, finishes, breaks, execute, execute_if, step_over}

step_by : Bool → Bool → Option Role → List ℕ → State → Step
step_by end start r code x = elim end [ true ↦ finishes | false ↦ elim start [ true ↦ execute_if r code x | false ↦ breaks off_code ] ]

module _ (starts : List ℕ) (s : Sheet) (code : List ℕ) (x : State) where
  pub over-end : x.place ≡ length code → step_over starts s code x ≡ finishes
  unfolding step_over step_by
  over-end e = ap (λ b. step_by b (has starts x.place) (role_of s (get_or code x.place 0)) code x) (eq-eqb x.place (length code) e)

  module _ (n : x.place ≡ length code → ⊥) where
    inside : (b : Bool) → has starts x.place ≡ b → step_over starts s code x ≡ step_by false b (role_of s (get_or code x.place 0)) code x
    unfolding step_over step_by
    inside b h = ap (λ e. step_by e (has starts x.place) (role_of s (get_or code x.place 0)) code x) (ne_eqb x.place (length code) n)
        ∙ ap (λ y. step_by false y (role_of s (get_or code x.place 0)) code x) h

    pub over-off : has starts x.place ≡ false → step_over starts s code x ≡ breaks off_code
    unfolding step_by
    over-off h = inside false h

    pub over-start : (r : Role) → has starts x.place ≡ true → role_of s (get_or code x.place 0) ≡ some r → step_over starts s code x ≡ execute r code x
    unfolding step_by execute_if
    over-start r h e = inside true h ∙ ap (λ y. step_by false true y code x) e
