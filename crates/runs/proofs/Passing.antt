-- Code whose runs are fine, whose places have one height each and whose comparison bytes are listed passes with its own depth.
use Prim.Native.Nat.{ℕ}
use mathlib.Core.Path.{◌≡◌, refl, sym, ◌∙◌, ap, subst}
use mathlib.Core.List.{List, [], ◌∷◌}
use mathlib.Core.Bool.{Bool, true, false}
use Rattle.definition.specs.Opcode.{Sheet}
use Rattle.definition.specs.Rewrite.{Bytes, decode, starts_from}
use Rattle.definition.specs.Runs.{Stand, start, run, run_over}
use Rattle.definition.specs.Claims.{FineOver, Fine, OneHeight, Each, ◌also◌}
use Rattle.definition.specs.Check.{listed, up_to_unlisted, starts, stands, Passes}

pub all_listed : (s : Sheet) (is : List Bytes) → Each (λ i. listed s i ≡ true) is → up_to_unlisted s is ≡ is
unfolding up_to_unlisted
all_listed s [] e = refl
all_listed s (i ∷ is) (l also ls) = ap (λ b. elim b as (λ c. List Bytes) [ true ↦ i ∷ up_to_unlisted s is | false ↦ [] ]) l ∙ ap (λ x. i ∷ x) (all_listed s is ls)

module _ (s : Sheet) (code : List ℕ) (depth : ℕ) (known : Each (λ i. listed s i ≡ true) (decode s code))
    (fine : (os : List Bool) (n : ℕ) → Fine s code depth (run s code n (start os))) (one : OneHeight s code depth) where
  same-starts : starts_from 0 (decode s code) ≡ starts s code
  unfolding starts
  same-starts = ap (λ x. starts_from 0 x) (sym (all_listed s (decode s code) known))

  same-stands : (os : List Bool) (n : ℕ) → run s code n (start os) ≡ stands s code os n
  unfolding run stands
  same-stands os n = ap (λ x. run_over x s code n (start os)) same-starts

  held : (os : List Bool) (n : ℕ) → (stands s code os n).state.height ≡ one.height_at (stands s code os n).state.place
  held os n = subst (λ (y : Stand). y.state.height ≡ one.height_at y.state.place) (same-stands os n) (one.held os n)

  pub passes : Passes s code depth
  passes = record {
    fine = λ os n. subst (λ y. FineOver (starts s code) code depth y) (same-stands os n) (subst (λ x. FineOver x code depth (run s code n (start os))) same-starts (fine os n));
    once = λ os₁ os₂ n₁ n₂ m. held os₁ n₁ ∙ (ap (λ p. one.height_at p) m.same ∙ sym (held os₂ n₂));
  }
