-- Outcomes as bytes.
use Prim.Native.Nat.{suc}
use mathlib.Core.Path.{◌≡◌, refl, ap}
use mathlib.Core.List.{List, [], ◌∷◌, ◌++◌}
use mathlib.Core.Bool.{Bool, true, false}
use lib.ListN.{length}
use Rattle.definition.specs.Slowest.{outcome_bytes}

pub length-bytes : (os : List Bool) → length (outcome_bytes os) ≡ length os
unfolding outcome_bytes
length-bytes [] = refl
length-bytes (true ∷ os) = ap suc (length-bytes os)
length-bytes (false ∷ os) = ap suc (length-bytes os)

pub append-bytes : (os us : List Bool) → outcome_bytes (os ++ us) ≡ outcome_bytes os ++ outcome_bytes us
unfolding outcome_bytes
append-bytes [] us = refl
append-bytes (true ∷ os) us = ap (λ xs. 1 ∷ xs) (append-bytes os us)
append-bytes (false ∷ os) us = ap (λ xs. 0 ∷ xs) (append-bytes os us)
