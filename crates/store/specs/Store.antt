-- A lent buffer that is filled from its start, as far as there is room.
use Rattle.std.specs.Prelude.{ℕ, suc, List, [], ◌∷◌, true, false, ltb, length, take, set}

-- its elements, and how many of them are used
pub record StoreOf (A : Type 0) : Type 0 where
  pub cells : List A
  pub used : ℕ

-- of numbers
abbrev pub Store : Type 0
Store = StoreOf ℕ

-- the store that these cells are
abbrev pub at : {A : Type 0} → List A → ℕ → StoreOf A
at cells used = record { cells = cells; used = used }

unfoldable pub contents : {A : Type 0} → StoreOf A → List A
contents s = take s.used s.cells

-- one element more; nothing changes where there is no room
unfoldable pub push : {A : Type 0} → StoreOf A → A → StoreOf A
push s x = elim (ltb s.used (length s.cells)) [
  | true ↦ record { cells = set s.cells s.used x; used = suc s.used }
  | false ↦ s
]

unfoldable pub push_all : {A : Type 0} → StoreOf A → List A → StoreOf A
push_all s [] = s
push_all s (x ∷ xs) = push_all (push s x) xs

unfoldable pub empty : {A : Type 0} → List A → StoreOf A
empty cells = record { cells = cells; used = 0 }

-- `unfolding open-Store` names all of this module's definitions at once
unfoldable pub open-Store : Unit {0}
unfolding contents push push_all empty
open-Store = tt
