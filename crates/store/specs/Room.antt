-- Three lent lists against the room that each must have.
use Rattle.std.specs.Prelude.{ℕ, ◌≤◌, Bool, ◌&&◌, leb}

abbrev pub have_room : ℕ → ℕ → ℕ → ℕ → ℕ → ℕ → Bool
have_room first second third a b c = leb a first && (leb b second && leb c third)

pub record HaveRoom (x y z a b c : ℕ) : Type 0 where
  pub first : a ≤ x
  pub second : b ≤ y
  pub third : c ≤ z
