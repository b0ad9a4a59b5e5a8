-- The numbers of refusals that have no name in Limits.
use Rattle.std.specs.Prelude.{ℕ, ◌<◌, ◌≢◌}
use Rattle.definition.specs.Limits.{far_branch, astray, bad_height}

-- neither 0, nor 1 to 15, nor 20, nor 21
pub record IsUnnamed (n : ℕ) : Type 0 where
  pub past_far_branch : far_branch < n
  pub not_astray : n ≢ astray
  pub not_bad_height : n ≢ bad_height
