-- The test of three lent lists' room.
use Rattle.std.proofs.Common.{◌≡◌, ℕ, true, arith}
use Rattle.std.proofs.lemmas.Bool.Decides.{nat_tests}
use Rattle.store.specs.Room.{have_room, HaveRoom}

pub have-room : (first second third a b c : ℕ) → have_room first second third a b c ≡ true → HaveRoom first second third a b c
have-room first second third a b c e = record { first = grind (arith, nat_tests); second = grind (arith, nat_tests); third = grind (arith, nat_tests) }
