-- What lent outputs hold: a result from their start and 0 up to their end; 0 all through after a refusal.
use Rattle.std.specs.Prelude.{ℕ, ◌-◌, ◌/◌, suc, zero, List, [], ◌∷◌, ◌++◌, length, get_or, drop}
use Rattle.definition.specs.Limits.{entry_size}
use Rattle.definition.specs.Tree.{pos_numbers, pos_of}
use Rattle.definition.specs.Emit.{LineEntry}

unfoldable pub zeros : ℕ → List ℕ
zeros zero = []
zeros (suc n) = 0 ∷ zeros n

-- an output of `room` numbers that starts with xs
unfoldable pub filled : ℕ → List ℕ → List ℕ
filled room xs = xs ++ zeros (room - length xs)

-- a line entry's numbers, entry_size of them
unfoldable pub one_entry : LineEntry → List ℕ
one_entry x = x.offset ∷ pos_numbers x.pos

unfoldable pub entry_in : List ℕ → LineEntry
entry_in ns = record { offset = get_or ns 0 0; pos = pos_of (drop 1 ns) }

-- a line list as numbers
unfoldable pub entry_numbers : List LineEntry → List ℕ
entry_numbers [] = []
entry_numbers (x ∷ xs) = one_entry x ++ entry_numbers xs

-- and back; fewer than entry_size numbers over make no entry
unfoldable pub first_entries : ℕ → List ℕ → List LineEntry
first_entries zero ns = []
first_entries (suc n) ns = entry_in ns ∷ first_entries n (drop entry_size ns)

unfoldable pub entries_of : List ℕ → List LineEntry
entries_of ns = first_entries (length ns / entry_size) ns

-- `unfolding open-Lent` names all of this module's definitions at once
unfoldable pub open-Lent : Unit {0}
unfolding zeros filled pos_numbers pos_of one_entry entry_in entry_numbers first_entries entries_of
open-Lent = tt
