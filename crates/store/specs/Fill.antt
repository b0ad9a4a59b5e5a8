-- What a list is after it was set, zeroed or filled.
use Rattle.std.specs.Prelude.{ℕ, ◌-◌, List, ◌++◌, length, take, replicate}

-- x from a place up to the end
unfoldable pub set_from : {A : Type 0} → ℕ → A → List A → List A
set_from from x l = take from l ++ replicate (length l - from) x

-- 0 from a place up to the end
abbrev pub zeroed_from : ℕ → List ℕ → List ℕ
zeroed_from from l = set_from from 0 l

-- an output of `room` elements that starts with xs, as far as there is room, and is x behind them
unfoldable pub fitted_with : {A : Type 0} → A → ℕ → List A → List A
fitted_with x room xs = take room xs ++ replicate (room - length xs) x

-- and is 0 behind them: `filled` where they fit
abbrev pub fitted : ℕ → List ℕ → List ℕ
fitted room xs = fitted_with 0 room xs
