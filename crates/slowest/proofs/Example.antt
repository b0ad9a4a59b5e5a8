-- The slowest call of what the compiler gave back, from the text of three files on, computed; and that no other answer is one.
use Prim.Native.Nat.{ℕ, ◌≤◌}
use mathlib.Core.Path.{◌≡◌, refl}
use mathlib.Core.List.{List, [], ◌∷◌}
use mathlib.Core.Bool.{false}
use mathlib.Core.Option.{some}
use lib.ListN.{take}
use Rattle.definition.specs.Limits.{max_outcomes}
use Rattle.definition.specs.Sheet.{read_sheet}
use Rattle.definition.specs.Slowest.{Answer, measured, Measures}
use Rattle.definition.specs.Cases.{plain_sheet}
use Rattle.image_check.proofs.Example.{given, open-Example}
use Rattle.slowest.proofs.Answered.{slow, answer_of}
use Rattle.slowest.proofs.Tells.{said_of, measures-by, open-Said}
use Rattle.slowest.proofs.One.{Same, one-measure}

-- the finished code of IF v0 > 3 THEN v0 := v0 + 1; ELSE RETURN; END_IF
abbrev code : List ℕ
code = take given.code_length given.code

own-said : said_of (read_sheet plain_sheet) code given.depth ≡ some (slow (record { count = 6; outcomes = false ∷ [] }))
unfolding open-Example open-Said
own-said = refl

own-answer : (room : ℕ) → max_outcomes ≤ room → Measures room plain_sheet code given.depth (measured room 6 (false ∷ []))
unfolding answer_of
own-answer room lent = measures-by room plain_sheet code given.depth _ lent own-said

own : {room : ℕ} {a : Answer} → max_outcomes ≤ room → Measures room plain_sheet code given.depth a → Same a (measured room 6 (false ∷ []))
own lent m = one-measure m (own-answer _ lent)
