-- Lines, fields and decimal numbers (document 01, 'The three files').
use Rattle.std.specs.Prelude.{ℕ, ◌+◌, ◌-◌, ◌*◌, ◌^◌, suc, zero, List, [], ◌∷◌, Bool, true, false, ◌&&◌, eqb, leb, ltb}
use Rattle.std.proofs.Math.Option.{Option, some, none}

-- the bytes that part lines and fields, and those of a number
abbrev pub lf : ℕ
lf = 0x0A

abbrev pub comma : ℕ
comma = 0x2C

abbrev pub minus : ℕ
minus = 0x2D

abbrev pub digit0 : ℕ
digit0 = 0x30

abbrev pub digit9 : ℕ
digit9 = 0x39

-- the parts of some bytes between the bytes `sep`: one more than there are of those
unfoldable pub onto : ℕ → List (List ℕ) → List (List ℕ)
onto b [] = (b ∷ []) ∷ []
onto b (x ∷ xs) = (b ∷ x) ∷ xs

unfoldable pub split : ℕ → List ℕ → List (List ℕ)
split sep [] = [] ∷ []
split sep (b ∷ bs) = elim (eqb b sep) [ true ↦ [] ∷ split sep bs | false ↦ onto b (split sep bs) ]

-- the bytes before the first LF, or all of them
unfoldable pub first_line : List ℕ → List ℕ
first_line [] = []
first_line (b ∷ bs) = elim (eqb b lf) [ true ↦ [] | false ↦ b ∷ first_line bs ]

-- decimal digits after those that make n; a number of any length is one
unfoldable pub digits : ℕ → List ℕ → Option ℕ
digits n [] = some n
digits n (b ∷ bs) = elim (leb digit0 b && leb b digit9) [ true ↦ digits (n * 10 + (b - digit0)) bs | false ↦ none ]

-- a number with no sign and no leading zero
unfoldable pub natural : List ℕ → Option ℕ
natural [] = none
natural (b ∷ []) = digits 0 (b ∷ [])
natural (b ∷ c ∷ bs) = elim (eqb b digit0) [ true ↦ none | false ↦ digits 0 (b ∷ c ∷ bs) ]

-- what a field may hold
pub data Field : Type 0 where
  -- 0 to this number
  up_to : ℕ → Field
  -- 0 to below this number
  below : ℕ → Field
  -- a signed number of so many bits, the one kind that may have a minus
  value : ℕ → Field

-- a field as it is read; a value is its two's complement bits
pub data Read : Type 0 where
  malformed outside : Read
  is : ℕ → Read

unfoldable pub within : Bool → ℕ → Read
within true n = is n
within false n = outside

unfoldable pub natural_within : (ℕ → Bool) → Option ℕ → Read
natural_within ok none = malformed
natural_within ok (some n) = within (ok n) n

-- what stands after a minus, which is never 0
unfoldable pub negative : ℕ → Option ℕ → Read
negative w none = malformed
negative w (some zero) = malformed
negative w (some (suc n)) = within (ltb n (2 ^ (w - 1))) (2 ^ w - suc n)

unfoldable pub signed : ℕ → List ℕ → Read
signed w [] = malformed
signed w (b ∷ bs) = elim (eqb b minus) [
  | true ↦ negative w (natural bs)
  | false ↦ natural_within (λ n. ltb n (2 ^ (w - 1))) (natural (b ∷ bs))
]

unfoldable pub field : Field → List ℕ → Read
field (up_to m) bs = natural_within (λ n. leb n m) (natural bs)
field (below m) bs = natural_within (λ n. ltb n m) (natural bs)
field (value w) bs = signed w bs

-- a line's numbers: wrong in form (2) before outside a range (3), whatever the fields' order
pub data Numbers : Type 0 where
  wrong far : Numbers
  are : List ℕ → Numbers

unfoldable pub and_these : Read → Numbers → Numbers
and_these malformed ns = wrong
and_these outside wrong = wrong
and_these outside far = far
and_these outside (are ns) = far
and_these (is n) wrong = wrong
and_these (is n) far = far
and_these (is n) (are ns) = are (n ∷ ns)

unfoldable pub numbers : List Field → List (List ℕ) → Numbers
numbers [] [] = are []
numbers [] (x ∷ xs) = wrong
numbers (f ∷ fs) [] = wrong
numbers (f ∷ fs) (x ∷ xs) = and_these (field f x) (numbers fs xs)

-- is the number one of these?
unfoldable pub has : List ℕ → ℕ → Bool
has [] x = false
has (y ∷ ys) x = elim (eqb x y) [ true ↦ true | false ↦ has ys x ]

-- `unfolding open-Field` names all of this module's definitions at once
unfoldable pub open-Field : Unit {0}
unfolding onto split first_line digits natural within natural_within negative signed field and_these numbers has
open-Field = tt
