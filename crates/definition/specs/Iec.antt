-- What operators and comparisons mean (IEC 61131-3), on values of w bits, and which comparison a CMP_BR's comparison byte asks for. A value is its
-- two's complement bits; the variables are a function from their numbers to values.
use Rattle.std.specs.Prelude.{ℕ, ◌-◌, ◌%◌, ◌^◌, suc, Bool, true, false, not, ◌&&◌, ◌||◌, eqb, ltb, ℤ, pos, negsuc, neg_ℤ, ◌+ℤ◌, ◌-ℤ◌, ◌*ℤ◌}
use Rattle.std.proofs.Math.Option.{Option, some, none}
use Rattle.std.specs.Int.Signed.{lt_z, le_z, quot_z, rem_z}
use Rattle.definition.specs.Opcode.{ArithmeticOp, Add, Sub, Mul, Div, Mod, BoolOp, BoolAnd, BoolOr, BoolXor, CompareOp, Eq, Ne, Lt, Le, Gt, Ge, Sheet, comparison_of}

-- ---- variables

abbrev pub Values : Type 0
Values = ℕ → ℕ

unfoldable pub stored : Values → ℕ → ℕ → Values
stored variables v a = λ w. elim (eqb w v) [ true ↦ a | false ↦ variables w ]

-- ---- comparisons

-- the number that w two's complement bits stand for
unfoldable pub signed_of : ℕ → ℕ → ℤ
signed_of w x = elim (ltb x (2 ^ (w - 1))) [ true ↦ pos x | false ↦ negsuc (2 ^ w - suc x) ]

unfoldable pub equal : ℤ → ℤ → Bool
equal (pos a) (pos b) = eqb a b
equal (pos a) (negsuc b) = false
equal (negsuc a) (pos b) = false
equal (negsuc a) (negsuc b) = eqb a b

-- IEC 61131-3: EQ, NE, LT, LE, GT, GE
unfoldable pub iec : CompareOp → ℤ → ℤ → Bool
iec Eq a b = equal a b
iec Ne a b = not (equal a b)
iec Lt a b = lt_z a b
iec Le a b = le_z a b
iec Gt a b = lt_z b a
iec Ge a b = le_z b a

-- of two values of w bits
abbrev pub compared : ℕ → CompareOp → ℕ → ℕ → Bool
compared w c a b = iec c (signed_of w a) (signed_of w b)

unfoldable pub decides : Option CompareOp → ℤ → ℤ → Bool
decides none a b = false
decides (some c) a b = iec c a b

-- does a CMP_BR with this comparison byte branch, the variable holding the bits x and the constant being k?
unfoldable pub taken : Sheet → ℕ → ℕ → ℕ → ℕ → Bool
taken s w b x k = decides (comparison_of s b) (signed_of w x) (signed_of w k)

-- ---- operators

-- integers wrap at their width w
unfoldable pub wrapped : ℕ → ℤ → ℕ
wrapped w (pos n) = n % 2 ^ w
wrapped w (negsuc n) = 2 ^ w - suc (n % 2 ^ w)

-- an operation on the numbers that w bits stand for
unfoldable pub on_numbers : ℕ → (ℤ → ℤ → ℤ) → ℕ → ℕ → ℕ
on_numbers w f a b = wrapped w (f (signed_of w a) (signed_of w b))

-- none for a zero divisor; division drops the fraction, and modulo has the dividend's sign
unfoldable pub divided_by : ℕ → (ℤ → ℤ → ℤ) → ℕ → ℕ → Option ℕ
divided_by w f a b = elim (eqb b 0) [ true ↦ none | false ↦ some (on_numbers w f a b) ]

unfoldable pub calculate : ℕ → ArithmeticOp → ℕ → ℕ → Option ℕ
calculate w Add a b = some (on_numbers w ◌+ℤ◌ a b)
calculate w Sub a b = some (on_numbers w ◌-ℤ◌ a b)
calculate w Mul a b = some (on_numbers w ◌*ℤ◌ a b)
calculate w Div a b = divided_by w quot_z a b
calculate w Mod a b = divided_by w rem_z a b

unfoldable pub negated : ℕ → ℕ → ℕ
negated w a = wrapped w (neg_ℤ (signed_of w a))

-- 0 counts as false and all else as true; a result is 0 or 1
unfoldable pub truth : ℕ → Bool
truth x = not (eqb x 0)

unfoldable pub bit : Bool → ℕ
bit true = 1
bit false = 0

unfoldable pub differ : Bool → Bool → Bool
differ true b = not b
differ false b = b

unfoldable pub decide : BoolOp → Bool → Bool → Bool
decide BoolAnd a b = a && b
decide BoolOr a b = a || b
decide BoolXor a b = differ a b

-- `unfolding open-Iec` names all of this module's definitions at once
unfoldable pub open-Iec : Unit {0}
unfolding stored signed_of equal iec decides taken wrapped on_numbers divided_by calculate negated truth bit differ decide
open-Iec = tt
