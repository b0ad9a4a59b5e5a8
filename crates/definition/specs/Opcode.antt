-- Roles, comparisons and the opcode sheet's meaning (document 01, 'Sheet'; the stand-in for the source's `opcode`).
use Rattle.std.specs.Prelude.{ℕ, suc, zero, List, [], ◌∷◌, true, false, eqb, get_or}
use Rattle.std.proofs.Math.Option.{Option, some, none}

-- operators of two numbers
pub data ArithmeticOp : Type 0 where
  Add Sub Mul Div Mod : ArithmeticOp

-- operators of two truth values
pub data BoolOp : Type 0 where
  BoolAnd BoolOr BoolXor : BoolOp

-- `O`: the operators of two values
pub data BinaryOp : Type 0 where
  Arithmetic : ArithmeticOp → BinaryOp
  Logic : BoolOp → BinaryOp

-- every operator of two values at its number
abbrev pub binary_ops : List BinaryOp
binary_ops = Arithmetic Add ∷ Arithmetic Sub ∷ Arithmetic Mul ∷ Arithmetic Div ∷ Arithmetic Mod ∷ Logic BoolAnd ∷ Logic BoolOr ∷ Logic BoolXor ∷ []

-- `U`
pub data UnaryOp : Type 0 where
  Neg BoolNot : UnaryOp

-- `C`, and the order of the sheet's comparison bytes
pub data CompareOp : Type 0 where
  Eq Ne Lt Le Gt Ge : CompareOp

-- `H`
pub data ShortCircuitOp : Type 0 where
  AndThen OrElse : ShortCircuitOp

-- the roles, by class
pub data Role : Type 0 where
  dup pop load_var store_var load_const load_true load_false : Role
  arithmetic : ArithmeticOp → Role
  logic : BoolOp → Role
  neg bool_not : Role
  compare : CompareOp → Role
  jmp jmp_if_not cmp_br ret : Role

-- the role of an operator
unfoldable pub binary_role : BinaryOp → Role
binary_role (Arithmetic o) = arithmetic o
binary_role (Logic o) = logic o

unfoldable pub unary_role : UnaryOp → Role
unary_role Neg = neg
unary_role BoolNot = bool_not

-- every role at its number
unfoldable pub roles : List Role
roles = dup ∷ pop ∷ load_var ∷ store_var ∷ load_const ∷ load_true ∷ load_false
    ∷ arithmetic Add ∷ arithmetic Sub ∷ arithmetic Mul ∷ arithmetic Div ∷ arithmetic Mod ∷ neg ∷ logic BoolAnd ∷ logic BoolOr ∷ logic BoolXor ∷ bool_not
    ∷ compare Eq ∷ compare Ne ∷ compare Lt ∷ compare Le ∷ compare Gt ∷ compare Ge
    ∷ jmp ∷ jmp_if_not ∷ cmp_br ∷ ret ∷ []

-- how many they are
abbrev pub role_count : ℕ
role_count = 27

-- and how many comparisons there are
abbrev pub comparison_count : ℕ
comparison_count = 6

unfoldable pub compare_index : CompareOp → ℕ
compare_index Eq = 0
compare_index Ne = 1
compare_index Lt = 2
compare_index Le = 3
compare_index Gt = 4
compare_index Ge = 5

unfoldable pub number : Role → ℕ
number dup = 0
number pop = 1
number load_var = 2
number store_var = 3
number load_const = 4
number load_true = 5
number load_false = 6
number (arithmetic Add) = 7
number (arithmetic Sub) = 8
number (arithmetic Mul) = 9
number (arithmetic Div) = 10
number (arithmetic Mod) = 11
number neg = 12
number (logic BoolAnd) = 13
number (logic BoolOr) = 14
number (logic BoolXor) = 15
number bool_not = 16
number (compare Eq) = 17
number (compare Ne) = 18
number (compare Lt) = 19
number (compare Le) = 20
number (compare Gt) = 21
number (compare Ge) = 22
number jmp = 23
number jmp_if_not = 24
number cmp_br = 25
number ret = 26

-- what an instruction does to the stack's height
pub data Effect : Type 0 where
  up down same : Effect

unfoldable pub shift : Effect → ℕ → ℕ
shift up h = suc h
shift down zero = zero
shift down (suc h) = h
shift same h = h

-- where a run goes on: behind the instruction, at its target, at either by the outcome, or nowhere
pub data Flow : Type 0 where
  onward away either stop : Flow

-- what the sheet's table says of a role: bytes, values that must be on the stack, height change, flow
pub record Traits : Type 0 where
  pub size : ℕ
  pub needs : ℕ
  pub effect : Effect
  pub flow : Flow

unfoldable pub traits_of : ℕ → ℕ → Effect → Flow → Traits
traits_of z n e f = record { size = z; needs = n; effect = e; flow = f }

unfoldable pub traits : Role → Traits
traits dup = traits_of 1 1 up onward
traits pop = traits_of 1 1 down onward
traits load_var = traits_of 3 0 up onward
traits store_var = traits_of 3 1 down onward
traits load_const = traits_of 3 0 up onward
traits load_true = traits_of 1 0 up onward
traits load_false = traits_of 1 0 up onward
traits (arithmetic o) = traits_of 1 2 down onward
traits (logic o) = traits_of 1 2 down onward
traits neg = traits_of 1 1 same onward
traits bool_not = traits_of 1 1 same onward
traits (compare c) = traits_of 1 2 down onward
traits jmp = traits_of 3 0 same away
traits jmp_if_not = traits_of 3 1 down either
traits cmp_br = traits_of 8 0 same either
traits ret = traits_of 1 0 same stop

unfoldable pub size : Role → ℕ
size r = (traits r).size

unfoldable pub needs : Role → ℕ
needs r = (traits r).needs

unfoldable pub effect : Role → Effect
effect r = (traits r).effect

unfoldable pub flow : Role → Flow
flow r = (traits r).flow

-- `cmp_op::negate`: the comparison that holds where this one does not
unfoldable pub negate : CompareOp → CompareOp
negate Eq = Ne
negate Ne = Eq
negate Lt = Ge
negate Le = Gt
negate Gt = Le
negate Ge = Lt

-- `cmp_op::commute`: the comparison with its sides exchanged
unfoldable pub commute : CompareOp → CompareOp
commute Eq = Eq
commute Ne = Ne
commute Lt = Gt
commute Le = Ge
commute Gt = Lt
commute Ge = Le

-- a sheet that was accepted: opcodes by role, comparison bytes
pub record Sheet : Type 0 where
  pub opcodes : List ℕ
  pub comparisons : List ℕ

unfoldable pub opcode : Sheet → Role → ℕ
opcode s r = get_or s.opcodes (number r) 0

unfoldable pub comparison_byte : Sheet → CompareOp → ℕ
comparison_byte s c = get_or s.comparisons (compare_index c) 0

-- what stands in ys where b stands in xs
unfoldable pub beside : {A : Type 0} → ℕ → List ℕ → List A → Option A
beside b [] ys = none
beside b (x ∷ xs) [] = none
beside b (x ∷ xs) (y ∷ ys) = elim (eqb x b) [ true ↦ some y | false ↦ beside b xs ys ]

-- the role of an opcode; none for a byte that the sheet does not list
unfoldable pub role_of : Sheet → ℕ → Option Role
role_of s b = beside b s.opcodes roles

unfoldable pub comparison_of : Sheet → ℕ → Option CompareOp
comparison_of s b = beside b s.comparisons (Eq ∷ Ne ∷ Lt ∷ Le ∷ Gt ∷ Ge ∷ [])

-- `unfolding open-Opcode` names all of this module's definitions at once
unfoldable pub open-Opcode : Unit {0}
unfolding binary_role unary_role roles compare_index number shift traits_of traits size needs effect flow negate commute opcode comparison_byte beside role_of comparison_of
open-Opcode = tt
