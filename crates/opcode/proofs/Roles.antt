-- What the table of roles says, over plain values.
use mathlib.Core.Path.{◌≡◌, refl}
use Prim.Native.Nat.{ℕ, zero, suc, ◌<◌, ◌≤◌}
use native.Mathlib.Omega.{arith}
use lib.Dec.{lit<}
use mathlib.Core.List.{List, [], ◌∷◌, map}
use lib.ListN.{length, get_or, get_or-eq_default}
use Rattle.definition.specs.Opcode as def
use Rattle.definition.specs.Opcode.{traits, compare, number, compare_index, up, down, shift, roles, role_count, comparison_count, ret}
use Rattle.definition.specs.Rules.{role_numbered}
use Rattle.opcode.specs.declared.ArithmeticOp.TheVariants.{Add, Sub, Mul, Div, Mod}
use Rattle.opcode.specs.declared.BoolOp.TheVariants.{BoolAnd, BoolOr, BoolXor}
use Rattle.opcode.specs.declared.CompareOp.TheVariants.{Eq, Ne, Lt, Le, Gt, Ge}
use Rattle.opcode.specs.declared.Role.{Role}
use Rattle.opcode.specs.declared.Role.TheVariants.{Dup, Pop, LoadVar, StoreVar, LoadConst, LoadTrue, LoadFalse, Arithmetic, Logic, Neg, BoolNot, Compare, Jmp, JmpIfNot, CmpBr, Ret}

pub compare-index : (c : def.CompareOp) → compare_index c < comparison_count
unfolding compare_index
compare-index def.Eq = lit< tt
compare-index def.Ne = lit< tt
compare-index def.Lt = lit< tt
compare-index def.Le = lit< tt
compare-index def.Gt = lit< tt
compare-index def.Ge = lit< tt

-- what stands at a place of a list, seen through f
pub seen_at : {A B : Type 0} (f : A → B) (l : List A) (d : A) (e : B) (n : ℕ) → n < length l → f (get_or l n d) ≡ get_or (map f l) n e
seen_at f [] d e n h = absurd (omega arith)
seen_at f (x ∷ l) d e zero h = refl
seen_at f (x ∷ l) d e (suc n) h = seen_at f l d e n (omega arith)

-- the code's table
abbrev pub table : List Role
table = Dup ∷ Pop ∷ LoadVar ∷ StoreVar ∷ LoadConst ∷ LoadTrue ∷ LoadFalse
    ∷ Arithmetic Add ∷ Arithmetic Sub ∷ Arithmetic Mul ∷ Arithmetic Div ∷ Arithmetic Mod ∷ Neg ∷ Logic BoolAnd ∷ Logic BoolOr ∷ Logic BoolXor ∷ BoolNot
    ∷ Compare Eq ∷ Compare Ne ∷ Compare Lt ∷ Compare Le ∷ Compare Gt ∷ Compare Ge
    ∷ Jmp ∷ JmpIfNot ∷ CmpBr ∷ Ret ∷ []

-- past the last role there is RET again
pub past-roles : (n : ℕ) → role_count ≤ n → role_numbered n ≡ ret
unfolding role_numbered roles
past-roles n h = get_or-eq_default roles ret h
