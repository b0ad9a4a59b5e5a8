-- Decoding gives back instructions that are as long as their opcodes say.
use Prim.Native.Nat.{ℕ, ◌-◌, suc}
use mathlib.Core.Path.{◌≡◌, refl, sym, ◌∙◌, ap}
use mathlib.Core.List.{List, [], ◌∷◌, ◌++◌}
use mathlib.Core.Bool.{true, false}
use mathlib.Core.Option.{some}
use native.Mathlib.Omega.{arith}
use lib.ListN.{length, drop, length-append}
use borrow.Author.Tests.{le-leb}
use Rattle.definition.specs.Field.{onto}
use Rattle.definition.specs.Opcode.{Role, Sheet, role_of, size}
use Rattle.definition.specs.Rewrite.{Bytes, ends, size_or1, cut, decode}

unfoldable pub joined : List Bytes → List ℕ
joined [] = []
joined (i ∷ is) = i ++ joined is

-- an instruction as long as its opcode says
pub record Whole (s : Sheet) (i : Bytes) : Type 0 where
  pub role : Role
  pub first : ℕ
  pub rest : List ℕ
  pub is : i ≡ first ∷ rest
  pub known : role_of s first ≡ some role
  pub sized : suc (length rest) ≡ size role

unfoldable pub Wholes : Sheet → List Bytes → Type 0
Wholes s [] = Unit {0}
Wholes s (i ∷ is) = Whole s i × Wholes s is

put : List ℕ → List Bytes → List Bytes
put [] y = y
put (b ∷ bs) y = onto b (put bs y)

put-nil : (o : List ℕ) (ys : List Bytes) → put o ([] ∷ ys) ≡ o ∷ ys
unfolding put onto
put-nil [] ys = refl
put-nil (b ∷ bs) ys = ap (λ x. onto b x) (put-nil bs ys)

cut-operand : (s : Sheet) (o rest : List ℕ) → cut s (o ++ rest) (length o) ≡ put o (cut s rest 0)
unfolding cut put
cut-operand s [] rest = refl
cut-operand s (b ∷ bs) rest = ap (λ x. onto b x) (cut-operand s bs rest)

cut-one : (s : Sheet) (b : ℕ) (o rest : List ℕ) (r : Role) → role_of s b ≡ some r → suc (length o) ≡ size r → cut s ((b ∷ o) ++ rest) 0 ≡ [] ∷ put (b ∷ o) (cut s rest 0)
unfolding cut put ends size_or1
cut-one s b o rest r k z =
    let e : ends (role_of s b) (length (o ++ rest)) ≡ true =
    ap (λ t. ends t (length (o ++ rest))) k ∙ le-leb (size r) (suc (length (o ++ rest))) (omega (arith, length-append o rest)) in
    let n : size_or1 (role_of s b) - 1 ≡ length o = ap (λ t. size_or1 t - 1) k ∙ omega arith in
    ap (λ t. elim t [ true ↦ [] ∷ onto b (cut s (o ++ rest) (size_or1 (role_of s b) - 1)) | false ↦ [] ∷ [] ]) e
    ∙ (ap (λ m. [] ∷ onto b (cut s (o ++ rest) m)) n ∙ ap (λ t. [] ∷ onto b t) (cut-operand s o rest))

cut-joined : (s : Sheet) (is : List Bytes) → Wholes s is → cut s (joined is) 0 ≡ [] ∷ is
unfolding joined Wholes cut
cut-joined s [] w = refl
cut-joined s (i ∷ is) w =
    let h = w.0 in
    ap (λ t. cut s (t ++ joined is) 0) h.is
    ∙ (cut-one s h.first h.rest (joined is) h.role h.known h.sized
    ∙ (ap (λ t. [] ∷ put (h.first ∷ h.rest) t) (cut-joined s is w.1) ∙ (ap (λ t. [] ∷ t) (put-nil (h.first ∷ h.rest) is) ∙ ap (λ t. [] ∷ t ∷ is) (sym h.is))))

pub decode-joined : (s : Sheet) (is : List Bytes) → Wholes s is → decode s (joined is) ≡ is
unfolding decode
decode-joined s is w = ap (λ x. drop 1 x) (cut-joined s is w)
