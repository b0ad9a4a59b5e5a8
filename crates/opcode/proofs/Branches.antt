-- A CMP_BR decides as IEC's comparison does: branching on false negates the comparison, a constant on the left mirrors it.
use mathlib.Core.Path.{◌≡◌, refl, ap, sym, ◌∙◌}
use mathlib.Core.Bool.{Bool, true, false, not}
use Prim.Native.Nat.{ℕ}
use borrow.Author.Tests.{eq-eqb, ne_eqb, eqb-true, eqb-false, le-leb, lt-leb, ltb-true, ltb-false}
use lib.Dec.{eqb, leb, ltb}
use lib.IntN.{ℤ, pos, negsuc}
use lib.Signed.{lt_z, le_z}
use Rattle.definition.specs.Opcode.{CompareOp, Eq, Ne, Lt, Le, Gt, Ge, negate, commute, Sheet, comparison_byte}
use Rattle.definition.specs.Iec.{signed_of, equal, iec, decides, taken}
use Rattle.opcode.specs.Table.{Good}
use Rattle.opcode.proofs.Sheets.{comparison-of-byte}

not-not : (b : Bool) → not (not b) ≡ b
not-not true = refl
not-not false = refl

not-less : (a b : ℕ) → leb b a ≡ not (ltb a b)
not-less a b = go (ltb a b) refl
  where
    go : (t : Bool) → ltb a b ≡ t → leb b a ≡ not t
    go true e = lt-leb b a (ltb-true a b e)
    go false e = le-leb b a (ltb-false a b e)

same_back : (a b : ℕ) → eqb a b ≡ eqb b a
same_back a b = go (eqb a b) refl
  where
    go : (t : Bool) → eqb a b ≡ t → t ≡ eqb b a
    go true e = sym (eq-eqb b a (sym (eqb-true a b e)))
    go false e = sym (ne_eqb b a (λ q. eqb-false a b e (sym q)))

not_lt_z : (a b : ℤ) → le_z b a ≡ not (lt_z a b)
not_lt_z (pos a) (pos b) = not-less a b
not_lt_z (pos a) (negsuc b) = refl
not_lt_z (negsuc a) (pos b) = refl
not_lt_z (negsuc a) (negsuc b) = not-less b a

not_le_z : (a b : ℤ) → lt_z b a ≡ not (le_z a b)
not_le_z a b = sym (ap not (not_lt_z b a) ∙ not-not (lt_z b a))

equal-back : (a b : ℤ) → equal a b ≡ equal b a
unfolding equal
equal-back (pos a) (pos b) = same_back a b
equal-back (pos a) (negsuc b) = refl
equal-back (negsuc a) (pos b) = refl
equal-back (negsuc a) (negsuc b) = same_back a b

pub iec-negate : (c : CompareOp) (a b : ℤ) → iec (negate c) a b ≡ not (iec c a b)
unfolding iec negate
iec-negate Eq a b = refl
iec-negate Ne a b = sym (not-not (equal a b))
iec-negate Lt a b = not_lt_z a b
iec-negate Le a b = not_le_z a b
iec-negate Gt a b = not_lt_z b a
iec-negate Ge a b = not_le_z b a

pub iec-commute : (c : CompareOp) (a b : ℤ) → iec (commute c) a b ≡ iec c b a
unfolding iec commute
iec-commute Eq a b = equal-back a b
iec-commute Ne a b = ap not (equal-back a b)
iec-commute Lt a b = refl
iec-commute Le a b = refl
iec-commute Gt a b = refl
iec-commute Ge a b = refl

-- the branch with a comparison's byte is taken exactly where the comparison holds of the two values
pub taken-iec : {s : Sheet} → Good s → (c : CompareOp) (w x k : ℕ) → taken s w (comparison_byte s c) x k ≡ iec c (signed_of w x) (signed_of w k)
unfolding taken decides
taken-iec g c w x k = ap (λ o. decides o (signed_of w x) (signed_of w k)) (comparison-of-byte g c)
