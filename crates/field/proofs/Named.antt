-- A refusal that has a name is known by its number.
use Rattle.std.proofs.Common.{◌≡◌, ◌≤◌, List, [], ◌∷◌, get_or, sym, refl, ap, ◌∙◌, arith}
use Rattle.definition.specs.Limits.{far_branch}
use Rattle.definition.specs.declared.Unnamed.{Unnamed}
use Rattle.definition.specs.declared.Refusal.{Refusal}
use Rattle.definition.specs.declared.Refusal.TheVariants.{BadText, BadForm, BadRange, NoLoop, TooDeep, WrongLines, BadSheet, BadCode, BadRule, CodeFull, LabelsFull, LinesFull, ConstantsFull, OutputShort, FarBranch, Astray, BadHeight, Other}
use Rattle.definition.specs.View.{refusal_number, Named}

-- a refusal whose number is at most 15 has a name
pub small-named : (r : Refusal) → refusal_number r ≤ far_branch → Named r
small-named r small u e = omega (arith, (rw e at small), u.unnamed.past_far_branch)

-- the refusals by number, with BadText where a number has none
abbrev by_number : List Refusal
by_number = BadText ∷ BadText ∷ BadForm ∷ BadRange ∷ NoLoop ∷ TooDeep ∷ WrongLines ∷ BadSheet ∷ BadCode ∷ BadRule ∷ CodeFull ∷ LabelsFull ∷ LinesFull ∷ ConstantsFull ∷ OutputShort ∷ FarBranch
    ∷ BadText ∷ BadText ∷ BadText ∷ BadText ∷ Astray ∷ BadHeight ∷ []

record Known (r : Refusal) : Type 0 where
  is : get_or by_number (refusal_number r) BadText ≡ r
  apart : (u : Unnamed) → u.number ≡ refusal_number r → ⊥

low : {r : Refusal} → get_or by_number (refusal_number r) BadText ≡ r → refusal_number r ≤ far_branch → Known r
low is small = record { is = is; apart = λ u e. omega (arith, e, small, u.unnamed.past_far_branch) }

known : (r : Refusal) → Named r → Known r
known BadText h = low refl (omega arith)
known BadForm h = low refl (omega arith)
known BadRange h = low refl (omega arith)
known NoLoop h = low refl (omega arith)
known TooDeep h = low refl (omega arith)
known WrongLines h = low refl (omega arith)
known BadSheet h = low refl (omega arith)
known BadCode h = low refl (omega arith)
known BadRule h = low refl (omega arith)
known CodeFull h = low refl (omega arith)
known LabelsFull h = low refl (omega arith)
known LinesFull h = low refl (omega arith)
known ConstantsFull h = low refl (omega arith)
known OutputShort h = low refl (omega arith)
known FarBranch h = low refl (omega arith)
known Astray h = record { is = refl; apart = λ u e. u.unnamed.not_astray e }
known BadHeight h = record { is = refl; apart = λ u e. u.unnamed.not_bad_height e }
known (Other u) h = absurd (h u refl)

-- so has one whose number is that of a refusal that has a name
pub same-named : (r s : Refusal) → Named r → refusal_number s ≡ refusal_number r → Named s
same-named r s h e u at = (known r h).apart u (rw at at e)

-- and it is the same refusal
pub named-same : (r s : Refusal) → Named r → refusal_number s ≡ refusal_number r → s ≡ r
named-same r s h e = sym (known s (same-named r s h e)).is ∙ ap (λ n. get_or by_number n BadText) e ∙ (known r h).is
