-- Every refusal that is answered has a name: what the check answers is 0, 7, 10, 20 or 21.
use Rattle.std.proofs.Common.{◌≡◌, ℕ, List, sym, refl, ◌∙◌, arith}
use Rattle.std.specs.Prelude.{Result, Err, MatchResult}
use Rattle.definition.specs.Opcode.{Sheet}
use Rattle.definition.specs.Check.{Astray, HeightFault, Answers, Checks, refuses_sheet, refuses_length, answers}
use Rattle.definition.specs.View.{refusal_number, Named}
use Rattle.definition.specs.declared.Refusal.{Refusal}
use Rattle.definition.specs.declared.Refused.{Refused}
use Rattle.field.proofs.Named.{small-named}
use Rattle.image_check.specs.View.{fault_of, number_of, place_of, Admitted, Rejects}

module _ (r : Refusal) where
  answer-named : {s : Sheet} {code : List ℕ} {depth n : ℕ} → Answers s code depth n → n ≡ refusal_number r → Named r
  answer-named {s} {code} {depth} a number u is =
      let here = rw is at number in
      let straight : Astray s code → ⊥ = λ x. u.unnamed.not_astray (sym here ∙ a.strays.1 x) in
      let level : HeightFault s code depth → ⊥ = λ x. u.unnamed.not_bad_height (sym here ∙ a.faults.1 (straight, x)) in
      omega (arith, here, a.neither.1 (straight, level), u.unnamed.past_far_branch)

  pub checks-named : {sheet code : List ℕ} {depth n place : ℕ} → Checks sheet code depth n place → n ≡ refusal_number r → Named r
  checks-named (refuses_sheet read fault) number = small-named r (omega (arith, number))
  checks-named (refuses_length read long) number = small-named r (omega (arith, number))
  checks-named (answers read small a) number = answer-named a number

pub over-named : {s : Sheet} {code : List ℕ} {depth : ℕ} {x : Result (Unit {0}) Refusal} (r : Refusal) → Answers s code depth (fault_of x) → x ≡ Err r → Named r
over-named r a is = answer-named r (rw is at a) refl

pub admit-named : (sheet code table : List ℕ) {x : Result (Unit {0}) Refused} (e : Refused) → MatchResult x (λ u. Admitted sheet code table) (λ e. Rejects sheet code e) → x ≡ Err e → Named e.refusal
admit-named sheet code table e d is = checks-named e.refusal ((rw is at d) 0) refl

pub check-named : {sheet code : List ℕ} {depth : ℕ} {x : Result (Unit {0}) Refused} (e : Refused) → Checks sheet code depth (number_of x) (place_of x) → x ≡ Err e → Named e.refusal
check-named e d is = checks-named e.refusal (rw is at d) refl
