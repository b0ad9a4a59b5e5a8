-- Every refusal that is answered has a name: it is 14, or one of the check's.
use Rattle.std.proofs.Common.{◌≡◌, ℕ, List, refl, arith}
use Rattle.std.specs.Prelude.{Result, Err}
use Rattle.definition.specs.Slowest.{Answer, refused, looping, measured, Measures, refuses_room, refuses, loops, measures}
use Rattle.definition.specs.View.{refusal_number, Named}
use Rattle.definition.specs.declared.Refusal.{Refusal}
use Rattle.definition.specs.declared.Refused.{Refused}
use Rattle.field.proofs.Named.{small-named}
use Rattle.image_check.proofs.Named.{checks-named}
use Rattle.slowest.specs.declared.Measured.{Measured}
use Rattle.slowest.specs.View.{answer_view}

measures-named : (r : Refusal) {room : ℕ} {sheet code : List ℕ} {depth : ℕ} {a : Answer} → Measures room sheet code depth a → a.number ≡ refusal_number r → Named r
unfolding refused looping measured
measures-named r (refuses_room short) number = small-named r (omega (arith, number))
measures-named r (refuses enough checks failed) number = checks-named r checks number
measures-named r (loops enough read checks looping) number = small-named r (omega (arith, number))
measures-named r (measures enough read checks straight slowest few) number = small-named r (omega (arith, number))

pub slowest-named : {room : ℕ} {sheet code : List ℕ} {depth : ℕ} {x : Result Measured Refused} (outcomes : List ℕ) (e : Refused) → Measures room sheet code depth (answer_view x outcomes) → x ≡ Err e → Named e.refusal
slowest-named outcomes e d is = measures-named e.refusal (rw is at d) refl
