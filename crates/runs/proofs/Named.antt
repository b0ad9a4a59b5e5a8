-- A sheet and a rule file are refused by numbers that have a name.
use Rattle.std.proofs.Common.{◌≡◌, ℕ, Bool, true, false, List, sym, refl, arith, leb}
use borrow.Author.Tests.{leb-true, leb-false}
use Rattle.std.specs.Prelude.{Result, Err}
use Rattle.definition.specs.Limits.{output_short}
use Rattle.definition.specs.Res.{Res, ok, refuse}
use Rattle.definition.specs.Rules.{Rule, read_rules}
use Rattle.definition.specs.View.{refusal_number, res_of, Named}
use Rattle.definition.specs.declared.Refusal.{Refusal}
use Rattle.definition.specs.declared.Refused.{Refused}
use Rattle.field.proofs.Named.{small-named}
use Rattle.opcode.specs.Table.{table_size}
use Rattle.opcode.specs.Reading.{Answers}
use Rattle.rules.specs.View.{read_into, answer_of, Answered}
use Rattle.runs.proofs.Refusals.{Numbered, numbered-demand, rules-numbered}

-- a refusal with a number from 1 to 14
pub refused-named : {A : Type 0} {x : Res A} (r : Refusal) {place : ℕ} → x ≡ refuse (refusal_number r) place → Numbered x → Named r
unfolding Numbered
refused-named {A = A} r {place} is told = let t : Numbered {A = A} (refuse (refusal_number r) place) = rw is at told in small-named r (omega (arith, t.1))

-- an answer of code that stands for one of the definition's
pub numbered-named : {T A : Type 0} (f : T → A) {r : Result T Refused} {x : Res A} (e : Refused) → res_of f r ≡ x → Numbered x → r ≡ Err e → Named e.refusal
numbered-named f e same told is = refused-named e.refusal (sym (rw is at same)) told

pub sheet-named : {room : ℕ} {text table : List ℕ} {r : Result (Unit {0}) Refused} (e : Refused) → Answers room text table (res_of (λ u. u) r) → r ≡ Err e → Named e.refusal
sheet-named {room} {text} {table} e answers is = by (leb table_size room) refl
  where
    d : Answers room text table (refuse (refusal_number e.refusal) e.place)
    d = rw is at answers

    by : (b : Bool) → leb table_size room ≡ b → Named e.refusal
    by true h = small-named e.refusal (omega (arith, (d.fit (leb-true _ _ h)).reads.number))
    by false h = small-named e.refusal (let q = (d.unfit (leb-false _ _ h)).is in let n : refusal_number e.refusal ≡ output_short = cc in omega (arith, n))

into-numbered : (room : ℕ) (text : List ℕ) → Numbered (read_into room text)
unfolding read_into read_rules
into-numbered room text = numbered-demand _ output_short 0 _ (omega arith, omega arith) (λ q. rules-numbered 1 _)

count-numbered : (x : Res (List Rule)) → Numbered x → Numbered (answer_of x)
unfolding answer_of Numbered
count-numbered (ok rs) t = tt
count-numbered (refuse n p) t = t

pub rules-named : (room : ℕ) (text : List ℕ) {table : List ℕ} {r : Result ℕ Refused} (e : Refused) → Answered room (read_into room text) (res_of (λ n. n) r) table → r ≡ Err e → Named e.refusal
rules-named room text e d is = numbered-named (λ n. n) e d.is (count-numbered (read_into room text) (into-numbered room text)) is
