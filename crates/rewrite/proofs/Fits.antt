-- What a rule leaves of two instructions fits them: only an instruction of three bytes has its operand rewritten.
use mathlib.Core.Path.{◌≡◌, ◌∙◌}
use mathlib.Core.Bool.{true}
use mathlib.Core.Option.{Option, some}
use mathlib.Core.List.{List}
use Prim.Native.Nat.{ℕ}
use lib.ListN.{length}
use Rattle.definition.specs.Opcode.{Role, Sheet, size}
use Rattle.definition.specs.Rules.{Action, keep, remove, rewrite_operand, allowed}
use Rattle.definition.specs.Rewrite.{Bytes, instruction}
use Rattle.rules.specs.View.{rules_in, IsRules}
use Rattle.rules.proofs.Pairs.{matched, rewritten, variable-size}
use Rattle.rewrite.specs.View.{Fitting, matcher}
use Rattle.rewrite.proofs.Decoding.{Listed}

allowed-fits : (x : Action) (r : Role) → allowed x r ≡ true → Fitting x (size r)
unfolding Fitting
allowed-fits keep r e = tt
allowed-fits remove r e = tt
allowed-fits (rewrite_operand n) r e = variable-size r (rewritten n r e).0

same_size : (o : Option Role) (p q : Role) → o ≡ some p → o ≡ some q → size p ≡ size q
same_size o p q ep eq = let e : p ≡ q = cc in rw e

-- of two instructions that were decoded
pub found-fits : (s : Sheet) (table : List ℕ) (count pass : ℕ) (a b : Bytes) (x y : Action) → IsRules table count → Listed s a → Listed s b
    → matcher table count pass (instruction s a) (instruction s b) ≡ some (x, y) → (Fitting x (length a)) × (Fitting y (length b))
unfolding instruction
found-fits s table count pass a b x y held la lb m =
    let k = matched pass (rules_in table count) (instruction s a) (instruction s b) (x, y) held.accepted m in
    let pa = la.long ∙ same_size _ la.role k.r la.is k.first in
    let pb = lb.long ∙ same_size _ lb.role k.q lb.is k.second in
    (rw pa (allowed-fits x k.r k.pair.one), rw pb (allowed-fits y k.q k.pair.two))
