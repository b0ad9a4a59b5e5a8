-- A longest run has few outcomes: each is that of a branch, which takes three bytes at least, and no two share one.
use Prim.Native.Nat.{ℕ, ◌+◌, ◌*◌, suc, zero, ◌≤◌, ◌<◌}
use mathlib.Core.Path.{◌≡◌, refl, ap}
use mathlib.Core.List.{List}
use mathlib.Core.Bool.{Bool, true, false}
use mathlib.Core.Option.{Option, some, none}
use lib.ListN.{length, get_or}
use lib.Dec.{leb}
use native.Mathlib.Omega.{arith}
use Rattle.definition.specs.Limits.{max_code, max_outcomes}
use Rattle.definition.specs.Field.{has}
use Rattle.definition.specs.Opcode.{Role, Sheet, role_of, size, Flow, onward, away, either, stop, flow}
use Rattle.definition.specs.Runs.{target}
use Rattle.definition.specs.Claims.{left, right, branches}
use Rattle.definition.specs.Check.{starts}
use Rattle.definition.specs.Slowest.{Loops}
use Rattle.rewrite.proofs.Decoding.{size-positive}
use Rattle.runs.proofs.Roles.{branch-size}
use Rattle.image_check.proofs.Starts.{start-holds, gap}
use Rattle.slowest.specs.Longest.{Best, nothing, onwards, choose, best_to, best_flow, longest}
use Rattle.slowest.proofs.Longest.{forward, longest-off, longest-role}

module _ (s : Sheet) (code : List ℕ) (straight : Loops s code → ⊥) where
  abbrev S : List ℕ
  S = starts s code

  abbrev L : ℕ
  L = length code

  abbrev F : ℕ → Best
  F q = longest s code q

  abbrev Few : ℕ → Type 0
  Few q = has S q ≡ true → 3 * length (F q).outcomes + q ≤ L

  -- an instruction at p, all of whose exits lie ahead
  module _ (p : ℕ) (r : Role) (h : has S p ≡ true) (known : role_of s (get_or code p 0) ≡ some r) (more : (q : ℕ) → p < q → Few q) where
    abbrev next : ℕ
    next = p + size r

    whole : next ≤ L
    whole = let l = (start-holds s code p h).0 in gap s code p L r h known (right refl) l

    ahead : (q : ℕ) → p < q → 3 * length (F q).outcomes + next ≤ L
    unfolding nothing
    ahead q lt = by (has S q) refl
      where
        by : (b : Bool) → has S q ≡ b → 3 * length (F q).outcomes + next ≤ L
        by true k = let l = more q lt k in let g = gap s code p q r h known (left k) lt in omega arith
        by false k = let w = whole in rw (longest-off s code straight q k) (omega arith)

    ahead-to : (t : Option ℕ) → ((q : ℕ) → t ≡ some q → p < q) → 3 * length (best_to F t).outcomes + next ≤ L
    unfolding best_to nothing
    ahead-to none f = let w = whole in omega arith
    ahead-to (some q) f = ahead q (f q refl)

    behind : (w : Flow) → flow r ≡ w → 3 * length (best_flow w code next F).outcomes + p ≤ L
    unfolding best_flow onwards nothing choose branches
    behind onward e = let z = size-positive r in let l = ahead next (omega arith) in omega arith
    behind away e = let l = ahead-to (target code next) (forward s code straight p r h known (ap branches e)) in omega arith
    behind either e = by (leb (best_to F (target code next)).count (F next).count)
      where
        by : (c : Bool) → 3 * length (choose c (F next) (best_to F (target code next))).outcomes + p ≤ L
        by true = let z = branch-size r (ap branches e) in let l = ahead next (omega arith) in omega arith
        by false = let z = branch-size r (ap branches e) in let l = ahead-to (target code next) (forward s code straight p r h known (ap branches e)) in omega arith
    behind stop e = let w = whole in omega arith

  few-from : (n p : ℕ) → L ≤ n + p → Few p
  few-from zero p l h = let k = (start-holds s code p h).0 in absurd (omega arith)
  few-from (suc n) p l h =
      let a = start-holds s code p h in
      rw (longest-role s code straight p a.1 h a.2) (behind p a.1 h a.2 (λ q lt. few-from n q (omega arith)) (flow a.1) refl)

  pub few : (p : ℕ) → length code ≤ max_code → length (longest s code p).outcomes ≤ max_outcomes
  unfolding nothing
  few p small = by (has S p) refl
    where
      by : (b : Bool) → has S p ≡ b → length (F p).outcomes ≤ max_outcomes
      by true h = let l = few-from L p (omega arith) h in omega arith
      by false h = rw (longest-off s code straight p h) (omega arith)
