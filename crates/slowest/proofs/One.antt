-- The definition leaves one answer, but for the place that 7 names; and what an answer says.
use Prim.Native.Nat.{ℕ, ◌≤◌}
use mathlib.Core.Path.{◌≡◌, refl, sym, ◌∙◌, ap, subst}
use mathlib.Core.List.{List, [], ◌∷◌, ◌++◌, append-nil}
use mathlib.Core.Bool.{Bool, true, false}
use mathlib.Core.Option.{some}
use lib.ListN.{length, take}
use native.Mathlib.Omega.{arith}
use Rattle.definition.specs.Limits.{max_outcomes}
use Rattle.definition.specs.Opcode.{Sheet}
use Rattle.definition.specs.Sheet.{read_sheet}
use Rattle.definition.specs.Lent.{filled}
use Rattle.definition.specs.Claims.{Either, left, right}
use Rattle.definition.specs.Check.{Checks}
use Rattle.definition.specs.Slowest.{Loops, Finishes, FallsFirst, Slowest, Answer, refused, looping, outcome_bytes, measured, Measures, refuses_room, refuses, loops, measures}
use Rattle.field.proofs.Results.{never, some_is}
use Rattle.runs.proofs.Safe.{lent}
use Rattle.image_check.proofs.One.{one_number}
use Rattle.slowest.proofs.Bits.{length-bytes}

-- ---- one run

-- two lists cannot each fall through first
opposed : (c d a b x y : List Bool) → c ++ (false ∷ a) ≡ d ++ (true ∷ x) → c ++ (true ∷ b) ≡ d ++ (false ∷ y) → ⊥
opposed [] [] a b x y e f = never (cc)
opposed [] (o ∷ d) a b x y e f = never (cc)
opposed (o ∷ c) [] a b x y e f = never (cc)
opposed (o ∷ c) (p ∷ d) a b x y e f = opposed c d a b x y (cc) (cc)

module _ {s : Sheet} {code : List ℕ} {m n : ℕ} {os us : List Bool} (a : Slowest s code m os) (b : Slowest s code n us) where
  one-count : m ≡ n
  one-count =
      let k = a.follows.counted in
      let l = b.follows.counted in
      let i = b.most os a.steps in
      let j = a.most us b.steps in
      omega arith

  one-outcomes : os ≡ us
  one-outcomes = by (a.first us [] b.steps (subst (λ c. Finishes s code us [] b.steps c) (sym one-count) b.follows)) (b.first os [] a.steps (subst (λ c. Finishes s code os [] a.steps c) one-count a.follows))
    where
      by : Either (us ≡ os ++ []) (FallsFirst os us) → Either (os ≡ us ++ []) (FallsFirst us os) → os ≡ us
      by (left e) y = sym (e ∙ append-nil os)
      by (right f) (left e) = e ∙ append-nil us
      by (right f) (right g) = absurd (opposed f.common g.common f.rest f.other g.other g.rest (sym f.falls ∙ g.jumps) (sym f.jumps ∙ g.falls))

  pub one-slowest : (m ≡ n) × (os ≡ us)
  one-slowest = (one-count, one-outcomes)

-- ---- one answer

pub record Same (a b : Answer) : Type 0 where
  pub number : a.number ≡ b.number
  pub loops : a.loops ≡ b.loops
  pub instruction_count : a.instruction_count ≡ b.instruction_count
  pub outcome_count : a.outcome_count ≡ b.outcome_count
  pub outcomes : a.outcomes ≡ b.outcomes

same : {a : Answer} → Same a a
same = record { number = refl; loops = refl; instruction_count = refl; outcome_count = refl; outcomes = refl }

pub one-measure : {room : ℕ} {sheet code : List ℕ} {depth : ℕ} {a b : Answer} → Measures room sheet code depth a → Measures room sheet code depth b → Same a b
unfolding refused looping measured
one-measure (refuses_room l) (refuses_room k) = same
one-measure (refuses_room l) (refuses k c n) = absurd (omega arith)
one-measure (refuses_room l) (loops k e c p) = absurd (omega arith)
one-measure (refuses_room l) (measures k e c f x i) = absurd (omega arith)
one-measure (refuses l c n) (refuses_room k) = absurd (omega arith)
one-measure (refuses l c n) (refuses k d o) = record { number = one_number c d; loops = refl; instruction_count = refl; outcome_count = refl; outcomes = refl }
one-measure (refuses l c n) (loops k e d p) = absurd (n (one_number c d))
one-measure (refuses l c n) (measures k e d f x i) = absurd (n (one_number c d))
one-measure (loops l e c p) (refuses_room k) = absurd (omega arith)
one-measure (loops l e c p) (refuses k d o) = absurd (o (one_number d c))
one-measure (loops l e c p) (loops k g d q) = same
one-measure {code = code} (loops l e c p) (measures k g d f x i) = absurd (f (subst (λ s. Loops s code) (some_is (sym e ∙ g)) p))
one-measure (measures l e c f x i) (refuses_room k) = absurd (omega arith)
one-measure (measures l e c f x i) (refuses k d o) = absurd (o (one_number d c))
one-measure {code = code} (measures l e c f x i) (loops k g d q) = absurd (f (subst (λ s. Loops s code) (some_is (sym g ∙ e)) q))
one-measure {room = room} {code = code} (measures l e c f x i) (measures {count = n} {os = us} k g d h y j) =
    let z = one-slowest x (subst (λ s. Slowest s code n us) (some_is (sym g ∙ e)) y) in
    record { number = refl; loops = refl; instruction_count = z.0; outcome_count = ap length z.1; outcomes = ap (λ u. filled room (outcome_bytes u)) z.1 }

-- ---- what a caller knows

-- of an answer with a number of instructions
pub record Known (sheet code : List ℕ) (depth : ℕ) (a : Answer) : Type 0 where
  pub s : Sheet
  pub read : read_sheet sheet ≡ some s
  pub passes : Checks sheet code depth 0 0
  pub straight : Loops s code → ⊥
  pub outcomes : List Bool
  pub slowest : Slowest s code a.instruction_count outcomes
  pub few : length outcomes ≤ max_outcomes
  pub long : a.outcome_count ≡ length outcomes
  pub given : take a.outcome_count a.outcomes ≡ outcome_bytes outcomes

module _ {room : ℕ} {sheet code : List ℕ} {depth : ℕ} where
  pub measured-is : {a : Answer} → Measures room sheet code depth a → a.number ≡ 0 → a.loops ≡ 0 → Known sheet code depth a
  unfolding refused looping measured
  measured-is (refuses_room l) n o = absurd (omega arith)
  measured-is (refuses l c f) n o = absurd (f n)
  measured-is (loops l e c p) n o = absurd (omega arith)
  measured-is (measures {s = s} {os = os} l e c f x i) n o = record {
    s = s;
    read = e;
    passes = c;
    straight = f;
    outcomes = os;
    slowest = x;
    few = i;
    long = refl;
    given = ap (λ k. take k (filled room (outcome_bytes os))) (sym (length-bytes os)) ∙ lent room (outcome_bytes os);
  }

  pub loops_is : {a : Answer} → Measures room sheet code depth a → a.loops ≡ 1 → (s : Sheet) × (read_sheet sheet ≡ some s) × Loops s code
  unfolding refused measured
  loops_is (refuses_room l) o = absurd (omega arith)
  loops_is (refuses l c f) o = absurd (omega arith)
  loops_is (loops {s = s} l e c p) o = (s, e, p)
  loops_is (measures l e c f x i) o = absurd (omega arith)
