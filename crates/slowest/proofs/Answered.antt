-- The definition has an answer for all code within its limit, and what it is is worked out here.
use Prim.Native.Nat.{ℕ, ◌≤◌}
use mathlib.Core.Path.{◌≡◌, refl, subst}
use mathlib.Core.List.{List, [], ◌∷◌}
use mathlib.Core.Bool.{Bool, true, false, ◌||◌}
use mathlib.Core.Option.{some}
use lib.ListN.{length}
use lib.Dec.{eqb}
use borrow.Author.Tests.{eqb-true, eqb-false}
use Rattle.definition.specs.Limits.{max_code, max_outcomes}
use Rattle.definition.specs.Field.{has}
use Rattle.definition.specs.Opcode.{Sheet}
use Rattle.definition.specs.Sheet.{read_sheet}
use Rattle.definition.specs.Check.{starts, Checks}
use Rattle.definition.specs.Check as check
use Rattle.definition.specs.Slowest.{is_back, Loops, Answer, refused, looping, measured, Measures, refuses, loops, measures}
use Rattle.field.proofs.Lists.{has_here, has-later}
use Rattle.field.proofs.Tests.{or_left, or_right}
use Rattle.field.proofs.Results.{never}
use Rattle.image_check.proofs.Starts.{has-cases}
use Rattle.image_check.proofs.Nodes.{answers}
use Rattle.image_check.proofs.Tells.{verdict_of}
use Rattle.slowest.specs.Longest.{Best, longest}
use Rattle.slowest.proofs.Longest.{slowest}
use Rattle.slowest.proofs.Few.{few}

-- ---- a branch back, looked for at each of some places

unfoldable pub any_back : Sheet → List ℕ → List ℕ → Bool
any_back s code [] = false
any_back s code (p ∷ ps) = is_back s code p || any_back s code ps

module _ (s : Sheet) (code : List ℕ) where
  back-there : (ps : List ℕ) → any_back s code ps ≡ true → (p : ℕ) × (has ps p ≡ true) × (is_back s code p ≡ true)
  unfolding any_back
  back-there [] e = never (cc)
  back-there (p ∷ ps) e = by (is_back s code p) refl e (back-there ps)
    where
      by : (b : Bool) → is_back s code p ≡ b → (b || any_back s code ps) ≡ true → (any_back s code ps ≡ true → (q : ℕ) × (has ps q ≡ true) × (is_back s code q ≡ true)) → (q : ℕ) × (has (p ∷ ps) q ≡ true) × (is_back s code q ≡ true)
      by true k f more = (p, has_here p ps, k)
      by false k f more = let a = more f in (a.0, has-later p ps a.0 a.1, a.2)

  back_found : (ps : List ℕ) (q : ℕ) → has ps q ≡ true → is_back s code q ≡ true → any_back s code ps ≡ true
  unfolding any_back has
  back_found [] q h b = never (cc)
  back_found (p ∷ ps) q h b = has-cases p ps q ((is_back s code p || any_back s code ps) ≡ true) h
      (λ k. or_left _ (any_back s code ps) (subst (λ x. is_back s code x ≡ true) k b))
      (λ k. or_right (is_back s code p) _ (back_found ps q k b))

  pub loops-by : any_back s code (starts s code) ≡ true → Loops s code
  loops-by e = let a = back-there (starts s code) e in record { place = a.0; start = a.1; back = a.2 }

  pub straight-by : any_back s code (starts s code) ≡ false → Loops s code → ⊥
  straight-by e l = let z = back_found (starts s code) l.place l.start l.back in never (cc)

-- ---- the answer

-- what an answer says
pub data Said : Type 0 where
  refusal : ℕ → Said
  back : Said
  slow : Best → Said

unfoldable pub answer_of : ℕ → Said → Answer
answer_of room (refusal n) = refused room n 0
answer_of room back = looping room
answer_of room (slow b) = measured room b.count b.outcomes

-- by whether it passes and whether a branch leads back
unfoldable pub said_by : Bool → Bool → ℕ → Best → Said
said_by true true n b = back
said_by true false n b = slow b
said_by false c n b = refusal n

unfoldable pub said : Sheet → List ℕ → ℕ → Said
said s code depth = said_by (eqb (verdict_of s code depth) 0) (any_back s code (starts s code)) (verdict_of s code depth) (longest s code 0)

pub answered : (room : ℕ) (sheet code : List ℕ) (depth : ℕ) (s : Sheet) → max_outcomes ≤ room → read_sheet sheet ≡ some s → length code ≤ max_code → Measures room sheet code depth (answer_of room (said s code depth))
unfolding said said_by answer_of verdict_of
answered room sheet code depth s lent read small = by (eqb (verdict_of s code depth) 0) refl (any_back s code (starts s code)) refl
  where
    a : check.Answers s code depth (verdict_of s code depth)
    a = answers s code depth

    passing : eqb (verdict_of s code depth) 0 ≡ true → Checks sheet code depth 0 0
    passing k = check.answers read small (subst (λ n. check.Answers s code depth n) (eqb-true _ _ k) a)

    by : (b : Bool) → eqb (verdict_of s code depth) 0 ≡ b → (c : Bool) → any_back s code (starts s code) ≡ c → Measures room sheet code depth (answer_of room (said_by b c (verdict_of s code depth) (longest s code 0)))
    by true k true j = loops lent read (passing k) (loops-by s code j)
    by true k false j = let f = straight-by s code j in measures lent read (passing k) f (slowest s code f depth (a.passes.0 (eqb-true _ _ k))) (few s code f 0 small)
    by false k c j = refuses lent (check.answers read small a) (eqb-false _ _ k)
