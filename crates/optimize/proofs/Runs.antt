-- Passes one after another: what the tables say of the pipeline.
use mathlib.Core.Path.{◌≡◌, refl, ap, sym, ◌∙◌}
use mathlib.Core.Bool.{Bool, true, false, ◌||◌}
use mathlib.Core.Option.{Option, some, none}
use mathlib.Core.List.{List, [], ◌∷◌, ◌++◌, map, append-nil}
use Prim.Native.Nat.{ℕ, zero, suc, ◌+◌, ◌-◌, ◌≤◌, ◌<◌}
use native.Mathlib.Omega.{arith}
use lib.ListN.{length, take, drop, get_or}
use lib.Seq.{length-take-le}
use Rattle.definition.specs.Field.{has}
use Rattle.definition.specs.Opcode.{Sheet}
use Rattle.definition.specs.Rules.{Action, Rule}
use Rattle.definition.specs.Rewrite.{Bytes, Matcher, OffsetMap, decode, instruction, actions, moved_to, apply_peephole}
use Rattle.definition.specs.Optimize.{Pipeline, map_through, run}
use Rattle.rules.specs.View.{rules_in}
use Rattle.rewrite.specs.View.{marked, matcher, Peephole}
use Rattle.store.proofs.Fills.{front, refilled, length-filled}
use Rattle.rewrite.proofs.Pass.{acts-pair, paired}
use Rattle.definition.specs.Lent.{filled, zeros}
use Rattle.optimize.specs.View.{Small, passes, Marks, map_from, map_in, Runnable, Ran, pipeline}
use Rattle.optimize.proofs.Tables.{moved_in}

-- ---- a pass asks only which offsets are protected

module _ (s : Sheet) (m : Matcher) (ps qs : List ℕ) (same : (x : ℕ) → has ps x ≡ has qs x) where
  same-paired : (at : ℕ) (a b : Bytes) (is : List Bytes) (o : Option (Action × Action))
      → actions s m ps (at + length a) (b ∷ is) ≡ actions s m qs (at + length a) (b ∷ is)
      → actions s m ps (at + length a + length b) is ≡ actions s m qs (at + length a + length b) is
      → paired s m ps at a b is o ≡ paired s m qs at a b is o
  unfolding paired
  same-paired at a b is none e f = rw e
  same-paired at a b is (some two) e f = rw f

  same-choice : (at : ℕ) (a b : Bytes) (is : List Bytes)
      → actions s m ps (at + length a) (b ∷ is) ≡ actions s m qs (at + length a) (b ∷ is)
      → actions s m ps (at + length a + length b) is ≡ actions s m qs (at + length a + length b) is
      → (t : Bool) → ◌≡◌ {A = List Action} (elim t [ true ↦ paired s m ps at a b is none | false ↦ paired s m ps at a b is (m (instruction s a) (instruction s b)) ])
      (elim t [ true ↦ paired s m qs at a b is none | false ↦ paired s m qs at a b is (m (instruction s a) (instruction s b)) ])
  same-choice at a b is e f true = same-paired at a b is none e f
  same-choice at a b is e f false = same-paired at a b is (m (instruction s a) (instruction s b)) e f

  same_test : (at next : ℕ) → (has ps at || has ps next) ≡ (has qs at || has qs next)
  same_test at next = rw (same at, same next)

  same-actions : (at : ℕ) (is : List Bytes) → actions s m ps at is ≡ actions s m qs at is
  unfolding actions
  same-actions at [] = refl
  same-actions at (a ∷ []) = refl
  same-actions at (a ∷ b ∷ is) =
      acts-pair s m ps at a b is
      ∙ ap (λ (t : Bool). elim t [ true ↦ paired s m ps at a b is none | false ↦ paired s m ps at a b is (m (instruction s a) (instruction s b)) ]) (same_test at (at + length a))
      ∙ same-choice at a b is (same-actions (at + length a) (b ∷ is)) (same-actions (at + length a + length b) is) (has qs at || has qs (at + length a))
      ∙ sym (acts-pair s m qs at a b is)

  pub same-pass : (code : List ℕ) → apply_peephole s m ps code ≡ apply_peephole s m qs code
  unfolding apply_peephole
  same-pass code = rw (same-actions 0 (decode s code))

-- ---- lists and maps moved

same_map : (f g : ℕ → ℕ) (xs : List ℕ) → ((x : ℕ) → f x ≡ g x) → map f xs ≡ map g xs
same_map f g [] h = refl
same_map f g (x ∷ xs) h = let e = same_map f g xs h in rw (h x, e)

map-from : (m : OffsetMap) (at : ℕ) (ys : List ℕ) → map_from at (map (moved_to m) ys) ≡ map_through m (map_from at ys)
unfolding map_from map_through
map-from m at [] = refl
map-from m at (y ∷ ys) = ap (λ (r : OffsetMap). (at, moved_to m y) ∷ r) (map-from m (suc at) ys)

small-map : (f : ℕ → ℕ) (n : ℕ) (xs : List ℕ) → ((x : ℕ) → f x ≤ n) → (i : ℕ) → get_or (map f xs) i 0 < suc n
small-map f n [] h i = omega arith
small-map f n (x ∷ xs) h zero = omega (arith, h x)
small-map f n (x ∷ xs) h (suc i) = small-map f n xs h i

-- ---- one pass

pub ran : (s : Sheet) (rules : List ℕ) (count pass : ℕ) {protected marks code code' moves protected' total' : List ℕ} {n : ℕ} (total : List ℕ)
    → Marks protected marks → Peephole (apply_peephole s (matcher rules count pass) (marked marks) code) code code' moves n
    → protected' ≡ map (moved_to (map_in moves)) protected → total' ≡ map (moved_to (map_in moves)) total
    → Ran (run s (rules_in rules count) pass (pipeline code protected total)) code code' protected' total' n
unfolding run map_in
ran s rules count pass {protected} {marks} {code} {code'} {moves} {protected'} {total'} {n} total mk ph ep et =
    let M = (apply_peephole s (matcher rules count pass) protected code).1 in
    let same = same-pass s (matcher rules count pass) (marked marks) protected mk.is code in
    let ph' = rw same at ph in
    let by : (x : ℕ) → moved_to (map_in moves) x ≡ moved_to M x = λ x. moved_in moves x ∙ ph'.moved x in
    record {
      bytes = ph'.is;
      end = ph'.end;
      within = ph'.within;
      protected = ep ∙ same_map (moved_to (map_in moves)) (moved_to M) protected by;
      map = rw (et ∙ same_map (moved_to (map_in moves)) (moved_to M) total by) (map-from M 0 total);
      small = record { at = rw ep (small-map (moved_to (map_in moves)) n protected (λ x. rw (moved_in moves x) (ph.small x))) };
    }

-- ---- passes in turn, each over what the one before left

pub then-run : (s : Sheet) (rules : List Rule) {q : Pipeline} {code c p t d p' t' : List ℕ} {n n' : ℕ} (pass : ℕ) → Ran q code c p t n
    → Ran (run s rules pass (pipeline (take n c) p t)) (take n c) d p' t' n' → Ran (run s rules pass q) code (d ++ drop n c) p' t' n'
then-run s rules {q} {code} {c} {p} {t} {d} {p'} {t'} {n} {n'} pass a b =
    let here : take n c ≡ q.bytecode = rw a.bytes (front (length code) q.bytecode n (sym a.end)) in
    let b' : Ran (run s rules pass q) q.bytecode d p' t' n' = rw (here, a.protected, a.map) at b in
    let long : length (run s rules pass q).bytecode ≤ n = omega (arith, b'.end, b'.within, a.end) in
    record {
      bytes = rw (b'.bytes, a.bytes, ← a.end) (refilled (length code) q.bytecode (run s rules pass q).bytecode n (sym a.end) a.within long);
      end = b'.end;
      within = omega (arith, b'.within, a.within, a.end);
      protected = b'.protected;
      map = b'.map;
      small = b'.small;
    }

-- what k passes make
unfoldable pub done : Sheet → List Rule → Pipeline → ℕ → Pipeline
done s rules p zero = p
done s rules p (suc k) = run s rules (suc k) (done s rules p k)

pub done-first : (s : Sheet) (rules : List Rule) (code protected total : List ℕ) → Small (suc (length code)) protected → Ran (done s rules (pipeline code protected total) 0) code code protected total (length code)
unfolding done filled zeros
done-first s rules code protected total small =
    let none : length code - length code ≡ 0 = omega arith in
    record { bytes = sym (rw none (append-nil code)); end = refl; within = omega arith; protected = refl; map = refl; small = small }

pub done-more : (s : Sheet) (rules : List Rule) (p : Pipeline) (pass : ℕ) → 1 ≤ pass → done s rules p (pass + 1 - 1) ≡ run s rules pass (done s rules p (pass - 1))
unfolding done
done-more s rules p zero h = absurd (omega arith)
done-more s rules p (suc k) h =
    let e : suc k + 1 - 1 ≡ suc k = omega arith in
    let f : suc k - 1 ≡ k = omega arith in
    rw (e, f)

pub done-all : (s : Sheet) (rules : List Rule) (p : Pipeline) → done s rules p 3 ≡ passes s rules p
unfolding done passes
done-all s rules p = refl

-- what the next pass is lent
pub runnable : {sheet code c p p₀ t : List ℕ} {n : ℕ} {q : Pipeline} → Runnable sheet code p₀ → Ran q code c p t n → Runnable sheet (take n c) p
runnable {code = code} {c = c} {n = n} {q = q} r a =
    let here : take n c ≡ q.bytecode = rw a.bytes (front (length code) q.bytecode n (sym a.end)) in
    record { table = r.table; few = rw here (omega (arith, a.end, a.within, r.few)); small = rw (here, ← a.end) a.small }

pub ran-long : {code c p t : List ℕ} {n : ℕ} {q : Pipeline} → Ran q code c p t n → length c ≡ length code
ran-long {code} {c} {q = q} a = ap length a.bytes ∙ length-filled (length code) q.bytecode (omega (arith, a.end, a.within))

-- the part of a slice that the next pass is lent
pub part-long : {code c p t : List ℕ} {n : ℕ} {q : Pipeline} → Ran q code c p t n → n ≡ length (take n c)
part-long {c = c} {n = n} a = sym (length-take-le n c (omega (arith, ran-long a, a.within)))

-- and its code is not longer
pub part-few : {code c p t : List ℕ} {n : ℕ} {q : Pipeline} → Ran q code c p t n → length (take n c) ≤ length code
part-few a = let l = part-long a in omega (arith, a.within)

pub later-few : {code c d e p t p' t' : List ℕ} {n : ℕ} {q q' : Pipeline} → Ran q code c p t n → Ran q' d e p' t' n → length (take n c) ≤ length d
later-few a b = let l = part-long a in omega (arith, b.within)

pub part-within : {code c p t : List ℕ} {n : ℕ} {q : Pipeline} → Ran q code c p t n → n ≤ length c
part-within a = omega (arith, ran-long a, a.within)
