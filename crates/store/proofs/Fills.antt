-- Laws of zeros, and of lists that are set, zeroed and filled.
use mathlib.Core.Path.{◌≡◌, refl, ap, sym, ◌∙◌}
use mathlib.Core.List.{List, [], ◌∷◌, ◌++◌, append_assoc, append-nil}
use Prim.Native.Nat.{ℕ, zero, suc, ◌+◌, ◌-◌, ◌≤◌, ◌<◌, min}
use native.Mathlib.Numerals.{add-one}
use native.Mathlib.Omega.{arith, min_cases}
use lib.ListN.{length, take, drop, set, get_or, replicate, length-set, length-append, length-drop}
use lib.Seq.{take-suc-set, take_all, take_at, drop_at, length-take-le}
use Rattle.definition.specs.Lent.{zeros, filled}
use Rattle.std.proofs.lemmas.List.{replicate_more}
use Rattle.store.specs.Fill.{set_from, zeroed_from, fitted, fitted_with}

-- ---- zeros

pub replicate-none : (n x : ℕ) → ◌≡◌ {A = ℕ} (get_or (replicate n 0) x 0) 0
replicate-none zero x = refl
replicate-none (suc n) zero = refl
replicate-none (suc n) (suc x) = replicate-none n x

pub zeros-replicate : (n : ℕ) → replicate n 0 ≡ zeros n
unfolding zeros
zeros-replicate zero = refl
zeros-replicate (suc n) = ap (λ (l : List ℕ). 0 ∷ l) (zeros-replicate n)

pub length-zeros : (n : ℕ) → length (zeros n) ≡ n
unfolding zeros
length-zeros zero = refl
length-zeros (suc n) = ap suc (length-zeros n)

pub zeros-append : (a b : ℕ) → zeros a ++ zeros b ≡ zeros (a + b)
unfolding zeros
zeros-append zero b = let e : 0 + b ≡ b = omega arith in rw e
zeros-append (suc a) b = let e : suc a + b ≡ suc (a + b) = omega arith in rw e (ap (λ (l : List ℕ). 0 ∷ l) (zeros-append a b))

-- ---- the same element from a place up to the end

pub record Setting {A : Type 0} (x : A) (list₀ : List A) (from : ℕ) (list : List A) (i : ℕ) : Type 0 where
  pub head : take i list ≡ take from list₀ ++ replicate (i - from) x
  pub room : length list ≡ length list₀
  pub high : i - from ≤ length list₀ - from

module _ {A : Type 0} (x : A) (list₀ : List A) (from : ℕ) where
  pub set-begins : Setting x list₀ from list₀ from
  set-begins =
      let e : from - from ≡ 0 = omega arith in
      record { head = rw (e, append-nil); room = refl; high = omega arith }

  module _ (list : List A) (i : ℕ) (z : Setting x list₀ from list i) (low : from ≤ i) where
    pub set-goes-on : i < length list → Setting x list₀ from (set list i x) (i + 1)
    set-goes-on h =
        let e : i + 1 - from ≡ i - from + 1 = omega arith in
        record {
          head = rw (e, add-one i, take-suc-set list i x h, z.head, ← (replicate_more (i - from) x), append_assoc);
          room = length-set list i x ∙ z.room;
          high = omega (arith, z.room);
        }

    pub set-ends : length list ≤ i → list ≡ set_from from x list₀
    unfolding set_from
    set-ends h =
        let e : i - from ≡ length list₀ - from = omega (arith, z.high, z.room) in
        sym (take_all i list h) ∙ z.head ∙ ap (λ (n : ℕ). take from list₀ ++ replicate n x) e

-- 0 behind a front
pub zeroed-is : (from : ℕ) (l : List ℕ) → zeroed_from from l ≡ take from l ++ zeros (length l - from)
unfolding set_from
zeroed-is from l = ap (λ (r : List ℕ). take from l ++ r) (zeros-replicate (length l - from))

-- all of it
pub zero-all : {out : List ℕ} (l : List ℕ) → out ≡ zeroed_from 0 l → out ≡ zeros (length l)
zero-all l e = let z : length l - 0 ≡ length l = omega arith in e ∙ zeroed-is 0 l ∙ rw z

-- behind its first n, which l took the place of
pub zeroed-behind : {out : List ℕ} (n : ℕ) (l t : List ℕ) → n ≤ length t → length l ≡ length (take n t) → out ≡ zeroed_from n (l ++ drop n t) → (length l ≡ n) × (out ≡ l ++ zeros (length t - n))
zeroed-behind n l t h e z =
    let long : length l ≡ n = e ∙ length-take-le n t h in
    let k : length (l ++ drop n t) - n ≡ length t - n = omega (arith, long, length-append l (drop n t), length-drop n t) in
    (long, z ∙ zeroed-is n (l ++ drop n t) ∙ rw (take_at l (drop n t) n long, k))

-- ---- filling

pub take-least : {A : Type 0} (n : ℕ) (l : List A) → take (min n (length l)) l ≡ take n l
take-least {A = A} n l = min_cases n (length l) (take (min n (length l)) l ≡ take n l)
    (λ h e. ap (λ (k : ℕ). take k l) e)
    (λ h e. ap (λ (k : ℕ). take k l) e ∙ take_all (length l) l (omega arith) ∙ sym (take_all n l h))

-- behind the elements that from has put into out
pub set-behind : {A : Type 0} (x : A) (from out : List A) {n : ℕ} {l list : List A} → n ≡ min (length out) (length from) → l ≡ take n from → list ≡ set_from n x (l ++ drop n out) → list ≡ fitted_with x (length out) from
unfolding set_from fitted_with
set-behind x from out {n = n} {l = l} e is z =
    let long : length l ≡ n = ap length is ∙ length-take-le n from (omega (arith, e)) in
    let k : length (l ++ drop n out) - n ≡ length out - length from = omega (arith, e, long, length-append l (drop n out), length-drop n out) in
    let front : l ≡ take (length out) from = is ∙ rw e (take-least (length out) from) in
    z ∙ rw (take_at l (drop n out) n long, k, front)

-- where it fits
pub fitted-is : {out : List ℕ} (room : ℕ) (xs : List ℕ) → length xs ≤ room → out ≡ fitted room xs → out ≡ filled room xs
unfolding fitted_with filled
fitted-is room xs h e = e ∙ rw (take_all room xs h, zeros-replicate (room - length xs))

-- ---- what was filled in

pub length-filled : (room : ℕ) (xs : List ℕ) → length xs ≤ room → length (filled room xs) ≡ room
unfolding filled
length-filled room xs h = simp (length-append, length-zeros) (omega arith)

pub front : (room : ℕ) (xs : List ℕ) (n : ℕ) → length xs ≡ n → take n (filled room xs) ≡ xs
unfolding filled
front room xs n e = take_at xs (zeros (room - length xs)) n e

pub behind : (room : ℕ) (xs : List ℕ) (n : ℕ) → length xs ≡ n → drop n (filled room xs) ≡ zeros (room - n)
unfolding filled
behind room xs n e = drop_at xs (zeros (room - length xs)) n e ∙ ap (λ (k : ℕ). zeros (room - k)) e

pub front_of : {b : List ℕ} (room : ℕ) (xs : List ℕ) → b ≡ filled room xs → take (length xs) b ≡ xs
front_of room xs e = rw e (front room xs (length xs) refl)

-- other elements, as many or fewer, in the front part alone
pub refilled : (room : ℕ) (xs ys : List ℕ) (n : ℕ) → length xs ≡ n → n ≤ room → length ys ≤ n → filled n ys ++ drop n (filled room xs) ≡ filled room ys
unfolding filled
refilled room xs ys n e few short =
    let sum : n - length ys + (room - n) ≡ room - length ys = omega arith in
    rw (behind room xs n e, append_assoc, zeros-append, sum)

-- ---- what is below a bound all through, is so in each part

pub small-front : (m : ℕ) (xs ys : List ℕ) → 0 < m → ((i : ℕ) → get_or (xs ++ ys) i 0 < m) → (i : ℕ) → get_or xs i 0 < m
small-front m [] ys h k i = h
small-front m (x ∷ xs) ys h k zero = k zero
small-front m (x ∷ xs) ys h k (suc i) = small-front m xs ys h (λ j. k (suc j)) i

pub small-back : (m : ℕ) (xs ys : List ℕ) → ((i : ℕ) → get_or (xs ++ ys) i 0 < m) → (i : ℕ) → get_or ys i 0 < m
small-back m [] ys k i = k i
small-back m (x ∷ xs) ys k i = small-back m xs ys (λ j. k (suc j)) i
