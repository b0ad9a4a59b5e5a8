-- Laws of a store.
use mathlib.Core.Path.{◌≡◌, refl, ap, sym, ◌∙◌}
use mathlib.Core.Bool.{Bool, true, false}
use mathlib.Core.List.{List, [], ◌∷◌, ◌++◌, append_assoc, append-nil}
use Prim.Native.Nat.{ℕ, suc, ◌+◌, ◌≤◌, ◌<◌}
use native.Mathlib.Omega.{arith}
use borrow.Author.Tests.{lt-ltb, le-ltb, ltb-true, ltb-false}
use lib.Dec.{ltb}
use lib.ListN.{length, take, set, length-set, length-append}
use lib.Seq.{length-take-le, take-suc-set, take_all, take-append-le}
use Rattle.store.specs.Store.{StoreOf, at, contents, push, push_all, empty}

-- ---- one push

pub push-room : {A : Type 0} (s : StoreOf A) (x : A) → s.used < length s.cells → push s x ≡ at (set s.cells s.used x) (suc s.used)
unfolding push
push-room s x h = rw (lt-ltb s.used (length s.cells) h, push)

pub push-full : {A : Type 0} (s : StoreOf A) (x : A) → length s.cells ≤ s.used → push s x ≡ s
unfolding push
push-full s x h = rw (le-ltb s.used (length s.cells) h, push)

-- ---- what a store keeps to: no more elements are used than there are

abbrev pub Fits : {A : Type 0} → StoreOf A → Type 0
Fits s = s.used ≤ length s.cells

-- by cases: is there room?
pub room-or-full : {A P : Type 0} (s : StoreOf A) → (s.used < length s.cells → P) → (length s.cells ≤ s.used → P) → P
room-or-full {P = P} s f g = go (ltb s.used (length s.cells)) refl
  where
    go : (b : Bool) → ltb s.used (length s.cells) ≡ b → P
    go true e = f (ltb-true _ _ e)
    go false e = g (ltb-false _ _ e)

pub length_push : {A : Type 0} (s : StoreOf A) (x : A) → length (push s x).cells ≡ length s.cells
length_push s x = room-or-full s (λ h. rw (push-room s x h) (length-set s.cells s.used x)) (λ h. rw (push-full s x h))

pub fits-push : {A : Type 0} (s : StoreOf A) (x : A) → Fits s → Fits (push s x)
fits-push s x f = room-or-full s
    (λ h. rw (push-room s x h, length-set s.cells s.used x) h)
    (λ h. rw (push-full s x h) f)

pub contents-push : {A : Type 0} (s : StoreOf A) (x : A) → s.used < length s.cells → contents (push s x) ≡ contents s ++ (x ∷ [])
unfolding contents
contents-push s x h = rw (push-room s x h) (take-suc-set s.cells s.used x h)

pub length-contents : {A : Type 0} (s : StoreOf A) → Fits s → length (contents s) ≡ s.used
unfolding contents
length-contents s f = length-take-le s.used s.cells f

-- ---- many pushes

pub push_all-append : {A : Type 0} (s : StoreOf A) (xs ys : List A) → push_all s (xs ++ ys) ≡ push_all (push_all s xs) ys
unfolding push_all
push_all-append s [] ys = refl
push_all-append s (x ∷ xs) ys = push_all-append (push s x) xs ys

pub length-push_all : {A : Type 0} (s : StoreOf A) (xs : List A) → length (push_all s xs).cells ≡ length s.cells
unfolding push_all
length-push_all s [] = refl
length-push_all s (x ∷ xs) = length-push_all (push s x) xs ∙ length_push s x

pub fits-push_all : {A : Type 0} (s : StoreOf A) (xs : List A) → Fits s → Fits (push_all s xs)
unfolding push_all
fits-push_all s [] f = f
fits-push_all s (x ∷ xs) f = fits-push_all (push s x) xs (fits-push s x f)

pub push_all-full : {A : Type 0} (s : StoreOf A) (xs : List A) → length s.cells ≤ s.used → push_all s xs ≡ s
unfolding push_all
push_all-full s [] h = refl
push_all-full s (x ∷ xs) h = rw (push-full s x h) (push_all-full s xs h)

-- what is pushed stands behind what was there, as far as there is room
pub contents-push_all : {A : Type 0} (s : StoreOf A) (xs : List A) → Fits s → contents (push_all s xs) ≡ take (length s.cells) (contents s ++ xs)
unfolding push_all
contents-push_all {A = A} s [] f = sym (ap (take (length s.cells)) (append-nil (contents s)) ∙ take_all (length s.cells) (contents s) (rw (length-contents s f) f))
contents-push_all {A = A} s (x ∷ xs) f = room-or-full s
    (λ h. contents-push_all (push s x) xs (fits-push s x f)
    ∙ ap (λ (n : ℕ). take n (contents (push s x) ++ xs)) (length_push s x)
    ∙ ap (λ (l : List A). take (length s.cells) (l ++ xs)) (contents-push s x h)
    ∙ ap (take (length s.cells)) (append_assoc (contents s) (x ∷ []) xs))
    (λ h. ap contents (ap (λ (t : StoreOf A). push_all t xs) (push-full s x h) ∙ push_all-full s xs h) ∙ sym (cut h))
  where
    cut : length s.cells ≤ s.used → take (length s.cells) (contents s ++ (x ∷ xs)) ≡ contents s
    cut h =
        let l = length-contents s f in
        take-append-le (length s.cells) (contents s) (x ∷ xs) (rw l h) ∙ take_all (length s.cells) (contents s) (rw l f)

pub contents-room : {A : Type 0} (s : StoreOf A) (xs : List A) → s.used + length xs ≤ length s.cells → contents (push_all s xs) ≡ contents s ++ xs
contents-room s xs h =
    let f : Fits s = omega (arith, h) in
    contents-push_all s xs f ∙ take_all (length s.cells) (contents s ++ xs) (rw (length-append (contents s) xs, length-contents s f) h)

pub used-room : {A : Type 0} (s : StoreOf A) (xs : List A) → s.used + length xs ≤ length s.cells → (push_all s xs).used ≡ s.used + length xs
used-room s xs h =
    let f : Fits s = omega (arith, h) in
    sym (length-contents (push_all s xs) (fits-push_all s xs f)) ∙ ap length (contents-room s xs h) ∙ length-append (contents s) xs ∙ ap (λ (n : ℕ). n + length xs) (length-contents s f)

-- from the start of the cells
pub contents-empty : {A : Type 0} (cells xs : List A) → length xs ≤ length cells → contents (push_all (empty cells) xs) ≡ xs
unfolding contents empty
contents-empty cells xs h = contents-room (empty cells) xs (omega (arith, h))
