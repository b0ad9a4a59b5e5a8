-- Which open loops a CONTINUE has led to: the flags after a part are those before, marked by what the definition's `continues` says of the part.
use mathlib.Core.Path.{◌≡◌, refl, ap, sym, ◌∙◌}
use mathlib.Core.Bool.{Bool, true, false, not, ◌&&◌, ◌||◌}
use mathlib.Core.Option.{some, none}
use mathlib.Core.List.{List, [], ◌∷◌}
use Prim.Native.Nat.{ℕ, zero, suc}
use native.Mathlib.Omega.{arith}
use borrow.Author.Tests.{eq-eqb, ne_eqb, eqb-true, eqb-false}
use lib.ListN.{get_or}
use lib.Dec.{eqb}
use Rattle.definition.specs.Stmt.{labels}
use Rattle.field.proofs.Tests.{or-none, or-any}
use Rattle.std.specs.Prelude.{None}
use Rattle.stmt_parts.specs.declared.loops.OpenLoop.{OpenLoop}
use Rattle.stmt_parts.specs.Loops.{no_open, Open, open_at, opens_in, loops_of, marked, FoundAt, Finds}
use Rattle.stmt_parts.proofs.Opens.{opens-but}

or_assoc : (a b c : Bool) → (a || b) || c ≡ a || (b || c)
or_assoc true b c = refl
or_assoc false b c = refl

and-false : (a : Bool) → a && false ≡ false
and-false true = refl
and-false false = refl

and-or : (n a b : Bool) → (n && a) || (n && b) ≡ n && (a || b)
and-or true a b = refl
and-or false a b = refl

not-and : (a : Bool) → not a && a ≡ false
not-and true = refl
not-and false = refl

pub marked-same : (c d : ℕ → Bool) (os : List Open) → ((i : ℕ) → c i ≡ d i) → marked c os ≡ marked d os
unfolding marked
marked-same c d [] h = refl
marked-same c d (o ∷ os) h = rw (h o.labels.loop, marked-same (λ i. not (eqb i o.labels.loop) && c i) (λ i. not (eqb i o.labels.loop) && d i) os (λ i. ap (λ (b : Bool). not (eqb i o.labels.loop) && b) (h i)))

pub marked-off : (c : ℕ → Bool) (os : List Open) → ((i : ℕ) → c i ≡ false) → marked c os ≡ os
unfolding marked
marked-off c [] h = refl
marked-off c (o ∷ os) h = rw (h o.labels.loop, or-none o.used, marked-off (λ i. not (eqb i o.labels.loop) && c i) os (λ i. ap (λ (b : Bool). not (eqb i o.labels.loop) && b) (h i) ∙ and-false (not (eqb i o.labels.loop))))

-- one part after another
pub marked-then : (c d : ℕ → Bool) (os : List Open) → marked d (marked c os) ≡ marked (λ i. c i || d i) os
unfolding marked
marked-then c d [] = refl
marked-then c d (o ∷ os) =
    rw (
      or_assoc o.used (c o.labels.loop) (d o.labels.loop),
      marked-then (λ i. not (eqb i o.labels.loop) && c i) (λ i. not (eqb i o.labels.loop) && d i) os,
      marked-same (λ i. (not (eqb i o.labels.loop) && c i) || (not (eqb i o.labels.loop) && d i)) (λ i. not (eqb i o.labels.loop) && (c i || d i)) os (λ i. and-or (not (eqb i o.labels.loop)) (c i) (d i)),
    )

pub loops-marked : (c : ℕ → Bool) (os : List Open) → loops_of (marked c os) ≡ loops_of os
unfolding marked loops_of
loops-marked c [] = refl
loops-marked c (o ∷ os) = rw (loops-marked (λ i. not (eqb i o.labels.loop) && c i) os)

-- ---- one CONTINUE

module _ (i : ℕ) (o : Open) (os : List Open) where
  mark-here : o.labels.loop ≡ i → marked (λ j. eqb j i) (o ∷ os) ≡ record { labels = o.labels; used = true } ∷ os
  unfolding marked
  mark-here e = rw (eq-eqb o.labels.loop i e, or-any o.used, marked-off (λ j. not (eqb j o.labels.loop) && eqb j i) os (λ j. rw e (not-and (eqb j i))))

  mark-later : (o.labels.loop ≡ i → ⊥) → marked (λ j. eqb j i) (o ∷ os) ≡ o ∷ marked (λ j. eqb j i) os
  unfolding marked
  mark-later h = rw (ne_eqb o.labels.loop i h, or-none o.used, marked-same (λ j. not (eqb j o.labels.loop) && eqb j i) (λ j. eqb j i) os (λ j. go j (eqb j i) refl))
    where
      go : (j : ℕ) (b : Bool) → eqb j i ≡ b → not (eqb j o.labels.loop) && b ≡ b
      go j true e = rw (ne_eqb j o.labels.loop (λ q. h (sym q ∙ eqb-true j i e)))
      go j false e = and-false (not (eqb j o.labels.loop))

number_at : (ls : List OpenLoop) (k : ℕ) → (open_at ls k).labels.loop ≡ (get_or ls k no_open).number
unfolding open_at
number_at ls k = refl

pub labels-none : (ls : List OpenLoop) (inside i : ℕ) → Finds ls inside i None → labels i (loops_of (opens_in ls inside)) ≡ none
unfolding labels loops_of opens_in
labels-none ls zero i off = refl
labels-none ls (suc n) i off = rw (labels, number_at ls n, ne_eqb _ i (off n (omega arith))) (labels-none ls n i (λ j h. off j (omega arith)))

-- the innermost is the last, or it is found below that
below : {ls : List OpenLoop} {n i k : ℕ} → FoundAt ls (suc n) i k → (k ≡ n → ⊥) → FoundAt ls n i k
below f z = record { within = omega (arith, f.within); is = f.is; inner = λ j a b. f.inner j a (omega arith) }

off-last : {ls : List OpenLoop} {n i k : ℕ} → FoundAt ls (suc n) i k → (k ≡ n → ⊥) → (get_or ls n no_open).number ≡ i → ⊥
off-last {n = n} f z = f.inner n (omega (arith, f.within)) (omega arith)

pub labels-found : (ls : List OpenLoop) (inside i k : ℕ) → FoundAt ls inside i k → labels i (loops_of (opens_in ls inside)) ≡ some (open_at ls k).labels
unfolding labels loops_of opens_in
labels-found ls zero i k f = absurd (omega (arith, f.within))
labels-found ls (suc n) i k f = go (eqb k n) refl (λ f'. labels-found ls n i k f')
  where
    go : (b : Bool) → eqb k n ≡ b → (FoundAt ls n i k → labels i (loops_of (opens_in ls n)) ≡ some (open_at ls k).labels) → labels i ((open_at ls n).labels ∷ loops_of (opens_in ls n)) ≡ some (open_at ls k).labels
    go true e ih =
        let q : k ≡ n = eqb-true k n e in
        let on = rw q at f.is in
        rw (labels, number_at ls n, eq-eqb _ i on, q)
    go false e ih =
        let z = eqb-false k n e in
        rw (labels, number_at ls n, ne_eqb _ i (off-last f z)) (ih (below f z))

pub marks-none : (ls : List OpenLoop) (inside i : ℕ) → Finds ls inside i None → opens_in ls inside ≡ marked (λ j. eqb j i) (opens_in ls inside)
unfolding opens_in
marks-none ls zero i off = unfold marked in refl
marks-none ls (suc n) i off = rw (mark-later i (open_at ls n) (opens_in ls n) (λ z. off n (omega arith) (sym (number_at ls n) ∙ z)), ← marks-none ls n i (λ j h. off j (omega arith)))

module _ (ls ls' : List OpenLoop) (i k : ℕ) (other : (j : ℕ) → (j ≡ k → ⊥) → open_at ls' j ≡ open_at ls j) (at : open_at ls' k ≡ record { labels = (open_at ls k).labels; used = true }) where
  pub marks-found : (inside : ℕ) → FoundAt ls inside i k → opens_in ls' inside ≡ marked (λ j. eqb j i) (opens_in ls inside)
  unfolding opens_in
  marks-found zero f = absurd (omega (arith, f.within))
  marks-found (suc n) f = go (eqb k n) refl (λ f'. marks-found n f')
    where
      go : (b : Bool) → eqb k n ≡ b → (FoundAt ls n i k → opens_in ls' n ≡ marked (λ j. eqb j i) (opens_in ls n)) → open_at ls' n ∷ opens_in ls' n ≡ marked (λ j. eqb j i) (open_at ls n ∷ opens_in ls n)
      go true e ih =
          let q : k ≡ n = eqb-true k n e in
          let here = rw q at at in
          let on = rw q at f.is in
          rw (mark-here i (open_at ls n) (opens_in ls n) (number_at ls n ∙ on), here, opens-but ls ls' n (λ j l. other j (λ z. omega arith)))
      go false e ih =
          let z = eqb-false k n e in
          rw (mark-later i (open_at ls n) (opens_in ls n) (λ x. off-last f z (sym (number_at ls n) ∙ x)), other n (λ x. z (sym x)), ih (below f z))
