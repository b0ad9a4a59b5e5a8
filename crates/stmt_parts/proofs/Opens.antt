-- Opening a loop, and finding one.
use mathlib.Core.Path.{◌≡◌, refl, sym}
use mathlib.Core.Bool.{Bool, true, false}
use mathlib.Core.List.{List, ◌∷◌}
use Prim.Native.Nat.{ℕ, zero, suc, ◌<◌}
use native.Mathlib.Omega.{arith}
use borrow.Author.Tests.{eq-eqb, ne_eqb, eqb-true, eqb-false}
use lib.ListN.{length, get_or, set}
use lib.Seq.{get_or-set_same, get_or-set_other}
use lib.Dec.{eqb}
use Rattle.std.specs.Prelude.{None}
use Rattle.stmt_parts.specs.declared.loops.OpenLoop.{OpenLoop}
use Rattle.stmt_parts.specs.Loops.{no_open, open_at, opens_in, Opened, led_to, FoundAt, Finds}

pub opens-but : (ls ls' : List OpenLoop) (n : ℕ) → ((k : ℕ) → k < n → open_at ls' k ≡ open_at ls k) → opens_in ls' n ≡ opens_in ls n
unfolding opens_in
opens-but ls ls' zero h = refl
opens-but ls ls' (suc n) h = rw (h n (omega arith), opens-but ls ls' n (λ k l. h k (omega arith)))

-- one loop was written over
module _ (ls : List OpenLoop) (at : ℕ) (o : OpenLoop) where
  pub open-other : (k : ℕ) → (k ≡ at → ⊥) → open_at (set ls at o) k ≡ open_at ls k
  unfolding open_at
  open-other k h = rw (get_or-set_other ls at k o no_open h)

  pub open-here : at < length ls → open_at (set ls at o) at ≡ open_at (o ∷ ls) 0
  unfolding open_at
  open-here h = rw (get_or-set_same ls at o no_open h)

abbrev pub opened_as : ℕ → ℕ → ℕ → OpenLoop
opened_as i end next = record { number = i; exit = record { 0 = end }; next = record { 0 = next }; used = false }

pub loop-opened : (ls : List OpenLoop) (inside i end next : ℕ) → inside < length ls → Opened inside i end next ls (set ls inside (opened_as i end next))
unfolding opens_in open_at
loop-opened ls inside i end next few =
    let o = opened_as i end next in
    record {
      is = refl;
      opens = rw (open-here ls inside o few, opens-but ls (set ls inside o) inside (λ k h. open-other ls inside o k (λ e. omega arith)));
    }

-- what a CONTINUE marks, by what was found
led-none : (ls : List OpenLoop) (i n : ℕ) → ((j : ℕ) → j < n → (get_or ls j no_open).number ≡ i → ⊥) → led_to i ls n ≡ ls
unfolding led_to
led-none ls i zero off = refl
led-none ls i (suc n) off = rw (led_to, ne_eqb (get_or ls n no_open).number i (off n (omega arith))) (led-none ls i n (λ j h. off j (omega arith)))

led-some : (ls : List OpenLoop) (i n k : ℕ) → k < n → ((j : ℕ) → k < j → j < n → (get_or ls j no_open).number ≡ i → ⊥) → (get_or ls k no_open).number ≡ i → led_to i ls n ≡ set ls k (record (get_or ls k no_open) { used = true })
unfolding led_to
led-some ls i zero k h off on = absurd (omega arith)
led-some ls i (suc n) k h off on = go (eqb k n) refl (λ less. led-some ls i n k less (λ j a b. off j a (omega arith)) on)
  where
    go : (b : Bool) → eqb k n ≡ b → (k < n → led_to i ls n ≡ set ls k (record (get_or ls k no_open) { used = true })) → led_to i ls (suc n) ≡ set ls k (record (get_or ls k no_open) { used = true })
    go true q r = let e = eqb-true k n q in let on' = rw e at on in rw (led_to, eq-eqb (get_or ls n no_open).number i on', e)
    go false q r = let z = eqb-false k n q in rw (led_to, ne_eqb (get_or ls n no_open).number i (off n (omega arith) (omega arith))) (r (omega arith))

module _ (ls : List OpenLoop) (inside i : ℕ) where
  pub led-nowhere : Finds ls inside i None → ls ≡ led_to i ls inside
  led-nowhere off = sym (led-none ls i inside off)

  pub led-there : {k : ℕ} → FoundAt ls inside i k → set ls k (record (get_or ls k no_open) { used = true }) ≡ led_to i ls inside
  led-there {k} f = sym (led-some ls i inside k f.within f.inner f.is)
