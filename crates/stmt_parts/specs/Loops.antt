-- The open loops in a lent list, outermost first, as many as a program can nest.
use Rattle.std.specs.Prelude.{◌≡◌, Bool, true, false, not, ◌&&◌, ◌||◌, List, [], ◌∷◌, ℕ, zero, suc, ◌<◌, get_or, set, eqb}
use Rattle.std.specs.Prelude.{Option, Some, None}
use Rattle.definition.specs.Stmt.{Loops, LoopLabels}
use Rattle.stmt_parts.specs.declared.loops.OpenLoop.{OpenLoop}

-- its number, the labels of its EXITs and of its CONTINUEs, and whether a CONTINUE led there (`next_used`)
pub record Open : Type 0 where
  pub labels : LoopLabels
  pub used : Bool

-- what stands in no loop's place
abbrev pub no_open : OpenLoop
no_open = record { number = 0; exit = record { 0 = 0 }; next = record { 0 = 0 }; used = false }

unfoldable pub open_at : List OpenLoop → ℕ → Open
open_at ls i = record {
  labels = record { loop = (get_or ls i no_open).number; exit = (get_or ls i no_open).exit.0; next = (get_or ls i no_open).next.0 };
  used = (get_or ls i no_open).used;
}

-- so many open loops, innermost first
unfoldable pub opens_in : List OpenLoop → ℕ → List Open
opens_in ls zero = []
opens_in ls (suc n) = open_at ls n ∷ opens_in ls n

unfoldable pub loops_of : List Open → Loops
loops_of [] = []
loops_of (o ∷ os) = o.labels ∷ loops_of os

-- the open loops after CONTINUEs that c says, by loop number: each leads to the innermost loop of its number
unfoldable pub marked : (ℕ → Bool) → List Open → List Open
marked c [] = []
marked c (o ∷ os) = record { labels = o.labels; used = o.used || c o.labels.loop } ∷ marked (λ i. not (eqb i o.labels.loop) && c i) os

-- a loop was opened, and no other changed
pub record Opened (inside i end next : ℕ) (ls ls' : List OpenLoop) : Type 0 where
  pub is : ls' ≡ set ls inside (record { number = i; exit = record { 0 = end }; next = record { 0 = next }; used = false })
  pub opens : opens_in ls' (suc inside) ≡ record { labels = record { loop = i; exit = end; next = next }; used = false } ∷ opens_in ls inside

-- the list after a CONTINUE of number i, of so many open loops: the innermost of that number is marked
unfoldable pub led_to : ℕ → List OpenLoop → ℕ → List OpenLoop
led_to i ls zero = ls
led_to i ls (suc k) = elim (eqb (get_or ls k no_open).number i) [ true ↦ set ls k (record (get_or ls k no_open) { used = true }) | false ↦ led_to i ls k ]

-- the innermost loop of number i stands at k
pub record FoundAt (ls : List OpenLoop) (inside i k : ℕ) : Type 0 where
  pub within : k < inside
  pub is : (get_or ls k no_open).number ≡ i
  pub inner : (j : ℕ) → k < j → j < inside → (get_or ls j no_open).number ≡ i → ⊥

abbrev pub Finds : List OpenLoop → ℕ → ℕ → Option ℕ → Type 0
Finds ls inside i None = (j : ℕ) → j < inside → (get_or ls j no_open).number ≡ i → ⊥
Finds ls inside i (Some k) = FoundAt ls inside i k
