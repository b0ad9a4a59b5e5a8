-- The pool as it is lent: the constants, and behind them a table from a value to its index, which only saves time. Constants are in buckets by value; of a
-- bucket the table has one past the index of its last constant, and of a constant one past that of the one before it in its bucket, 0 where there is none.
use Rattle.std.specs.Prelude.{ℕ, zero, suc, ◌+◌, ◌%◌, ◌≤◌, ◌<◌, ◌≡◌, Bool, true, false, ◌&&◌, List, [], ◌∷◌, eqb, length, get_or, take, set}
use Rattle.definition.specs.Limits.{max_constants}

-- a prime, so that constants at regular distances fall into different ones
abbrev pub bucket_count : ℕ
bucket_count = 1021

abbrev pub head_base : ℕ
head_base = max_constants

abbrev pub link_base : ℕ
link_base = head_base + bucket_count

-- how many constants are in the table, and whether it is out of use (any number but 0)
abbrev pub count_at : ℕ
count_at = link_base + max_constants

abbrev pub stale_at : ℕ
stale_at = count_at + 1

abbrev pub pool_size : ℕ
pool_size = stale_at + 1

unfoldable pub bucket_of : ℕ → ℕ
bucket_of k = k % bucket_count

-- one past the last of the first n constants that is in bucket h
unfoldable pub last_in : List ℕ → ℕ → ℕ → ℕ
last_in pool h zero = 0
last_in pool h (suc n) = elim (eqb (bucket_of (get_or pool n 0)) h) [ true ↦ suc n | false ↦ last_in pool h n ]

-- the table of the first n constants
pub record Chained (pool : List ℕ) (n : ℕ) : Type 0 where
  pub heads : (h : ℕ) → h < bucket_count → get_or pool (head_base + h) 0 ≡ last_in pool h n
  pub links : (i : ℕ) → i < n → get_or pool (link_base + i) 0 ≡ last_in pool (bucket_of (get_or pool i 0)) i
  pub most : n ≤ max_constants

-- what the table says is so, unless it is out of use
pub record Held (pool : List ℕ) : Type 0 where
  pub size : length pool ≡ pool_size
  pub sound : get_or pool stale_at 0 ≡ 0 → Chained pool (get_or pool count_at 0)

-- is it the table of the first n constants?
unfoldable pub covers : List ℕ → ℕ → Bool
covers pool n = eqb (get_or pool stale_at 0) 0 && eqb (get_or pool count_at 0) n

-- the pool once k, its constant n, is in the table of the constants before it
unfoldable pub chained : ℕ → ℕ → List ℕ → List ℕ
chained n k pool = set (set (set pool (link_base + n) (get_or pool (head_base + bucket_of k) 0)) (head_base + bucket_of k) (n + 1)) count_at (n + 1)

-- the pool once k was written as its constant n; a table of other constants goes out of use
unfoldable pub entered : ℕ → ℕ → List ℕ → List ℕ
entered n k pool = elim (covers pool n) [ true ↦ chained n k (set pool n k) | false ↦ set (set pool n k) stale_at 1 ]

-- so with constants one behind the other, the first of them constant n
unfoldable pub entered_all : List ℕ → ℕ → List ℕ → List ℕ
entered_all [] n pool = pool
entered_all (k ∷ ks) n pool = entered_all ks (suc n) (entered n k pool)

-- constant n was written; of the constants no other changes
pub record Appended (n k : ℕ) (pool pool' : List ℕ) : Type 0 where
  pub all : pool' ≡ entered n k pool
  pub held : Held pool'
  pub is : take max_constants pool' ≡ set (take max_constants pool) n k

-- of n constants: one that stands at i, or will stand there as the next, was kept; r is how many there are then
pub record Keeps (n i k : ℕ) (pool : List ℕ) (r : ℕ) (pool' : List ℕ) : Type 0 where
  pub has : i < n → (r ≡ n) × (pool' ≡ pool)
  pub new : n ≤ i → (r ≡ n + 1) × Appended n k pool pool'
