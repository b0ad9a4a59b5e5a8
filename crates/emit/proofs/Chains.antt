-- The pool's table: what it finds is where a constant stands first, and it stays so when a constant is appended.
use mathlib.Core.Path.{◌≡◌, refl, ap, sym, subst, ◌∙◌}
use mathlib.Core.Bool.{Bool, true, false}
use mathlib.Core.List.{List}
use Prim.Native.Nat.{ℕ, zero, suc, ◌+◌, ◌-◌, ◌≤◌, ◌<◌}
use native.Mathlib.Numerals.{add-one}
use native.Mathlib.Omega.{arith}
use borrow.Author.Tests.{eq-eqb, ne_eqb, eqb-true, eqb-false, leb-true, leb-false}
use lib.Dec.{eqb, leb}
use lib.ListN.{length, take, set, get_or, length-set, replicate, length-replicate}
use lib.Seq.{get_or-set_same, get_or-set_other, take-set-le, take-set-lt}
use Rattle.definition.specs.Limits.{max_constants}
use Rattle.definition.specs.Emit.{index_of}
use Rattle.store.proofs.Fills.{replicate-none}
use Rattle.emit.specs.Pool.{bucket_count, head_base, link_base, count_at, stale_at, pool_size, bucket_of, last_in, Chained, Held, covers, chained, entered, Appended}
use Rattle.emit.proofs.Constants.{first_found, first-none}

pub bucket-few : (k : ℕ) → bucket_of k < bucket_count
unfolding bucket_of
bucket-few k = omega arith

-- ---- the last of a bucket

module _ (pool : List ℕ) (h : ℕ) where
  last-here : (n : ℕ) → bucket_of (get_or pool n 0) ≡ h → last_in pool h (suc n) ≡ suc n
  unfolding last_in
  last-here n e = rw (last_in, eq-eqb (bucket_of (get_or pool n 0)) h e)

  last-past : (n : ℕ) → (bucket_of (get_or pool n 0) ≡ h → ⊥) → last_in pool h (suc n) ≡ last_in pool h n
  unfolding last_in
  last-past n off = rw (last_in, ne_eqb (bucket_of (get_or pool n 0)) h off)

  last-most : (n : ℕ) → last_in pool h n ≤ n
  unfolding last_in
  last-most zero = omega arith
  last-most (suc n) = go (last-most n) (eqb (bucket_of (get_or pool n 0)) h) refl
    where
      go : last_in pool h n ≤ n → (t : Bool) → eqb (bucket_of (get_or pool n 0)) h ≡ t → last_in pool h (suc n) ≤ suc n
      go m true e = rw (last-here n (eqb-true _ _ e)) (omega arith)
      go m false e = rw (last-past n (eqb-false _ _ e)) (omega arith)

  last-above : (n i : ℕ) → i < n → bucket_of (get_or pool i 0) ≡ h → i < last_in pool h n
  last-above zero i l e = absurd (omega arith)
  last-above (suc n) i l e = go (λ less. last-above n i less e) (eqb (bucket_of (get_or pool n 0)) h) refl
    where
      go : (i < n → i < last_in pool h n) → (t : Bool) → eqb (bucket_of (get_or pool n 0)) h ≡ t → i < last_in pool h (suc n)
      go m true q = rw (last-here n (eqb-true _ _ q)) l
      go m false q =
          let other : i ≡ n → ⊥ = λ same. eqb-false _ _ q (rw same at e) in
          rw (last-past n (eqb-false _ _ q)) (m (omega (arith, other)))

  last_on : (n i : ℕ) → suc i ≡ last_in pool h n → bucket_of (get_or pool i 0) ≡ h
  unfolding last_in
  last_on zero i e = absurd (omega arith)
  last_on (suc n) i e = go (last_on n i) (eqb (bucket_of (get_or pool n 0)) h) refl
    where
      go : (suc i ≡ last_in pool h n → bucket_of (get_or pool i 0) ≡ h) → (t : Bool) → eqb (bucket_of (get_or pool n 0)) h ≡ t → bucket_of (get_or pool i 0) ≡ h
      go m true q =
          let same : i ≡ n = (let z = e ∙ last-here n (eqb-true _ _ q) in omega arith) in
          rw same (eqb-true _ _ q)
      go m false q = m (e ∙ last-past n (eqb-false _ _ q))

last-same : (pool pool' : List ℕ) (h n : ℕ) → ((i : ℕ) → i < n → get_or pool' i 0 ≡ get_or pool i 0) → last_in pool' h n ≡ last_in pool h n
unfolding last_in
last-same pool pool' h zero same = refl
last-same pool pool' h (suc n) same = go (last-same pool pool' h n (λ i l. same i (omega arith))) (ap bucket_of (same n (omega arith))) (eqb (bucket_of (get_or pool n 0)) h) refl
  where
    go : last_in pool' h n ≡ last_in pool h n → bucket_of (get_or pool' n 0) ≡ bucket_of (get_or pool n 0) → (t : Bool) → eqb (bucket_of (get_or pool n 0)) h ≡ t → last_in pool' h (suc n) ≡ last_in pool h (suc n)
    go m b true e = last-here pool' h n (b ∙ eqb-true _ _ e) ∙ sym (last-here pool h n (eqb-true _ _ e))
    go m b false e = last-past pool' h n (λ q. eqb-false _ _ e (sym b ∙ q)) ∙ m ∙ sym (last-past pool h n (eqb-false _ _ e))

-- ---- the search along a bucket

-- of the constants from `left` on the first that is k is what was found
pub record Searching (pool : List ℕ) (n k found left : ℕ) : Type 0 where
  pub most : left ≤ n
  pub far : left ≤ found
  pub on : (i : ℕ) → suc i ≡ left → bucket_of (get_or pool i 0) ≡ bucket_of k
  pub first : (i : ℕ) → left ≤ i → i < n → get_or pool i 0 ≡ k → found ≤ i
  pub hit : found < n → get_or pool found 0 ≡ k
  pub within : found ≤ n

module _ (pool : List ℕ) (n k : ℕ) (c : Chained pool n) where
  -- from one past a bucket's last on there is none of it
  none-past : (m i : ℕ) → last_in pool (bucket_of k) m ≤ i → i < m → get_or pool i 0 ≡ k → ⊥
  none-past m i past few e = let l = last-above pool (bucket_of k) m i few (ap bucket_of e) in omega arith

  pub search-begins : {b left : ℕ} → b ≡ bucket_of k → left ≡ get_or pool (head_base + b) 0 → Searching pool n k n left
  search-begins {b} {left} is at =
      let head : left ≡ last_in pool (bucket_of k) n = at ∙ rw is (c.heads (bucket_of k) (bucket-few k)) in
      rw head
      (record {
        most = last-most pool (bucket_of k) n;
        far = last-most pool (bucket_of k) n;
        on = λ i e. last_on pool (bucket_of k) n i e;
        first = λ i past few e. absurd (none-past n i past few e);
        hit = λ few. absurd (omega arith);
        within = omega arith;
      })

  module _ {found left : ℕ} (s : Searching pool n k found left) (more : 0 < left) where
    -- one past the one before it in its bucket
    before : {next : ℕ} → next ≡ get_or pool (link_base + (left - 1)) 0 → next ≡ last_in pool (bucket_of k) (left - 1)
    before e =
        let b = s.on (left - 1) (omega arith) in
        e ∙ c.links (left - 1) (omega (arith, s.most)) ∙ ap (λ x. last_in pool x (left - 1)) b

    pub search-less : {next : ℕ} → next ≡ get_or pool (link_base + (left - 1)) 0 → next < left
    search-less e = let m = last-most pool (bucket_of k) (left - 1) in let b = before e in omega arith

    search-step : {next now : ℕ} → next ≡ get_or pool (link_base + (left - 1)) 0 → now ≤ n → (now < n → get_or pool now 0 ≡ k) → left - 1 ≤ now → now ≤ found
        → (get_or pool (left - 1) 0 ≡ k → now ≤ left - 1) → Searching pool n k now next
    search-step {next} {now} e within hit far less here =
        let b = before e in
        let m = last-most pool (bucket_of k) (left - 1) in
        record {
          most = omega (arith, s.most);
          far = omega (arith, far);
          on = λ i q. last_on pool (bucket_of k) (left - 1) i (q ∙ b);
          first = λ i past few q. go i past few q (leb left i) refl (leb (left - 1) i) refl;
          hit = hit;
          within = within;
        }
      where
        go : (i : ℕ) → next ≤ i → i < n → get_or pool i 0 ≡ k → (t : Bool) → leb left i ≡ t → (u : Bool) → leb (left - 1) i ≡ u → now ≤ i
        go i past few q true far u near = let f = s.first i (leb-true left i far) few q in omega arith
        go i past few q false far true near =
            let same : i ≡ left - 1 = omega (arith, leb-false left i far, leb-true (left - 1) i near) in
            rw same (here (rw same at q))
        go i past few q false far false near = let b = before e in absurd (none-past (left - 1) i (omega arith) (leb-false (left - 1) i near) q)

    pub search-hit : {next : ℕ} → get_or pool (left - 1) 0 ≡ k → next ≡ get_or pool (link_base + (left - 1)) 0 → Searching pool n k (left - 1) next
    search-hit here e = search-step e (omega (arith, s.most)) (λ few. here) (omega arith) (omega (arith, s.far)) (λ z. omega arith)

    pub search-miss : {next : ℕ} → (get_or pool (left - 1) 0 ≡ k → ⊥) → next ≡ get_or pool (link_base + (left - 1)) 0 → Searching pool n k found next
    search-miss off e = search-step e s.within s.hit (omega (arith, s.far)) (omega arith) (λ z. absurd (off z))

  pub search-ends : {found left : ℕ} → Searching pool n k found left → left ≤ 0 → n ≤ length pool → (found ≡ index_of k (take n pool)) × (found ≤ n)
  search-ends {found} {left} s done long = go (leb n found) refl
    where
      go : (t : Bool) → leb n found ≡ t → (found ≡ index_of k (take n pool)) × (found ≤ n)
      go true e =
          let same : found ≡ n = omega (arith, leb-true n found e, s.within) in
          (same ∙ first-none pool n k long (λ j few q. (let f = s.first j (omega arith) few q in omega arith)), s.within)
      go false e =
          let few : found < n = leb-false n found e in
          (first_found pool n k found long few (λ j l q. (let f = s.first j (omega arith) (omega arith) q in omega arith)) (s.hit few), s.within)

-- ---- the table as a whole

pub covered : {pool : List ℕ} {n : ℕ} {b : Bool} → Held pool → b ≡ covers pool n → b ≡ true → Chained pool n
unfolding covers
covered {pool} {n} h is on = go (eqb (get_or pool stale_at 0) 0) refl (eqb (get_or pool count_at 0) n) refl
  where
    go : (t : Bool) → eqb (get_or pool stale_at 0) 0 ≡ t → (u : Bool) → eqb (get_or pool count_at 0) n ≡ u → Chained pool n
    go true e true f = subst (λ x. Chained pool x) (eqb-true (get_or pool count_at 0) n f) (h.sound (eqb-true _ _ e))
    go true e false f = absurd (let z : ◌≡◌ {A = ℕ} 0 1 = cc in omega arith)
    go false e u f = absurd (let z : ◌≡◌ {A = ℕ} 0 1 = cc in omega arith)

-- a pool to begin with
pub held-empty : Held (replicate pool_size 0)
unfolding last_in
held-empty = record {
  size = length-replicate {A = ℕ} pool_size 0;
  sound = λ _. rw (replicate-none pool_size count_at)
      (record { heads = λ h few. replicate-none pool_size (head_base + h); links = λ i few. absurd (omega arith); most = omega arith });
}

-- the constants, once a place behind them is written
behind : (l : List ℕ) (i v : ℕ) → max_constants ≤ i → take max_constants (set l i v) ≡ take max_constants l
behind l i v far = take-set-le max_constants l i v far

module _ {pool : List ℕ} {n : ℕ} (k : ℕ) (h : Held pool) (few : n < max_constants) where
  pub append-stale : covers pool n ≡ false → Appended n k pool (set (set pool n k) stale_at 1)
  unfolding entered
  append-stale off = record {
    all = rw (entered, off);
    held = record {
      size = rw (length-set, length-set) h.size;
      sound = λ z. absurd (let one = get_or-set_same (set pool n k) stale_at 1 0 (rw (length-set pool n k, h.size) (omega arith)) in omega arith);
    };
    is = behind (set pool n k) stale_at 1 (omega arith) ∙ take-set-lt max_constants pool n k few;
  }

  module _ (c : Chained pool n) where
    abbrev b : ℕ
    b = bucket_of k

    abbrev p₁ : List ℕ
    p₁ = set pool n k

    abbrev p₂ : List ℕ
    p₂ = set p₁ (link_base + n) (get_or p₁ (head_base + b) 0)

    abbrev p₃ : List ℕ
    p₃ = set p₂ (head_base + b) (n + 1)

    abbrev p₄ : List ℕ
    p₄ = set p₃ count_at (n + 1)

    long₁ : length p₁ ≡ pool_size
    long₁ = length-set pool n k ∙ h.size

    long₂ : length p₂ ≡ pool_size
    long₂ = length-set p₁ _ _ ∙ long₁

    long₃ : length p₃ ≡ pool_size
    long₃ = length-set p₂ _ _ ∙ long₂

    -- what stands at a place that is none of the four
    other : (i : ℕ) → (i ≡ n → ⊥) → (i ≡ link_base + n → ⊥) → (i ≡ head_base + b → ⊥) → (i ≡ count_at → ⊥) → get_or p₄ i 0 ≡ get_or pool i 0
    other i a₁ a₂ a₃ a₄ =
        get_or-set_other p₃ count_at i (n + 1) 0 a₄ ∙ get_or-set_other p₂ (head_base + b) i (n + 1) 0 a₃ ∙ get_or-set_other p₁ (link_base + n) i _ 0 a₂ ∙ get_or-set_other pool n i k 0 a₁

    count : get_or p₄ count_at 0 ≡ suc n
    count = get_or-set_same p₃ count_at (n + 1) 0 (rw long₃ (omega arith)) ∙ add-one n

    new : get_or p₄ n 0 ≡ k
    new = get_or-set_other p₃ count_at n (n + 1) 0 (λ e. omega arith) ∙ get_or-set_other p₂ (head_base + b) n (n + 1) 0 (λ e. omega arith) ∙ get_or-set_other p₁ (link_base + n) n _ 0 (λ e. omega arith)
        ∙ get_or-set_same pool n k 0 (rw h.size (omega arith))

    head : get_or p₄ (head_base + b) 0 ≡ suc n
    head = let few-b = bucket-few k in get_or-set_other p₃ count_at (head_base + b) (n + 1) 0 (λ e. omega arith) ∙ get_or-set_same p₂ (head_base + b) (n + 1) 0 (rw long₂ (omega arith)) ∙ add-one n

    link : get_or p₄ (link_base + n) 0 ≡ last_in pool b n
    link =
        let few-b = bucket-few k in
        get_or-set_other p₃ count_at (link_base + n) (n + 1) 0 (λ e. omega arith) ∙ get_or-set_other p₂ (head_base + b) (link_base + n) (n + 1) 0 (λ e. omega arith)
        ∙ get_or-set_same p₁ (link_base + n) _ 0 (rw long₁ (omega arith)) ∙ get_or-set_other pool n (head_base + b) k 0 (λ e. omega arith) ∙ c.heads b few-b

    below : (i : ℕ) → i < n → get_or p₄ i 0 ≡ get_or pool i 0
    below i l = other i (λ e. omega arith) (λ e. omega arith) (λ e. omega arith) (λ e. omega arith)

    last : (x m : ℕ) → m ≤ n → last_in p₄ x m ≡ last_in pool x m
    last x m l = last-same pool p₄ x m (λ i q. below i (omega arith))

    heads : (x : ℕ) → x < bucket_count → get_or p₄ (head_base + x) 0 ≡ last_in p₄ x (suc n)
    heads x inside = go (eqb b x) refl
      where
        go : (t : Bool) → eqb b x ≡ t → get_or p₄ (head_base + x) 0 ≡ last_in p₄ x (suc n)
        go true e =
            let same : b ≡ x = eqb-true b x e in
            rw (← same) (head ∙ sym (last-here p₄ b n (ap bucket_of new)))
        go false e =
            let off = eqb-false b x e in
            other (head_base + x) (λ q. omega arith) (λ q. omega arith) (λ q. off (omega arith)) (λ q. omega arith) ∙ c.heads x inside ∙ sym (last x n (omega arith))
            ∙ sym (last-past p₄ x n (λ q. off (sym (ap bucket_of new) ∙ q)))

    links : (i : ℕ) → i < suc n → get_or p₄ (link_base + i) 0 ≡ last_in p₄ (bucket_of (get_or p₄ i 0)) i
    links i l = go (eqb i n) refl
      where
        go : (t : Bool) → eqb i n ≡ t → get_or p₄ (link_base + i) 0 ≡ last_in p₄ (bucket_of (get_or p₄ i 0)) i
        go true e = rw (eqb-true i n e, new) (link ∙ sym (last b n (omega arith)))
        go false e =
            let off = eqb-false i n e in
            let few-b = bucket-few k in
            let small : i < n = omega (arith, off) in
            other (link_base + i) (λ q. omega arith) (λ q. off (omega arith)) (λ q. omega arith) (λ q. omega arith) ∙ c.links i small
            ∙ sym (last (bucket_of (get_or pool i 0)) i (omega arith)) ∙ ap (λ y. last_in p₄ (bucket_of y) i) (sym (below i small))

    pub append-known : covers pool n ≡ true → Appended n k pool p₄
    unfolding entered chained
    append-known known =
        let few-b = bucket-few k in
        record {
          all = rw (entered, known);
          held = record {
            size = length-set p₃ _ _ ∙ long₃;
            sound = λ _. rw count (record { heads = heads; links = links; most = omega arith });
          };
          is = behind p₃ count_at (n + 1) (omega arith) ∙ behind p₂ (head_base + b) (n + 1) (omega arith) ∙ behind p₁ (link_base + n) _ (omega arith) ∙ take-set-lt max_constants pool n k few;
        }
