-- The index of a pass: how it is made, and that along it the lookup finds what it finds row by row.
use mathlib.Core.Path.{◌≡◌, refl, ap, sym, ◌∙◌}
use mathlib.Core.Bool.{Bool, true, false}
use mathlib.Core.List.{List}
use Prim.Native.Nat.{ℕ, zero, suc, ◌+◌, ◌-◌, ◌*◌, ◌≤◌, ◌<◌}
use native.Mathlib.Numerals.{add-one}
use native.Mathlib.Omega.{arith}
use native.Mathlib.Decide.{ℕ_discrete, dec_lt}
use borrow.Author.Tests.{lt-ltb, le-ltb, ltb-true, ltb-false}
use lib.Dec.{ltb}
use lib.ListN.{length, get_or, set, replicate, length-set, length-replicate, get_or-replicate}
use lib.Seq.{get_or-set_same, get_or-set_other, ext_get_or}
use Rattle.definition.specs.Limits.{max_rules}
use Rattle.definition.specs.Opcode.{roles, role_count}
use Rattle.rules.specs.declared.Instruction.{Instruction}
use Rattle.std.specs.Prelude.{Some, None}
use Rattle.rules.specs.View.{row_size, pass_at, first_at, row_at, row_starts, row_fits, found_in, IsRules, no_rule, index_size, start_from, next_in, index_at, listed, index_in, Indexed, head_in}
use Rattle.rules.proofs.Table.{row-at}
use Rattle.rules.proofs.Lookup.{start-role, start-same, start-pass, start-other, next_row, found_after, found-past, found_here, found-next, found_all}

-- ---- the next rule that starts with a role, by one row more
module _ (table : List ℕ) (count pass role : ℕ) {i : ℕ} where
  next_past : count ≤ i → next_in table count pass role i ≡ no_rule
  unfolding next_in start_from
  next_past h = let none_left : count - i ≡ 0 = omega arith in rw none_left

  module _ (h : i < count) where
    left : count - i ≡ suc (count - (i + 1))
    left = omega arith

    next_here : row_starts pass role (row_at table i) ≡ true → next_in table count pass role i ≡ i
    unfolding next_in start_from
    next_here e = rw (left, start_from, e)

    next-other : row_starts pass role (row_at table i) ≡ false → next_in table count pass role i ≡ next_in table count pass role (i + 1)
    unfolding next_in start_from
    next-other e = rw (left, start_from, e, add-one i, next_row table i)

-- ---- the lookup along a chain

-- a row that starts otherwise does not fit
starts-not : (pass : ℕ) (row : List ℕ) (a b : Instruction) → row_starts pass a.role row ≡ false → row_fits pass row a b ≡ false
unfolding row_fits
starts-not pass row a b e = rw e

-- from rule i on the first that starts with a role is j, past the last where there is none
pub record Leads (table : List ℕ) (count pass role i j : ℕ) : Type 0 where
  pub after : i ≤ j
  pub starts : j < count → row_starts pass role (row_at table j) ≡ true
  pub same : (a b : Instruction) → a.role ≡ role → found_after table count pass a b i ≡ found_after table count pass a b j

module _ {table : List ℕ} {count : ℕ} (t : IsRules table count) (pass role : ℕ) where
  leads-from : (n i : ℕ) → i + n ≡ count → Leads table count pass role i (next_in table count pass role i)
  leads-from zero i e =
      rw (next_past table count pass role {i = i} (omega arith)) (record {
        after = omega (arith, t.few);
        starts = λ h. absurd (omega (arith, t.few));
        same = λ a b _. found-past table count pass a b (omega arith) ∙ sym (found-past table count pass a b t.few);
      })
  leads-from (suc n) i e = go (row_starts pass role (row_at table i)) refl (leads-from n (i + 1) (omega arith))
    where
      go : (r : Bool) → row_starts pass role (row_at table i) ≡ r → Leads table count pass role (i + 1) (next_in table count pass role (i + 1)) → Leads table count pass role i (next_in table count pass role i)
      go true q more = rw (next_here table count pass role {i = i} (omega arith) q) (record { after = omega arith; starts = λ _. q; same = λ a b _. refl })
      go false q more =
          rw (next-other table count pass role {i = i} (omega arith) q) (record {
            after = omega (arith, more.after);
            starts = more.starts;
            same = λ a b r. found-next table count pass a b (omega arith) (starts-not pass (row_at table i) a b (rw r q)) ∙ more.same a b r;
          })

  leads : {i : ℕ} → i ≤ count → Leads table count pass role i (next_in table count pass role i)
  leads {i} h = leads-from (count - i) i (omega arith)

  -- no rule starts with a number that no role has
  unstarted : role_count ≤ role → (n i : ℕ) → i + n ≡ count → next_in table count pass role i ≡ no_rule
  unfolding roles
  unstarted h zero i e = next_past table count pass role {i = i} (omega arith)
  unstarted h (suc n) i e =
      let r = row-at t (let k : i < count = omega arith in k) in
      next-other table count pass role {i = i} (omega arith) (start-other table i pass role (λ q. omega (arith, r.first))) ∙ unstarted h n (i + 1) (omega arith)

-- ---- the head of a role

module _ (index : List ℕ) (role : ℕ) where
  pub head-there : role < role_count → get_or index role 0 ≡ head_in index role
  unfolding head_in
  head-there h = rw (head_in, lt-ltb role role_count h)

  pub head-past : role_count ≤ role → no_rule ≡ head_in index role
  unfolding head_in
  head-past h = rw (head_in, le-ltb role role_count h)

-- ---- the lookup

-- none of the rules before i fits, and rule i starts with the first instruction's role
pub record Seeking (table : List ℕ) (count pass : ℕ) (a b : Instruction) (i : ℕ) : Type 0 where
  pub starts : i < count → row_starts pass a.role (row_at table i) ≡ true
  pub more : found_in table count pass a b ≡ found_after table count pass a b i

module _ {table : List ℕ} {count pass : ℕ} {index : List ℕ} (t : IsRules table count) (x : Indexed table count pass index) where
  head-leads : (role : ℕ) → Leads table count pass role 0 (head_in index role)
  head-leads role = go (dec_lt role role_count)
    where
      go : Dec (role < role_count) → Leads table count pass role 0 (head_in index role)
      go (yes h) = rw (← (head-there index role h), x.heads role h) (leads t pass role (omega arith))
      go (no h) = rw (← (head-past index role (omega arith)), ← (unstarted t pass role (omega arith) count 0 (omega arith))) (leads t pass role (omega arith))

  module _ (a b : Instruction) where
    pub seeks-start : {i : ℕ} → i ≡ head_in index a.role → Seeking table count pass a b i
    seeks-start e =
        let l = head-leads a.role in
        rw e (record { starts = l.starts; more = found_all t pass a b ∙ l.same a b refl })

    -- a pass without a rule for the first role finds nothing
    pub finds-none : head_in index a.role ≡ no_rule → found_in table count pass a b ≡ None
    finds-none e = (seeks-start (sym e)).more ∙ found-past table count pass a b t.few

    module _ {i : ℕ} (s : Seeking table count pass a b i) where
      pub seeks-end : count ≤ i → None ≡ found_in table count pass a b
      seeks-end h = sym (s.more ∙ found-past table count pass a b h)

      module _ (h : i < count) where
        next-leads : Leads table count pass a.role (i + 1) (get_or index (role_count + i) 0)
        next-leads =
            rw (x.nexts i (omega (arith, t.few)), start-role table i pass a.role (s.starts h)) (leads t pass a.role (omega arith))

        pub seeks-here : true ≡ row_fits pass (row_at table i) a b → Some i ≡ found_in table count pass a b
        seeks-here f = sym (s.more ∙ found_here table count pass a b h (sym f))

        pub seeks-next : false ≡ row_fits pass (row_at table i) a b → Seeking table count pass a b (get_or index (role_count + i) 0)
        seeks-next f = record { starts = next-leads.starts; more = s.more ∙ found-next table count pass a b h (sym f) ∙ next-leads.same a b refl }

        pub seeks-on : i < get_or index (role_count + i) 0
        seeks-on = omega (arith, next-leads.after)

-- ---- making the index: the rules from i on are in it

pub record Linking (table : List ℕ) (count pass : ℕ) (index : List ℕ) (i : ℕ) : Type 0 where
  pub near : i ≤ count
  pub long : length index ≡ index_size
  pub heads : (role : ℕ) → role < role_count → get_or index role 0 ≡ next_in table count pass role i
  pub nexts : (j : ℕ) → i ≤ j → j < max_rules → get_or index (role_count + j) 0 ≡ next_in table count pass (get_or table (j * row_size + first_at) 0) (j + 1)

pub links-start : (table : List ℕ) (count pass : ℕ) → Linking table count pass (replicate index_size no_rule) count
links-start table count pass = record {
  near = omega arith;
  long = length-replicate index_size no_rule;
  heads = λ role h. get_or-replicate index_size role no_rule 0 (omega arith) ∙ sym (next_past table count pass role (omega arith));
  nexts = λ j h k. get_or-replicate index_size (role_count + j) no_rule 0 (omega arith) ∙ sym (next_past table count pass _ (omega arith));
}

-- an index whose elements are known is known whole
length-listed : (f : ℕ → ℕ) (i n : ℕ) → length (listed f i n) ≡ n
unfolding listed
length-listed f i zero = refl
length-listed f i (suc n) = ap suc (length-listed f (suc i) n)

get_d-listed : (f : ℕ → ℕ) (i n j : ℕ) → j < n → get_or (listed f i n) j 0 ≡ f (i + j)
unfolding listed
get_d-listed f i zero j h = absurd (omega arith)
get_d-listed f i (suc n) zero h = let z : i ≡ i + 0 = omega arith in ap f z
get_d-listed f i (suc n) (suc j) h = let z : suc i + j ≡ i + suc j = omega arith in get_d-listed f (suc i) n j (omega arith) ∙ ap f z

index_is : (table : List ℕ) (count pass : ℕ) (index : List ℕ) → length index ≡ index_size → ((role : ℕ) → role < role_count → get_or index role 0 ≡ next_in table count pass role 0)
    → ((j : ℕ) → j < max_rules → get_or index (role_count + j) 0 ≡ next_in table count pass (get_or table (j * row_size + first_at) 0) (j + 1)) → index ≡ index_in table count pass
unfolding index_in index_at
index_is table count pass index long heads nexts =
    ext_get_or 0 index (listed f 0 index_size) (long ∙ sym (length-listed f 0 index_size)) (λ i h. at i (rw long at h) ∙ ap f (zero-add i) ∙ sym (get_d-listed f 0 index_size i (rw long at h)))
  where
    f : ℕ → ℕ
    f = index_at table count pass

    zero-add : (i : ℕ) → i ≡ 0 + i
    zero-add i = omega arith

    at : (i : ℕ) → i < index_size → get_or index i 0 ≡ index_at table count pass i
    at i h = go (ltb i role_count) refl
      where
        go : (b : Bool) → ltb i role_count ≡ b → get_or index i 0 ≡ index_at table count pass i
        go true q = rw (index_at, q) (heads i (ltb-true i role_count q))
        go false q =
            let past = ltb-false i role_count q in
            let back : i ≡ role_count + (i - role_count) = omega arith in
            rw (index_at, q) (ap (λ (j : ℕ). get_or index j 0) back ∙ nexts (i - role_count) (omega arith))

pub links_end : {table index : List ℕ} {count pass i : ℕ} → Linking table count pass index i → i ≡ 0 → Indexed table count pass index
links_end {table} {index} {count} {pass} l e =
    let heads : (role : ℕ) → role < role_count → get_or index role 0 ≡ next_in table count pass role 0 = λ role h. rw e at (l.heads role h) in
    let nexts : (j : ℕ) → j < max_rules → get_or index (role_count + j) 0 ≡ next_in table count pass (get_or table (j * row_size + first_at) 0) (j + 1) = λ j h. l.nexts j (omega arith) h in
    record { is = index_is table count pass index l.long heads nexts; long = l.long; heads = heads; nexts = nexts }

module _ {table index : List ℕ} {count pass i : ℕ} (t : IsRules table count) (l : Linking table count pass index i) (k : ℕ) (e : i ≡ k + 1) where
  abbrev First : ℕ
  First = get_or table (k * row_size + first_at) 0

  abbrev linked : List ℕ
  linked = set index (role_count + k) (get_or index First 0)

  pub first_small : First < role_count
  unfolding roles
  first_small = (row-at t (let h : k < count = omega (arith, l.near) in h)).first

  linked-head : (role : ℕ) → role < role_count → get_or linked role 0 ≡ next_in table count pass role (k + 1)
  linked-head role h = get_or-set_other index (role_count + k) role (get_or index First 0) 0 (λ q. omega arith) ∙ rw e at (l.heads role h)

  linked-next : (j : ℕ) → k ≤ j → j < max_rules → get_or linked (role_count + j) 0 ≡ next_in table count pass (get_or table (j * row_size + first_at) 0) (j + 1)
  linked-next j h m = go (ℕ_discrete j k)
    where
      go : Dec (j ≡ k) → get_or linked (role_count + j) 0 ≡ next_in table count pass (get_or table (j * row_size + first_at) 0) (j + 1)
      go (yes q) = rw q (get_or-set_same index (role_count + k) (get_or index First 0) 0 (omega (arith, l.long, l.near, t.few)) ∙ rw e at (l.heads First first_small))
      go (no q) = get_or-set_other index (role_count + k) (role_count + j) (get_or index First 0) 0 (λ z. q (omega arith)) ∙ l.nexts j (omega arith) m

  -- a rule of another pass
  pub links-past : (get_or table (k * row_size + pass_at) 0 ≡ pass → ⊥) → Linking table count pass linked k
  links-past p = record {
    near = omega (arith, l.near);
    long = length-set index (role_count + k) (get_or index First 0) ∙ l.long;
    heads = λ role h. linked-head role h ∙ sym (next-other table count pass role (omega (arith, l.near)) (start-pass table k pass role p));
    nexts = linked-next;
  }

  -- a rule of this pass
  pub links-next : get_or table (k * row_size + pass_at) 0 ≡ pass → Linking table count pass (set linked First k) k
  links-next p = record {
    near = omega (arith, l.near);
    long = length-set linked First k ∙ length-set index (role_count + k) (get_or index First 0) ∙ l.long;
    heads = λ role h. go role h (ℕ_discrete First role);
    nexts = λ j h m. get_or-set_other linked First (role_count + j) k 0 (λ z. omega (arith, first_small)) ∙ linked-next j h m;
  }
    where
      go : (role : ℕ) → role < role_count → Dec (First ≡ role) → get_or (set linked First k) role 0 ≡ next_in table count pass role k
      go role h (yes q) =
          rw (← q) (get_or-set_same linked First k 0 (simp length-set (omega (arith, l.long, first_small))) ∙ sym (next_here table count pass First (omega (arith, l.near)) (start-same table k pass First p refl)))
      go role h (no q) =
          get_or-set_other linked First role k 0 (λ z. q (sym z)) ∙ linked-head role h ∙ sym (next-other table count pass role (omega (arith, l.near)) (start-other table k pass role q))
