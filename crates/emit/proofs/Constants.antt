-- The pool.
use Rattle.std.proofs.Common.{Option, Some, None, cond, position, unwrap_or}
use Rattle.std.specs.List.{position_or_len}
use Rattle.std.proofs.lemmas.List.Recursion.{is_position_or_len}
use Rattle.definition.specs.declared.Refused.{Refused}
use mathlib.Core.Path.{◌≡◌, refl, ap, sym, subst, ◌∙◌}
use mathlib.Core.Bool.{Bool, true, false}
use mathlib.Core.List.{List, [], ◌∷◌, ◌++◌}
use Prim.Native.Nat.{ℕ, zero, suc, ◌+◌, ◌≤◌, ◌<◌}
use native.Mathlib.Numerals.{add-one}
use native.Mathlib.Omega.{arith}
use borrow.Author.Tests.{le-ltb, lt-ltb, ltb-true, ltb-false, eq-eqb, ne_eqb}
use lib.Dec.{eqb, ltb, leb}
use lib.ListN.{length, take, get_or}
use lib.Seq.{length-take-le, get_or-take, take-take, take-suc-set, drop_at}
use Rattle.definition.specs.Limits.{max_code, max_constants, code_full, constants_full}
use Rattle.definition.specs.Res.{Res, ok, refuse, ◌>>=◌, ◌>>◌, demand}
use Rattle.definition.specs.Opcode.{Sheet, CompareOp, comparison_byte, load_const, cmp_br}
use Rattle.definition.specs.Emit as def
use Rattle.definition.specs.Emit.{Call, LineEntry, load_constant, add_constant, emit_cmp_br, cmp_br_operand_delta, refused, act, add, added, recorded, branch, pooled, pooled_if, with_constant, index_of, le16}
use Rattle.emit.specs.declared.Emitter.{Emitter}
use Rattle.emit.specs.Pool.{Held, entered_all, Appended, Keeps}
use Rattle.emit.specs.View.{world, state, going, stage_of}
use Rattle.emit.specs.Steps.{◌>->◌, Did, met_at, once, call, Fine, Ready, Bare, Pooled, Coded, Filled}
use Rattle.emit.specs.Parts.{counted, lined, prepared, Prepared}
use Rattle.emit.proofs.Kept.{tails-self, kept_self, kept_then}
use Rattle.emit.proofs.Steps.{stays, goes, by-step, stops, then, count_of}
use Rattle.emit.proofs.Instructions.{add_parts}
use Rattle.emit.proofs.Branches.{branching, branch-parts}

-- ---- the lookup

found_in_lem : (xs : List ℕ) (k i : ℕ) → ((j : ℕ) → j < i → get_or xs j 0 ≡ k → ⊥) → i < length xs → get_or xs i 0 ≡ k → i ≡ index_of k xs
unfolding index_of
found_in_lem [] k i before h e = absurd (omega arith)
found_in_lem (x ∷ xs) k zero before h e = rw (index_of, eq-eqb x k e)
found_in_lem (x ∷ xs) k (suc i) before h e = rw (index_of, ne_eqb x k (λ q. before 0 (omega arith) q)) (ap suc (found_in_lem xs k i (λ j l q. before (suc j) (omega arith) q) (omega arith) e))

none_in : (xs : List ℕ) (k i : ℕ) → ((j : ℕ) → j < i → get_or xs j 0 ≡ k → ⊥) → length xs ≡ i → i ≡ index_of k xs
unfolding index_of
none_in [] k i before e = sym e
none_in (x ∷ xs) k zero before e = absurd (omega arith)
none_in (x ∷ xs) k (suc i) before e = rw (index_of, ne_eqb x k (λ q. before 0 (omega arith) q)) (ap suc (none_in xs k i (λ j l q. before (suc j) (omega arith) q) (omega arith)))

-- a constant that stands nowhere and is appended
index-new : (xs : List ℕ) (k : ℕ) → length xs ≤ index_of k xs → index_of k (xs ++ (k ∷ [])) ≡ length xs
unfolding index_of
index-new [] k h = rw (index_of, eq-eqb k k refl)
index-new (x ∷ xs) k h = go (eqb x k) h (λ q. index-new xs k q)
  where
    go : (b : Bool) → suc (length xs) ≤ elim b [ true ↦ 0 | false ↦ suc (index_of k xs) ] → (length xs ≤ index_of k xs → index_of k (xs ++ (k ∷ [])) ≡ length xs)
        → elim b [ true ↦ 0 | false ↦ suc (index_of k (xs ++ (k ∷ []))) ] ≡ suc (length xs)
    go true h f = absurd (omega arith)
    go false h f = ap suc (f (omega arith))

index-most : (xs : List ℕ) (k : ℕ) → index_of k xs ≤ length xs
unfolding index_of
index-most [] k = omega arith
index-most (x ∷ xs) k = go (eqb x k) (index-most xs k)
  where
    go : (b : Bool) → index_of k xs ≤ length xs → elim b [ true ↦ 0 | false ↦ suc (index_of k xs) ] ≤ suc (length xs)
    go true h = omega arith
    go false h = omega arith

-- the first of the first n constants that is k
pub first_found : (pool : List ℕ) (n k i : ℕ) → n ≤ length pool → i < n → ((j : ℕ) → j < i → get_or pool j 0 ≡ k → ⊥) → get_or pool i 0 ≡ k → i ≡ index_of k (take n pool)
first_found pool n k i long h before e =
    let size = length-take-le n pool long in
    found_in_lem (take n pool) k i (λ j l q. before j l (sym (get_or-take n pool j 0 (omega arith)) ∙ q)) (rw size h) (get_or-take n pool i 0 h ∙ e)

pub first-none : (pool : List ℕ) (n k : ℕ) → n ≤ length pool → ((j : ℕ) → j < n → get_or pool j 0 ≡ k → ⊥) → n ≡ index_of k (take n pool)
first-none pool n k long before = none_in (take n pool) k n (λ j l q. before j l (sym (get_or-take n pool j 0 l) ∙ q)) (length-take-le n pool long)

index-is : (k : ℕ) (xs : List ℕ) → index_of k xs ≡ position_or_len (λ x. eqb x k) xs
unfolding index_of
index-is k xs = is_position_or_len (index_of k) (λ x. eqb x k) refl (λ x l. go (eqb x k) (index_of k l)) xs
  where
    go : (b : Bool) (n : ℕ) → elim b [ true ↦ 0 | false ↦ suc n ] ≡ cond b 0 (1 + n)
    go true n = refl
    go false n = omega arith

-- where a test finds it, or n
pub scanned : (k n : ℕ) (pool : List ℕ) {o : Option ℕ} → n ≤ length pool → o ≡ position (λ x. eqb x k) (take n pool) → unwrap_or o n ≡ index_of k (take n pool)
scanned k n pool long e = rw (e, ← index-is k (take n pool)) (go (ltb (index_of k (take n pool)) (length (take n pool))) refl)
  where
    go : (b : Bool) → ltb (index_of k (take n pool)) (length (take n pool)) ≡ b → unwrap_or (cond b (Some (index_of k (take n pool))) None) n ≡ index_of k (take n pool)
    go true q = refl
    go false q = let far = ltb-false _ _ q in omega (arith, far, index-most (take n pool) k, length-take-le n pool long)

pub index-within : (k n : ℕ) (pool : List ℕ) → n ≤ length pool → index_of k (take n pool) ≤ n
index-within k n pool long = omega (arith, index-most (take n pool) k, length-take-le n pool long)

-- ---- a constant in the pool

module _ (k : ℕ) {e : Emitter} {pool : List ℕ} (h : Fine e) (long : Held pool) where
  pub pool-stays : (e.refused ≡ None → ⊥) → Pooled (add_constant k) e pool e pool
  pool-stays off = record { fine = h; held = long; kept = λ code book. kept_self (world e code book pool); did = λ s code book. stays (call s (add_constant k)) off }

  module _ {i : ℕ} (is : i ≡ index_of k (take e.constants pool)) where
    -- there is no room for it (13)
    pool-refuses : (code book : List ℕ) → max_constants ≤ i → pooled k (state (world e code book pool)) ≡ refuse constants_full 0
    unfolding pooled pooled_if demand ◌>>◌
    pool-refuses code book full =
        let most : i ≤ e.constants = omega (arith, is, index-most (take e.constants pool) k, count_of pool h long) in
        let absent : e.constants ≤ i = omega (arith, h.constants) in
        let none_left : max_constants ≤ e.constants = omega arith in
        rw (count_of pool h long, ← is, le-ltb _ _ absent, count_of pool h long, le-ltb _ _ none_left)

    pub pool-full : {r : Emitter} → max_constants ≤ i → Bare (refused (record { number = constants_full; place = 0 })) e r → Pooled (add_constant k) e pool r pool
    unfolding act
    pool-full full b = record { fine = b.fine; held = long; kept = λ code book. b.kept code book pool; did = λ s code book. stops (act s (add_constant k)) constants_full 0 code book pool b (pool-refuses code book full) }

    module _ (on : e.refused ≡ None) where
      pool-has : i < e.constants → Pooled (add_constant k) e pool e pool
      unfolding act pooled pooled_if
      pool-has few = record {
        fine = h;
        held = long;
        kept = λ code book. kept_self (world e code book pool);
        did = λ s code book. goes (act s (add_constant k)) (world e code book pool) (world e code book pool) on on (rw (count_of pool h long, ← is, lt-ltb _ _ few));
      }

      pool-more : {pool' : List ℕ} → e.constants ≤ i → i < max_constants → Appended e.constants k pool pool' → Pooled (add_constant k) e pool (counted e e.labels e.patches e.lines (e.constants + 1)) pool'
      unfolding act pooled pooled_if demand ◌>>◌ with_constant entered_all
      pool-more {pool'} absent room a =
          let few : e.constants < max_constants = omega arith in
          let count = count_of pool h long in
          let here : e.constants < length (take max_constants pool) = rw (length-take-le max_constants pool (omega (arith, long.size))) few in
          let more : take (e.constants + 1) pool' ≡ take e.constants pool ++ (k ∷ [])
          = sym (take-take (e.constants + 1) max_constants pool' (omega arith)) ∙ rw (a.is, add-one, take-suc-set (take max_constants pool) e.constants k here, take-take e.constants max_constants pool (omega arith)) in
          record {
            fine = record { size = h.size; labels = h.labels; patches = h.patches; lines = h.lines; constants = omega arith; last = h.last; depth = h.depth; deepest = h.deepest };
            held = a.held;
            kept = λ code book. record {
              grown = record { size = omega arith; labels = omega arith; patches = omega arith; lines = omega arith; constants = omega arith };
              code = refl;
              book = tails-self (counted e e.labels e.patches e.lines (e.constants + 1)) book;
              pool = λ fits size. rw (more, drop_at (take e.constants pool) (k ∷ []) e.constants count) a.all;
              sticky = λ z. absurd (z on);
            };
            did = λ s code book. goes (act s (add_constant k)) (world e code book pool) (world (counted e e.labels e.patches e.lines (e.constants + 1)) code book pool') on on
                (rw (count, ← is, le-ltb _ _ absent, count, lt-ltb _ _ few, more));
          }

      -- the constant is kept, and the emitter counts it
      pub pool-keeps : {r : ℕ} {pool' : List ℕ} → i < max_constants → Keeps e.constants i k pool r pool' → Pooled (add_constant k) e pool (counted e e.labels e.patches e.lines r) pool'
      pool-keeps {r} {pool'} room q = go (ltb i e.constants) refl
        where
          go : (b : Bool) → ltb i e.constants ≡ b → Pooled (add_constant k) e pool (counted e e.labels e.patches e.lines r) pool'
          go true l =
              let few = ltb-true i e.constants l in
              let x = q.has few in
              rw (x.0, x.1) (pool-has few)
          go false l =
              let absent = ltb-false i e.constants l in
              let x = q.new absent in
              subst (λ c. Pooled (add_constant k) e pool (counted e e.labels e.patches e.lines c) pool') (sym x.0) (pool-more absent room x.1)

module _ {n i k : ℕ} {pool : List ℕ} where
  pub kept-has : i < n → Keeps n i k pool n pool
  kept-has few = record { has = λ few. (refl, refl); new = λ absent. absurd (omega arith) }

  pub kept_new : {pool' : List ℕ} → n ≤ i → Appended n k pool pool' → Keeps n i k pool (n + 1) pool'
  kept_new absent a = record { has = λ few. absurd (omega arith); new = λ absent. (refl, a) }

-- ---- preparing leaves the constants alone, whatever they are

prepared-apart : (n k : ℕ) (x : def.Emitter) → prepared n (with_constant k x) ≡ prepared n x >>= λ y. ok (with_constant k y)
unfolding prepared recorded lined with_constant ◌>>◌ ◌>>=◌
prepared-apart n k x = go (demand (leb (length x.bytecode + n) max_code) code_full 0) (recorded x)
  where
    go : (m : Res (Unit {0})) (q : Res (List LineEntry)) → m >> (q >>= λ entries. ok (lined entries (with_constant k x))) ≡ (m >> (q >>= λ entries. ok (lined entries x))) >>= λ y. ok (with_constant k y)
    go (ok a) (ok b) = refl
    go (ok a) (refuse n p) = refl
    go (refuse n p) q = refl

prepared-keeps : (n : ℕ) (x y : def.Emitter) → prepared n x ≡ ok y → y.constants ≡ x.constants
unfolding prepared lined ◌>>◌ ◌>>=◌
prepared-keeps n x y e = go (demand (leb (length x.bytecode + n) max_code) code_full 0) (recorded x) e
  where
    go : (m : Res (Unit {0})) (q : Res (List LineEntry)) → m >> (q >>= λ entries. ok (lined entries x)) ≡ ok y → y.constants ≡ x.constants
    go (ok a) (ok b) e = let q : y ≡ lined b x = cc in rw (q, lined)
    go (ok a) (refuse n p) e = absurd (let z : ◌≡◌ {A = ℕ} 0 1 = cc in omega arith)
    go (refuse n p) q e = absurd (let z : ◌≡◌ {A = ℕ} 0 1 = cc in omega arith)

same-constants : (n : ℕ) {e u : Emitter} {code book pool code' book' : List ℕ} → Did (once (prepared n)) (world e code book pool) (world u code' book' pool) → u.refused ≡ None → take u.constants pool ≡ take e.constants pool
unfolding stage_of ◌>->◌ once met_at
same-constants n {e} {u} {code} {book} {pool} {code'} {book'} d on = go e.refused (rw on at d.is)
  where
    w : def.Emitter
    w = state (world e code book pool)

    v : def.Emitter
    v = state (world u code' book' pool)

    same : (m : Res def.Emitter) → prepared n w ≡ m → going v ≡ met_at w m → v.constants ≡ w.constants
    same (ok y) e h = let q : v ≡ y = cc in ap (λ (z : def.Emitter). z.constants) q ∙ prepared-keeps n w y e
    same (refuse a b) e h = absurd (let z : ◌≡◌ {A = ℕ} 0 1 = cc in omega arith)

    go : (o : Option Refused) → going v ≡ stage_of o w >-> once (prepared n) → v.constants ≡ w.constants
    go None h = same (prepared n w) refl h
    go (Some r) h = cc

-- so that the place that was found is still the constant's
pub constant-kept : (k n : ℕ) {e p : Emitter} {code book pool book' pool' : List ℕ} {i m : ℕ} → Ready (world e code book pool) → i ≡ index_of k (take e.constants pool) → i < max_constants → Prepared n e book p book' → p.refused ≡ None
    → Keeps p.constants i k pool m pool' → Pooled (add_constant k) p pool (counted p p.labels p.patches p.lines m) pool'
constant-kept k n {code = code} {pool = pool} w is few prep on q = pool-keeps k prep.noted.fine w.held (is ∙ ap (index_of k) (sym (same-constants n (prep.noted.did code pool w.room) on))) on few q

-- ---- an instruction that names a constant: its preparation, the constant, and the instruction's bytes g, by the constant's index

module _ (s : Sheet) (k n : ℕ) (g : ℕ → def.Emitter → def.Emitter) where
  -- adding the constant once the instruction is prepared is adding it before, but where the instruction is refused
  between : (x : def.Emitter) → index_of k x.constants < max_constants
      → met_at x (pooled k x >>= λ y. prepared n y >>= λ z. ok (g (index_of k y.constants) z)) ≡ (once (prepared n) x >-> call s (add_constant k)) >-> once (λ z. ok (g (index_of k x.constants) z))
  unfolding once met_at ◌>->◌ ◌>>=◌ ◌>>◌ act pooled pooled_if demand with_constant
  between x few = go (ltb i (length x.constants)) refl
    where
      i : ℕ
      i = index_of k x.constants

      has : ltb i (length x.constants) ≡ true → (m : Res def.Emitter) → prepared n x ≡ m → met_at x (m >>= λ z. ok (g i z)) ≡ (met_at x m >-> call s (add_constant k)) >-> once (λ z. ok (g i z))
      has q (ok y) e = rw (pooled, prepared-keeps n x y e, q)
      has q (refuse a b) e = refl

      adds : ltb i (length x.constants) ≡ false → ltb (length x.constants) max_constants ≡ true → (m : Res def.Emitter) → prepared n x ≡ m
          → met_at x ((m >>= λ y. ok (with_constant k y)) >>= λ z. ok (g i z)) ≡ (met_at x m >-> call s (add_constant k)) >-> once (λ z. ok (g i z))
      adds q t (ok y) e = rw (pooled, prepared-keeps n x y e, q, t)
      adds q t (refuse a b) e = refl

      room : (t : Bool) → ltb (length x.constants) max_constants ≡ t → ltb i (length x.constants) ≡ false
          → met_at x ((demand t constants_full 0 >> ok (with_constant k x)) >>= λ y. prepared n y >>= λ z. ok (g (index_of k y.constants) z)) ≡ (met_at x (prepared n x) >-> call s (add_constant k)) >-> once (λ z. ok (g i z))
      room true t q =
          let far = ltb-false _ _ q in
          let most = index-most x.constants k in
          let here : index_of k (x.constants ++ (k ∷ [])) ≡ i = index-new x.constants k far ∙ omega arith in
          rw (here, prepared-apart n k x) (adds q t (prepared n x) refl)
      room false t q =
          let far : length x.constants ≤ index_of k x.constants = ltb-false _ _ q in
          let none_left : max_constants ≤ length x.constants = ltb-false _ _ t in
          absurd (omega (arith, few, far, none_left))

      go : (b : Bool) → ltb i (length x.constants) ≡ b → met_at x (pooled_if b k x >>= λ y. prepared n y >>= λ z. ok (g (index_of k y.constants) z)) ≡ (met_at x (prepared n x) >-> call s (add_constant k)) >-> once (λ z. ok (g i z))
      go true q = has q (prepared n x) refl
      go false q = room (ltb (length x.constants) max_constants) refl q

  module _ (c : Call) (says : (x : def.Emitter) → act s c x ≡ pooled k x >>= λ y. prepared n y >>= λ z. ok (g (index_of k y.constants) z)) {e : Emitter} {code book pool : List ℕ} (w : Ready (world e code book pool)) {i : ℕ} (is : i ≡ index_of k (take e.constants pool)) where
    -- there is no room for it (13)
    pub constant-full : {r : Emitter} → max_constants ≤ i → Bare (refused (record { number = constants_full; place = 0 })) e r → Filled (call s c) (world e code book pool) (world r code book pool)
    unfolding ◌>>=◌
    constant-full full b = record {
      ready = record { fine = b.fine; room = w.room; slots = w.slots; held = w.held };
      kept = b.kept code book pool;
      did = stops (act s c) constants_full 0 code book pool b (says _ ∙ rw (pool-refuses k w.fine w.held is code book full));
    }

    module _ (few : i < max_constants) {p : Emitter} {book' : List ℕ} (prep : Prepared n e book p book') where
      pub constant-done : {x : ℕ} {q r : Emitter} {pool' code' book'' : List ℕ} → x ≡ i → Pooled (add_constant k) p pool q pool' → Coded (once (λ z. ok (g x z))) q code book' r code' book'' → Filled (call s c) (world e code book pool) (world r code' book'' pool')
      unfolding once
      constant-done {pool' = pool'} is_x q a = record {
        ready = record { fine = a.fine; room = a.room; slots = a.slots; held = q.held };
        kept = kept_then (prep.noted.kept code pool) (kept_then (q.kept code book') (a.kept pool'));
        did = by-step (λ on. rw (says _, is_x, is) (between _ (rw (← is) few))) (then (then (prep.noted.did code pool w.room) (q.did s code book')) (a.did pool'));
      }

      -- the instruction is refused (10, 12), or the emitter was
      pub constant-halts : (p.refused ≡ None → ⊥) → Filled (call s c) (world e code book pool) (world p code book' pool)
      constant-halts off = constant-done refl (pool-stays k prep.noted.fine w.held off)
          (record { fine = prep.noted.fine; room = w.room; slots = prep.noted.slots; kept = λ pool. kept_self (world p code book' pool); did = λ pool. stays (once (λ z. ok (g i z))) off })

-- ---- instructions that do

abbrev pub loading : Sheet → ℕ → def.Emitter → def.Emitter
loading s i e = added s load_const (le16 i) def.other e.line_map e

pub load-constant-is : (s : Sheet) (k : ℕ) (x : def.Emitter) → act s (load_constant k) x ≡ pooled k x >>= λ y. prepared 3 y >>= λ z. ok (loading s (index_of k y.constants) z)
unfolding act le16 ◌>>=◌
load-constant-is s k x = go (pooled k x)
  where
    go : (m : Res def.Emitter) → m >>= (λ y. add s load_const (le16 (index_of k y.constants)) def.other y) ≡ m >>= λ y. prepared 3 y >>= λ z. ok (loading s (index_of k y.constants) z)
    go (ok y) = add_parts s load_const (le16 (index_of k y.constants)) def.other y
    go (refuse n p) = refl

abbrev pub fusing : Sheet → CompareOp → ℕ → ℕ → ℕ → def.Emitter → def.Emitter
fusing s c v l i e = branching s cmp_br (comparison_byte s c ∷ le16 v ++ le16 i) cmp_br_operand_delta l e

pub cmp-br-is : (s : Sheet) (c : CompareOp) (v k l : ℕ) (x : def.Emitter) → act s (emit_cmp_br c v k l) x ≡ pooled k x >>= λ y. prepared 8 y >>= λ z. ok (fusing s c v l (index_of k y.constants) z)
unfolding act le16 ◌>>=◌
cmp-br-is s c v k l x = go (pooled k x)
  where
    go : (m : Res def.Emitter) → m >>= (λ y. branch s cmp_br (comparison_byte s c ∷ le16 v ++ le16 (index_of k y.constants)) cmp_br_operand_delta l y) ≡ m >>= λ y. prepared 8 y >>= λ z. ok (fusing s c v l (index_of k y.constants) z)
    go (ok y) = branch-parts s cmp_br (comparison_byte s c ∷ le16 v ++ le16 (index_of k y.constants)) cmp_br_operand_delta l y
    go (refuse n p) = refl
