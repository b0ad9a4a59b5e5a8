-- Loads with their two foldings, and stores.
use Rattle.std.proofs.Common.{Option, Some, None}
use Rattle.definition.specs.declared.Refused.{Refused}
use mathlib.Core.Path.{◌≡◌, refl, ap, sym, ◌∙◌}
use mathlib.Core.Bool.{Bool, true, false}
use mathlib.Core.List.{List, [], ◌∷◌, ◌++◌, append_assoc}
use Prim.Native.Nat.{ℕ, zero, suc, ◌+◌, ◌-◌, ◌≤◌, ◌<◌, max}
use native.Mathlib.Numerals.{add-one}
use native.Mathlib.Omega.{arith}
use borrow.Author.Tests.{le-ltb, lt-ltb}
use lib.Dec.{eqb}
use lib.ListN.{length, take, drop, set, length-drop, length-append}
use lib.Seq.{sets, sets-eq, paste, length-sets, length-take-le, take-take, take-nil, take-set-lt, take-suc-set, set-append_left}
use Rattle.definition.specs.Limits.{max_code, code_full}
use Rattle.definition.specs.Res.{Res, ok, refuse, ◌>>=◌, ◌>>◌, demand}
use Rattle.definition.specs.Opcode.{Sheet, dup, opcode}
use Rattle.definition.specs.Emit as def
use Rattle.definition.specs.Emit.{load_variable, store_variable, emit_opcode, refused, act, add, fold_store, folded, load_after, le16}
use Rattle.emit.specs.declared.Emitter.{Emitter}
use Rattle.emit.specs.declared.load.Loaded as answer
use Rattle.emit.specs.declared.load.Read.{Read}
use Rattle.emit.specs.declared.Last.{Last}
use Rattle.emit.specs.declared.Last.TheVariants.{Other, Loaded, Stored}
use Rattle.emit.specs.declared.load.LoadForm.{LoadForm}
use Rattle.emit.specs.declared.load.LoadForm.TheVariants.{Load, Dup, Fold}
use Rattle.emit.specs.Book.{book_size}
use Rattle.emit.specs.View.{World, world, last_view, state, standing, view, stage_of}
use Rattle.emit.specs.Steps.{Step, ◌>->◌, Did, met_at, once, call, LastAt, Fine, Bare, Coded}
use Rattle.emit.specs.Load.{load_form, load_by, read_by, read_of, reading, Loads}
use Rattle.emit.specs.Parts.{altered, Written}
use Rattle.emit.proofs.Tables.{sets-front}
use Rattle.emit.proofs.Kept.{pool-self, tails-self, kept_self, sets-tail}
use Rattle.emit.proofs.Steps.{stays, goes, stops, size_of}
use Rattle.emit.proofs.State.{fine-altered}
use Rattle.emit.proofs.Instructions.{coded_by}

-- ---- a byte put before the last three

drop-take : (i k : ℕ) (l : List ℕ) → drop i (take (i + k) l) ≡ take k (drop i l)
drop-take zero k l = let e : 0 + k ≡ k = omega arith in rw e
drop-take (suc i) k [] = let e : suc i + k ≡ suc (i + k) = omega arith in rw (e, take-nil k)
drop-take (suc i) k (x ∷ l) = let e : suc i + k ≡ suc (i + k) = omega arith in rw e (drop-take i k l)

pub inserts : (l : List ℕ) (i x n : ℕ) {m : List ℕ} → i + 4 ≤ length l → n ≡ 3 → m ≡ paste l (i + 1) (drop i l) n → set m i x ≡ sets l i (x ∷ take 3 (drop i l))
inserts l i x n {m} h three e =
    let part : List ℕ = take 3 (drop i l) in
    let rest : List ℕ = drop (i + 4) l in
    let long : length part ≡ 3 = length-take-le 3 (drop i l) (rw (length-drop i l) (omega arith)) in
    let front : length (take (i + 1) l) ≡ i + 1 = length-take-le (i + 1) l (omega arith) in
    let far : i + 1 + 3 ≡ i + 4 = omega arith in
    let moved : m ≡ (take (i + 1) l ++ part) ++ rest = e ∙ rw (three, far) in
    let first : set (take (i + 1) l) i x ≡ take i l ++ (x ∷ []) = sym (take-set-lt (i + 1) l i x (omega arith)) ∙ rw add-one (take-suc-set l i x (omega arith)) in
    let four : i + 4 ≡ i + length (x ∷ part) = omega (arith, long) in
    rw moved
    (set-append_left (take (i + 1) l ++ part) rest i x (omega (arith, length-append (take (i + 1) l) part, front))
    ∙ ap (λ (t : List ℕ). t ++ rest) (set-append_left (take (i + 1) l) part i x (omega (arith, front)) ∙ ap (λ (t : List ℕ). t ++ part) first ∙ append_assoc (take i l) (x ∷ []) part)
    ∙ ap (λ (k : ℕ). (take i l ++ (x ∷ part)) ++ drop k l) four
    ∙ sym (sets-eq (x ∷ part) l i (omega (arith, four))))

-- ---- the store folding

module _ (s : Sheet) {e : Emitter} {code : List ℕ} (h : Fine e) (room : length code ≡ max_code) where
  pub fold_stays : (e.refused ≡ None → ⊥) → Written (once (fold_store s)) e code e code
  fold_stays off = record { fine = h; room = room; kept = λ book pool. kept_self (world e code book pool); did = λ book pool. stays (once (fold_store s)) off }

  pub fold-full : {r : Emitter} → max_code ≤ e.size → Bare (refused (record { number = code_full; place = 0 })) e r → Written (once (fold_store s)) e code r code
  unfolding fold_store demand ◌>>◌
  fold-full full b = record { fine = b.fine; room = room; kept = λ book pool. b.kept code book pool; did = λ book pool. stops (fold_store s) code_full 0 code book pool b (rw (size_of code h room, le-ltb _ _ full)) }

  pub fold-goes : {r : Emitter} {code' : List ℕ} {b m : ℕ} → b ≡ opcode s dup → m ≡ max e.deepest (e.depth + 2) → e.refused ≡ None → e.size < max_code → 3 ≤ e.size
      → code' ≡ sets code (e.size - 3) (b ∷ take 3 (drop (e.size - 3) code)) → r ≡ altered e (e.size + 1) Other (e.depth + 1) m → Written (once (fold_store s)) e code r code'
  unfolding fold_store demand ◌>>◌ folded
  fold-goes {b = b} {m = m} is_b is_m on fits more put is =
      let i = e.size - 3 in
      let ns = b ∷ take 3 (drop i code) in
      let back : e.size ≡ i + 3 = omega arith in
      let long : length (take 3 (drop i code)) ≡ 3 = length-take-le 3 (drop i code) (rw (length-drop i code) (omega arith)) in
      let four : e.size + 1 ≡ i + length ns = rw long (omega arith) in
      let front : take i (take e.size code) ≡ take i code = take-take i e.size code (omega arith) in
      let behind : drop i (take e.size code) ≡ take 3 (drop i code) = ap (λ (k : ℕ). drop i (take k code)) back ∙ drop-take i 3 code in
      let bytes : take (e.size + 1) (sets code i ns) ≡ take i code ++ ns = rw four (sets-front ns code i (rw long (omega arith))) in
      let one : suc e.depth ≡ e.depth + 1 = omega arith in
      let two : suc (e.depth + 1) ≡ e.depth + 2 = omega arith in
      rw (put, is) (record {
        fine = fine-altered (e.size + 1) Other (e.depth + 1) m h (omega arith) (omega arith) tt (omega (arith, h.depth)) (rw is_m (omega (arith, h.depth, h.deepest)));
        room = length-sets code i ns ∙ room;
        kept = λ book pool. record {
          grown = record { size = omega arith; labels = omega arith; patches = omega arith; lines = omega arith; constants = omega arith };
          code = rw four (sets-tail ns code i (rw long (omega arith)));
          book = tails-self (altered e (e.size + 1) Other (e.depth + 1) m) book;
          pool = λ few long. pool-self e.constants pool;
          sticky = λ z. absurd (z on);
        };
        did = λ book pool. goes (fold_store s) (world e code book pool) (world (altered e (e.size + 1) Other (e.depth + 1) m) (sets code i ns) book pool) on on
            (rw (size_of code h room, lt-ltb _ _ fits, bytes, front, behind, ← is_b, one, two, is_m));
      })

-- ---- loads

module _ (s : Sheet) (v : ℕ) where
  load-by : (x : def.Emitter) → act s (load_variable v) x ≡ load_by (load_form x.last v) s v x
  unfolding act load_after load_form load_by
  load-by x = go x.last
    where
      by : (b : Bool) (f g : LoadForm) → elim b [ true ↦ load_by f s v x | false ↦ load_by g s v x ] ≡ load_by (elim b [ true ↦ f | false ↦ g ]) s v x
      by true f g = refl
      by false f g = refl

      go : (l : def.Last) → load_after l s v x ≡ load_by (load_form l v) s v x
      go def.other = refl
      go (def.loaded w) = by (eqb w v) Dup Load
      go (def.stored w) = by (eqb w v) Fold Load

-- a store that a load folds into has three bytes
pub folds-three : {e : Emitter} (v : ℕ) → Fine e → Fold ≡ load_form (last_view e.last) v → 3 ≤ e.size
unfolding load_form
folds-three {e} v h is = go e.last h.last is
  where
    go : (l : Last) → LastAt l e.size → Fold ≡ load_form (last_view l) v → 3 ≤ e.size
    go Other k q = absurd (let z : ◌≡◌ {A = ℕ} 0 1 = cc in omega arith)
    go (Loaded w) k q = absurd (never (eqb w v) q)
      where
        never : (b : Bool) → Fold ≡ elim b [ true ↦ Dup | false ↦ Load ] → ⊥
        never true q = let z : ◌≡◌ {A = ℕ} 0 1 = cc in omega arith
        never false q = let z : ◌≡◌ {A = ℕ} 0 1 = cc in omega arith
    go (Stored w) k q = k

-- what was read, from what was done
read_is : (s : Sheet) (v : ℕ) {w u : World} {q : Option Read} {x : Read} → Did (call s (load_variable v)) w u → x ≡ read_by (load_form (last_view w.e.last) v) (length (take w.e.size w.code))
    → (u.e.refused ≡ None → q ≡ Some x) → ((u.e.refused ≡ None → ⊥) → q ≡ None) → q ≡ read_of (view w >>= reading s v)
unfolding standing stage_of ◌>->◌ once ◌>>=◌ reading read_of met_at ◌>>◌
read_is s v {w} {u} {q} {x} d is a b = go w.e.refused u.e.refused d.is a b
  where
    answers : (m : Option Refused) (r : Res def.Emitter) → stage_of m (state u) ≡ met_at (state w) r → (m ≡ None → q ≡ Some x) → ((m ≡ None → ⊥) → q ≡ None) → q ≡ read_of (r >> ok x)
    answers None (ok y) h a b = a refl
    answers None (refuse n p) h a b = cc
    answers (Some m) (ok y) h a b = cc
    answers (Some m) (refuse n p) h a b = b (λ z. cc)

    go : (k m : Option Refused) → stage_of m (state u) ≡ stage_of k (state w) >-> call s (load_variable v) → (m ≡ None → q ≡ Some x) → ((m ≡ None → ⊥) → q ≡ None)
        → q ≡ read_of (standing k (state w) >>= reading s v)
    go None m h a b = rw (reading, ← is) (answers m (act s (load_variable v) (state w)) h a b)
    go (Some k) None h a b = cc
    go (Some k) (Some m) h a b = b (λ z. cc)

-- what a load answers, by its form
module _ (s : Sheet) (v : ℕ) (form : LoadForm) {e u : Emitter} {code book code' book' : List ℕ} {r : answer.Loaded} (h : Fine e) (room : length code ≡ max_code) (is : form ≡ load_form (last_view e.last) v)
    (same : r.emitter ≡ u) (good : u.refused ≡ None → r.read ≡ Some (read_by form e.size)) (bad : (u.refused ≡ None → ⊥) → r.read ≡ None) where
  pub load-answers : Coded (once (load_by form s v)) e code book u code' book' → Loads s v e code book r code' book'
  load-answers c =
      let d : Coded (call s (load_variable v)) e code book u code' book' = coded_by _ _ (λ pool. load-by s v (state (world e code book pool)) ∙ rw (← is)) c in
      record {
        coded = rw same d;
        read = λ pool. read_is s v (d.did pool) (rw (size_of code h room, is)) good bad;
      }

pub written-coded : {f : Step} {e r : Emitter} {code book code' : List ℕ} → length book ≡ book_size → Written f e code r code' → Coded f e code book r code' book
written-coded {book = book} slots d = record { fine = d.fine; room = d.room; slots = slots; kept = λ pool. d.kept book pool; did = λ pool. d.did book pool }
