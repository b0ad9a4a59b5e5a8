-- Reading a sheet: its one line, its fields, and the place at fault.
use mathlib.Core.Path.{◌≡◌, refl, ap, ap₂, sym, subst, ◌∙◌}
use mathlib.Core.Bool.{Bool, true, false}
use mathlib.Core.Option.{some, none}
use mathlib.Core.List.{List, [], ◌∷◌, ◌++◌, map, map-append, append-nil}
use Prim.Native.Nat.{ℕ, suc, ◌+◌, ◌-◌, ◌<◌, ◌≤◌}
use native.Mathlib.Omega.{arith}
use native.Mathlib.Numerals.{add-one}
use native.Mathlib.Decide.{dec_lt, ℕ_discrete}
use borrow.Author.Tests.{eq-eqb, ne_eqb, lt-ltb, le-ltb, le-leb, ltb-true, ltb-false}
use lib.Dec.{eqb, ltb}
use lib.ListN.{length, get_or, take, drop, set, length-take, length-drop, length-set, length-map, length-append, drop_of_length-le, take-append-drop}
use lib.Seq.{drop-cons, get_or-drop, get_or-take, take-suc, take-suc-set, take-take, take-append-le, take_all, length-take-le, split_at, drop-append-le, take_at, drop_at}
use Rattle.definition.specs.Limits.{bad_sheet}
use Rattle.definition.specs.Res.{Res, ok, refuse}
use Rattle.definition.specs.Lent.{zeros}
use Rattle.definition.specs.Field.{lf, onto, split, first_line, Read, malformed, outside, is, field, has}
use Rattle.definition.specs.Opcode.{role_count}
use Rattle.definition.specs.Sheet.{field_count, opcodes_of, comparisons_of, max_byte, byte, only_line, counted, sheet_fields, distinct, times, read_at_fault, group_of, field_at_fault, fault_at, sheet_fault, read_sheet}
use Rattle.store.specs.Fill.{zeroed_from}
use Rattle.store.proofs.Fills.{length-zeros, zeros-append, zero-all, zeroed-is}
use Rattle.field.specs.View.{Ends, line_end, line_fields}
use Rattle.field.proofs.Numbers.{up-to-bound}
use Rattle.field.proofs.Parts.{parts_last, parts_more, line-part, line-is, line-ends, Some, some-part, split-some}
use Rattle.field.proofs.Fields.{Whole}
use Rattle.std.proofs.lemmas.List.{drop-map}
use Rattle.field.proofs.Lists.{drop-take}
use Rattle.std.specs.List.{list_any}
use Rattle.std.specs.Prelude.{Result, Ok, Err, is_ok}
use Rattle.definition.specs.declared.Refused.{Refused}
use Rattle.definition.specs.View.{res_of}
use Rattle.opcode.specs.Table.{table_size, sheet_in, Listed, group_start}
use Rattle.opcode.specs.Reading.{Takes, no_byte, repeats, put, Accepts, Reads, Answers, Found, Tabled}
use Rattle.opcode.proofs.Roles.{seen_at}
use Rattle.opcode.proofs.Sheets.{has-cons, distinct_cons}
use Rattle.opcode.proofs.Faults.{spelled, fault-refused, times-same, times-has}

-- ---- is a byte one of these?

pub has-any : (xs : List ℕ) (x : ℕ) → list_any (λ y. eqb y x) xs ≡ has xs x
unfolding has
has-any [] x = refl
has-any (y ∷ xs) x = elim (ℕ_discrete y x) [
  | yes e ↦ rw (has, eq-eqb y x e, eq-eqb x y (sym e))
  | no n ↦ rw (has, ne_eqb y x n, ne_eqb x y (λ e. n (sym e))) (has-any xs x)
]

-- ---- one line

two-more : (l : List ℕ) {ps : List (List ℕ)} → Some ps → only_line (l ∷ [] ∷ ps) ≡ none
unfolding only_line
two-more l some-part = refl

one-filled : (l : List ℕ) (b : ℕ) (ps : List (List ℕ)) → only_line (l ∷ onto b ps) ≡ none
unfolding only_line onto
one-filled l b [] = refl
one-filled l b (p ∷ ps) = refl

more-lines : (l : List ℕ) (b : ℕ) (bs : List ℕ) → only_line (l ∷ split lf (b ∷ bs)) ≡ none
unfolding split
more-lines l b bs =
    elim (eqb b lf) as (λ t. only_line (l ∷ (elim t [ true ↦ [] ∷ split lf bs | false ↦ onto b (split lf bs) ])) ≡ none)
    [ true ↦ two-more l (split-some lf bs) | false ↦ one-filled l b (split lf bs) ]

module _ (t : List ℕ) where
  lines : Ends first_line t 0 (line_end t 0)
  lines = line-ends t 0

  line : take (line_end t 0 - 0) t ≡ first_line t
  line = line-is lines

  -- the LF that ends the first line ends the text
  one_line : length t ≡ line_end t 0 + 1 → only_line (split lf t) ≡ some (line_fields t 0)
  unfolding only_line split
  one_line h =
      let nil : drop (line_end t 0 + 1) t ≡ [] = drop_of_length-le t {i = line_end t 0 + 1} (omega arith) in
      ap only_line (parts_more lf (line-part lines) (omega arith)) ∙ rw (line, nil)

  not-one-line : (length t ≡ line_end t 0 + 1 → ⊥) → only_line (split lf t) ≡ none
  unfolding only_line
  not-one-line h = go (dec_lt (line_end t 0) (length t))
    where
      go : Dec (line_end t 0 < length t) → only_line (split lf t) ≡ none
      go (no k) = ap only_line (parts_last lf (line-part lines) (omega arith))
      go (yes k) =
          ap only_line (parts_more lf (line-part lines) k)
          ∙ ap (λ (r : List ℕ). only_line (take (line_end t 0 - 0) t ∷ split lf r)) (drop-cons t (line_end t 0 + 1) 0 (omega arith))
          ∙ more-lines (take (line_end t 0 - 0) t) (get_or t (line_end t 0 + 1) 0) (drop (suc (line_end t 0 + 1)) t)

  -- place 0 is at fault unless one line of as many fields is all of the text
  pub no_line : (Whole t 0 field_count → length t ≡ line_end t 0 + 1 → ⊥) → sheet_fault t 0 ≡ true
  unfolding sheet_fault sheet_fields counted fault_at
  no_line n = go (ℕ_discrete (length t) (line_end t 0 + 1))
    where
      go : Dec (length t ≡ line_end t 0 + 1) → fault_at 0 (counted (only_line (split lf t))) ≡ true
      go (no h) = ap (λ o. fault_at 0 (counted o)) (not-one-line h)
      go (yes h) =
          ap (λ o. fault_at 0 (counted o)) (one_line h)
          ∙ rw (counted, ne_eqb (length (line_fields t 0)) field_count (λ m. n (record { many = m; ended = omega arith }) h))

  fields-found : Whole t 0 field_count → length t ≡ line_end t 0 + 1 → sheet_fields t ≡ some (line_fields t 0)
  unfolding sheet_fields counted
  fields-found w h = ap counted (one_line h) ∙ rw (counted, eq-eqb (length (line_fields t 0)) field_count w.many)

-- ---- where a field's group starts

pub group-low : (i : ℕ) → i < role_count → 0 ≡ group_start i
unfolding group_start
group-low i h = rw (group_start, lt-ltb i role_count h)

pub group-high : (i : ℕ) → role_count ≤ i → role_count ≡ group_start i
unfolding group_start
group-high i h = rw (group_start, le-ltb i role_count h)

pub group-before : {r : ℕ} (i : ℕ) → r ≡ group_start i → r ≤ i
unfolding group_start
group-before {r} i e = go (dec_lt i role_count)
  where
    go : Dec (i < role_count) → r ≤ i
    go (yes h) = omega (arith, e, group-low i h)
    go (no h) = omega (arith, e, group-high i (omega arith))

-- ---- numbers that are distinct so far

has-snoc : (x n : ℕ) (xs : List ℕ) → has xs x ≡ false → (x ≡ n → ⊥) → has (xs ++ n ∷ []) x ≡ false
unfolding has
has-snoc x n [] e h = rw (has, ne_eqb x n h)
has-snoc x n (y ∷ xs) e h = let p = has-cons x y xs e in rw (has, ne_eqb x y p.0) (has-snoc x n xs p.1 h)

distinct_snoc : (n : ℕ) (xs : List ℕ) → distinct xs ≡ true → has xs n ≡ false → distinct (xs ++ n ∷ []) ≡ true
unfolding distinct has
distinct_snoc n [] e h = refl
distinct_snoc n (x ∷ xs) e h =
    let p = distinct_cons x xs e in
    let q = has-cons n x xs h in
    rw (distinct, has-snoc x n xs p.0 (λ z. q.0 (sym z))) (distinct_snoc n xs p.1 q.1)

-- one number more, which its group does not have
module _ (w : List ℕ) (n : ℕ) (a : distinct (opcodes_of w) ≡ true) (b : distinct (comparisons_of w) ≡ true) where
  grown : (i : ℕ) → length w ≡ i → has (drop (group_start i) w) n ≡ false → (distinct (opcodes_of (w ++ n ∷ [])) ≡ true) × (distinct (comparisons_of (w ++ n ∷ [])) ≡ true)
  unfolding group_start distinct
  grown i l = go (ltb i role_count) refl
    where
      more : length (w ++ n ∷ []) ≡ i + 1
      more = length-append w (n ∷ []) ∙ omega (arith, l)

      go : (t : Bool) → ltb i role_count ≡ t → has (drop (elim t [ true ↦ 0 | false ↦ role_count ]) w) n ≡ false → (distinct (opcodes_of (w ++ n ∷ [])) ≡ true) × (distinct (comparisons_of (w ++ n ∷ [])) ≡ true)
      go true q h =
          let k = ltb-true i role_count q in
          let nil : comparisons_of (w ++ n ∷ []) ≡ [] = drop_of_length-le (w ++ n ∷ []) {i = role_count} (omega (arith, more)) in
          (rw (take_all role_count (w ++ n ∷ []) (omega (arith, more))) (distinct_snoc n w (rw (take_all role_count w (omega (arith, l))) at a) h), rw nil)
      go false q h =
          let k = ltb-false i role_count q in
          (rw (take-append-le role_count w (n ∷ []) (omega (arith, l))) a, rw (drop-append-le role_count w (n ∷ []) (omega (arith, l))) (distinct_snoc n (comparisons_of w) b h))

-- ---- a number that its group has already

times-append : (n : ℕ) (a b : List Read) → times n (a ++ b) ≡ times n a + times n b
unfolding times
times-append n [] b = omega arith
times-append n (r ∷ a) b = omega (arith, times-append n a b)

twice : (n j : ℕ) (g : List Read) (xs : List ℕ) → j < length g → take j g ≡ map is xs → get_or g j malformed ≡ is n → has xs n ≡ true → 2 ≤ times n g
twice n j g xs h front here e =
    let cut : times n g ≡ times n (map is xs ++ is n ∷ drop (suc j) g) = ap (times n) (split_at g j malformed h ∙ ap₂ (λ (a : List Read) (r : Read). a ++ r ∷ drop (suc j) g) front here) in
    omega (arith, cut, times-append n (map is xs) (is n ∷ drop (suc j) g), times-same n (drop (suc j) g), times-has n xs e)

-- ---- a field's byte

byte-none : (bs : List ℕ) (g : List Read) → ((n : ℕ) → field byte bs ≡ is n → max_byte < n) → read_at_fault g (field byte bs) ≡ true
unfolding read_at_fault
byte-none bs g = go (field byte bs) refl
  where
    go : (r : Read) → field byte bs ≡ r → ((n : ℕ) → r ≡ is n → max_byte < n) → read_at_fault g r ≡ true
    go malformed e h = refl
    go outside e h = refl
    go (is n) e h = absurd (omega (arith, up-to-bound bs max_byte e, h n refl))

-- ---- taking the fields of a line into the table

-- what was asked of the group so far
pub so_far : (i start n : ℕ) (t : List ℕ) {r b : Bool} → start ≡ group_start i → r ≡ list_any (λ y. eqb y n) (take (i - start) (drop start t)) → r ≡ b → has (drop (group_start i) (take i t)) n ≡ b
so_far i start n t es f q = rw (← es, drop-take start i t) (sym (f ∙ has-any _ n) ∙ q)

-- what the fields of a text's first line are read as
abbrev reads_of : List ℕ → List Read
reads_of text = map (field byte) (line_fields text 0)

-- i fields are looked at: they are bytes in the table, distinct in their groups, or one of them is at fault
pub record Taking (text t : List ℕ) (i : ℕ) (r : Res (Unit {0})) : Type 0 where
  pub room : length t ≡ table_size
  pub reads : r ≡ ok tt → take i (reads_of text) ≡ map is (take i t)
  pub opcodes : r ≡ ok tt → distinct (opcodes_of (take i t)) ≡ true
  pub comparisons : r ≡ ok tt → distinct (comparisons_of (take i t)) ≡ true
  pub bad : (n p : ℕ) → r ≡ refuse n p → (n ≡ bad_sheet) × (fault_at p (some (line_fields text 0)) ≡ true)

pub taking-starts : (text t : List ℕ) → length t ≡ table_size → Taking text t 0 (ok tt)
unfolding distinct
taking-starts text t l = record { room = l; reads = λ z. refl; opcodes = λ z. refl; comparisons = λ z. refl; bad = λ n p e. absurd (cc) }

-- what code answered: that all is well, or that it is not
pub all-well : (r : Result (Unit {0}) Refused) → is_ok r ≡ true → res_of (λ u. u) r ≡ ok tt
all-well (Ok u) e = refl
all-well (Err e) q = absurd (cc)

-- once a field is at fault, no other is taken
pub taking-kept : {text t : List ℕ} {i : ℕ} (r : Result (Unit {0}) Refused) → is_ok r ≡ false → Taking text t i (res_of (λ u. u) r) → Taking text t (i + 1) (res_of (λ u. u) r)
taking-kept (Ok u) e k = absurd (cc)
taking-kept (Err e) q k = record { room = k.room; reads = λ z. absurd (cc); opcodes = λ z. absurd (cc); comparisons = λ z. absurd (cc); bad = k.bad }

module _ {text t : List ℕ} {i : ℕ} (p : Taking text t i (ok tt)) (h : i < field_count) (inside : i < length (line_fields text 0)) {x : Read} (ex : x ≡ field byte (get_or (line_fields text 0) i [])) where
  long : i < length (reads_of text)
  long = omega (arith, length-map (line_fields text 0) (field byte))

  read_here : get_or (reads_of text) i malformed ≡ x
  read_here = sym (seen_at (field byte) (line_fields text 0) [] malformed i inside) ∙ sym ex

  at-fault : read_at_fault (group_of i (reads_of text)) x ≡ true → fault_at (i + 1) (some (line_fields text 0)) ≡ true
  unfolding fault_at field_at_fault
  at-fault f = rw (add-one i, field_at_fault, lt-ltb i field_count h, read_here) f

  -- the byte that was read stands before it in its group
  module _ {n : ℕ} (here : x ≡ is n) where
    group-twice : has (drop (group_start i) (take i t)) n ≡ true → 2 ≤ times n (group_of i (reads_of text))
    unfolding group_start group_of
    group-twice = go (ltb i role_count) refl
      where
        go : (b : Bool) → ltb i role_count ≡ b → has (drop (elim b [ true ↦ 0 | false ↦ role_count ]) (take i t)) n ≡ true
            → 2 ≤ times n (elim b [ true ↦ opcodes_of (reads_of text) | false ↦ comparisons_of (reads_of text) ])
        go true q f =
            let l = ltb-true i role_count q in
            twice n i (opcodes_of (reads_of text)) (take i t)
            (omega (arith, length-take role_count (reads_of text), long))
            (take-take i role_count (reads_of text) (omega arith) ∙ p.reads refl)
            (get_or-take role_count (reads_of text) i malformed l ∙ read_here ∙ here) f
        go false q f =
            let l = ltb-false i role_count q in
            let z : role_count + (i - role_count) ≡ i = omega arith in
            twice n (i - role_count) (comparisons_of (reads_of text)) (comparisons_of (take i t))
            (omega (arith, length-drop role_count (reads_of text), long))
            (sym (drop-take role_count i (reads_of text)) ∙ ap comparisons_of (p.reads refl) ∙ drop-map is role_count (take i t))
            (get_or-drop role_count (reads_of text) (i - role_count) malformed ∙ rw z (read_here ∙ here)) f

    taken : has (drop (group_start i) (take i t)) n ≡ false → Taking text (set t i n) (i + 1) (ok tt)
    taken f =
        let w : take (i + 1) (set t i n) ≡ take i t ++ n ∷ [] = rw (add-one i) (take-suc-set t i n (omega (arith, p.room))) in
        let g = grown (take i t) n (p.opcodes refl) (p.comparisons refl) i (length-take-le i t (omega (arith, p.room))) f in
        record {
          room = length-set t i n ∙ p.room;
          reads = λ z. rw (w, add-one i, take-suc (reads_of text) i malformed long, read_here, p.reads refl) (ap (λ (y : Read). map is (take i t) ++ y ∷ []) here ∙ sym (map-append is (take i t) (n ∷ [])));
          opcodes = λ z. rw w g.0;
          comparisons = λ z. rw w g.1;
          bad = λ n p e. absurd (cc);
        }

  faulty-now : {r : Res (Unit {0})} → r ≡ refuse bad_sheet (i + 1) → read_at_fault (group_of i (reads_of text)) x ≡ true → Taking text t (i + 1) r
  faulty-now e f = rw e (record {
    room = p.room;
    reads = λ z. absurd (cc);
    opcodes = λ z. absurd (cc);
    comparisons = λ z. absurd (cc);
    bad = λ n q z. let same : q ≡ i + 1 = cc in (cc, rw same (at-fault f));
  })

  pub taking-next : {u : List ℕ} {r : Res (Unit {0})} → Takes i x t u r → Taking text u (i + 1) r
  unfolding read_at_fault
  taking-next (no_byte b eu er) = rw eu (faulty-now er (rw ex (byte-none (get_or (line_fields text 0) i []) (group_of i (reads_of text)) (rw ex at b))))
  taking-next (repeats {n = n} here f eu er) = rw eu (faulty-now er (ap (read_at_fault (group_of i (reads_of text))) here ∙ le-leb 2 (times n (group_of i (reads_of text))) (group-twice here f)))
  taking-next (put here b f eu er) = rw (eu, er) (taken here f)

-- ---- all fields are taken
pub taking-ends : {text t : List ℕ} {i : ℕ} (r : Res (Unit {0})) → Taking text t i r → i ≡ field_count → Whole text 0 field_count → length text ≡ line_end text 0 + 1 → Found text t r
unfolding sheet_fault
taking-ends {text} (refuse n q) p e whole only = let b = p.bad n q refl in (b.0, ap (fault_at q) (fields-found text whole only) ∙ b.1)
taking-ends {text} {t} (ok u) p e whole only =
    let all : take field_count (reads_of text) ≡ reads_of text = take_all field_count (reads_of text) (omega (arith, length-map (line_fields text 0) (field byte), whole.many)) in
    spelled {ns = take field_count t} (record {
      fields = line_fields text 0;
      found = fields-found text whole only;
      reads = sym all ∙ rw e at (p.reads refl);
      long = length-take-le field_count t (omega (arith, p.room));
      opcodes = rw e at (p.opcodes refl);
      comparisons = rw e at (p.comparisons refl);
    })

-- ---- what reading a sheet answers

pub accepted : (text rest : List ℕ) {u table : List ℕ} → read_sheet text ≡ some (sheet_in u) → Listed u table → Accepts text (take table_size (table ++ rest))
accepted text rest {u} {table} e l = rw (take_at table rest table_size l.table.long) (record { is = rw l.front e; ready = l.table })

-- what a lent list holds that is zeroed from its table's end on, or all of it
zeros-parted : (n room : ℕ) → n ≤ room → zeros room ≡ zeros n ++ zeros (room - n)
zeros-parted n room h = let e : n + (room - n) ≡ room = omega arith in ap zeros (sym e) ∙ sym (zeros-append n (room - n))

pub answers : (text old mid : List ℕ) {new : List ℕ} {n : ℕ} → length mid ≡ length old → new ≡ zeroed_from n mid → (r : Result (Unit {0}) Refused) → Tabled text old mid (res_of (λ u. u) r) → (is_ok r ≡ true → n ≡ table_size) → (is_ok r ≡ false → n ≡ 0)
    → Answers (length old) text new (res_of (λ u. u) r)
answers text old mid {new} {n} same z (Ok u) t y x =
    let parts : new ≡ take table_size mid ++ zeros (length old - table_size) = z ∙ zeroed-is n mid ∙ rw (y refl, same) in
    let long : length (take table_size mid) ≡ table_size = length-take-le table_size mid (omega (arith, t.0)) in
    record {
      fit = λ _. record { reads = rw (parts, take_at (take table_size mid) (zeros (length old - table_size)) table_size long) t.1; behind = rw (parts, drop_at (take table_size mid) (zeros (length old - table_size)) table_size long) };
      unfit = λ q. absurd (omega (arith, t.0));
    }
answers text old mid {new} {n} same z (Err e) t y x =
    let cleared : new ≡ zeros (length old) = zero-all mid (rw (x refl) at z) ∙ ap zeros same in
    let parts : table_size ≤ length old → new ≡ zeros table_size ++ zeros (length old - table_size) = λ h. cleared ∙ zeros-parted table_size (length old) h in
    record {
      fit = λ h. record {
        reads = record { is = fault-refused text e.place (t.1 h).1; number = (t.1 h).0; fault = (t.1 h).1; cleared = rw (parts h, take_at (zeros table_size) (zeros (length old - table_size)) table_size (length-zeros table_size)) };
        behind = rw (parts h, drop_at (zeros table_size) (zeros (length old - table_size)) table_size (length-zeros table_size));
      };
      unfit = λ h. record { is = ap₂ refuse (t.0 h).0 (t.0 h).1; cleared = cleared };
    }

-- what was read into a table that is no longer
pub read_whole : {room : ℕ} {text table : List ℕ} {r : Res (Unit {0})} → room ≡ table_size → Answers room text table r → Reads text table r
unfolding zeros
read_whole {room} {text} {table} {r} e a =
    let f = a.fit (omega arith) in
    let z : room - table_size ≡ 0 = omega arith in
    let nil : drop table_size table ≡ [] = f.behind ∙ ap zeros z in
    subst (λ (t : List ℕ). Reads text t r) (sym (append-nil (take table_size table)) ∙ ap (λ (l : List ℕ). take table_size table ++ l) (sym nil) ∙ take-append-drop table_size table) f.reads
