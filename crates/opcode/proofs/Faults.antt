-- What a sheet's text must be to be accepted, and that exactly a refused one has a place at fault.
use mathlib.Core.Path.{◌≡◌, refl, ap, sym, ◌∙◌}
use mathlib.Core.Bool.{Bool, true, false, not, ◌&&◌}
use mathlib.Core.Logic.{◌⊎◌, inl, inr}
use mathlib.Core.Option.{Option, some, none}
use mathlib.Core.List.{List, [], ◌∷◌, map}
use Prim.Native.Nat.{ℕ, zero, suc, ◌+◌, ◌<◌, ◌≤◌}
use native.Mathlib.Omega.{arith}
use native.Mathlib.Decide.{ℕ_discrete}
use borrow.Author.Tests.{eq-eqb, ne_eqb, eqb-true, lt-leb, le-leb, ltb-true, lt-ltb, le-ltb}
use lib.Dec.{eqb, ltb}
use lib.ListN.{length, get_or, take, length-take, length-drop, length-map}
use lib.Seq.{get_or-drop, get_or-take}
use Rattle.definition.specs.Field.{lf, split, Read, malformed, outside, is, field, Numbers, wrong, far, are, and_these, numbers, has}
use Rattle.definition.specs.Opcode.{role_count, Sheet}
use Rattle.definition.specs.Sheet.{field_count, opcodes_of, comparisons_of, max_byte, byte, counted, sheet_fields, distinct, sheet_of, repeated, read_fields, read_sheet, is_number, times, read_at_fault, group_of, field_at_fault, fault_at, sheet_fault, only_line}
use Rattle.field.proofs.Numbers.{up-to-bound}
use Rattle.opcode.specs.Table.{byte_count, Good, sheet_by}
use Rattle.opcode.proofs.Roles.{seen_at}
use Rattle.field.proofs.Tests.{and_left, and_right}
use Rattle.std.proofs.lemmas.List.{take-map, drop-map}
use Rattle.opcode.proofs.Sheets.{has-cons, distinct_cons}

-- ---- the numbers of the fields

reads-numbers : (n : ℕ) (fs : List (List ℕ)) (ns : List ℕ) → numbers (repeated byte n) fs ≡ are ns → (length ns ≡ n) × (map (field byte) fs ≡ map is ns)
unfolding numbers repeated and_these
reads-numbers zero [] ns e = let q : ns ≡ [] = cc in rw q (refl, refl)
reads-numbers zero (x ∷ fs) ns e = absurd (cc)
reads-numbers (suc n) [] ns e = absurd (cc)
reads-numbers (suc n) (x ∷ fs) ns e = go (field byte x) (numbers (repeated byte n) fs) refl e (reads-numbers n fs)
  where
    go : (r : Read) (m : Numbers) → field byte x ≡ r → and_these r m ≡ are ns → ((ks : List ℕ) → m ≡ are ks → (length ks ≡ n) × (map (field byte) fs ≡ map is ks)) → (length ns ≡ suc n) × (field byte x ∷ map (field byte) fs ≡ map is ns)
    go malformed m p e more = absurd (cc)
    go outside wrong p e more = absurd (cc)
    go outside far p e more = absurd (cc)
    go outside (are ks) p e more = absurd (cc)
    go (is k) wrong p e more = absurd (cc)
    go (is k) far p e more = absurd (cc)
    go (is k) (are ks) p e more =
        let r = more ks refl in
        let q : ns ≡ k ∷ ks = cc in
        rw (q, p, r.1) (omega (arith, r.0), refl)

numbers-reads : (fs : List (List ℕ)) (ns : List ℕ) → map (field byte) fs ≡ map is ns → numbers (repeated byte (length ns)) fs ≡ are ns
unfolding numbers repeated and_these
numbers-reads [] [] e = refl
numbers-reads [] (n ∷ ns) e = absurd (cc)
numbers-reads (x ∷ fs) [] e = absurd (cc)
numbers-reads (x ∷ fs) (n ∷ ns) e =
    let p : field byte x ≡ is n = cc in
    let q : map (field byte) fs ≡ map is ns = cc in
    rw (p, numbers-reads fs ns q)

-- ---- an accepted text: all its fields are bytes, distinct in their groups

pub record Spells (t ns : List ℕ) : Type 0 where
  pub fields : List (List ℕ)
  pub found : sheet_fields t ≡ some fields
  pub reads : map (field byte) fields ≡ map is ns
  pub long : length ns ≡ field_count
  pub opcodes : distinct (opcodes_of ns) ≡ true
  pub comparisons : distinct (comparisons_of ns) ≡ true

pub spelled : {t ns : List ℕ} → Spells t ns → read_sheet t ≡ some (sheet_by ns)
unfolding read_sheet read_fields sheet_of
spelled {t} {ns} p =
    let n : numbers (repeated byte field_count) p.fields ≡ are ns = rw p.long at (numbers-reads p.fields ns p.reads) in
    ap read_fields p.found ∙ ap sheet_of n ∙ taken
  where
    taken : sheet_of (are ns) ≡ some (sheet_by ns)
    taken = rw (sheet_of, p.opcodes, p.comparisons)

sheet-numbers : (m : Numbers) (s : Sheet) → sheet_of m ≡ some s
    → (ns : List ℕ) × (m ≡ are ns) × (distinct (opcodes_of ns) ≡ true) × (distinct (comparisons_of ns) ≡ true) × (s ≡ sheet_by ns)
unfolding sheet_of
sheet-numbers wrong s = λ e. absurd (cc)
sheet-numbers far s = λ e. absurd (cc)
sheet-numbers (are ns) s = go (distinct (opcodes_of ns) && distinct (comparisons_of ns)) refl
  where
    go : (t : Bool) → (distinct (opcodes_of ns) && distinct (comparisons_of ns)) ≡ t → ◌≡◌ {A = Option Sheet} (elim t [ true ↦ some (sheet_by ns) | false ↦ none ]) (some s)
        → (ks : List ℕ) × (are ns ≡ are ks) × (distinct (opcodes_of ks) ≡ true) × (distinct (comparisons_of ks) ≡ true) × (s ≡ sheet_by ks)
    go true q e = (ns, refl, and_left _ _ q, and_right (distinct (opcodes_of ns)) _ q, cc)
    go false q e = absurd (cc)

pub spells : (t : List ℕ) (s : Sheet) → read_sheet t ≡ some s → (ns : List ℕ) × Spells t ns × (s ≡ sheet_by ns)
unfolding read_sheet read_fields
spells t s = go (sheet_fields t) refl
  where
    go : (o : Option (List (List ℕ))) → sheet_fields t ≡ o → read_fields o ≡ some s → (ns : List ℕ) × Spells t ns × (s ≡ sheet_by ns)
    go none q e = absurd (cc)
    go (some fs) q e =
        let m = sheet-numbers (numbers (repeated byte field_count) fs) s e in
        let r = reads-numbers field_count fs m.0 m.1 in
        (m.0, record { fields = fs; found = q; reads = r.1; long = r.0; opcodes = m.2; comparisons = m.3 }, m.4)

-- ---- an accepted sheet is bytes, distinct in their groups

small-reads : (fs : List (List ℕ)) (ns : List ℕ) → map (field byte) fs ≡ map is ns → (i : ℕ) → get_or ns i 0 < byte_count
small-reads fs [] e i = omega arith
small-reads [] (n ∷ ns) e i = absurd (cc)
small-reads (x ∷ fs) (n ∷ ns) e zero = let p : field byte x ≡ is n = cc in omega (arith, up-to-bound x max_byte p)
small-reads (x ∷ fs) (n ∷ ns) e (suc i) = let q : map (field byte) fs ≡ map is ns = cc in small-reads fs ns q i

small-take : (k : ℕ) (ns : List ℕ) → ((i : ℕ) → get_or ns i 0 < byte_count) → (i : ℕ) → get_or (take k ns) i 0 < byte_count
small-take zero ns h i = omega arith
small-take (suc k) [] h i = omega arith
small-take (suc k) (n ∷ ns) h zero = h 0
small-take (suc k) (n ∷ ns) h (suc i) = small-take k ns (λ j. h (suc j)) i

pub good-spelled : {t ns : List ℕ} → Spells t ns → Good (sheet_by ns)
good-spelled {t} {ns} p =
    let small = small-reads p.fields ns p.reads in
    record {
      opcodes = record { long = omega (arith, length-take role_count ns, p.long); differ = p.opcodes; small = small-take role_count ns small };
      comparisons = record { long = omega (arith, length-drop role_count ns, p.long); differ = p.comparisons; small = λ i. rw (get_or-drop role_count ns i 0) (small (role_count + i)) };
    }

pub good : (t : List ℕ) (s : Sheet) → read_sheet t ≡ some s → Good s
good t s e = let m = spells t s e in rw m.2 (good-spelled m.1)

-- ---- how often a number was read

pub times-same : (n : ℕ) (rs : List Read) → times n (is n ∷ rs) ≡ suc (times n rs)
unfolding times is_number
times-same n rs = rw (times, is_number, eq-eqb n n refl) (omega arith)

times-other : (n m : ℕ) (rs : List Read) → (m ≡ n → ⊥) → times n (is m ∷ rs) ≡ times n rs
unfolding times is_number
times-other n m rs h = rw (times, is_number, ne_eqb m n h) (omega arith)

pub times-has : (n : ℕ) (xs : List ℕ) → has xs n ≡ true → 1 ≤ times n (map is xs)
unfolding has
times-has n [] = λ e. absurd (cc)
times-has n (x ∷ xs) = go (ℕ_discrete n x) (times-has n xs)
  where
    go : Dec (n ≡ x) → (has xs n ≡ true → 1 ≤ times n (map is xs)) → ◌≡◌ {A = Bool} (elim (eqb n x) [ true ↦ true | false ↦ has xs n ]) true → 1 ≤ times n (is x ∷ map is xs)
    go (yes q) more e = rw (← q) (omega (arith, times-same n (map is xs)))
    go (no q) more e = rw (times-other n x (map is xs) (λ z. q (sym z))) (more (rw (ne_eqb n x q) at e))

times_none : (n : ℕ) (xs : List ℕ) → has xs n ≡ false → times n (map is xs) ≡ 0
unfolding times
times_none n [] e = refl
times_none n (x ∷ xs) e = let p = has-cons n x xs e in times-other n x (map is xs) (λ q. p.0 (sym q)) ∙ times_none n xs p.1

times-once : (n : ℕ) (xs : List ℕ) → distinct xs ≡ true → times n (map is xs) ≤ 1
unfolding times
times-once n [] e = omega arith
times-once n (x ∷ xs) e = go (ℕ_discrete x n) (times-once n xs p.1)
  where
    p : (has xs x ≡ false) × (distinct xs ≡ true)
    p = distinct_cons x xs e

    go : Dec (x ≡ n) → times n (map is xs) ≤ 1 → times n (is x ∷ map is xs) ≤ 1
    go (yes q) h = rw q (omega (arith, times-same n (map is xs), times_none n xs (rw q at p.0)))
    go (no q) h = rw (times-other n x (map is xs) q) h

-- ---- no place of an accepted text is at fault

once-no-fault : (n : ℕ) (xs : List ℕ) → distinct xs ≡ true → read_at_fault (map is xs) (is n) ≡ false
unfolding read_at_fault
once-no-fault n xs e = lt-leb 2 (times n (map is xs)) (omega (arith, times-once n xs e))

group-no-fault : (i n : ℕ) (ns : List ℕ) → distinct (opcodes_of ns) ≡ true → distinct (comparisons_of ns) ≡ true → read_at_fault (group_of i (map is ns)) (is n) ≡ false
unfolding group_of
group-no-fault i n ns a b =
    elim (ltb i role_count) as (λ t. read_at_fault (elim t [ true ↦ opcodes_of (map is ns) | false ↦ comparisons_of (map is ns) ]) (is n) ≡ false)
    [ true ↦ rw (take-map is role_count ns) (once-no-fault n (opcodes_of ns) a) | false ↦ rw (drop-map is role_count ns) (once-no-fault n (comparisons_of ns) b) ]

field-no-fault : (i : ℕ) (ns : List ℕ) → length ns ≡ field_count → distinct (opcodes_of ns) ≡ true → distinct (comparisons_of ns) ≡ true → field_at_fault i (map is ns) ≡ false
unfolding field_at_fault
field-no-fault i ns l a b = go (ltb i field_count) refl
  where
    go : (t : Bool) → ltb i field_count ≡ t → (t && read_at_fault (group_of i (map is ns)) (get_or (map is ns) i malformed)) ≡ false
    go false e = refl
    go true e = rw (← seen_at is ns 0 malformed i (omega (arith, l, ltb-true i field_count e))) (group-no-fault i (get_or ns i 0) ns a b)

pub no-fault-spelled : {t ns : List ℕ} → Spells t ns → (n : ℕ) → sheet_fault t n ≡ false
unfolding sheet_fault fault_at
no-fault-spelled {t} {ns} p zero = rw p.found
no-fault-spelled {t} {ns} p (suc i) = rw (p.found, p.reads) (field-no-fault i ns p.long p.opcodes p.comparisons)

pub no-fault : (t : List ℕ) (s : Sheet) → read_sheet t ≡ some s → (n : ℕ) → sheet_fault t n ≡ false
no-fault t s e = no-fault-spelled (spells t s e).1

-- so a text with a place at fault is refused
pub fault-refused : (t : List ℕ) (n : ℕ) → sheet_fault t n ≡ true → read_sheet t ≡ none
fault-refused t n f = go (read_sheet t) refl
  where
    go : (o : Option Sheet) → read_sheet t ≡ o → o ≡ none
    go none e = refl
    go (some s) e = absurd (let z : true ≡ false = sym f ∙ no-fault t s e n in cc)

-- ---- a refused text has a place at fault

fields-count : (t : List ℕ) (fs : List (List ℕ)) → sheet_fields t ≡ some fs → length fs ≡ field_count
unfolding sheet_fields counted
fields-count t fs = go (only_line (split lf t))
  where
    by : (gs : List (List ℕ)) (b : Bool) → eqb (length gs) field_count ≡ b → ◌≡◌ {A = Option (List (List ℕ))} (elim b [ true ↦ some gs | false ↦ none ]) (some fs) → length fs ≡ field_count
    by gs true q e = let g : gs ≡ fs = cc in rw (← g) (eqb-true (length gs) field_count q)
    by gs false q e = absurd (cc)

    go : (o : Option (List (List ℕ))) → counted o ≡ some fs → length fs ≡ field_count
    go none e = absurd (cc)
    go (some gs) e = by gs (eqb (length gs) field_count) refl e

-- all are numbers, or one is at fault in any group
reads-or : (rs : List Read) → ((ns : List ℕ) × (rs ≡ map is ns)) ⊎ ((i : ℕ) × (i < length rs) × ((g : List Read) → read_at_fault g (get_or rs i malformed) ≡ true))
unfolding read_at_fault
reads-or [] = inl ([], refl)
reads-or (malformed ∷ rs) = inr (0, omega arith, λ g. refl)
reads-or (outside ∷ rs) = inr (0, omega arith, λ g. refl)
reads-or (is n ∷ rs) = go (reads-or rs)
  where
    go : ((ns : List ℕ) × (rs ≡ map is ns)) ⊎ ((i : ℕ) × (i < length rs) × ((g : List Read) → read_at_fault g (get_or rs i malformed) ≡ true))
        → ((ns : List ℕ) × (is n ∷ rs ≡ map is ns)) ⊎ ((i : ℕ) × (i < suc (length rs)) × ((g : List Read) → read_at_fault g (get_or (is n ∷ rs) i malformed) ≡ true))
    go (inl p) = inl (n ∷ p.0, ap (λ (l : List Read). is n ∷ l) p.1)
    go (inr p) = inr (suc p.0, omega (arith, p.1), p.2)

-- a number of the list that stands in it twice
Twice : List ℕ → Type 0
Twice xs = (i : ℕ) × (i < length xs) × (2 ≤ times (get_or xs i 0) (map is xs))

distinct-or : (xs : List ℕ) → (distinct xs ≡ true) ⊎ Twice xs
unfolding distinct Twice times
distinct-or [] = inl refl
distinct-or (x ∷ xs) = go (has xs x) refl (distinct-or xs)
  where
    go : (b : Bool) → has xs x ≡ b → (distinct xs ≡ true) ⊎ Twice xs → ((not (has xs x) && distinct xs) ≡ true) ⊎ Twice (x ∷ xs)
    go true q d = inr (0, omega arith, omega (arith, times-same x (map is xs), times-has x xs q))
    go false q (inl d) = inl (rw q d)
    go false q (inr p) = inr (suc p.0, omega (arith, p.1), omega (arith, p.2))

module _ (ns : List ℕ) (l : length ns ≡ field_count) where
  twice-fault : (i : ℕ) → i < field_count → 2 ≤ times (get_or ns i 0) (group_of i (map is ns)) → field_at_fault i (map is ns) ≡ true
  unfolding field_at_fault read_at_fault
  twice-fault i h k = rw (lt-ltb i field_count h, ← seen_at is ns 0 malformed i (omega (arith, l))) (le-leb 2 (times (get_or ns i 0) (group_of i (map is ns))) k)

  opcode-fault : Twice (opcodes_of ns) → (n : ℕ) × (field_at_fault n (map is ns) ≡ true)
  unfolding Twice group_of
  opcode-fault p =
      let h : p.0 < role_count = omega (arith, p.1, length-take role_count ns) in
      (p.0, twice-fault p.0 (omega arith) (rw (group_of, lt-ltb p.0 role_count h, take-map is role_count ns, ← get_or-take role_count ns p.0 0 h) p.2))

  comparison-fault : Twice (comparisons_of ns) → (n : ℕ) × (field_at_fault n (map is ns) ≡ true)
  unfolding Twice group_of
  comparison-fault p =
      (role_count + p.0, twice-fault (role_count + p.0) (omega (arith, p.1, length-drop role_count ns, l)) (rw (group_of, le-ltb (role_count + p.0) role_count (omega arith), drop-map is role_count ns, ← get_or-drop role_count ns p.0 0) p.2))

fields-fault : (t : List ℕ) (fs : List (List ℕ)) → sheet_fields t ≡ some fs → read_sheet t ≡ none → (n : ℕ) × (field_at_fault n (map (field byte) fs) ≡ true)
unfolding field_at_fault
fields-fault t fs q bad = go (reads-or (map (field byte) fs))
  where
    long : length (map (field byte) fs) ≡ field_count
    long = length-map fs (field byte) ∙ fields-count t fs q

    groups : (ns : List ℕ) → map (field byte) fs ≡ map is ns → length ns ≡ field_count → (distinct (opcodes_of ns) ≡ true) ⊎ Twice (opcodes_of ns) → (distinct (comparisons_of ns) ≡ true) ⊎ Twice (comparisons_of ns)
        → (n : ℕ) × (field_at_fault n (map is ns) ≡ true)
    groups ns e l (inr o) y = opcode-fault ns l o
    groups ns e l (inl a) (inr c) = comparison-fault ns l c
    groups ns e l (inl a) (inl b) = absurd (let z : none ≡ some _ = sym bad ∙ spelled {ns = ns} (record { fields = fs; found = q; reads = e; long = l; opcodes = a; comparisons = b }) in cc)

    go : ((ns : List ℕ) × (map (field byte) fs ≡ map is ns)) ⊎ ((i : ℕ) × (i < length (map (field byte) fs)) × ((g : List Read) → read_at_fault g (get_or (map (field byte) fs) i malformed) ≡ true))
        → (n : ℕ) × (field_at_fault n (map (field byte) fs) ≡ true)
    go (inl p) =
        let r = groups p.0 p.1 (sym (length-map p.0 is) ∙ ap length (sym p.1) ∙ long) (distinct-or (opcodes_of p.0)) (distinct-or (comparisons_of p.0)) in
        (r.0, ap (field_at_fault r.0) p.1 ∙ r.1)
    go (inr p) = (p.0, rw (lt-ltb p.0 field_count (omega (arith, p.1, long))) (p.2 (group_of p.0 (map (field byte) fs))))

pub some-fault : (t : List ℕ) → read_sheet t ≡ none → (n : ℕ) × (sheet_fault t n ≡ true)
unfolding sheet_fault fault_at
some-fault t bad = go (sheet_fields t) refl
  where
    at : (fs : List (List ℕ)) → sheet_fields t ≡ some fs → (n : ℕ) × (field_at_fault n (map (field byte) fs) ≡ true) → (n : ℕ) × (fault_at n (sheet_fields t) ≡ true)
    at fs q p = (suc p.0, rw q p.1)

    go : (o : Option (List (List ℕ))) → sheet_fields t ≡ o → (n : ℕ) × (fault_at n (sheet_fields t) ≡ true)
    go none q = (0, rw q)
    go (some fs) q = at fs q (fields-fault t fs q bad)
