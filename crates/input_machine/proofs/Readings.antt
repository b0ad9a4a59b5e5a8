-- A clipped text of lines reads as the whole one does: the same sheet, the same faults, the same rules.
use mathlib.Core.Path.{◌≡◌, refl, ap, sym, ◌∙◌}
use mathlib.Core.Bool.{Bool, true, false, ◌&&◌}
use mathlib.Core.Option.{Option, some, none}
use mathlib.Core.List.{List, [], ◌∷◌, map}
use Prim.Native.Nat.{ℕ, zero, suc, ◌+◌, ◌<◌, min}
use native.Mathlib.Omega.{arith}
use borrow.Author.Tests.{eqb-true, eqb-false, eq-eqb, ne_eqb}
use lib.Dec.{eqb, leb, ltb}
use lib.ListN.{length, get_or, take, length-take, length-map, get_or-map}
use lib.Seq.{take_all}
use Rattle.std.proofs.lemmas.List.{take-map, drop-map}
use Rattle.definition.specs.Field.{lf, comma, split, Field, field, Read, malformed, outside, is, Numbers, wrong, far, are, numbers}
use Rattle.definition.specs.Opcode.{role_count}
use Rattle.definition.specs.Sheet.{byte, field_count, opcodes_of, comparisons_of, only_line, counted, sheet_fields, sheet_of, repeated, read_fields, read_sheet, is_number, times, read_at_fault, group_of, field_at_fault, fault_at, sheet_fault}
use Rattle.definition.specs.Rules.{rule_fields, rule_from, read_rule, is_empty, rules_from, read_rules}
use Rattle.definition.specs.Listing.{count_of}
use Rattle.definition.specs.Passes.{these}
use Rattle.input_machine.specs.Machine.{field_room, field_width}
use Rattle.input_machine.proofs.Clip.{line_from, clipped_line, clipped, fields-clipped, clipped-some, lines-clipped}
use Rattle.input_machine.proofs.Numbers.{Short, field_cut, both, these-and}

-- the fields that are kept, each cut
abbrev cut_fields : List (List ℕ) → List (List ℕ)
cut_fields fs = take field_room (map (take field_width) fs)

-- ---- a line's numbers
unfoldable AllShort : List Field → Type 0
AllShort [] = Unit {0}
AllShort (f ∷ fs) = Short f × AllShort fs

numbers-cut : (fs : List Field) (j : ℕ) (xs : List (List ℕ)) → AllShort fs → length fs < j → these (numbers fs (take j (map (take field_width) xs))) ≡ these (numbers fs xs)
unfolding numbers AllShort
numbers-cut [] zero xs s h = absurd (omega arith)
numbers-cut [] (suc j) [] s h = refl
numbers-cut [] (suc j) (x ∷ xs) s h = refl
numbers-cut (f ∷ fs) zero xs s h = absurd (omega arith)
numbers-cut (f ∷ fs) (suc j) [] s h = refl
numbers-cut (f ∷ fs) (suc j) (x ∷ xs) s h =
    these-and (field f (take field_width x)) (numbers fs (take j (map (take field_width) xs)))
    ∙ ap (λ (o : Option ℕ). both o (these (numbers fs (take j (map (take field_width) xs))))) (field_cut f s.0 x)
    ∙ ap (both (count_of (field f x))) (numbers-cut fs j xs s.1 (omega arith))
    ∙ sym (these-and (field f x) (numbers fs xs))

-- what goes by the numbers alone
unfoldable from : {A : Type 0} → (List ℕ → Option A) → Option (List ℕ) → Option A
from f none = none
from f (some ns) = f ns

sheet-from : (m : Numbers) → sheet_of m ≡ from (λ ns. sheet_of (are ns)) (these m)
unfolding sheet_of these from
sheet-from wrong = refl
sheet-from far = refl
sheet-from (are ns) = refl

rule-from : (m : Numbers) → rule_from m ≡ from (λ ns. rule_from (are ns)) (these m)
unfolding rule_from these from
rule-from wrong = refl
rule-from far = refl
rule-from (are ns) = refl

-- ---- the fields of a sheet

unfoldable cut_in : Option (List (List ℕ)) → Option (List (List ℕ))
cut_in none = none
cut_in (some fs) = some (cut_fields fs)

only-clipped : (ls : List (List ℕ)) → only_line (map clipped_line ls) ≡ cut_in (only_line ls)
unfolding only_line cut_in line_from
only-clipped [] = refl
only-clipped (l ∷ []) = refl
only-clipped (l ∷ [] ∷ []) = ap some (fields-clipped l)
only-clipped (l ∷ [] ∷ m ∷ ls) = refl
only-clipped (l ∷ (b ∷ bs) ∷ ls) = ap (λ (x : List ℕ). only_line (clipped_line l ∷ x ∷ map clipped_line ls)) (clipped-some b bs).1

same_count : (fs : List (List ℕ)) → eqb (length (cut_fields fs)) field_count ≡ eqb (length fs) field_count
same_count fs = go (eqb (length fs) field_count) refl
  where
    long : length (cut_fields fs) ≡ min field_room (length (map (take field_width) fs))
    long = length-take field_room (map (take field_width) fs)

    all : length (map (take field_width) fs) ≡ length fs
    all = length-map fs (take field_width)

    go : (t : Bool) → eqb (length fs) field_count ≡ t → eqb (length (cut_fields fs)) field_count ≡ t
    go true e = eq-eqb (length (cut_fields fs)) field_count (omega (arith, long, all, eqb-true (length fs) field_count e))
    go false e = ne_eqb (length (cut_fields fs)) field_count (λ q. eqb-false (length fs) field_count e (omega (arith, long, all, q)))

counted-cut : (o : Option (List (List ℕ))) → counted (cut_in o) ≡ cut_in (counted o)
unfolding counted cut_in
counted-cut none = refl
counted-cut (some fs) = rw (same_count fs, counted) (go (eqb (length fs) field_count))
  where
    go : (t : Bool) → ◌≡◌ {A = Option (List (List ℕ))} (elim t [ true ↦ some (cut_fields fs) | false ↦ none ]) (cut_in (elim t [ true ↦ some fs | false ↦ none ]))
    go true = refl
    go false = refl

fields-cut : (t : List ℕ) → sheet_fields (clipped t) ≡ cut_in (sheet_fields t)
unfolding sheet_fields
fields-cut t = rw (lines-clipped t, only-clipped (split lf t)) (counted-cut (only_line (split lf t)))

-- ---- the sheet that they are

all-repeated : (f : Field) (n : ℕ) → Short f → AllShort (repeated f n)
unfolding AllShort repeated
all-repeated f zero s = tt
all-repeated f (suc n) s = (s, all-repeated f n s)

byte-short : Short byte
unfolding Short
byte-short = omega arith

fields_read : (o : Option (List (List ℕ))) → read_fields (cut_in o) ≡ read_fields o
unfolding read_fields cut_in repeated
fields_read none = refl
fields_read (some fs) =
    sheet-from (numbers (repeated byte field_count) (cut_fields fs))
    ∙ ap (from (λ ns. sheet_of (are ns))) (numbers-cut (repeated byte field_count) field_room fs (all-repeated byte field_count byte-short) (omega arith))
    ∙ sym (sheet-from (numbers (repeated byte field_count) fs))

pub sheet-read : (t : List ℕ) → read_sheet (clipped t) ≡ read_sheet t
unfolding read_sheet
sheet-read t = ap read_fields (fields-cut t) ∙ fields_read (sheet_fields t)

-- ---- its faults: a field that is no number is at fault, whichever way

unfoldable read_as : Option ℕ → Read
read_as none = malformed
read_as (some n) = is n

abbrev plain : Read → Read
plain r = read_as (count_of r)

times-plain : (n : ℕ) (rs : List Read) → times n (map plain rs) ≡ times n rs
unfolding times is_number read_as count_of
times-plain n [] = refl
times-plain n (malformed ∷ rs) = ap (λ (k : ℕ). 0 + k) (times-plain n rs)
times-plain n (outside ∷ rs) = ap (λ (k : ℕ). 0 + k) (times-plain n rs)
times-plain n (is m ∷ rs) = ap (λ (k : ℕ). is_number n (is m) + k) (times-plain n rs)

read_plain : (g : List Read) (r : Read) → read_at_fault (map plain g) (plain r) ≡ read_at_fault g r
unfolding read_at_fault read_as count_of
read_plain g malformed = refl
read_plain g outside = refl
read_plain g (is n) = ap (leb 2) (times-plain n g)

group-plain : (i : ℕ) (rs : List Read) → group_of i (map plain rs) ≡ map plain (group_of i rs)
unfolding group_of
group-plain i rs =
    elim (ltb i role_count)
    as (λ t. ◌≡◌ {A = List Read} (elim t [ true ↦ opcodes_of (map plain rs) | false ↦ comparisons_of (map plain rs) ]) (map plain (elim t [ true ↦ opcodes_of rs | false ↦ comparisons_of rs ])))
    [ true ↦ take-map plain role_count rs | false ↦ drop-map plain role_count rs ]

at_plain : (rs : List Read) (i : ℕ) → get_or (map plain rs) i malformed ≡ plain (get_or rs i malformed)
unfolding read_as count_of
at_plain rs i = get_or-map plain rs i malformed

fault-plain : (i : ℕ) (rs : List Read) → field_at_fault i (map plain rs) ≡ field_at_fault i rs
unfolding field_at_fault
fault-plain i rs = ap (λ (b : Bool). ltb i field_count && b) (rw (group-plain i rs, at_plain rs i) (read_plain (group_of i rs) (get_or rs i malformed)))

reads-cut : (fs : List (List ℕ)) → map plain (map (field byte) (map (take field_width) fs)) ≡ map plain (map (field byte) fs)
reads-cut [] = refl
reads-cut (x ∷ fs) = rw (field_cut byte byte-short x, reads-cut fs)

fault-cut : (p : ℕ) (fs : List (List ℕ)) → length fs ≡ field_count → fault_at p (some (cut_fields fs)) ≡ fault_at p (some fs)
unfolding fault_at
fault-cut zero fs l = refl
fault-cut (suc i) fs l =
    ap (λ (gs : List (List ℕ)). field_at_fault i (map (field byte) gs)) (take_all field_room (map (take field_width) fs) (omega (arith, length-map fs (take field_width))))
    ∙ sym (fault-plain i (map (field byte) (map (take field_width) fs))) ∙ ap (field_at_fault i) (reads-cut fs) ∙ fault-plain i (map (field byte) fs)

counted-fault : (p : ℕ) (o : Option (List (List ℕ))) → fault_at p (cut_in (counted o)) ≡ fault_at p (counted o)
unfolding counted cut_in
counted-fault p none = refl
counted-fault p (some fs) = go (eqb (length fs) field_count) refl
  where
    go : (t : Bool) → eqb (length fs) field_count ≡ t
        → fault_at p (cut_in (elim t [ true ↦ some fs | false ↦ none ])) ≡ fault_at p (elim t [ true ↦ some fs | false ↦ none ])
    go true e = fault-cut p fs (eqb-true (length fs) field_count e)
    go false e = refl

pub sheet-fault : (t : List ℕ) (p : ℕ) → sheet_fault (clipped t) p ≡ sheet_fault t p
unfolding sheet_fault sheet_fields
sheet-fault t p = ap (fault_at p) (fields-cut t) ∙ counted-fault p (only_line (split lf t))

-- ---- rules

rules-short : AllShort rule_fields
unfolding AllShort rule_fields Short
rules-short = omega arith

rule-clipped : (l : List ℕ) → read_rule (clipped_line l) ≡ read_rule l
unfolding read_rule rule_fields
rule-clipped l =
    ap (λ (fs : List (List ℕ)). rule_from (numbers rule_fields fs)) (fields-clipped l)
    ∙ rule-from (numbers rule_fields (cut_fields (split comma l)))
    ∙ ap (from (λ ns. rule_from (are ns))) (numbers-cut rule_fields field_room (split comma l) rules-short (omega arith))
    ∙ sym (rule-from (numbers rule_fields (split comma l)))

empty-clipped : (l : List ℕ) → is_empty (clipped_line l) ≡ is_empty l
unfolding is_empty line_from
empty-clipped [] = refl
empty-clipped (b ∷ l) = ap is_empty (clipped-some b l).1

rules-from : (n : ℕ) (ls : List (List ℕ)) → rules_from n (map clipped_line ls) ≡ rules_from n ls
unfolding rules_from
rules-from n [] = refl
rules-from n (l ∷ []) = rw (empty-clipped l)
rules-from n (l ∷ m ∷ ls) = rw (rule-clipped l, rules-from (n + 1) (m ∷ ls))

pub rules-read : (t : List ℕ) → read_rules (clipped t) ≡ read_rules t
unfolding read_rules
rules-read t = ap (rules_from 1) (lines-clipped t) ∙ rules-from 1 (split lf t)
