-- A table: what it holds of its sheet, and how the role numbers come into it.
use mathlib.Core.Path.{◌≡◌, refl, ap, sym, ◌∙◌}
use mathlib.Core.List.{List, [], ◌∷◌, ◌++◌, map}
use Prim.Native.Nat.{ℕ, zero, suc, ◌+◌, ◌-◌, ◌<◌, ◌≤◌, min}
use native.Mathlib.Omega.{arith, min_cases}
use native.Mathlib.Decide.{ℕ_discrete}
use borrow.Author.Tests.{eq-eqb, ne_eqb}
use lib.ListN.{length, get_or, take, drop, set, replicate, take-append-drop, length-append, length-drop, length-take, length-set, length-map, length-replicate, get_or-replicate, drop_of_length-le}
use lib.Seq.{get_or-take, get_or-drop, get_or-append-add, get_or-set_same, get_or-set_other, take_at, take-set-le, drop-cons, slice_empty, ext_get_or, length-take-le, take_all}
use Rattle.definition.specs.Opcode.{Role, role_count, CompareOp, number, compare_index, ret, roles, beside, role_of, opcode, comparison_byte, Sheet}
use Rattle.definition.specs.Rules.{role_numbered}
use Rattle.definition.specs.Sheet.{field_count, opcodes_of}
use Rattle.store.specs.Fill.{set_from}
use Rattle.std.proofs.lemmas.List.{get_or_default}
use Rattle.field.proofs.Lists.{drop-take}
use Rattle.opcode.specs.Table.{byte_count, unlisted, table_size, sheet_in, IsTable, number_in, number_or, table_of, up_from}
use Rattle.opcode.proofs.Roles.{compare-index, seen_at}
use Rattle.opcode.proofs.Sheets.{number-below, number-role, up-from}

-- ---- what a table holds

pub table-opcode : (t : List ℕ) (r : Role) → get_or t (number r) 0 ≡ opcode (sheet_in t) r
unfolding opcode
table-opcode t r = sym (get_or-take role_count (take field_count t) (number r) 0 (number-below r) ∙ get_or-take field_count t (number r) 0 (omega (arith, number-below r)))

pub table-comparison : (t : List ℕ) (c : CompareOp) → get_or t (role_count + compare_index c) 0 ≡ comparison_byte (sheet_in t) c
unfolding comparison_byte
table-comparison t c = sym (get_or-drop role_count (take field_count t) (compare_index c) 0 ∙ get_or-take field_count t (role_count + compare_index c) 0 (omega (arith, compare-index c)))

-- the part of a table that holds the comparison bytes, as far as the table goes
pub comparisons-there : (t : List ℕ) (e : ℕ) → e ≡ min (length t) field_count → role_count ≤ e → take (e - role_count) (drop role_count t) ≡ (sheet_in t).comparisons
comparisons-there t e q h =
    sym (drop-take role_count e t) ∙ ap (λ (l : List ℕ). drop role_count l) (min_cases (length t) field_count (take e t ≡ take field_count t) (λ m k. take_all e t (omega arith) ∙ sym (take_all field_count t m)) (λ m k. rw (q ∙ k)))

pub comparisons-none : (t : List ℕ) (e : ℕ) → e ≡ min (length t) field_count → e < role_count → [] ≡ (sheet_in t).comparisons
comparisons-none t e q h = sym (drop_of_length-le (take field_count t) {i = role_count} (omega (arith, length-take field_count t)))

-- the role numbers of a sheet
abbrev pub listed : Sheet → List ℕ
listed s = map (λ b. number_or (role_of s b)) (up_from 0 byte_count)

length_up : (k n : ℕ) → length (up_from k n) ≡ n
unfolding up_from
length_up k zero = refl
length_up k (suc n) = ap suc (length_up (suc k) n)

listed_at : (s : Sheet) (b : ℕ) → b < byte_count → get_or (listed s) b 0 ≡ number_or (role_of s b)
listed_at s b h =
    let k : get_or (up_from 0 byte_count) b 0 ≡ b = up-from 0 byte_count b 0 h ∙ omega arith in
    sym (seen_at (λ b. number_or (role_of s b)) (up_from 0 byte_count) 0 0 b (rw (length_up 0 byte_count) h)) ∙ ap (λ (n : ℕ). number_or (role_of s n)) k

table-front : (t : List ℕ) → table_of (sheet_in t) ≡ take field_count t ++ listed (sheet_in t)
unfolding table_of
table-front t = ap (λ (l : List ℕ). l ++ listed (sheet_in t)) (take-append-drop role_count (take field_count t))

table-role : {t : List ℕ} → IsTable t → (b : ℕ) → b < byte_count → get_or t (field_count + b) 0 ≡ number_or (role_of (sheet_in t) b)
table-role {t} p b h =
    let n : length (take field_count t) ≡ field_count = length-take-le field_count t (omega (arith, p.long)) in
    let e : get_or (take field_count t ++ listed (sheet_in t)) (field_count + b) 0 ≡ get_or (listed (sheet_in t)) b 0 = rw n at (get_or-append-add (take field_count t) (listed (sheet_in t)) b 0) in
    ap (λ (l : List ℕ). get_or l (field_count + b) 0) (p.is ∙ table-front t) ∙ e ∙ listed_at (sheet_in t) b h

-- what a whole table lists is the role of the byte
pub table-number : {t : List ℕ} → IsTable t → (b : ℕ) → b < byte_count → number_in t b ≡ number_or (role_of (sheet_in t) b)
unfolding number_in
table-number {t} p b h = get_or_default t (field_count + b) unlisted 0 (omega (arith, p.long)) ∙ table-role p b h

table-by : (t : List ℕ) → length t ≡ table_size → ((b : ℕ) → b < byte_count → get_or t (field_count + b) 0 ≡ number_or (role_of (sheet_in t) b)) → IsTable t
table-by t l h =
    let m : length (listed (sheet_in t)) ≡ byte_count = length-map (up_from 0 byte_count) (λ b. number_or (role_of (sheet_in t) b)) ∙ length_up 0 byte_count in
    let d : length (drop field_count t) ≡ byte_count = length-drop field_count t ∙ omega (arith, l) in
    let back : drop field_count t ≡ listed (sheet_in t) = ext_get_or 0 (drop field_count t) (listed (sheet_in t)) (d ∙ sym m) (λ i k. get_or-drop field_count t i 0 ∙ h i (omega (arith, d)) ∙ sym (listed_at (sheet_in t) i (omega (arith, d)))) in
    record { long = l; is = sym (take-append-drop field_count t) ∙ ap (λ (r : List ℕ). take field_count t ++ r) back ∙ sym (table-front t) }

-- ---- listing the roles from the last on: those from i on are listed

pub record Listing (t u : List ℕ) (i : ℕ) : Type 0 where
  pub long : length u ≡ table_size
  pub front : take field_count u ≡ take field_count t
  pub low : i ≤ role_count
  pub back : (b : ℕ) → b < byte_count → get_or u (field_count + b) 0 ≡ number_or (beside b (drop i (opcodes_of (take field_count t))) (drop i roles))

-- behind the fields of t no role is listed
module _ (t : List ℕ) {u : List ℕ} (n : length t ≡ table_size) (e : u ≡ set_from field_count unlisted t) where
  fields-long : length (take field_count t) ≡ field_count
  fields-long = length-take-le field_count t (omega arith)

  none-listed : u ≡ take field_count t ++ replicate byte_count unlisted
  unfolding set_from
  none-listed = let m : length t - field_count ≡ byte_count = omega arith in e ∙ rw m

  pub fields-kept : take field_count u ≡ take field_count t
  fields-kept = ap (take field_count) none-listed ∙ take_at (take field_count t) (replicate byte_count unlisted) field_count fields-long

  unlisted-at : (b : ℕ) → b < byte_count → get_or u (field_count + b) 0 ≡ unlisted
  unlisted-at b h =
      ap (λ (l : List ℕ). get_or l (field_count + b) 0) none-listed
      ∙ rw fields-long at (get_or-append-add (take field_count t) (replicate byte_count unlisted) b 0)
      ∙ get_or-replicate byte_count b unlisted 0 h

  pub listing-starts : Listing u u role_count
  unfolding beside number_or
  listing-starts = record {
    long = ap length none-listed ∙ length-append (take field_count t) (replicate byte_count unlisted) ∙ omega (arith, fields-long, length-replicate {A = ℕ} byte_count unlisted);
    front = refl;
    low = omega arith;
    back = λ b h. unlisted-at b h ∙ rw (slice_empty role_count (take field_count u));
  }

-- the first of some opcodes has this role, and any other byte the one that it has among the rest
module _ (b x : ℕ) (xs : List ℕ) (r : Role) (rs : List Role) where
  first-role : x ≡ b → number_or (beside b (x ∷ xs) (r ∷ rs)) ≡ number r
  unfolding beside number_or
  first-role e = rw (beside, eq-eqb x b e)

  other-role : (x ≡ b → ⊥) → number_or (beside b (x ∷ xs) (r ∷ rs)) ≡ number_or (beside b xs rs)
  unfolding beside
  other-role e = rw (beside, ne_eqb x b e)

drop-before : {A : Type 0} (l : List A) (i : ℕ) (d : A) → 0 < i → i ≤ length l → drop (i - 1) l ≡ get_or l (i - 1) d ∷ drop i l
drop-before l i d h k = let n : suc (i - 1) ≡ i = omega arith in drop-cons l (i - 1) d (omega arith) ∙ ap (λ (m : ℕ). get_or l (i - 1) d ∷ drop m l) n

module _ {t u : List ℕ} {i : ℕ} (p : Listing t u i) where
  front_long : length (opcodes_of (take field_count t)) ≡ role_count
  front_long =
      let n : length (take field_count t) ≡ field_count = ap length (sym p.front) ∙ length-take-le field_count u (omega (arith, p.long)) in
      length-take-le role_count (take field_count t) (omega (arith, n))

  front_at : (j : ℕ) → j < role_count → get_or (opcodes_of (take field_count t)) j 0 ≡ get_or u j 0
  front_at j h = get_or-take role_count (take field_count t) j 0 h ∙ ap (λ (l : List ℕ). get_or l j 0) (sym p.front) ∙ get_or-take field_count u j 0 (omega arith)

  pub listing-goes : 0 < i → (x j : ℕ) → j ≡ i - 1 → x ≡ get_or u (i - 1) 0 → x < byte_count → Listing t (set u (field_count + x) j) (i - 1)
  unfolding role_numbered roles
  listing-goes h x j ej ex small = record {
    long = length-set u (field_count + x) j ∙ p.long;
    front = take-set-le field_count u (field_count + x) j (omega arith) ∙ p.front;
    low = omega (arith, p.low);
    back = λ b k. rw (drop-before (opcodes_of (take field_count t)) i 0 h (omega (arith, p.low, front_long)), drop-before roles i ret h p.low, front_at (i - 1) (omega (arith, p.low)), ← ex) (go b k (ℕ_discrete x b));
  }
    where
      go : (b : ℕ) → b < byte_count → Dec (x ≡ b) → get_or (set u (field_count + x) j) (field_count + b) 0 ≡ number_or (beside b (x ∷ drop i (opcodes_of (take field_count t))) (role_numbered (i - 1) ∷ drop i roles))
      go b k (yes q) =
          let e : number (role_numbered (i - 1)) ≡ j = number-role (i - 1) (omega (arith, p.low)) ∙ sym ej in
          rw (first-role b x (drop i (opcodes_of (take field_count t))) (role_numbered (i - 1)) (drop i roles) q, ← q, e) (get_or-set_same u (field_count + x) j 0 (omega (arith, p.long)))
      go b k (no q) =
          get_or-set_other u (field_count + x) (field_count + b) j 0 (λ z. q (omega arith)) ∙ p.back b k ∙ sym (other-role b x (drop i (opcodes_of (take field_count t))) (role_numbered (i - 1)) (drop i roles) q)

  pub listing-ends : i ≡ 0 → IsTable u
  unfolding role_of
  listing-ends e = table-by u p.long (λ b k. rw p.front (rw e at (p.back b k)))
