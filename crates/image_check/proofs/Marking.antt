-- Flags of the starts.
use Prim.Native.Nat.{ℕ, ◌+◌, ◌≤◌, ◌<◌, zero-le}
use mathlib.Core.Path.{◌≡◌, refl, sym, ◌∙◌, ap, subst}
use mathlib.Core.List.{List, [], ◌∷◌}
use mathlib.Core.Bool.{Bool, true, false, not, ◌||◌}
use lib.ListN.{length, get_or, set, drop, length-set}
use lib.Seq.{get_or-set_same, get_or-set_other}
use lib.Dec.{eqb}
use borrow.Author.Tests.{eq-eqb, ne_eqb, eqb-true, eqb-false}
use native.Mathlib.Omega.{arith}
use Rattle.definition.specs.Limits.{max_code}
use Rattle.definition.specs.Field.{has}
use Rattle.definition.specs.Opcode.{Sheet}
use Rattle.definition.specs.Rewrite.{Bytes, decode, starts_from}
use Rattle.definition.specs.Check.{listed, up_to_unlisted, starts}
use Rattle.rewrite.proofs.Marked.{has-past}
use Rattle.field.proofs.Lists.{has_first}
use Rattle.field.proofs.Tests.{or-none, or-any}
use Rattle.opcode.specs.Table.{sheet_in, IsTable}
use Rattle.rewrite.specs.View.{first_of, Clear}
use Rattle.rewrite.proofs.Decoding.{first}
use Rattle.image_check.specs.View.{flagged, Marking, Image}

flag-set : (flags : List ℕ) (at q : ℕ) → at < length flags → q ≡ at → flagged (set flags at 1) q ≡ true
flag-set flags at q lt e = ap (λ x. not (eqb x 0)) (ap (λ y. get_or (set flags at 1) y 0) e ∙ get_or-set_same flags at 1 0 lt) ∙ ap not (ne_eqb 1 0 (λ k. omega arith))

flag-other : (flags : List ℕ) (at q : ℕ) → (q ≡ at → ⊥) → flagged (set flags at 1) q ≡ flagged flags q
flag-other flags at q n = ap (λ x. not (eqb x 0)) (get_or-set_other flags at q 1 0 n)

module _ (sheet code : List ℕ) (table : IsTable sheet) (small : length code ≤ max_code) where
  abbrev s : Sheet
  s = sheet_in sheet

  abbrev rest : ℕ → List Bytes
  rest at = decode s (drop at code)

  pub mark-begins : (flags : List ℕ) → Clear (length code) flags → Marking sheet code flags 0
  unfolding starts
  mark-begins flags c = record { room = c.slots; within = zero-le; known = λ q. sym (ap (λ x. not (eqb x 0) || has (starts s code) q) (c.none q) ∙ ap (λ b. not b || has (starts s code) q) (eq-eqb 0 0 refl)) }

  -- nothing is to come
  marked : (flags : List ℕ) (at : ℕ) → Marking sheet code flags at → up_to_unlisted s (rest at) ≡ [] → Image sheet code flags
  unfolding starts_from has
  marked flags at m e = record {
    table = table;
    small = small;
    room = m.room;
    known = λ q lt. sym (m.known q ∙ (ap (λ x. flagged flags q || has (starts_from at x) q) e ∙ or-none (flagged flags q)));
  }

  module _ (flags : List ℕ) (at : ℕ) (m : Marking sheet code flags at) (i : List ℕ) (is : i ≡ first_of (rest at)) where
    long : length i ≡ length (first_of (rest at))
    long = ap length is

    pub mark-none : i ≡ [] → Image sheet code flags
    unfolding up_to_unlisted
    mark-none z = marked flags at m (ap (λ x. up_to_unlisted s x) ((first s code at).none (sym long ∙ ap length z)))

    module _ (z : 1 ≤ length i) where
      one : 1 ≤ length (first_of (rest at))
      one = let l = long in omega arith

      pub inside : at + length i ≤ length code
      inside = let l = long in let w = (first s code at).within one in omega arith

      cons : rest at ≡ i ∷ rest (at + length i)
      unfolding first_of
      cons =
          let d = (first s code at).some one in
          d ∙ (ap (λ x. x ∷ rest (at + length (first_of (rest at)))) (sym (is ∙ ap first_of d)) ∙ ap (λ y. i ∷ rest (at + y)) (sym long))

      up_to : (b : Bool) → listed s i ≡ b → up_to_unlisted s (rest at) ≡ elim b [ true ↦ i ∷ up_to_unlisted s (rest (at + length i)) | false ↦ [] ]
      unfolding up_to_unlisted
      up_to b e = ap (λ x. up_to_unlisted s x) cons ∙ ap (λ c. elim c as (λ y. List Bytes) [ true ↦ i ∷ up_to_unlisted s (rest (at + length i)) | false ↦ [] ]) e

      pub mark-unlisted : listed s i ≡ false → Image sheet code flags
      mark-unlisted e = marked flags at m (up_to false e)

      pub mark_on : listed s i ≡ true → Marking sheet code (set flags at 1) (at + length i)
      unfolding starts_from
      mark_on e = record { room = subst (λ n. length code < n) (sym (length-set flags at 1)) m.room; within = inside; known = λ q. m.known q ∙ (ap (λ x. flagged flags q || has (starts_from at x) q) (up_to true e) ∙ by q (eqb q at) refl) }
        where
          more : List ℕ
          more = starts_from (at + length i) (up_to_unlisted s (rest (at + length i)))

          by : (q : ℕ) (b : Bool) → eqb q at ≡ b → (flagged flags q || has (at ∷ more) q) ≡ (flagged (set flags at 1) q || has more q)
          by q true k = let e = eqb-true q at k in ap (λ x. flagged flags q || x) (has_first at more q e) ∙ (or-any (flagged flags q) ∙ sym (ap (λ x. x || has more q) (flag-set flags at q (let a = m.room in let b = inside in omega arith) e)))
          by q false k = ap (λ x. flagged flags q || x) (has-past q at more (eqb-false q at k)) ∙ sym (ap (λ x. x || has more q) (flag-other flags at q (eqb-false q at k)))
