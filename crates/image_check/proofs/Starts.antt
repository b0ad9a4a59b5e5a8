-- A start of decoding holds a listed opcode; its instruction ends within the code, and no other start lies inside it.
use Prim.Native.Nat.{ℕ, ◌+◌, ◌≤◌, ◌<◌}
use mathlib.Core.Path.{◌≡◌, refl, sym, ◌∙◌, ap}
use mathlib.Core.List.{List, [], ◌∷◌}
use mathlib.Core.Bool.{Bool, true, false}
use mathlib.Core.Option.{some}
use lib.ListN.{length, get_or, drop}
use lib.Seq.{get_or-take}
use lib.Dec.{eqb}
use borrow.Author.Tests.{eqb-true}
use native.Mathlib.Omega.{arith}
use native.Mathlib.Decide.{ℕ_discrete}
use Rattle.definition.specs.Field.{has}
use Rattle.definition.specs.Opcode.{Role, Sheet, role_of, size}
use Rattle.definition.specs.Rewrite.{Bytes, opcode_of, decode, starts_from}
use Rattle.definition.specs.Claims.{Either, left, right}
use Rattle.definition.specs.Check.{listed, up_to_unlisted, starts}
use Rattle.field.proofs.Lists.{has_first, has-later, first-left}
use Rattle.field.proofs.Results.{never, some_is}
use Rattle.rewrite.specs.View.{first_of}
use Rattle.rewrite.proofs.Decoding.{size-positive, first-none, first_taken, first-is, first-within}
use Rattle.rewrite.proofs.Decoding as decoding

pub has-cases : (y : ℕ) (ys : List ℕ) (x : ℕ) (P : Type 0) → has (y ∷ ys) x ≡ true → (x ≡ y → P) → (has ys x ≡ true → P) → P
unfolding has
has-cases y ys x P e f g = by (eqb x y) refl e
  where
    by : (b : Bool) → eqb x y ≡ b → elim b [ true ↦ true | false ↦ has ys x ] ≡ true → P
    by true k q = f (eqb-true x y k)
    by false k q = g q

starts-low : (is : List Bytes) (at p : ℕ) → has (starts_from at is) p ≡ true → at ≤ p
unfolding starts_from has
starts-low [] at p e = never (cc)
starts-low (i ∷ is) at p e = has-cases at (starts_from (at + length i) is) p (at ≤ p) e (λ k. omega arith) (λ h. let l = starts-low is (at + length i) p h in omega arith)

-- up to an unlisted comparison byte they are starts too
up_to : (s : Sheet) (is : List Bytes) (at p : ℕ) → has (starts_from at (up_to_unlisted s is)) p ≡ true → has (starts_from at is) p ≡ true
unfolding starts_from up_to_unlisted has
up_to s [] at p e = e
up_to s (i ∷ is) at p e = by (listed s i) e (λ h. up_to s is (at + length i) p h)
  where
    by : (b : Bool) → has (starts_from at (elim b [ true ↦ i ∷ up_to_unlisted s is | false ↦ [] ])) p ≡ true
        → (has (starts_from (at + length i) (up_to_unlisted s is)) p ≡ true → has (starts_from (at + length i) is) p ≡ true) → has (at ∷ starts_from (at + length i) is) p ≡ true
    by true h f = has-cases at (starts_from (at + length i) (up_to_unlisted s is)) p (has (at ∷ starts_from (at + length i) is) p ≡ true) h (λ k. has_first at (starts_from (at + length i) is) p k) (λ k. has-later at (starts_from (at + length i) is) p (f k))
    by false h f = never (cc)

module _ (s : Sheet) (code : List ℕ) where
  -- an instruction that decoding finds at a place
  record Found (at : ℕ) (i : Bytes) (is : List Bytes) : Type 0 where
    role : Role
    known : role_of s (get_or code at 0) ≡ some role
    long : length i ≡ size role
    within : at + length i ≤ length code
    rest : is ≡ decode s (drop (at + length i) code)

  found : (at : ℕ) (i : Bytes) (is : List Bytes) → i ∷ is ≡ decode s (drop at code) → Found at i is
  unfolding first_of opcode_of
  found at i is e = by (ℕ_discrete (length i) 0)
    where
      here : i ≡ first_of (decode s (drop at code))
      here = ap first_of e

      by : Dec (length i ≡ 0) → Found at i is
      by (yes z) = let n : i ∷ is ≡ [] = e ∙ first-none s code at i here z in never (cc)
      by (no z) =
          let full : 1 ≤ length i = omega (arith, z) in
          let a = decoding.listed s code at i here full in
          let op : get_or code at 0 ≡ get_or i 0 0 = sym (ap (λ x. get_or x 0 0) (first_taken s code at i here full) ∙ (get_or-take (length i) (drop at code) 0 0 full ∙ first-left at code 0)) in
          record {
            role = a.role;
            known = ap (λ x. role_of s x) op ∙ a.is;
            long = a.long;
            within = first-within s code at i here full;
            rest = ap (drop 1) (e ∙ first-is s code at i here full);
          }

  -- at one of the starts `among` stands an instruction of the sheet, whole, and none of them lies inside it
  record Held (among : List ℕ) (p : ℕ) : Type 0 where
    role : Role
    known : role_of s (get_or code p 0) ≡ some role
    within : p + size role ≤ length code
    apart : (q : ℕ) → has among q ≡ true → p < q → p + size role ≤ q

  held : (is : List Bytes) (at : ℕ) → is ≡ decode s (drop at code) → (p : ℕ) → has (starts_from at is) p ≡ true → Held (starts_from at is) p
  unfolding starts_from has
  held [] at e p h = never (cc)
  held (i ∷ is) at e p h = by (found at i is e) (λ f k. held is (at + length i) f p k)
    where
      behind : List ℕ
      behind = starts_from (at + length i) is

      by : Found at i is → (is ≡ decode s (drop (at + length i) code) → has behind p ≡ true → Held behind p) → Held (at ∷ behind) p
      by f more = has-cases at behind p (Held (at ∷ behind) p) h
          (λ k.
          let l = f.long in
          let w = f.within in
          record {
            role = f.role;
            known = ap (λ x. role_of s (get_or code x 0)) k ∙ f.known;
            within = omega arith;
            apart = λ q j lt. has-cases at behind q (p + size f.role ≤ q) j (λ z. absurd (omega arith)) (λ m. let n = starts-low is (at + length i) q m in omega arith);
          })
          (λ k.
          let a = more f.rest k in
          let n = starts-low is (at + length i) p k in
          record { role = a.role; known = a.known; within = a.within; apart = λ q j lt. has-cases at behind q (p + size a.role ≤ q) j (λ z. absurd (omega arith)) (λ m. a.apart q m lt) })

  decoded : (p : ℕ) → has (starts s code) p ≡ true → has (starts_from 0 (decode s code)) p ≡ true
  unfolding starts
  decoded p h = up_to s (decode s code) 0 p h

  start-held : (p : ℕ) → has (starts s code) p ≡ true → Held (starts_from 0 (decode s code)) p
  start-held p h = held (decode s code) 0 refl p (decoded p h)

  pub start-holds : (p : ℕ) → has (starts s code) p ≡ true → (p < length code) × (r : Role) × (role_of s (get_or code p 0) ≡ some r)
  start-holds p h = let a = start-held p h in let z = size-positive a.role in let w = a.within in (omega arith, a.role, a.known)

  -- none at the end or past it
  pub none-past : (p : ℕ) → length code ≤ p → has (starts s code) p ≡ false
  none-past p l = by (has (starts s code) p) refl
    where
      by : (b : Bool) → has (starts s code) p ≡ b → b ≡ false
      by true h = let k = (start-holds p h).0 in absurd (omega arith)
      by false h = refl

  -- the next start, or the end, comes behind the instruction
  pub gap : (p q : ℕ) (r : Role) → has (starts s code) p ≡ true → role_of s (get_or code p 0) ≡ some r → Either (has (starts s code) q ≡ true) (q ≡ length code) → p < q → p + size r ≤ q
  gap p q r h e where-is lt = rw (some_is (sym e ∙ a.known)) (by where-is)
    where
      a : Held (starts_from 0 (decode s code)) p
      a = start-held p h

      by : Either (has (starts s code) q ≡ true) (q ≡ length code) → p + size a.role ≤ q
      by (left k) = a.apart q (decoded q k) lt
      by (right k) = let w = a.within in omega arith
