-- Decoding unrolled: what the first instruction of some bytes is, and where decoding goes on.
use mathlib.Core.Path.{◌≡◌, refl, ap, sym, ◌∙◌}
use mathlib.Core.Bool.{Bool, true, false}
use mathlib.Core.Option.{Option, some, none}
use mathlib.Core.List.{List, [], ◌∷◌}
use Prim.Native.Nat.{ℕ, zero, suc, ◌+◌, ◌-◌, ◌≤◌, ◌<◌}
use native.Mathlib.Nat.{add-zero}
use native.Mathlib.Omega.{arith}
use borrow.Author.Tests.{le-leb, lt-leb, leb-true, leb-false}
use lib.ListN.{length, take, drop, get_or, length-drop, drop_of_length-le}
use lib.Dec.{leb}
use lib.Seq.{drop-cons, drop-drop, length-take-le, get_or-take, get_or-drop}
use Rattle.definition.specs.Field.{onto}
use Rattle.definition.specs.Opcode.{Role, Sheet, role_of, size, traits, traits_of, dup, pop, load_var, store_var, load_const, load_true, load_false, arithmetic, logic, neg, bool_not, compare, jmp, jmp_if_not, cmp_br, ret}
use Rattle.definition.specs.Rewrite.{Bytes, opcode_of, ends, size_or1, cut, decode}
use Rattle.rewrite.specs.View.{first_of}

-- every instruction has its opcode, and no more than seven bytes behind it
sizes : (r : Role) → (1 ≤ size r) × (size r ≤ 8)
unfolding size traits traits_of
sizes dup = (omega arith, omega arith)
sizes pop = (omega arith, omega arith)
sizes load_var = (omega arith, omega arith)
sizes store_var = (omega arith, omega arith)
sizes load_const = (omega arith, omega arith)
sizes load_true = (omega arith, omega arith)
sizes load_false = (omega arith, omega arith)
sizes (arithmetic o) = (omega arith, omega arith)
sizes (logic o) = (omega arith, omega arith)
sizes neg = (omega arith, omega arith)
sizes bool_not = (omega arith, omega arith)
sizes (compare c) = (omega arith, omega arith)
sizes jmp = (omega arith, omega arith)
sizes jmp_if_not = (omega arith, omega arith)
sizes cmp_br = (omega arith, omega arith)
sizes ret = (omega arith, omega arith)

pub size-positive : (r : Role) → 1 ≤ size r
size-positive r = (sizes r).0

pub size-small : (r : Role) → size r ≤ 8
size-small r = (sizes r).1

-- an open instruction takes its bytes, and the rest is decoded
pub cut-is : (s : Sheet) (xs : List ℕ) (n : ℕ) → n ≤ length xs → cut s xs n ≡ take n xs ∷ decode s (drop n xs)
unfolding cut decode onto
cut-is s [] zero h = refl
cut-is s [] (suc n) h = absurd (omega arith)
cut-is s (b ∷ bs) zero h = elim (ends (role_of s b) (length bs)) as (λ t. ◌≡◌ {A = List Bytes} (elim t [ true ↦ [] ∷ onto b (cut s bs (size_or1 (role_of s b) - 1)) | false ↦ [] ∷ [] ]) ([] ∷ drop 1 (elim t [ true ↦ [] ∷ onto b (cut s bs (size_or1 (role_of s b) - 1)) | false ↦ [] ∷ [] ]))) [ true ↦ refl | false ↦ refl ]
cut-is s (b ∷ bs) (suc n) h = rw (cut-is s bs n (omega arith))

-- a first byte with the rest of its instruction
peel : (s : Sheet) (b : ℕ) (bs : List ℕ) (n : ℕ) → 1 ≤ n → ◌≡◌ {A = List Bytes} ((b ∷ take (n - 1) bs) ∷ decode s (drop (n - 1) bs)) (take n (b ∷ bs) ∷ decode s (drop n (b ∷ bs)))
peel s b bs zero h = absurd (omega arith)
peel s b bs (suc n) h =
    let e : suc n - 1 ≡ n = omega arith in
    rw e

opened : (s : Sheet) (b : ℕ) (bs : List ℕ) (t : Bool) → ends (role_of s b) (length bs) ≡ t
    → decode s (b ∷ bs) ≡ elim t [ true ↦ onto b (cut s bs (size_or1 (role_of s b) - 1)) | false ↦ [] ]
unfolding decode cut
opened s b bs true e = ap (λ (u : Bool). drop 1 (elim u [ true ↦ [] ∷ onto b (cut s bs (size_or1 (role_of s b) - 1)) | false ↦ [] ∷ [] ])) e
opened s b bs false e = ap (λ (u : Bool). drop 1 (elim u [ true ↦ [] ∷ onto b (cut s bs (size_or1 (role_of s b) - 1)) | false ↦ [] ∷ [] ])) e

pub decode-step : (s : Sheet) (b : ℕ) (bs : List ℕ) (r : Role) → role_of s b ≡ some r → size r ≤ suc (length bs)
    → decode s (b ∷ bs) ≡ take (size r) (b ∷ bs) ∷ decode s (drop (size r) (b ∷ bs))
unfolding decode cut ends size_or1 onto
decode-step s b bs r e h =
    let p = size-positive r in
    rw (opened s b bs true (rw (e, le-leb _ _ h)), e, cut-is s bs (size r - 1) (omega arith)) (peel s b bs (size r) p)

-- it stops at an unlisted opcode, and at an instruction that the end cuts off
pub decode-unlisted : (s : Sheet) (b : ℕ) (bs : List ℕ) → role_of s b ≡ none → decode s (b ∷ bs) ≡ []
unfolding decode cut ends
decode-unlisted s b bs e = opened s b bs false (rw e)

pub decode-cut : (s : Sheet) (b : ℕ) (bs : List ℕ) (r : Role) → role_of s b ≡ some r → suc (length bs) < size r → decode s (b ∷ bs) ≡ []
unfolding decode cut ends
decode-cut s b bs r e h = opened s b bs false (rw (e, lt-leb _ _ h))

-- the same at a place of some code
module _ (s : Sheet) (code : List ℕ) (at : ℕ) where
  pub decode-past : length code ≤ at → decode s (drop at code) ≡ []
  unfolding decode cut
  decode-past h = rw (drop_of_length-le code h)

  pub decode-at : (r : Role) → role_of s (get_or code at 0) ≡ some r → at + size r ≤ length code
      → decode s (drop at code) ≡ take (size r) (drop at code) ∷ decode s (drop (at + size r) code)
  decode-at r e h =
      let p = size-positive r in
      let here : at < length code = omega arith in
      let long : size r ≤ suc (length (drop (suc at) code)) = simp length-drop (omega arith) in
      let step = decode-step s (get_or code at 0) (drop (suc at) code) r e long in
      let step' = rw (← (drop-cons code at 0 here)) at step in
      rw (drop-drop (size r) at code) at step'

  pub decode-unlisted-at : at < length code → role_of s (get_or code at 0) ≡ none → decode s (drop at code) ≡ []
  decode-unlisted-at here e = rw (drop-cons code at 0 here) (decode-unlisted s _ _ e)

  pub decode-cut-at : (r : Role) → at < length code → role_of s (get_or code at 0) ≡ some r → length code < at + size r → decode s (drop at code) ≡ []
  decode-cut-at r here e h =
      let long : suc (length (drop (suc at) code)) < size r = simp length-drop (omega arith) in
      rw (drop-cons code at 0 here) (decode-cut s _ _ r e long)

-- what decoding finds at a place: z bytes of an instruction and what follows them, or nothing
pub record First (s : Sheet) (code : List ℕ) (at z : ℕ) : Type 0 where
  pub none : z ≡ 0 → decode s (drop at code) ≡ []
  pub some : 1 ≤ z → decode s (drop at code) ≡ take z (drop at code) ∷ decode s (drop (at + z) code)
  pub within : 1 ≤ z → at + z ≤ length code

module _ (s : Sheet) (code : List ℕ) (at : ℕ) where
  nothing : decode s (drop at code) ≡ [] → First s code at (length (first_of (decode s (drop at code))))
  unfolding first_of
  nothing e = rw e (record { none = λ _. e; some = λ h. absurd (omega arith); within = λ h. absurd (omega arith) })

  found : (r : Role) → role_of s (get_or code at 0) ≡ some r → at + size r ≤ length code → First s code at (length (first_of (decode s (drop at code))))
  unfolding first_of
  found r e h =
      let p = size-positive r in
      let d = decode-at s code at r e h in
      let l : length (take (size r) (drop at code)) ≡ size r = length-take-le (size r) (drop at code) (simp length-drop (omega arith)) in
      rw (d, l) (record { none = λ z. absurd (omega arith); some = λ _. d; within = λ _. h })

  by_role : at < length code → (q : Option Role) → role_of s (get_or code at 0) ≡ q → First s code at (length (first_of (decode s (drop at code))))
  by_role here none e = nothing (decode-unlisted-at s code at here e)
  by_role here (some r) e = by_size (leb (at + size r) (length code)) refl
    where
      by_size : (t : Bool) → leb (at + size r) (length code) ≡ t → First s code at (length (first_of (decode s (drop at code))))
      by_size true h = found r e (leb-true _ _ h)
      by_size false h = nothing (decode-cut-at s code at r here e (leb-false _ _ h))

  pub first : First s code at (length (first_of (decode s (drop at code))))
  first = by_place (leb (length code) at) refl
    where
      by_place : (t : Bool) → leb (length code) at ≡ t → First s code at (length (first_of (decode s (drop at code))))
      by_place true h = nothing (decode-past s code at (leb-true _ _ h))
      by_place false h = by_role (leb-false _ _ h) (role_of s (get_or code at 0)) refl

  -- the same of the bytes that decoding gives
  module _ (a : Bytes) (here : a ≡ first_of (decode s (drop at code))) where
    pub first-none : length a ≡ 0 → decode s (drop at code) ≡ []
    first-none h = first.none (sym (ap length here) ∙ h)

    pub first_taken : 1 ≤ length a → a ≡ take (length a) (drop at code)
    unfolding first_of
    first_taken h =
        let d = rw (← here) at (first.some (omega (arith, ap length here))) in
        here ∙ ap first_of d

    pub first-is : 1 ≤ length a → decode s (drop at code) ≡ a ∷ decode s (drop (at + length a) code)
    first-is h =
        let d = rw (← here) at (first.some (omega (arith, ap length here))) in
        d ∙ ap (λ (b : Bytes). b ∷ decode s (drop (at + length a) code)) (sym (first_taken h))

    pub first-within : 1 ≤ length a → at + length a ≤ length code
    first-within h =
        let l = ap length here in
        let w = first.within (omega (arith, l)) in
        omega (arith, l, w)

-- an instruction that is decoded lies in the code
pub part_within : (s : Sheet) (code : List ℕ) (at : ℕ) (a : Bytes) → a ≡ first_of (decode s (drop at code)) → 1 ≤ length a → at + length a ≤ length code
part_within = first-within

-- what is decoded is an instruction of the sheet
pub record Listed (s : Sheet) (a : Bytes) : Type 0 where
  pub role : Role
  pub is : role_of s (opcode_of a) ≡ some role
  pub long : length a ≡ size role

first-listed : (s : Sheet) (code : List ℕ) (at : ℕ) → (q : Option Role) → role_of s (get_or code at 0) ≡ q → (t : Bool) → leb (at + size_or1 q) (length code) ≡ t → at < length code
    → 1 ≤ length (first_of (decode s (drop at code))) → Listed s (first_of (decode s (drop at code)))
unfolding first_of size_or1 opcode_of
first-listed s code at none e t h here full = absurd (let z = ap length (ap first_of (decode-unlisted-at s code at here e)) in omega arith)
first-listed s code at (some r) e false h here full = absurd (let z = ap length (ap first_of (decode-cut-at s code at r here e (leb-false _ _ h))) in omega arith)
first-listed s code at (some r) e true h here full =
    let fits = leb-true _ _ h in
    let p = size-positive r in
    let d = decode-at s code at r e fits in
    let op : get_or (take (size r) (drop at code)) 0 0 ≡ get_or code at 0 = get_or-take (size r) (drop at code) 0 0 (omega arith) ∙ get_or-drop at code 0 0 ∙ ap (λ (k : ℕ). get_or code k 0) (add-zero at) in
    let l : length (take (size r) (drop at code)) ≡ size r = length-take-le (size r) (drop at code) (simp length-drop (omega arith)) in
    rw d (record { role = r; is = rw op e; long = l })

pub listed : (s : Sheet) (code : List ℕ) (at : ℕ) (a : Bytes) → a ≡ first_of (decode s (drop at code)) → 1 ≤ length a → Listed s a
listed s code at a e h =
    let l = ap length e in
    let w = first-within s code at a e h in
    rw e (first-listed s code at (role_of s (get_or code at 0)) refl (leb (at + size_or1 (role_of s (get_or code at 0))) (length code)) refl (omega arith) (omega arith))
