-- What code learns of an instruction from the sheet's table.
use mathlib.Core.Path.{◌≡◌, refl, ap, sym, ◌∙◌}
use mathlib.Core.Option.{Option, some, none}
use Rattle.std.specs.Prelude as std
use Rattle.std.specs.Prelude.{Some, None, IfSome}
use Rattle.std.specs.Borrow.{Bor}
use Rattle.std.specs.Slice.{IsGetRangeResult}
use mathlib.Core.List.{List, [], ◌∷◌}
use Prim.Native.Nat.{ℕ, zero, suc, ◌+◌, ◌-◌, ◌≤◌, ◌<◌}
use native.Mathlib.Omega.{arith}
use Rattle.std.proofs.Common.{⊎_elim}
use lib.ListN.{length, take, drop, get_or, get_elem?, length-drop}
use lib.Seq.{length-take-le}
use Rattle.definition.specs.Opcode.{Role, Sheet, role_of, roles, number, size, ret}
use Rattle.definition.specs.Rules as def
use Rattle.definition.specs.Rules.{role_numbered}
use Rattle.definition.specs.Rewrite.{Bytes, decode, opcode_of, operand_of, instruction}
use Rattle.opcode.specs.Table.{number_or, number_in, IsTable, sheet_in}
use Rattle.opcode.proofs.Tables.{table-number}
use Rattle.opcode.proofs.Sheets.{role-number, number-below}
use Rattle.rewrite.specs.View.{first_of, part_of}
use Rattle.rewrite.proofs.Decoding.{decode-past, decode-at, decode-unlisted-at, decode-cut-at, size-positive}

-- ---- its bytes

-- the number of the role of the byte at a place
pub role-there : {sheet : List ℕ} (code : List ℕ) (at : ℕ) {n x : ℕ} → IsTable sheet → n ≡ number_in sheet x → x ≡ get_or code at 0 → x < 256 → n ≡ number_or (role_of (sheet_in sheet) (get_or code at 0))
role-there code at {x = x} t e f h = rw (← f) (e ∙ table-number t x h)

module _ (s : Sheet) (code : List ℕ) (at : ℕ) where
  pub part-past : length code ≤ at → [] ≡ first_of (decode s (drop at code))
  unfolding first_of
  part-past h = rw (decode-past s code at h)

  module _ (n : ℕ) (is : n ≡ number_or (role_of s (get_or code at 0))) (here : at < length code) where
    pub part-unlisted : n ≡ 255 → [] ≡ first_of (decode s (drop at code))
    unfolding number_or first_of
    part-unlisted e = by_role (role_of s (get_or code at 0)) refl (sym is ∙ e)
      where
        by_role : (q : Option Role) → role_of s (get_or code at 0) ≡ q → number_or q ≡ 255 → [] ≡ first_of (decode s (drop at code))
        by_role none r e = rw (decode-unlisted-at s code at here r)
        by_role (some q) r e = absurd (omega (arith, number-below q))

    -- the role that a number that is listed stands for
    listed : (n ≡ 255 → ⊥) → (q : Option Role) → role_of s (get_or code at 0) ≡ q → number_or q ≡ n → role_of s (get_or code at 0) ≡ some (role_numbered n)
    unfolding number_or
    listed ne none r e = absurd (ne (sym e))
    listed ne (some q) r e = rw (← e, role-number q) r

    size-listed : (n ≡ 255 → ⊥) → role_of s (get_or code at 0) ≡ some (role_numbered n)
    size-listed ne = listed ne (role_of s (get_or code at 0)) refl (sym is)

    -- as many bytes as its role says, if the code has them
    pub part-got : (n ≡ 255 → ⊥) → {z : ℕ} → z ≡ size (role_numbered n) → (r : std.Option (Bor Bytes)) → IsGetRangeResult code at (at + z) r
        → (part_of r ≡ first_of (decode s (drop at code))) × IfSome r (λ i. 1 ≤ length i.now)
    unfolding first_of
    part-got ne {z} e None g =
        let h : length code < at + size (role_numbered n) = ⊎_elim (λ l. absurd (omega arith)) (λ l. omega arith) g.0 in
        (rw (decode-cut-at s code at (role_numbered n) here (size-listed ne) h), tt)
    part-got ne {z} e (Some i) g =
        let h : at + size (role_numbered n) ≤ length code = omega arith in
        let same : at + z - at ≡ size (role_numbered n) = omega arith in
        let p = size-positive (role_numbered n) in
        let is = g.0.2 in
        let long = g.0.3 in
        (rw (decode-at s code at (role_numbered n) (size-listed ne) h) (is ∙ ap (λ (k : ℕ). take k (drop at code)) same), omega arith)

-- ---- as a rule sees it

elem-get_d : {A : Type 0} (l : List A) (d : A) (n : ℕ) → n < length l → get_elem? l n ≡ some (get_or l n d)
elem-get_d [] d n h = absurd (omega arith)
elem-get_d (x ∷ l) d zero h = refl
elem-get_d (x ∷ l) d (suc n) h = elem-get_d l d n (omega arith)

role-back-at : (r : Role) → get_or roles (number r) ret ≡ r
unfolding role_numbered
role-back-at r = role-number r

pub role-back : (q : Option Role) → get_elem? roles (number_or q) ≡ q
unfolding number_or roles
role-back none = refl
role-back (some r) = elem-get_d roles ret (number r) (number-below r) ∙ ap some (role-back-at r)

pub saw : (s : Sheet) (i : Bytes) {b n o : ℕ} → b ≡ get_or i 0 0 → n ≡ number_or (role_of s b) → o ≡ operand_of i → ◌≡◌ {A = def.Instruction} (record { role = get_elem? roles n; operand = o }) (instruction s i)
unfolding instruction opcode_of
saw s i eb en eo = rw (en, eb, eo, role-back (role_of s (get_or i 0 0)))
