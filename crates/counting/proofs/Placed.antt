-- Rows of finished code at their places: starts, bytes, operands and targets.
use Prim.Native.Nat.{ℕ, ◌+◌, ◌-◌, ◌*◌, ◌/◌, ◌%◌, suc, ◌≤◌, ◌<◌}
use mathlib.Core.Path.{◌≡◌, refl, sym, ◌∙◌, ap, subst}
use mathlib.Core.List.{List, [], ◌∷◌, ◌++◌, append_assoc}
use mathlib.Core.Bool.{Bool, true, false}
use mathlib.Core.Option.{Option, some, none}
use native.Mathlib.Omega.{arith}
use lib.Dec.{eqb}
use lib.ListN.{length, get_or, take, length-append, get_or-append}
use lib.Seq.{get_or-append-add, take-append_seam}
use borrow.Author.Tests.{eq-eqb, ne_eqb}
use Rattle.definition.specs.Field.{has}
use Rattle.definition.specs.Opcode.{Role, Sheet, opcode, role_of, size}
use Rattle.definition.specs.Rewrite.{Bytes, decode, starts_from, boundaries_from}
use Rattle.definition.specs.Emit.{le16}
use Rattle.definition.specs.Compile.{displacement}
use Rattle.definition.specs.Runs.{target}
use Rattle.field.proofs.Results.{never, some_is}
use Rattle.runs.proofs.Passes.{Reads}
use Rattle.runs.proofs.Decoding.{joined, Whole, Wholes, decode-joined}
use Rattle.runs.proofs.Patched.{reached, reached-near, IsNear, aimed_operand}
use Rattle.definition.specs.Machine.{Image, operand_at, is_start, role_at}
use Rattle.counting.proofs.Laid.{Stands}
use Rattle.counting.proofs.Rows.{Row, unpatched, operand_of, bytes_of, code_of, Sized, sized-left, sized-right}
use Rattle.counting.proofs.Finished.{final_bytes, final_rows, final-length, final-wholes}

-- ---- lists of instructions

pub joined-append : (X Y : List Bytes) → joined (X ++ Y) ≡ joined X ++ joined Y
unfolding joined
joined-append [] Y = refl
joined-append (i ∷ X) Y = ap (λ x. i ++ x) (joined-append X Y) ∙ sym (append_assoc i (joined X) (joined Y))

-- a part starts where what is before it ends
pub start_between : (X : List Bytes) (i : Bytes) (Y : List Bytes) (at : ℕ) → has (starts_from at (X ++ (i ∷ Y))) (at + length (joined X)) ≡ true
unfolding starts_from has joined
start_between [] i Y at = ap (λ b. elim b [ true ↦ true | false ↦ has (starts_from (at + length i) Y) (at + 0) ]) (eq-eqb (at + 0) at (omega arith))
start_between (x ∷ X) i Y at =
    let e : at + length (x ++ joined X) ≡ at + length x + length (joined X) = omega (arith, length-append x (joined X)) in
    go (eqb (at + length (x ++ joined X)) at) (ap (λ p. has (starts_from (at + length x) (X ++ (i ∷ Y))) p) e ∙ start_between X i Y (at + length x))
  where
    go : (b : Bool) → has (starts_from (at + length x) (X ++ (i ∷ Y))) (at + length (x ++ joined X)) ≡ true
        → elim b [ true ↦ true | false ↦ has (starts_from (at + length x) (X ++ (i ∷ Y))) (at + length (x ++ joined X)) ] ≡ true
    go true h = refl
    go false h = h

-- no start before the first place, and none inside an instruction
start-low : (X : List Bytes) (at p : ℕ) → p < at → has (starts_from at X) p ≡ false
unfolding starts_from has
start-low [] at p h = refl
start-low (x ∷ X) at p h = ap (λ b. elim b [ true ↦ true | false ↦ has (starts_from (at + length x) X) p ]) (ne_eqb p at (λ e. omega arith)) ∙ start-low X (at + length x) p (omega arith)

whole_long : (s : Sheet) (i : Bytes) → Whole s i → 1 ≤ length i
whole_long s i w = subst (λ x. 1 ≤ length x) (sym w.is) (omega arith)

pub start-inside : (s : Sheet) (X : List Bytes) (i : Bytes) (Y : List Bytes) (at p : ℕ) → Wholes s X → at + length (joined X) < p → p < at + length (joined X) + length i → has (starts_from at (X ++ (i ∷ Y))) p ≡ false
unfolding starts_from has joined Wholes
start-inside s [] i Y at p w a b =
    ap (λ t. elim t [ true ↦ true | false ↦ has (starts_from (at + length i) Y) p ]) (ne_eqb p at (λ e. omega arith)) ∙ start-low Y (at + length i) p (omega arith)
start-inside s (x ∷ X) i Y at p w a b =
    let n = length-append x (joined X) in
    let l = whole_long s x w.0 in
    ap (λ t. elim t [ true ↦ true | false ↦ has (starts_from (at + length x) (X ++ (i ∷ Y))) p ]) (ne_eqb p at (λ e. omega arith)) ∙ start-inside s X i Y (at + length x) p w.1 (omega arith) (omega arith)

pub boundary-between : (X Y : List Bytes) (at : ℕ) → has (boundaries_from at (X ++ Y)) (at + length (joined X)) ≡ true
unfolding boundaries_from has joined
boundary-between [] [] at = ap (λ b. elim b [ true ↦ true | false ↦ false ]) (eq-eqb (at + 0) at (omega arith))
boundary-between [] (y ∷ Y) at = ap (λ b. elim b [ true ↦ true | false ↦ has (boundaries_from (at + length y) Y) (at + 0) ]) (eq-eqb (at + 0) at (omega arith))
boundary-between (x ∷ X) Y at =
    let e : at + length (x ++ joined X) ≡ at + length x + length (joined X) = omega (arith, length-append x (joined X)) in
    go (eqb (at + length (x ++ joined X)) at) (ap (λ p. has (boundaries_from (at + length x) (X ++ Y)) p) e ∙ boundary-between X Y (at + length x))
  where
    go : (b : Bool) → has (boundaries_from (at + length x) (X ++ Y)) (at + length (x ++ joined X)) ≡ true
        → elim b [ true ↦ true | false ↦ has (boundaries_from (at + length x) (X ++ Y)) (at + length (x ++ joined X)) ] ≡ true
    go true h = refl
    go false h = h

-- ---- rows

pub final-append : (s : Sheet) (goal : ℕ → ℕ) (p : ℕ) (A B : List Row) → final_rows s goal p (A ++ B) ≡ final_rows s goal p A ++ final_rows s goal (p + length (code_of s A)) B
unfolding final_rows code_of
final-append s goal p [] B = ap (λ q. final_rows s goal q B) (omega arith)
final-append s goal p (r ∷ A) B =
    let e : p + length (bytes_of s r) + length (code_of s A) ≡ p + length (bytes_of s r ++ code_of s A) = omega (arith, length-append (bytes_of s r) (code_of s A)) in
    ap (λ x. final_bytes s goal p r ∷ x) (final-append s goal (p + length (bytes_of s r)) A B ∙ ap (λ q. final_rows s goal (p + length (bytes_of s r)) A ++ final_rows s goal q B) e)

pub final-joined : (s : Sheet) (goal : ℕ → ℕ) (p : ℕ) (A : List Row) → length (joined (final_rows s goal p A)) ≡ length (code_of s A)
unfolding final_rows code_of joined
final-joined s goal p [] = refl
final-joined s goal p (r ∷ A) =
    let q = final-joined s goal (p + length (bytes_of s r)) A in
    let e = final-length s goal p r in
    length-append (final_bytes s goal p r) _ ∙ (omega arith ∙ sym (length-append (bytes_of s r) (code_of s A)))

-- bytes i stand at place p, the first of them an instruction's start of role r
pub record Placed (m : Image) (p : ℕ) (r : Role) (i : Bytes) : Type 0 where
  pub stands : Stands m p r
  pub bytes : (n : ℕ) → n < length i → get_or m.bytecode (p + n) 0 ≡ get_or i n 0

placed-between : (m : Image) (X : List Bytes) (i : Bytes) (Y : List Bytes) (p : ℕ) → m.bytecode ≡ joined (X ++ (i ∷ Y)) → (w : Wholes m.sheet (X ++ (i ∷ Y))) → (h : Whole m.sheet i) → p ≡ length (joined X)
    → Placed m p h.role i
unfolding is_start role_at joined
placed-between m X i Y p c w h e =
    let all : m.bytecode ≡ joined X ++ (i ++ joined Y) = c ∙ joined-append X (i ∷ Y) in
    let long = whole_long m.sheet i h in
    let at : (n : ℕ) → n < length i → get_or m.bytecode (p + n) 0 ≡ get_or i n 0 = λ n l.
    ap (λ q. get_or m.bytecode (q + n) 0) e ∙ (ap (λ t. get_or t (length (joined X) + n) 0) all ∙ (get_or-append-add (joined X) (i ++ joined Y) n 0 ∙ get_or-append i (joined Y) 0 n l)) in
    let zeroth : get_or m.bytecode p 0 ≡ h.first = ap (λ q. get_or m.bytecode q 0) (omega arith) ∙ (at 0 long ∙ ap (λ t. get_or t 0 0) h.is) in
    record {
      stands = record {
        before = omega (arith, ap length all, length-append (joined X) (i ++ joined Y), length-append i (joined Y));
        start = ap (λ d. has (starts_from 0 (decode m.sheet d)) p) c
            ∙ (ap (λ d. has (starts_from 0 d) p) (decode-joined m.sheet (X ++ (i ∷ Y)) w) ∙ (ap (λ q. has (starts_from 0 (X ++ (i ∷ Y))) q) (omega arith) ∙ start_between X i Y 0));
        role = ap (λ b. role_of m.sheet b) zeroth ∙ h.known;
      };
      bytes = at;
    }

pub operand-at : (m : Image) (p : ℕ) (r : Role) (i : Bytes) → Placed m p r i → (n : ℕ) → suc n < length i → operand_at m.bytecode (p + n) ≡ get_or i n 0 + 256 * get_or i (suc n) 0
unfolding operand_at
operand-at m p r i h n l =
    ap (λ x. x + 256 * get_or m.bytecode (p + n + 1) 0) (h.bytes n (omega arith)) ∙ ap (λ x. get_or i n 0 + 256 * x) (ap (λ q. get_or m.bytecode q 0) (omega arith) ∙ h.bytes (suc n) l)

-- ---- a displacement read back

target_at : (m : Image) (p : ℕ) (r : Role) (i : Bytes) (n next t : ℕ) → Placed m p r i → suc n < length i → next ≡ p + n + 2
    → get_or i n 0 ≡ displacement t next % 256 → get_or i (suc n) 0 ≡ displacement t next / 256 → IsNear t next → target m.bytecode next ≡ some t
unfolding target reached
target_at m p r i n next t h l e a b x =
    let u : get_or m.bytecode (next - 2) 0 ≡ displacement t next % 256 = ap (λ q. get_or m.bytecode q 0) (omega arith) ∙ (h.bytes n (omega arith) ∙ a) in
    let v : get_or m.bytecode (next - 1) 0 ≡ displacement t next / 256 = ap (λ q. get_or m.bytecode q 0) (omega arith) ∙ (h.bytes (suc n) l ∙ b) in
    let w : get_or m.bytecode (next - 2) 0 + 256 * get_or m.bytecode (next - 1) 0 ≡ displacement t next = ap (λ k. k + 256 * get_or m.bytecode (next - 1) 0) u ∙ (ap (λ k. displacement t next % 256 + 256 * k) v ∙ omega arith) in
    ap (λ k. reached k next) w ∙ reached-near t next x

-- of any branch: behind it its label's goal is read, where that is near
pub target-read : (m : Image) (s : Sheet) (goal : ℕ → ℕ) (p : ℕ) (r : Row) (l : ℕ) → r.aim ≡ some l → Placed m p r.role (final_bytes s goal p r) → IsNear (goal l) (p + length (bytes_of s r))
    → target m.bytecode (p + length (bytes_of s r)) ≡ some (goal l)
unfolding final_bytes bytes_of operand_of unpatched aimed_operand le16
target-read m s goal p r l a h near = go r.aim a h near
  where
    op : ℕ
    op = opcode s r.role

    o : List ℕ
    o = r.operand

    go : (x : Option ℕ) → x ≡ some l → Placed m p r.role (op ∷ aimed_operand goal (p + suc (length (unpatched x o))) x (unpatched x o)) → IsNear (goal l) (p + suc (length (unpatched x o)))
        → target m.bytecode (p + suc (length (unpatched x o))) ≡ some (goal l)
    go none e h near = never (cc)
    go (some k) e h near =
        let same : k ≡ l = some_is e in
        let long = length-append o (0 ∷ 0 ∷ []) in
        let next : ℕ = p + suc (length (o ++ (0 ∷ 0 ∷ []))) in
        let two : List ℕ = le16 (displacement (goal k) next) in
        let less : length (o ++ (0 ∷ 0 ∷ [])) - 2 ≡ length o = omega arith in
        let front : take (length (o ++ (0 ∷ 0 ∷ [])) - 2) (o ++ (0 ∷ 0 ∷ [])) ≡ o = ap (λ n. take n (o ++ (0 ∷ 0 ∷ []))) less ∙ take-append_seam o (0 ∷ 0 ∷ []) in
        let at : Placed m p r.role (op ∷ (o ++ two)) = subst (λ x. Placed m p r.role (op ∷ (x ++ two))) front h in
        let zeroth : length o ≡ length o + 0 = omega arith in
        let first : suc (length o) ≡ length o + 1 = omega arith in
        target_at m p r.role (op ∷ (o ++ two)) (suc (length o)) next (goal k) at (omega (arith, length-append o two)) (omega arith)
        (ap (λ n. get_or (o ++ two) n 0) zeroth ∙ get_or-append-add o two 0 0) (ap (λ n. get_or (o ++ two) n 0) first ∙ get_or-append-add o two 1 0)
        (subst (λ x. IsNear (goal x) next) (sym same) near)
        ∙ ap (λ x. some (goal x)) same

-- ---- finished code

module _ (s : Sheet) (known : Reads s) (goal : ℕ → ℕ) (rows : List Row) (sized : Sized s rows) (m : Image)
    (sheet : s ≡ m.sheet) (code : m.bytecode ≡ joined (final_rows s goal 0 rows)) where
  -- the instructions before a row, it, and those behind it
  cut_at : (A : List Row) (r : Row) (C : List Row) (p : ℕ) → rows ≡ A ++ (r ∷ C) → p ≡ length (code_of s A)
      → final_rows s goal 0 rows ≡ final_rows s goal 0 A ++ (final_bytes s goal p r ∷ final_rows s goal (p + length (bytes_of s r)) C)
  unfolding final_rows
  cut_at A r C p e q =
      ap (λ x. final_rows s goal 0 x) e ∙ (final-append s goal 0 A (r ∷ C) ∙ ap (λ n. final_rows s goal 0 A ++ final_rows s goal n (r ∷ C)) (omega arith))

  row-whole : (A : List Row) (r : Row) (C : List Row) (p : ℕ) → rows ≡ A ++ (r ∷ C) → length (final_bytes s goal p r) ≡ size r.role
  unfolding Sized
  row-whole A r C p e = final-length s goal p r ∙ (sized-right s A (r ∷ C) (subst (λ x. Sized s x) e sized)).0

  in-sheet : (r : Role) → role_of m.sheet (opcode s r) ≡ some r
  in-sheet r = ap (λ x. role_of x (opcode s r)) (sym sheet) ∙ known r

  pub placed : (A : List Row) (r : Row) (C : List Row) (p : ℕ) → rows ≡ A ++ (r ∷ C) → p ≡ length (code_of s A) → Placed m p r.role (final_bytes s goal p r)
  unfolding final_bytes
  placed A r C p e q =
      let cut = cut_at A r C p e q in
      let parts : List Bytes = final_rows s goal 0 A ++ (final_bytes s goal p r ∷ final_rows s goal (p + length (bytes_of s r)) C) in
      placed-between m (final_rows s goal 0 A) (final_bytes s goal p r) (final_rows s goal (p + length (bytes_of s r)) C) p (code ∙ ap joined cut)
      (subst (λ x. Wholes x parts) sheet (subst (λ x. Wholes s x) cut (final-wholes s known goal 0 rows sized)))
      (record { role = r.role; first = opcode s r.role; rest = aimed_operand goal (p + suc (length (operand_of r))) r.aim (operand_of r); is = refl; known = in-sheet r.role; sized = row-whole A r C p e })
      (q ∙ sym (final-joined s goal 0 A))

  pub no_start : (A : List Row) (r : Row) (C : List Row) (p : ℕ) → rows ≡ A ++ (r ∷ C) → length (code_of s A) < p → p < length (code_of s A) + size r.role → is_start m p ≡ false
  unfolding is_start
  no_start A r C p e a b =
      let q = length (code_of s A) in
      let cut = cut_at A r C q e refl in
      let j = final-joined s goal 0 A in
      let w = subst (λ x. Wholes s x) cut (final-wholes s known goal 0 rows sized) in
      ap (λ x. has (starts_from 0 (decode x m.bytecode)) p) (sym sheet)
      ∙ (ap (λ x. has (starts_from 0 (decode s x)) p) (code ∙ ap joined cut)
      ∙ (ap (λ x. has (starts_from 0 x) p) (decode-joined s _ w)
      ∙ start-inside s (final_rows s goal 0 A) (final_bytes s goal q r) (final_rows s goal (q + length (bytes_of s r)) C) 0 p (final-wholes s known goal 0 A (sized-left s A (r ∷ C) (subst (λ x. Sized s x) e sized)))
      (omega arith) (omega (arith, row-whole A r C q e))))
