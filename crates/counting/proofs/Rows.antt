-- Code as rows: role, operand without the offset, and a branch's label; and what each call does to them.
use Prim.Native.Nat.{ℕ, ◌+◌, ◌-◌, suc, ◌≤◌}
use mathlib.Core.Path.{◌≡◌, refl, sym, ◌∙◌, ap, subst}
use mathlib.Core.List.{List, [], ◌∷◌, ◌++◌, append_assoc, append-nil}
use mathlib.Core.Option.{Option, some, none}
use native.Mathlib.Omega.{arith}
use lib.ListN.{length, length-append}
use Rattle.definition.specs.Limits.{max_code}
use Rattle.definition.specs.Res.{ok}
use Rattle.definition.specs.Opcode.{Role, Sheet, opcode, size}
use Rattle.definition.specs.Emit.{le16, Emitter, Last, other, PendingPatch, added, add, patched, branch}
use Rattle.field.proofs.Results.{ok-bind, ok-is}
use Rattle.runs.proofs.Emitted.{add_ok}
use Rattle.runs.proofs.Rows.{patch_here}

-- ---- rows

pub record Row : Type 0 where
  pub role : Role
  pub operand : List ℕ
  pub aim : Option ℕ

unfoldable pub row_of : Role → List ℕ → Option ℕ → Row
row_of r o a = record { role = r; operand = o; aim = a }

-- operand and offset, which is 0 until it is patched
unfoldable pub unpatched : Option ℕ → List ℕ → List ℕ
unpatched none o = o
unpatched (some l) o = o ++ (0 ∷ 0 ∷ [])

unfoldable pub operand_of : Row → List ℕ
operand_of r = unpatched r.aim r.operand

unfoldable pub bytes_of : Sheet → Row → List ℕ
bytes_of s r = opcode s r.role ∷ operand_of r

unfoldable pub code_of : Sheet → List Row → List ℕ
code_of s [] = []
code_of s (r ∷ rs) = bytes_of s r ++ code_of s rs

unfoldable pub patches_of : Sheet → ℕ → List Row → List PendingPatch
patches_of s at [] = []
patches_of s at (r ∷ rs) = patch_here r.aim at (operand_of r) ++ patches_of s (at + length (bytes_of s r)) rs

unfoldable pub Sized : Sheet → List Row → Type 0
Sized s [] = Unit {0}
Sized s (r ∷ rs) = (length (bytes_of s r) ≡ size r.role) × Sized s rs

pub code-append : (s : Sheet) (xs ys : List Row) → code_of s (xs ++ ys) ≡ code_of s xs ++ code_of s ys
unfolding code_of
code-append s [] ys = refl
code-append s (x ∷ xs) ys = ap (λ t. bytes_of s x ++ t) (code-append s xs ys) ∙ sym (append_assoc (bytes_of s x) (code_of s xs) (code_of s ys))

code-snoc : (s : Sheet) (xs : List Row) (r : Row) → code_of s (xs ++ (r ∷ [])) ≡ code_of s xs ++ bytes_of s r
unfolding code_of
code-snoc s xs r = code-append s xs (r ∷ []) ∙ ap (λ t. code_of s xs ++ t) (append-nil (bytes_of s r))

pub patches-append : (s : Sheet) (at : ℕ) (xs ys : List Row) → patches_of s at (xs ++ ys) ≡ patches_of s at xs ++ patches_of s (at + length (code_of s xs)) ys
unfolding patches_of code_of
patches-append s at [] ys = ap (λ n. patches_of s n ys) (omega arith)
patches-append s at (x ∷ xs) ys =
    let n : at + length (bytes_of s x) + length (code_of s xs) ≡ at + length (bytes_of s x ++ code_of s xs) = omega (arith, length-append (bytes_of s x) (code_of s xs)) in
    ap (λ t. patch_here x.aim at (operand_of x) ++ t) (patches-append s (at + length (bytes_of s x)) xs ys ∙ ap (λ m. patches_of s (at + length (bytes_of s x)) xs ++ patches_of s m ys) n)
    ∙ sym (append_assoc (patch_here x.aim at (operand_of x)) (patches_of s (at + length (bytes_of s x)) xs) (patches_of s (at + length (bytes_of s x ++ code_of s xs)) ys))

patches-snoc : (s : Sheet) (xs : List Row) (r : Row) → patches_of s 0 (xs ++ (r ∷ [])) ≡ patches_of s 0 xs ++ patch_here r.aim (length (code_of s xs)) (operand_of r)
unfolding patches_of
patches-snoc s xs r =
    patches-append s 0 xs (r ∷ []) ∙ ap (λ t. patches_of s 0 xs ++ t) (append-nil _ ∙ ap (λ n. patch_here r.aim n (operand_of r)) (omega arith))

pub sized-append : (s : Sheet) (xs ys : List Row) → Sized s xs → Sized s ys → Sized s (xs ++ ys)
unfolding Sized
sized-append s [] ys a b = b
sized-append s (x ∷ xs) ys a b = (a.0, sized-append s xs ys a.1 b)

pub sized-left : (s : Sheet) (xs ys : List Row) → Sized s (xs ++ ys) → Sized s xs
unfolding Sized
sized-left s [] ys a = tt
sized-left s (x ∷ xs) ys a = (a.0, sized-left s xs ys a.1)

pub sized-right : (s : Sheet) (xs ys : List Row) → Sized s (xs ++ ys) → Sized s ys
unfolding Sized
sized-right s [] ys a = a
sized-right s (x ∷ xs) ys a = sized-right s xs ys a.1

-- code and patches that are those of some rows
pub record Formed (s : Sheet) (rows : List Row) (code : List ℕ) (ps : List PendingPatch) : Type 0 where
  pub is : code ≡ code_of s rows
  pub patches : ps ≡ patches_of s 0 rows
  pub sized : Sized s rows
  pub short : length code ≤ max_code

abbrev pub FormedBy : Sheet → List Row → Emitter → Type 0
FormedBy s rows e = Formed s rows e.bytecode e.patches

-- ---- one instruction more

grown : (s : Sheet) (rows : List Row) (code : List ℕ) (ps : List PendingPatch) (r : Row) → Formed s rows code ps → length (bytes_of s r) ≡ size r.role → length code + length (bytes_of s r) ≤ max_code
    → Formed s (rows ++ (r ∷ [])) (code ++ bytes_of s r) (ps ++ patch_here r.aim (length code) (operand_of r))
unfolding Sized
grown s rows code ps r f z m = record {
  is = ap (λ c. c ++ bytes_of s r) f.is ∙ sym (code-snoc s rows r);
  patches = ap (λ p. p ++ patch_here r.aim (length code) (operand_of r)) f.patches
      ∙ (ap (λ c. patches_of s 0 rows ++ patch_here r.aim (length c) (operand_of r)) f.is ∙ sym (patches-snoc s rows r));
  sized = sized-append s rows (r ∷ []) f.sized (z, tt);
  short = omega (arith, length-append code (bytes_of s r));
}

-- what an added instruction leaves of the emitter
pub record Adds (s : Sheet) (rows : List Row) (l : Last) (e e' : Emitter) : Type 0 where
  pub formed : FormedBy s rows e'
  pub last : e'.last ≡ l
  pub constants : e'.constants ≡ e.constants
  pub labels : e'.labels ≡ e.labels

pub add-adds : (s : Sheet) (rows : List Row) (r : Role) (o : List ℕ) (l : Last) (e e' : Emitter) → FormedBy s rows e → suc (length o) ≡ size r → add s r o l e ≡ ok e'
    → Adds s (rows ++ (row_of r o none ∷ [])) l e e'
unfolding added row_of bytes_of operand_of unpatched patch_here
add-adds s rows r o l e e' f z p =
    let q = add_ok s r o l e e' p in
    subst (λ x. Adds s (rows ++ (row_of r o none ∷ [])) l e x) (sym q.1) (record {
      formed = subst (λ ps. Formed s (rows ++ (row_of r o none ∷ [])) (e.bytecode ++ (opcode s r ∷ o)) ps) (append-nil e.patches) (grown s rows e.bytecode e.patches (row_of r o none) f z q.2);
      last = refl;
      constants = refl;
      labels = refl;
    })

pub branch-adds : (s : Sheet) (rows : List Row) (r : Role) (o : List ℕ) (delta l : ℕ) (e e' : Emitter) → FormedBy s rows e → suc (length (o ++ (0 ∷ 0 ∷ []))) ≡ size r → delta ≡ length (o ++ (0 ∷ 0 ∷ [])) - 1 → branch s r o delta l e ≡ ok e'
    → Adds s (rows ++ (row_of r o (some l) ∷ [])) other e e'
unfolding branch added patched row_of bytes_of operand_of unpatched patch_here le16
branch-adds s rows r o delta l e e' f z d p =
    let a = ok-bind _ _ e' p in
    let q = add_ok s r (o ++ (0 ∷ 0 ∷ [])) other e a.0 a.1 in
    let P : ℕ → PendingPatch = λ y. record { instruction_offset = length e.bytecode; operand_delta = y; label = l } in
    let g = grown s rows e.bytecode e.patches (row_of r o (some l)) f z q.2 in
    let same : patched (P delta) (added s r (o ++ (0 ∷ 0 ∷ [])) other q.0 e) ≡ e' = sym (ok-is (ap (λ y. ok (patched (P delta) y)) (sym q.1) ∙ a.2)) in
    subst (λ x. Adds s (rows ++ (row_of r o (some l) ∷ [])) other e x) same (record {
      formed = subst (λ y. Formed s (rows ++ (row_of r o (some l) ∷ [])) (e.bytecode ++ (opcode s r ∷ (o ++ (0 ∷ 0 ∷ [])))) (e.patches ++ (P y ∷ []))) (sym d) g;
      last = refl;
      constants = refl;
      labels = refl;
    })
