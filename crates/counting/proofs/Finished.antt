-- With no rules the passes change nothing, and patching writes each branch's own offset: finished code, row by row.
use Prim.Native.Nat.{ℕ, ◌+◌, ◌-◌, suc}
use mathlib.Core.Path.{◌≡◌, refl, sym, ◌∙◌, ap}
use mathlib.Core.List.{List, [], ◌∷◌, ◌++◌, map, append_assoc}
use mathlib.Core.Bool.{Bool, true, false, ◌||◌}
use mathlib.Core.Option.{Option, some, none}
use native.Mathlib.Omega.{arith}
use lib.Dec.{eqb}
use lib.ListN.{length, length-append}
use borrow.Author.Tests.{eq-eqb, eqb-true}
use Rattle.definition.specs.Field.{has}
use Rattle.definition.specs.Opcode.{Sheet, opcode}
use Rattle.definition.specs.Rules.{Action, keep, matches}
use Rattle.definition.specs.Emit.{le16, PendingPatch}
use Rattle.definition.specs.Rewrite.{Bytes, boundaries_from, actions, applied, output, OffsetMap, offsets, moved_to, apply_peephole}
use Rattle.definition.specs.Optimize.{Pipeline, map_through, run, identity, optimize}
use Rattle.definition.specs.Compile.{bound_label, displacement, overwrite, patch_jump, patch_jumps}
use Rattle.field.proofs.Lists.{has_here, has-later}
use Rattle.runs.proofs.Passes.{Reads}
use Rattle.runs.proofs.Decoding.{joined, Wholes, decode-joined}
use Rattle.runs.proofs.Rows.{patch_here, to}
use Rattle.runs.proofs.Patched.{aimed_operand, aimed-length, patch_with, patch-one}
use Rattle.counting.proofs.Rows.{Row, unpatched, operand_of, bytes_of, code_of, patches_of, Sized}

-- ---- no rules: every instruction is kept at its place

unfoldable pub diagonal : List ℕ → OffsetMap
diagonal [] = []
diagonal (x ∷ xs) = (x, x) ∷ diagonal xs

unfoldable keeps : List Bytes → List Action
keeps [] = []
keeps (i ∷ is) = keep ∷ keeps is

actions-keep : (s : Sheet) (pass : ℕ) (protected : List ℕ) (at : ℕ) (is : List Bytes) → actions s (λ a b. matches pass [] a b) protected at is ≡ keeps is
unfolding actions keeps matches
actions-keep s pass protected at [] = refl
actions-keep s pass protected at (a ∷ []) = refl
actions-keep s pass protected at (a ∷ b ∷ is) = go (has protected at || has protected (at + length a)) (actions-keep s pass protected (at + length a) (b ∷ is))
  where
    go : (t : Bool) → actions s (λ a b. matches pass [] a b) protected (at + length a) (b ∷ is) ≡ keep ∷ keeps is
        → elim t [ true ↦ keep ∷ actions s (λ a b. matches pass [] a b) protected (at + length a) (b ∷ is) | false ↦ keep ∷ actions s (λ a b. matches pass [] a b) protected (at + length a) (b ∷ is) ] ≡ keep ∷ keep ∷ keeps is
    go true e = ap (λ x. keep ∷ x) e
    go false e = ap (λ x. keep ∷ x) e

output-keep : (is : List Bytes) → output (keeps is) is ≡ joined is
unfolding output keeps joined applied
output-keep [] = refl
output-keep (i ∷ is) = ap (λ x. i ++ x) (output-keep is)

offsets-keep : (is : List Bytes) (at : ℕ) → offsets (keeps is) is at at ≡ diagonal (boundaries_from at is)
unfolding offsets keeps boundaries_from diagonal applied
offsets-keep [] at = refl
offsets-keep (i ∷ is) at = ap (λ x. (at, at) ∷ x) (offsets-keep is (at + length i))

peephole-keep : (s : Sheet) (pass : ℕ) (protected : List ℕ) (is : List Bytes) → Wholes s is
    → apply_peephole s (λ a b. matches pass [] a b) protected (joined is) ≡ (joined is, diagonal (boundaries_from 0 is))
unfolding apply_peephole
peephole-keep s pass protected is w =
    let d = decode-joined s is w in
    ap (λ xs. (output (actions s (λ a b. matches pass [] a b) protected 0 xs) xs, offsets (actions s (λ a b. matches pass [] a b) protected 0 xs) xs 0 0)) d
    ∙ (ap (λ acts. (output acts is, offsets acts is 0 0)) (actions-keep s pass protected 0 is)
    ∙ (ap (λ x. (x, offsets (keeps is) is 0 0)) (output-keep is) ∙ ap (λ x. (joined is, x)) (offsets-keep is 0)))

-- a place of the list is moved to itself
pub moved-diagonal : (xs : List ℕ) (x : ℕ) → has xs x ≡ true → moved_to (diagonal xs) x ≡ x
unfolding diagonal moved_to has
moved-diagonal [] x = λ e. absurd (let z : ◌≡◌ {A = ℕ} 0 1 = cc in omega arith)
moved-diagonal (y ∷ ys) x = go (eqb x y) (eqb y x) refl refl (moved-diagonal ys x)
  where
    go : (a b : Bool) → eqb x y ≡ a → eqb y x ≡ b → (has ys x ≡ true → moved_to (diagonal ys) x ≡ x) → elim a [ true ↦ true | false ↦ has ys x ] ≡ true → elim b [ true ↦ y | false ↦ moved_to (diagonal ys) x ] ≡ x
    go a true p q f e = eqb-true y x q
    go true false p q f e = absurd (let z : ◌≡◌ {A = ℕ} 0 1 = let w = sym (eq-eqb y x (sym (eqb-true x y p))) ∙ q in cc in omega arith)
    go false false p q f e = f e

unfoldable pub Among : List ℕ → List ℕ → Type 0
Among [] ys = Unit {0}
Among (x ∷ xs) ys = (has ys x ≡ true) × Among xs ys

among_later : (y : ℕ) (xs ys : List ℕ) → Among xs ys → Among xs (y ∷ ys)
unfolding Among
among_later y [] ys a = tt
among_later y (x ∷ xs) ys a = (has-later y ys x a.0, among_later y xs ys a.1)

pub among_self : (xs : List ℕ) → Among xs xs
unfolding Among
among_self [] = tt
among_self (x ∷ xs) = (has_here x xs, among_later x xs xs (among_self xs))

through-diagonal : (xs ys : List ℕ) → Among ys xs → map_through (diagonal xs) (diagonal ys) ≡ diagonal ys
unfolding map_through diagonal Among
through-diagonal xs [] a = refl
through-diagonal xs (y ∷ ys) a = ap (λ z. (y, z) ∷ map_through (diagonal xs) (diagonal ys)) (moved-diagonal xs y a.0) ∙ ap (λ z. (y, y) ∷ z) (through-diagonal xs ys a.1)

identity-diagonal : (xs : List ℕ) → map (λ x. (x, x)) xs ≡ diagonal xs
unfolding diagonal
identity-diagonal [] = refl
identity-diagonal (x ∷ xs) = ap (λ z. (x, x) ∷ z) (identity-diagonal xs)

-- the code with the identity map
pub record Same (code : List ℕ) (places : List ℕ) (p : Pipeline) : Type 0 where
  pub bytecode : p.bytecode ≡ code
  pub map : p.map ≡ diagonal places

run-same : (s : Sheet) (pass : ℕ) (is : List Bytes) (p : Pipeline) → Wholes s is → Same (joined is) (boundaries_from 0 is) p → Same (joined is) (boundaries_from 0 is) (run s [] pass p)
unfolding run
run-same s pass is p w h =
    let bs = boundaries_from 0 is in
    let r = ap (λ c. apply_peephole s (λ a b. matches pass [] a b) p.protected c) h.bytecode ∙ peephole-keep s pass p.protected is w in
    record {
      bytecode = ap (λ x. x.0) r;
      map = ap (λ x. map_through x.1 p.map) r ∙ (ap (λ x. map_through (diagonal bs) x) h.map ∙ through-diagonal bs bs (among_self bs));
    }

pub optimize-same : (s : Sheet) (is : List Bytes) (protected : List ℕ) → Wholes s is → Same (joined is) (boundaries_from 0 is) (optimize s [] (joined is) protected)
unfolding optimize identity
optimize-same s is protected w =
    run-same s 3 is _ w (run-same s 2 is _ w (run-same s 1 is _ w (record {
      bytecode = refl;
      map = identity-diagonal _ ∙ ap (λ x. diagonal (boundaries_from 0 x)) (decode-joined s is w);
    })))

-- ---- patching

-- the bytes of a row at place p, whose label's goal is known
unfoldable pub final_bytes : Sheet → (ℕ → ℕ) → ℕ → Row → Bytes
final_bytes s goal p r = opcode s r.role ∷ aimed_operand goal (p + suc (length (operand_of r))) r.aim (operand_of r)

unfoldable pub final_rows : Sheet → (ℕ → ℕ) → ℕ → List Row → List Bytes
final_rows s goal p [] = []
final_rows s goal p (r ∷ rs) = final_bytes s goal p r ∷ final_rows s goal (p + length (bytes_of s r)) rs

pub final-length : (s : Sheet) (goal : ℕ → ℕ) (p : ℕ) (r : Row) → length (final_bytes s goal p r) ≡ length (bytes_of s r)
unfolding final_bytes bytes_of operand_of unpatched aimed_operand
final-length s goal p r = ap suc (go r.aim r.operand)
  where
    go : (a : Option ℕ) (o : List ℕ) → length (aimed_operand goal (p + suc (length (unpatched a o))) a (unpatched a o)) ≡ length (unpatched a o)
    go none o = refl
    go (some l) o = aimed-length {Λ = λ x. 0} {g = 0} goal _ (o ++ (0 ∷ 0 ∷ [])) (to {l = l} refl) (λ b. omega (arith, length-append o (0 ∷ 0 ∷ [])))

unfoldable pub instructions_of : Sheet → List Row → List Bytes
instructions_of s [] = []
instructions_of s (r ∷ rs) = bytes_of s r ∷ instructions_of s rs

pub code-joined : (s : Sheet) (rs : List Row) → joined (instructions_of s rs) ≡ code_of s rs
unfolding joined instructions_of code_of
code-joined s [] = refl
code-joined s (r ∷ rs) = ap (λ x. bytes_of s r ++ x) (code-joined s rs)

module _ (s : Sheet) (labels : List (Option ℕ)) (places : List ℕ) where
  -- where a label's branches lead
  unfoldable pub goal_in : ℕ → ℕ
  goal_in l = moved_to (diagonal places) (bound_label labels l)

  patch-row : (pre rest : List ℕ) (at : ℕ) (r : Row) (ps : List PendingPatch) → at ≡ length pre → has places at ≡ true
      → patch_jumps labels (diagonal places) (patch_here r.aim at (operand_of r) ++ ps) (pre ++ (bytes_of s r ++ rest)) ≡ patch_jumps labels (diagonal places) ps ((pre ++ final_bytes s goal_in at r) ++ rest)
  unfolding bytes_of operand_of final_bytes patch_here unpatched aimed_operand patch_jumps patch_jump patch_with goal_in
  patch-row pre rest at r ps e h = go r.aim r.operand
    where
      op : ℕ
      op = opcode s r.role

      go : (a : Option ℕ) (o : List ℕ)
          → patch_jumps labels (diagonal places) (patch_here a at (unpatched a o) ++ ps) (pre ++ ((op ∷ unpatched a o) ++ rest)) ≡ patch_jumps labels (diagonal places) ps ((pre ++ (op ∷ aimed_operand goal_in (at + suc (length (unpatched a o))) a (unpatched a o))) ++ rest)
      go none o = ap (λ c. patch_jumps labels (diagonal places) ps c) (sym (append_assoc pre (op ∷ o) rest))
      go (some l) o =
          let two : List ℕ = o ++ (0 ∷ 0 ∷ []) in
          let m : moved_to (diagonal places) at ≡ length pre + 0 = moved-diagonal places at h ∙ omega arith in
          ap (λ k. patch_jumps labels (diagonal places) ps (overwrite (k + (length two - 1)) (le16 (displacement (goal_in l) (k + (length two - 1) + 2))) (pre ++ ((op ∷ two) ++ rest)))) m
          ∙ (ap (λ c. patch_jumps labels (diagonal places) ps c) (patch-one {Λ = λ x. 0} {g = 0} goal_in pre op two rest (to {l = l} refl) (λ b. omega (arith, length-append o (0 ∷ 0 ∷ []))))
          ∙ ap (λ k. patch_jumps labels (diagonal places) ps ((pre ++ (op ∷ aimed_operand goal_in (k + suc (length two)) (some l) two)) ++ rest)) (sym e))

  patch-rows : (pre : List ℕ) (at : ℕ) (rs : List Row) → at ≡ length pre → Among (boundaries_from at (instructions_of s rs)) places
      → patch_jumps labels (diagonal places) (patches_of s at rs) (pre ++ code_of s rs) ≡ pre ++ joined (final_rows s goal_in at rs)
  unfolding patches_of code_of joined final_rows boundaries_from instructions_of Among patch_jumps
  patch-rows pre at [] e a = refl
  patch-rows pre at (r ∷ rs) e a =
      let f = final_bytes s goal_in at r in
      let q : at + length (bytes_of s r) ≡ length (pre ++ f) = omega (arith, length-append pre f, final-length s goal_in at r) in
      patch-row pre (code_of s rs) at r (patches_of s (at + length (bytes_of s r)) rs) e a.0
      ∙ (patch-rows (pre ++ f) (at + length (bytes_of s r)) rs q a.1 ∙ append_assoc pre f (joined (final_rows s goal_in (at + length (bytes_of s r)) rs)))

  pub patched-all : (rs : List Row) → Among (boundaries_from 0 (instructions_of s rs)) places → patch_jumps labels (diagonal places) (patches_of s 0 rs) (code_of s rs) ≡ joined (final_rows s goal_in 0 rs)
  patched-all rs a = patch-rows [] 0 rs refl a

-- every row is whole, before and after patching, if the sheet knows its opcodes
module _ (s : Sheet) (known : Reads s) where
  pub wholes : (rs : List Row) → Sized s rs → Wholes s (instructions_of s rs)
  unfolding Wholes instructions_of Sized bytes_of
  wholes [] z = tt
  wholes (r ∷ rs) z = (record { role = r.role; first = opcode s r.role; rest = operand_of r; is = refl; known = known r.role; sized = z.0 }, wholes rs z.1)

  pub final-wholes : (goal : ℕ → ℕ) (p : ℕ) (rs : List Row) → Sized s rs → Wholes s (final_rows s goal p rs)
  unfolding Wholes final_rows Sized final_bytes
  final-wholes goal p [] z = tt
  final-wholes goal p (r ∷ rs) z = (
    record {
      role = r.role;
      first = opcode s r.role;
      rest = aimed_operand goal (p + suc (length (operand_of r))) r.aim (operand_of r);
      is = refl;
      known = known r.role;
      sized = final-length s goal p r ∙ z.0;
    },
    final-wholes goal (p + length (bytes_of s r)) rs z.1,
  )
