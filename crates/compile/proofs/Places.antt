-- Patching by place: each branch's two bytes, and no other byte. So its order does not matter.
use Rattle.std.proofs.Common.{◌≡◌, ℕ, ◌+◌, ◌-◌, ◌<◌, ◌≤◌, List, [], ◌∷◌, ◌++◌, length, get_or, take, drop, refl, ap, ◌∙◌, arith, length-append, length-drop, length-take-le, get_or-drop, get_or-take, get_or-append-add}
use mathlib.Core.Option.{Option}
use lib.ListN.{get_or-append}
use Rattle.definition.specs.Emit.{PendingPatch, le16}
use Rattle.definition.specs.Rewrite.{OffsetMap, moved_to}
use Rattle.definition.specs.Compile.{bound_label, displacement, overwrite, patch_jump, patch_jumps}
use Rattle.definition.specs.Claims.{Either, left, right, Each, empty, ◌also◌}
use Rattle.compile.specs.View.{Inside}

-- ---- two bytes written at a place

module _ (at : ℕ) (two code : List ℕ) (pair : length two ≡ 2) (fits : at + 2 ≤ length code) where
  front : length (take at code) ≡ at
  front = length-take-le at code (omega arith)

  pub byte-there : (k : ℕ) → k < 2 → get_or (overwrite at two code) (at + k) 0 ≡ get_or two k 0
  unfolding overwrite
  byte-there k h =
      let e : at + k ≡ length (take at code) + k = omega (arith, front) in
      ap (λ (x : ℕ). get_or (take at code ++ (two ++ drop (at + 2) code)) x 0) e ∙ get_or-append-add (take at code) (two ++ drop (at + 2) code) k 0 ∙ get_or-append two (drop (at + 2) code) 0 k (omega arith)

  pub byte-before : (x : ℕ) → x < at → get_or (overwrite at two code) x 0 ≡ get_or code x 0
  unfolding overwrite
  byte-before x h = get_or-append (take at code) (two ++ drop (at + 2) code) 0 x (omega (arith, front)) ∙ get_or-take at code x 0 h

  behind : (k : ℕ) → get_or (overwrite at two code) (at + 2 + k) 0 ≡ get_or code (at + 2 + k) 0
  unfolding overwrite
  behind k =
      let e : at + 2 + k ≡ length (take at code) + (length two + k) = omega (arith, front) in
      ap (λ (x : ℕ). get_or (take at code ++ (two ++ drop (at + 2) code)) x 0) e ∙ get_or-append-add (take at code) (two ++ drop (at + 2) code) (length two + k) 0
      ∙ get_or-append-add two (drop (at + 2) code) k 0 ∙ get_or-drop (at + 2) code k 0

  pub byte-behind : (x : ℕ) → at + 2 ≤ x → get_or (overwrite at two code) x 0 ≡ get_or code x 0
  byte-behind x h =
      let e : x ≡ at + 2 + (x - (at + 2)) = omega arith in
      rw e (behind (x - (at + 2)))

  pub length_over : length (overwrite at two code) ≡ length code
  unfolding overwrite
  length_over = rw (length-append, length-append, front, pair, length-drop) (omega arith)

-- ---- the branches

module _ (labels : List (Option ℕ)) (m : OffsetMap) where
  -- where a branch's two bytes are, and what they are
  abbrev pub operand_place : PendingPatch → ℕ
  operand_place p = moved_to m p.instruction_offset + p.operand_delta

  abbrev pub offset_bytes : PendingPatch → List ℕ
  offset_bytes p = le16 (displacement (moved_to m (bound_label labels p.label)) (operand_place p + 2))

  pair : (p : PendingPatch) → length (offset_bytes p) ≡ 2
  unfolding le16
  pair p = refl

  -- a place that is neither of a branch's two
  pub Apart : ℕ → PendingPatch → Type 0
  Apart x p = Either (x < operand_place p) (operand_place p + 2 ≤ x)

  one_kept : (p : PendingPatch) (code : List ℕ) (x : ℕ) → Inside m (length code) p → Apart x p → get_or (patch_jump labels m p code) x 0 ≡ get_or code x 0
  unfolding patch_jump Apart
  one_kept p code x i (left h) = byte-before (operand_place p) (offset_bytes p) code (pair p) i.is x h
  one_kept p code x i (right h) = byte-behind (operand_place p) (offset_bytes p) code (pair p) i.is x h

  one-long : (p : PendingPatch) (code : List ℕ) → Inside m (length code) p → length (patch_jump labels m p code) ≡ length code
  unfolding patch_jump
  one-long p code i = length_over (operand_place p) (offset_bytes p) code (pair p) i.is

  others : {P : PendingPatch} (code : List ℕ) (ps : List PendingPatch) → Inside m (length code) P → Each (Inside m (length code)) ps → Each (Inside m (length (patch_jump labels m P code))) ps
  others {P} code ps i is = rw (one-long P code i) is

  -- no other byte
  pub bytes-kept : (ps : List PendingPatch) (code : List ℕ) (x : ℕ) → Each (Inside m (length code)) ps → Each (Apart x) ps → get_or (patch_jumps labels m ps code) x 0 ≡ get_or code x 0
  unfolding patch_jumps
  bytes-kept [] code x empty empty = refl
  bytes-kept (p ∷ ps) code x (i also is) (a also bs) = bytes-kept ps (patch_jump labels m p code) x (others code ps i is) bs ∙ one_kept p code x i a

  -- each branch's two bytes, wherever it stands in the order, if those behind it in the order are apart
  pub bytes-there : (qs ps : List PendingPatch) (p : PendingPatch) (code : List ℕ) (k : ℕ) → k < 2 → Each (Inside m (length code)) (qs ++ (p ∷ ps)) → Each (Apart (operand_place p + k)) ps
      → get_or (patch_jumps labels m (qs ++ (p ∷ ps)) code) (operand_place p + k) 0 ≡ get_or (offset_bytes p) k 0
  unfolding patch_jumps patch_jump
  bytes-there [] ps p code k h (i also is) bs = bytes-kept ps (patch_jump labels m p code) (operand_place p + k) (others code ps i is) bs ∙ byte-there (operand_place p) (offset_bytes p) code (pair p) i.is k h
  bytes-there (q ∷ qs) ps p code k h (i also is) bs = bytes-there qs ps p (patch_jump labels m q code) k h (others code (qs ++ (p ∷ ps)) i is) bs
