-- Refusals with their places, as entries of one list that is computed.
use Rattle.std.specs.Prelude.{ℕ, ◌-◌, ◌*◌, suc, zero, ◌≡◌, refl, List, [], ◌∷◌, ◌++◌, Bool, true, false, ◌&&◌, not}
use Prim.Native.String.{String}
use Rattle.std.proofs.Math.Option.{Option, some}
use Rattle.definition.specs.Limits.{max_code, max_constants, max_lines, entry_size}
use Rattle.definition.specs.Res.{Res, ok, refuse}
use Rattle.definition.specs.Sheet.{sheet_fault}
use Rattle.definition.specs.Emit.{PendingPatch}
use Rattle.definition.specs.Rewrite.{OffsetMap}
use Rattle.definition.specs.Compile.{near, in_reach, compile_files, compile_into}
use Rattle.definition.specs.Alone.{rewrite_files}
use Rattle.definition.specs.Cases.{bytes, plain_sheet, same, open-Definition}

-- a refusal's number and place; nothing for an answer
unfoldable pub refusal_of : {A : Type 0} → Res A → List ℕ
refusal_of (ok a) = []
refusal_of (refuse n p) = n ∷ p ∷ []

unfoldable pub program : String → List ℕ
program p = refusal_of (compile_files 0 plain_sheet [] (bytes p))

unfoldable pub alone : String → List ℕ → List ℕ → List ℕ → List ℕ
alone rules code protected lines = refusal_of (rewrite_files 0 plain_sheet (bytes rules) (record { code = code; protected = protected; lines = lines }))

unfoldable pub repeatedly : ℕ → List ℕ → List ℕ
repeatedly zero t = []
repeatedly (suc n) t = t ++ repeatedly n t

-- v0 := - - .. 1, with n signs
unfoldable pub signs : ℕ → List ℕ
signs n = refusal_of (compile_files 0 plain_sheet [] (bytes "P,1,1,1,1\nA,1,1,0\n" ++ repeatedly n (bytes "U,0\n") ++ bytes "K,1\n"))

-- what is answered, and what document 01 says
unfoldable pub refusals : List (List ℕ × List ℕ)
refusals =
    -- no LF at the end
    (program "P,0,0,1,1", 1 ∷ 0 ∷ [])
    -- 2 before 3 on a line, whatever the fields' order
    ∷ (program "P,1,1,1,1\nA,65536,-0,0\nK,1\n", 2 ∷ 2 ∷ [])
    -- 2,147,483,648 is no signed 32-bit number
    ∷ (program "P,1,1,1,1\nA,1,1,0\nK,2147483648\n", 3 ∷ 3 ∷ [])
    -- a loop whose `continuing` is its own EXIT
    ∷ (program "P,0,1,1,1\nL,1,1,0,0,1\nX,2,1,0\n", 4 ∷ 3 ∷ [])
    -- nesting 64 passes, 65 is refused
    ∷ (signs 62, [])
    ∷ (signs 63, 5 ∷ 66 ∷ [])
    -- a line left over, whatever it holds
    ∷ (program "P,0,0,1,1\n\n", 6 ∷ 2 ∷ [])
    -- a rule that takes a value off the stack, before an empty program
    ∷ (refusal_of (compile_files 0 plain_sheet (bytes "1,2,3,1,0,1,0,1,0\n1,2,3,0,0,1,0,0,0\n") []), 9 ∷ 2 ∷ [])
    -- a lent output shorter than its limit, before a bad sheet
    ∷ (refusal_of (compile_into 0 (record { code = max_code; constants = max_constants - 1; lines = max_lines * entry_size }) [] [] []), 14 ∷ 0 ∷ [])
    -- called alone: a cut instruction before a bad protected offset, and a line offset inside an instruction
    ∷ (alone "" (1 ∷ 3 ∷ 0 ∷ []) (7 ∷ []) [], 8 ∷ 1 ∷ [])
    ∷ (alone "" (3 ∷ 0 ∷ 0 ∷ 2 ∷ []) (4 ∷ 0 ∷ []) (3 ∷ 1 ∷ 1 ∷ 2 ∷ 1 ∷ 1 ∷ []), 8 ∷ 2 ∷ [])
    ∷ []

unfoldable pub all_same : List (List ℕ × List ℕ) → Bool
all_same [] = true
all_same (x ∷ xs) = same x.0 x.1 && all_same xs

pub refusals-right : all_same refusals ≡ true
unfolding open-Definition bytes plain_sheet same refusal_of program alone repeatedly signs refusals all_same
refusals-right = refl

-- of a repeated opcode 7 may name either field, and no other
unfoldable pub twice : List ℕ
twice = bytes "1,2,3,4,5,6,7,8,9,10,11,12,13,14,15,16,17,18,19,20,21,22,23,24,25,26,3,1,2,3,4,5,6\n"

pub twice-right : (sheet_fault twice 3 && sheet_fault twice 27 ≡ true) × (sheet_fault twice 28 ≡ false) × (sheet_fault twice 0 ≡ false)
unfolding open-Definition bytes twice
twice-right = (refl, refl, refl)

-- ---- 15 (document 02, L1). A text whose branches are far is too long to be computed here: places, and where a few branches are moved, are

-- a target and a next place, near at most so far
unfoldable pub near_pairs : List (ℕ × ℕ)
near_pairs = (0, 32768) ∷ (32767, 0) ∷ (32767, 65535) ∷ (65535, 32768) ∷ []

-- one byte further; and those that are near only where the number wraps
unfoldable pub far_pairs : List (ℕ × ℕ)
far_pairs = (0, 32769) ∷ (32768, 0) ∷ (32766, 65535) ∷ (65535, 32767) ∷ (0, 65535) ∷ (65535, 3) ∷ []

unfoldable pub all : {A : Type 0} → (A → Bool) → List A → Bool
all f [] = true
all f (x ∷ xs) = f x && all f xs

pub near-right : all (λ (x : ℕ × ℕ). near x.0 x.1) near_pairs && all (λ (x : ℕ × ℕ). not (near x.0 x.1)) far_pairs ≡ true
unfolding open-Definition near_pairs far_pairs all
near-right = refl

unfoldable pub jmp_at : ℕ → ℕ → PendingPatch
jmp_at at l = record { instruction_offset = at; operand_delta = 1; label = l }

unfoldable pub cmp_br_at : ℕ → ℕ → PendingPatch
cmp_br_at at l = record { instruction_offset = at; operand_delta = 6; label = l }

unfoldable pub reaches : List (Option ℕ) → OffsetMap → List PendingPatch → List ℕ
reaches labels m ps = refusal_of (in_reach labels m ps)

unfoldable pub reached : List (List ℕ × List ℕ)
reached =
    -- a JMP and a CMP_BR forward and back, just near and just not: next place is behind all of the instruction
    (reaches (some 32770 ∷ []) ((0, 0) ∷ (32770, 32770) ∷ []) (jmp_at 0 0 ∷ []), [])
    ∷ (reaches (some 32771 ∷ []) ((0, 0) ∷ (32771, 32771) ∷ []) (jmp_at 0 0 ∷ []), 15 ∷ 0 ∷ [])
    ∷ (reaches (some 32775 ∷ []) ((0, 0) ∷ (32775, 32775) ∷ []) (cmp_br_at 0 0 ∷ []), [])
    ∷ (reaches (some 32776 ∷ []) ((0, 0) ∷ (32776, 32776) ∷ []) (cmp_br_at 0 0 ∷ []), 15 ∷ 0 ∷ [])
    ∷ (reaches (some 2 ∷ []) ((2, 2) ∷ (32767, 32767) ∷ []) (jmp_at 32767 0 ∷ []), [])
    ∷ (reaches (some 1 ∷ []) ((1, 1) ∷ (32767, 32767) ∷ []) (jmp_at 32767 0 ∷ []), 15 ∷ 32767 ∷ [])
    -- far where it was emitted, near where the passes moved it
    ∷ (reaches (some 40000 ∷ []) ((3, 3) ∷ (40000, 20000) ∷ []) (jmp_at 3 0 ∷ []), [])
    -- its place is that in finished code
    ∷ (reaches (some 0 ∷ []) ((0, 0) ∷ (50000, 40000) ∷ []) (jmp_at 50000 0 ∷ []), 15 ∷ 40000 ∷ [])
    -- of two the lower, though it leads further
    ∷ (reaches (some 60000 ∷ some 40000 ∷ []) ((3, 3) ∷ (6, 6) ∷ (40000, 40000) ∷ (60000, 60000) ∷ []) (jmp_at 3 0 ∷ jmp_at 6 1 ∷ []), 15 ∷ 3 ∷ [])
    -- of two the far one
    ∷ (reaches (some 0 ∷ some 60000 ∷ []) ((0, 0) ∷ (3, 3) ∷ (6, 6) ∷ (60000, 60000) ∷ []) (jmp_at 3 0 ∷ jmp_at 6 1 ∷ []), 15 ∷ 6 ∷ [])
    ∷ []

pub reached-right : all_same reached ≡ true
unfolding open-Definition same refusal_of all_same jmp_at cmp_br_at reaches reached
reached-right = refl
