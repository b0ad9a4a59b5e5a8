-- One pass of pair rewriting (optimize/rewrite.rs).
use Rattle.std.specs.Prelude.{ℕ, ◌+◌, ◌-◌, ◌*◌, suc, zero, List, [], ◌∷◌, ◌++◌, Bool, true, false, ◌||◌, eqb, leb, length, get_or, drop}
use Rattle.std.proofs.Math.Option.{Option, some, none}
use Rattle.definition.specs.Field.{onto, has}
use Rattle.definition.specs.Opcode.{Role, Sheet, role_of, size}
use Rattle.definition.specs.Rules.{Action, keep, remove, rewrite_operand, Instruction}
use Rattle.definition.specs.Emit.{le16}

-- ---- decoding

-- an instruction's own bytes
abbrev pub Bytes : Type 0
Bytes = List ℕ

unfoldable pub opcode_of : Bytes → ℕ
opcode_of i = get_or i 0 0

-- `u16_operand`
unfoldable pub operand_of : Bytes → ℕ
operand_of i = get_or i 1 0 + 256 * get_or i 2 0

-- does an instruction of this role, of whose bytes the first is read, end within n more?
unfoldable pub ends : Option Role → ℕ → Bool
ends none n = false
ends (some r) n = leb (size r) (suc n)

unfoldable pub size_or1 : Option Role → ℕ
size_or1 none = 1
size_or1 (some r) = size r

-- code cut into instructions: the head is what n more bytes give the one that is open. It stops at an unlisted opcode and at an
-- instruction that the end cuts off.
unfoldable pub cut : Sheet → List ℕ → ℕ → List Bytes
cut s [] n = [] ∷ []
cut s (b ∷ bs) (suc n) = onto b (cut s bs n)
cut s (b ∷ bs) zero = elim (ends (role_of s b) (length bs)) [
  | true ↦ [] ∷ onto b (cut s bs (size_or1 (role_of s b) - 1))
  | false ↦ [] ∷ []
]

-- the instructions met by decoding from byte 0
unfoldable pub decode : Sheet → List ℕ → List Bytes
decode s code = drop 1 (cut s code 0)

-- where they start, the first at `at`, and where the last one ends
unfoldable pub starts_from : ℕ → List Bytes → List ℕ
starts_from at [] = []
starts_from at (i ∷ is) = at ∷ starts_from (at + length i) is

unfoldable pub end_from : ℕ → List Bytes → ℕ
end_from at [] = at
end_from at (i ∷ is) = end_from (at + length i) is

-- the starts and that end
unfoldable pub boundaries_from : ℕ → List Bytes → List ℕ
boundaries_from at [] = at ∷ []
boundaries_from at (i ∷ is) = at ∷ boundaries_from (at + length i) is

unfoldable pub instruction : Sheet → Bytes → Instruction
instruction s i = record { role = role_of s (opcode_of i); operand = operand_of i }

-- ---- one pass

-- what a pass asks of two neighbours (the source's closure `matches`)
abbrev pub Matcher : Type 0
Matcher = Instruction → Instruction → Option (Action × Action)

-- an action for each instruction, the first of which starts at `at`: left to right, a pair with either start protected skipped by one, a
-- match advancing by two
unfoldable pub actions : Sheet → Matcher → List ℕ → ℕ → List Bytes → List Action
actions s matches protected at [] = []
actions s matches protected at (a ∷ []) = keep ∷ []
actions s matches protected at (a ∷ b ∷ is) = elim (has protected at || has protected (at + length a)) [
  | true ↦ keep ∷ actions s matches protected (at + length a) (b ∷ is)
  | false ↦ elim (matches (instruction s a) (instruction s b)) [
    | some two ↦ two.0 ∷ two.1 ∷ actions s matches protected (at + length a + length b) is
    | none ↦ keep ∷ actions s matches protected (at + length a) (b ∷ is)
  ]
]

-- what an action leaves of an instruction
unfoldable pub applied : Action → Bytes → List ℕ
applied keep i = i
applied remove i = []
applied (rewrite_operand n) i = opcode_of i ∷ le16 n

unfoldable pub output : List Action → List Bytes → List ℕ
output [] is = []
output (a ∷ acts) [] = []
output (a ∷ acts) (i ∷ is) = applied a i ++ output acts is

-- old offsets with their new ones: every start, and the end. A removed start has the next survivor's place
abbrev pub OffsetMap : Type 0
OffsetMap = List (ℕ × ℕ)

unfoldable pub offsets : List Action → List Bytes → ℕ → ℕ → OffsetMap
offsets [] is old new = (old, new) ∷ []
offsets (a ∷ acts) [] old new = (old, new) ∷ []
offsets (a ∷ acts) (i ∷ is) old new = (old, new) ∷ offsets acts is (old + length i) (new + length (applied a i))

-- the new offset of an old one
unfoldable pub moved_to : OffsetMap → ℕ → ℕ
moved_to [] x = 0
moved_to (p ∷ ps) x = elim (eqb p.0 x) [ true ↦ p.1 | false ↦ moved_to ps x ]

-- `apply_peephole`: the bytes, and the map
unfoldable pub apply_peephole : Sheet → Matcher → List ℕ → List ℕ → List ℕ × OffsetMap
apply_peephole s matches protected code =
    let is = decode s code in
    let acts = actions s matches protected 0 is in
    (output acts is, offsets acts is 0 0)

-- `unfolding open-Rewrite` names all of this module's definitions at once
unfoldable pub open-Rewrite : Unit {0}
unfolding opcode_of operand_of ends size_or1 cut decode starts_from end_from boundaries_from instruction actions applied output offsets moved_to apply_peephole
open-Rewrite = tt
