-- The emitter (emit.rs, and the pool of compile.rs): what each of its methods does to the code, the labels, the pending patches, the
-- line map, the constants and the stack depth, with refusals 10 to 13.
use Rattle.std.specs.Prelude.{ℕ, ◌+◌, ◌-◌, ◌/◌, ◌%◌, suc, max, List, [], ◌∷◌, ◌++◌, Bool, true, false, ◌&&◌, eqb, leb, ltb, length, take, drop, set}
use Rattle.std.proofs.Math.Option.{Option, some, none}
use Rattle.definition.specs.Limits.{max_code, max_labels, max_lines, max_constants, code_full, labels_full, lines_full, constants_full}
use Rattle.definition.specs.Res.{Res, ok, refuse, ◌>>=◌, ◌>>◌, demand}
use Rattle.definition.specs.Opcode.{Role, dup, load_var, store_var, load_const, jmp, jmp_if_not, cmp_br, CompareOp, Sheet, opcode, comparison_byte, effect, shift}
use Rattle.definition.specs.Tree.{Constant, same_constant, Pos, Fault}

-- ---- state

-- the instruction that a load may fold into: the source's `last_load` and `last_store`, of which at most one is set
pub data Last : Type 0 where
  other : Last
  loaded : ℕ → Last
  stored : ℕ → Last

-- byte position of the branch operand in a JMP or JMP_IF_NOT, and in a CMP_BR
abbrev pub jmp_operand_delta : ℕ
jmp_operand_delta = 1

abbrev pub cmp_br_operand_delta : ℕ
cmp_br_operand_delta = 6

pub record PendingPatch : Type 0 where
  pub instruction_offset : ℕ
  pub operand_delta : ℕ
  pub label : ℕ

-- a line entry
pub record LineEntry : Type 0 where
  pub offset : ℕ
  pub pos : Pos

pub record Emitter : Type 0 where
  pub bytecode : List ℕ
  pub labels : List (Option ℕ)
  pub patches : List PendingPatch
  pub line_map : List LineEntry
  pub constants : List Constant
  pub last : Last
  pub depth : ℕ
  pub max_depth : ℕ
  pub position : Pos

unfoldable pub emitter_at : Pos → Emitter
emitter_at p = record { bytecode = []; labels = []; patches = []; line_map = []; constants = []; last = other; depth = 0; max_depth = 0; position = p }

-- ---- adding an instruction

-- a 16-bit operand, low byte first
unfoldable pub le16 : ℕ → List ℕ
le16 n = n % 256 ∷ n / 256 ∷ []

unfoldable pub last_entry : List LineEntry → Option LineEntry
last_entry [] = none
last_entry (x ∷ []) = some x
last_entry (x ∷ y ∷ ys) = last_entry (y ∷ ys)

unfoldable pub same_pos : Pos → Pos → Bool
same_pos p q = eqb p.line q.line && eqb p.column q.column

unfoldable pub stands_at : Pos → Option LineEntry → Bool
stands_at p none = false
stands_at p (some x) = same_pos x.pos p

-- `record_position_for_next_opcode`: the line map once an instruction is about to be added
unfoldable pub recorded : Emitter → Res (List LineEntry)
recorded e = elim (stands_at e.position (last_entry e.line_map)) [
  | true ↦ ok e.line_map
  | false ↦ demand (ltb (length e.line_map) max_lines) lines_full 0 >> ok (e.line_map ++ (record { offset = length e.bytecode; pos = e.position } ∷ []))
]

-- the emitter with an instruction more
unfoldable pub added : Sheet → Role → List ℕ → Last → List LineEntry → Emitter → Emitter
added s r operand l entries e = record {
  bytecode = e.bytecode ++ (opcode s r ∷ operand);
  labels = e.labels;
  patches = e.patches;
  line_map = entries;
  constants = e.constants;
  last = l;
  depth = shift (effect r) e.depth;
  max_depth = max e.max_depth (shift (effect r) e.depth);
  position = e.position;
}

-- an instruction of role r with these operand bytes, after which l holds
unfoldable pub add : Sheet → Role → List ℕ → Last → Emitter → Res Emitter
add s r operand l e = do
  demand (leb (length e.bytecode + suc (length operand)) max_code) code_full 0
  entries ← recorded e
  ok (added s r operand l entries e)

-- ---- loads, with the two foldings (`emit_load_with_dup_check`)

-- a DUP put before the store of three bytes that ends the code; no line entry is added or moved
unfoldable pub folded : Sheet → Emitter → Emitter
folded s e = record {
  bytecode = take (length e.bytecode - 3) e.bytecode ++ (opcode s dup ∷ drop (length e.bytecode - 3) e.bytecode);
  labels = e.labels;
  patches = e.patches;
  line_map = e.line_map;
  constants = e.constants;
  last = other;
  depth = suc e.depth;
  max_depth = max e.max_depth (suc (suc e.depth));
  position = e.position;
}

unfoldable pub fold_store : Sheet → Emitter → Res Emitter
fold_store s e = demand (ltb (length e.bytecode) max_code) code_full 0 >> ok (folded s e)

unfoldable pub load_after : Last → Sheet → ℕ → Emitter → Res Emitter
load_after other s v e = add s load_var (le16 v) (loaded v) e
load_after (loaded w) s v e = elim (eqb w v) [ true ↦ add s dup [] other e | false ↦ add s load_var (le16 v) (loaded v) e ]
load_after (stored w) s v e = elim (eqb w v) [ true ↦ fold_store s e | false ↦ add s load_var (le16 v) (loaded v) e ]

-- ---- the pool: equal constants share an index, new ones are appended (`intern_i32_constant`)

-- where k stands first; the length where it stands nowhere
unfoldable pub index_of : Constant → List Constant → ℕ
index_of k [] = 0
index_of k (x ∷ xs) = elim (same_constant x k) [ true ↦ 0 | false ↦ suc (index_of k xs) ]

unfoldable pub with_constant : Constant → Emitter → Emitter
with_constant k e = record {
  bytecode = e.bytecode;
  labels = e.labels;
  patches = e.patches;
  line_map = e.line_map;
  constants = e.constants ++ (k ∷ []);
  last = e.last;
  depth = e.depth;
  max_depth = e.max_depth;
  position = e.position;
}

unfoldable pub pooled_if : Bool → Constant → Emitter → Res Emitter
pooled_if true k e = ok e
pooled_if false k e = demand (ltb (length e.constants) max_constants) constants_full 0 >> ok (with_constant k e)

unfoldable pub pooled : Constant → Emitter → Res Emitter
pooled k e = pooled_if (ltb (index_of k e.constants) (length e.constants)) k e

-- ---- labels, patches and the rest of the state

unfoldable pub patched : PendingPatch → Emitter → Emitter
patched p e = record {
  bytecode = e.bytecode;
  labels = e.labels;
  patches = e.patches ++ (p ∷ []);
  line_map = e.line_map;
  constants = e.constants;
  last = e.last;
  depth = e.depth;
  max_depth = e.max_depth;
  position = e.position;
}

unfoldable pub labelled : List (Option ℕ) → Last → Emitter → Emitter
labelled ls l e = record {
  bytecode = e.bytecode;
  labels = ls;
  patches = e.patches;
  line_map = e.line_map;
  constants = e.constants;
  last = l;
  depth = e.depth;
  max_depth = e.max_depth;
  position = e.position;
}

unfoldable pub settled : ℕ → Pos → Emitter → Emitter
settled d p e = record {
  bytecode = e.bytecode;
  labels = e.labels;
  patches = e.patches;
  line_map = e.line_map;
  constants = e.constants;
  last = e.last;
  depth = d;
  max_depth = e.max_depth;
  position = p;
}

-- a branch, and the patch of its offset, which is 0 until then
unfoldable pub branch : Sheet → Role → List ℕ → ℕ → ℕ → Emitter → Res Emitter
branch s r operand delta l e =
    add s r (operand ++ le16 0) other e >>= λ e'. ok (patched (record { instruction_offset = length e.bytecode; operand_delta = delta; label = l }) e')

-- ---- the emitter's methods, as calls. A label is a number, counted as labels are created, and never an offset

pub data Call : Type 0 where
  -- a new label; the emitter makes nothing of the height at which it will be bound
  create_label : ℕ → Call
  bind_label : ℕ → Call
  load_variable : ℕ → Call
  store_variable : ℕ → Call
  load_constant : Constant → Call
  -- a constant that enters the pool before the instruction that names it
  add_constant : Constant → Call
  -- an instruction of one byte
  emit_opcode : Role → Call
  emit_jmp : ℕ → Call
  emit_jmp_if_not : ℕ → Call
  -- comparison, variable, constant, label
  emit_cmp_br : CompareOp → ℕ → Constant → ℕ → Call
  reset_stack_depth : ℕ → Call
  set_position : Pos → Call
  -- emission meets a refusal
  refused : Fault → Call

unfoldable pub act : Sheet → Call → Emitter → Res Emitter
act s (create_label h) e = demand (ltb (length e.labels) max_labels) labels_full 0 >> ok (labelled (e.labels ++ (none ∷ [])) e.last e)
act s (bind_label l) e = ok (labelled (set e.labels l (some (length e.bytecode))) other e)
act s (load_variable v) e = load_after e.last s v e
act s (store_variable v) e = add s store_var (le16 v) (stored v) e
act s (load_constant k) e = pooled k e >>= λ e'. add s load_const (le16 (index_of k e'.constants)) other e'
act s (add_constant k) e = pooled k e
act s (emit_opcode r) e = add s r [] other e
act s (emit_jmp l) e = branch s jmp [] jmp_operand_delta l e
act s (emit_jmp_if_not l) e = branch s jmp_if_not [] jmp_operand_delta l e
act s (emit_cmp_br c v k l) e = pooled k e >>= λ e'. branch s cmp_br (comparison_byte s c ∷ le16 v ++ le16 (index_of k e'.constants)) cmp_br_operand_delta l e'
act s (reset_stack_depth h) e = ok (settled h e.position e)
act s (set_position p) e = ok (settled e.depth p e)
act s (refused f) e = refuse f.number f.place

-- the calls in order, up to the first that is refused
unfoldable pub acts : Sheet → List Call → Emitter → Res Emitter
acts s [] e = ok e
acts s (c ∷ cs) e = act s c e >>= λ e'. acts s cs e'

-- `unfolding open-Emit` names all of this module's definitions at once
unfoldable pub open-Emit : Unit {0}
unfolding emitter_at le16 last_entry same_pos stands_at recorded added add folded fold_store load_after index_of with_constant pooled_if pooled patched labelled settled branch act acts
open-Emit = tt
