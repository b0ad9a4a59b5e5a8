-- What this crate's functions give, said of the definition.
use Rattle.std.specs.Prelude.{◌≡◌, ℕ, ◌+◌, ◌/◌, ◌≤◌, List, map, length}
use Rattle.std.specs.Prelude as std
use Rattle.std.specs.Prelude.{Some, None, Result, Ok, Err}
use Rattle.std.proofs.Math.Option.{Option}
use Rattle.definition.specs.Limits.{far_branch}
use Rattle.definition.specs.Res.{Res, ok, refuse, ◌>>◌, demand}
use Rattle.definition.specs.Opcode.{Sheet}
use Rattle.definition.specs.Rules.{Rule}
use Rattle.definition.specs.Emit as def
use Rattle.definition.specs.Emit.{PendingPatch}
use Rattle.definition.specs.Rewrite.{OffsetMap, moved_to}
use Rattle.definition.specs.Optimize.{Pipeline, optimize}
use Rattle.definition.specs.Lent.{filled, zeros, entry_numbers}
use Rattle.definition.specs.Compile as compile
use Rattle.definition.specs.Compile.{bound_label, jump_targets, near, in_reach, finalize_function}
use Rattle.definition.specs.Claims.{Each}
use Rattle.rewrite.specs.View.{small_code, middle_code}
use Rattle.optimize.specs.View.{map_in}
use Rattle.emit.specs.declared.Emitter.{Emitter}
use Rattle.emit.specs.Book.{labels_in, patches_in}
use Rattle.emit.specs.View.{world, state}
use Rattle.compile.specs.declared.FinalizedFunction.{FinalizedFunction}
use Rattle.compile.specs.declared.Branch.{Branch}

-- ---- branches

-- targets of small and of middle code: a branch has three bytes or more
abbrev pub small_branches : ℕ
small_branches = small_code / 3

abbrev pub middle_branches : ℕ
middle_branches = middle_code / 3

-- the places where the labels of pending patches are bound
unfoldable pub targets_of : List (Option ℕ) → List PendingPatch → List ℕ
targets_of labels patches = map (λ (p : PendingPatch). bound_label labels p.label) patches

-- in a book
abbrev pub targets_in : Emitter → List ℕ → List ℕ
targets_in e book = targets_of (labels_in book e.labels) (patches_in book e.patches)

-- a patch's label is bound within code of this size
pub record BoundIn (size : ℕ) (labels : List (Option ℕ)) (p : PendingPatch) : Type 0 where
  pub is : bound_label labels p.label ≤ size

-- its two bytes lie in code of this size, once it is moved
pub record Inside (m : OffsetMap) (size : ℕ) (p : PendingPatch) : Type 0 where
  pub is : moved_to m p.instruction_offset + p.operand_delta + 2 ≤ size

-- a branch where a map moves it: its own place, the place behind it, and its target's
pub record IsBranch (labels : List (Option ℕ)) (m : OffsetMap) (p : PendingPatch) (b : Branch) : Type 0 where
  pub from : b.from ≡ moved_to m p.instruction_offset
  pub next : b.next ≡ moved_to m p.instruction_offset + p.operand_delta + 2
  pub target : b.target ≡ moved_to m (bound_label labels p.label)

-- 15, of one branch
abbrev pub demanded : Branch → Res (Unit {0})
demanded b = demand (near b.target b.next) far_branch b.from

-- the first far branch
abbrev pub reach_view : std.Option ℕ → Res (Unit {0})
reach_view None = ok tt
reach_view (Some x) = refuse far_branch x

-- what the three passes make of emitted code
abbrev pub passed : Sheet → List Rule → def.Emitter → Pipeline
passed s rules d = optimize s rules d.bytecode (jump_targets d)

-- emitted code whose branches can be patched: whatever a program's emission gives is such (crate runs)
pub record Patchable (s : Sheet) (rules : List Rule) (d : def.Emitter) : Type 0 where
  pub bound : Each (BoundIn (length d.bytecode) d.labels) d.patches
  pub inside : Each (Inside (passed s rules d).map (length (passed s rules d).bytecode)) d.patches

-- ---- what the functions give

-- the code after three passes and then 0, and a table that moves as their composed map does; the code's length is answered
pub record Moved (p : Pipeline) (code code' total' : List ℕ) (r : ℕ) : Type 0 where
  pub bytes : code' ≡ filled (length code) p.bytecode
  pub end : r ≡ length p.bytecode
  pub within : r ≤ length code
  pub moved : (x : ℕ) → moved_to (map_in total') x ≡ moved_to p.map x

-- finished code and line list in the lent outputs, and 0 up to their ends
pub record Holds (f : compile.FinalizedFunction) (bytes numbers bytes' numbers' : List ℕ) (r : FinalizedFunction) : Type 0 where
  pub code : bytes' ≡ filled (length bytes) f.bytecode
  pub lines : numbers' ≡ filled (length numbers) (entry_numbers f.line_map)
  pub size : r.size ≡ length f.bytecode
  pub depth : r.max_stack_depth ≡ f.depth
  pub entries : r.entries ≡ length f.line_map

-- 15, else finished code
abbrev pub finalizing : Sheet → List Rule → def.Emitter → Res compile.FinalizedFunction
finalizing s rules d = in_reach d.labels (passed s rules d).map d.patches >> ok (finalize_function s rules d)

-- what that comes to, with f for finished code; outputs of 0 behind 15
abbrev pub Comes : Res compile.FinalizedFunction → compile.FinalizedFunction → List ℕ → List ℕ → List ℕ → List ℕ → Result FinalizedFunction ℕ → Type 0
Comes x f bytes numbers bytes' numbers' (Ok r) = (x ≡ ok f) × Holds f bytes numbers bytes' numbers' r
Comes x f bytes numbers bytes' numbers' (Err p) = (x ≡ refuse far_branch p) × (bytes' ≡ zeros (length bytes)) × (numbers' ≡ zeros (length numbers))

-- whatever the pool, which is finished as it stands
pub record Finalizes (s : Sheet) (rules : List Rule) (e : Emitter) (code book lines code' lines' : List ℕ) (r : Result FinalizedFunction ℕ) : Type 0 where
  pub is : (pool : List ℕ) → Comes (finalizing s rules (state (world e code book pool))) (finalize_function s rules (state (world e code book pool))) code lines code' lines' r
