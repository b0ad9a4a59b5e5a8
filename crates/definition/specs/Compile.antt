-- The whole call (compile.rs `finalize_function`, emit.rs `patch_jumps`): three files in, finished code, constants, line list and depth
-- out, or one refusal; and every element of the lent outputs.
use Rattle.std.specs.Prelude.{ℕ, ◌+◌, ◌-◌, ◌*◌, ◌%◌, ◌≡◌, List, [], ◌∷◌, ◌++◌, map, Bool, true, ◌&&◌, leb, length, get_or, take, drop}
use Rattle.std.proofs.Math.Option.{Option, some, none}
use Rattle.definition.specs.Limits.{max_code, max_back, max_forward, max_constants, max_lines, entry_size, bad_sheet, output_short, far_branch}
use Rattle.definition.specs.Res.{Res, ok, refuse, ◌>>=◌, ◌>>◌, demand, given}
use Rattle.definition.specs.Opcode.{Sheet}
use Rattle.definition.specs.Sheet.{read_sheet, sheet_fault}
use Rattle.definition.specs.Rules.{Rule, read_rules}
use Rattle.definition.specs.Tree.{Constant, Program}
use Rattle.definition.specs.Program.{read_program}
use Rattle.definition.specs.Emit.{Emitter, emitter_at, PendingPatch, LineEntry, le16, acts}
use Rattle.definition.specs.Stmt.{emit_stmts}
use Rattle.definition.specs.Rewrite.{OffsetMap, moved_to}
use Rattle.definition.specs.Optimize.{optimize, remap_line_map}
use Rattle.definition.specs.Lent.{filled, zeros, entry_numbers}

-- ---- patching

-- where a label is bound
unfoldable pub bound_or0 : Option ℕ → ℕ
bound_or0 none = 0
bound_or0 (some p) = p

unfoldable pub bound_label : List (Option ℕ) → ℕ → ℕ
bound_label labels l = bound_or0 (get_or labels l none)

-- the low sixteen bits of target less next place, wrapped
unfoldable pub displacement : ℕ → ℕ → ℕ
displacement target next = (target + 65536 - next) % 65536

-- two bytes written at a place
unfoldable pub overwrite : ℕ → List ℕ → List ℕ → List ℕ
overwrite at two code = take at code ++ (two ++ drop (at + 2) code)

-- one branch: its instruction and its label's place are where the passes moved them; next place is the byte after the offset
unfoldable pub patch_jump : List (Option ℕ) → OffsetMap → PendingPatch → List ℕ → List ℕ
patch_jump labels m p code =
    let at = moved_to m p.instruction_offset + p.operand_delta in
    overwrite at (le16 (displacement (moved_to m (bound_label labels p.label)) (at + 2))) code

unfoldable pub patch_jumps : List (Option ℕ) → OffsetMap → List PendingPatch → List ℕ → List ℕ
patch_jumps labels m [] code = code
patch_jumps labels m (p ∷ ps) code = patch_jumps labels m ps (patch_jump labels m p code)

-- ---- far branches (document 02, L1)

-- is target less next place, as a whole number, from -32,768 to 32,767?
unfoldable pub near : ℕ → ℕ → Bool
near target next = leb next (target + max_back) && leb target (next + max_forward)

-- 15 at the first branch that is not near its target, where the passes moved both. Branches are emitted in the order of their places, and stay in it
unfoldable pub in_reach : List (Option ℕ) → OffsetMap → List PendingPatch → Res (Unit {0})
in_reach labels m [] = ok tt
in_reach labels m (p ∷ ps) = do
  demand (near (moved_to m (bound_label labels p.label)) (moved_to m p.instruction_offset + p.operand_delta + 2)) far_branch (moved_to m p.instruction_offset)
  in_reach labels m ps

-- ---- from the emitter to finished code

pub record FinalizedFunction : Type 0 where
  pub bytecode : List ℕ
  pub depth : ℕ
  pub constants : List Constant
  pub line_map : List LineEntry

-- the labels that some branch uses are protected
unfoldable pub jump_targets : Emitter → List ℕ
jump_targets e = map (λ (p : PendingPatch). bound_label e.labels p.label) e.patches

unfoldable pub finalize_function : Sheet → List Rule → Emitter → FinalizedFunction
finalize_function s rules e =
    let p = optimize s rules e.bytecode (jump_targets e) in
    record {
      bytecode = patch_jumps e.labels p.map e.patches p.bytecode;
      depth = e.max_depth;
      constants = e.constants;
      line_map = remap_line_map p.map (length p.bytecode) none e.line_map;
    }

-- emission from the header's position (a stand-in)
unfoldable pub emit_program : Sheet → Program → Res Emitter
emit_program s p = acts s (emit_stmts p.body 0).1 (emitter_at p.pos)

unfoldable pub compile_program : Sheet → List Rule → Program → Res FinalizedFunction
compile_program s rules p = do
  e ← emit_program s p
  in_reach e.labels (optimize s rules e.bytecode (jump_targets e)).map e.patches
  ok (finalize_function s rules e)

-- ---- the call

-- how many elements the lent outputs have
pub record Room : Type 0 where
  pub code : ℕ
  pub constants : ℕ
  pub lines : ℕ

unfoldable pub roomy : Room → Bool
roomy r = leb max_code r.code && (leb max_constants r.constants && leb (max_lines * entry_size) r.lines)

-- the three files, in the order of refusals. `place` is what 7 names: it is free among the fields at fault
unfoldable pub compile_files : ℕ → List ℕ → List ℕ → List ℕ → Res FinalizedFunction
compile_files place sheet rules program = do
  s ← given (read_sheet sheet) bad_sheet place
  rs ← read_rules rules
  p ← read_program program
  compile_program s rs p

unfoldable pub compile_into : ℕ → Room → List ℕ → List ℕ → List ℕ → Res FinalizedFunction
compile_into place room sheet rules program = do
  demand (roomy room) output_short 0
  compile_files place sheet rules program

-- a refusal's number and place, or 0, 0 and the lengths and the depth; and all that the lent outputs then hold
pub record Answer : Type 0 where
  pub number : ℕ
  pub place : ℕ
  pub code_length : ℕ
  pub depth : ℕ
  pub constant_count : ℕ
  pub entry_count : ℕ
  pub code : List ℕ
  pub constants : List ℕ
  pub lines : List ℕ

unfoldable pub answer : Room → Res FinalizedFunction → Answer
answer r (refuse n p) = record {
  number = n;
  place = p;
  code_length = 0;
  depth = 0;
  constant_count = 0;
  entry_count = 0;
  code = zeros r.code;
  constants = zeros r.constants;
  lines = zeros r.lines;
}
answer r (ok f) = record {
  number = 0;
  place = 0;
  code_length = length f.bytecode;
  depth = f.depth;
  constant_count = length f.constants;
  entry_count = length f.line_map;
  code = filled r.code f.bytecode;
  constants = filled r.constants f.constants;
  lines = filled r.lines (entry_numbers f.line_map);
}

-- a place that 7 may name for this sheet
unfoldable pub Free : List ℕ → ℕ → Type 0
Free sheet place = read_sheet sheet ≡ none → sheet_fault sheet place ≡ true

-- what the call answers: all of it is fixed but 7's place, which is one at fault
pub record Compiles (room : Room) (sheet rules program : List ℕ) (a : Answer) : Type 0 where
  pub place : ℕ
  pub free : Free sheet place
  pub is : a ≡ answer room (compile_into place room sheet rules program)

-- `unfolding open-Compile` names all of this module's definitions at once
unfoldable pub open-Compile : Unit {0}
unfolding bound_or0 bound_label displacement overwrite patch_jump patch_jumps near in_reach jump_targets finalize_function emit_program compile_program roomy compile_files compile_into answer Free
open-Compile = tt
