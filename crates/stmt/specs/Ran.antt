-- What the contracts of statement emission say: the calls of the definition's walk, run on the emitter, the place behind the part, and the open loops that its
-- CONTINUEs led to.
use Rattle.std.specs.Prelude.{◌≡◌, Bool, not, ◌&&◌, ◌||◌, List, ℕ, eqb}
use Rattle.definition.specs.Opcode.{Sheet}
use Rattle.definition.specs.Tree.{Expr, Block, Arms, is_done}
use Rattle.definition.specs.Program as def
use Rattle.definition.specs.Program.{labels_at}
use Rattle.definition.specs.Walk.{Calls}
use Rattle.definition.specs.Stmt.{Loops, continues, continues_stmt, continues_arms, else_part, loop_body, emit_for, emit_while, emit_repeat, emit_plain, emit_stmt, emit_block, emit_arm, emit_arms}
use Rattle.program.specs.declared.Cursor.{Cursor}
use Rattle.program.specs.Walk.{Skipped}
use Rattle.program.specs.Ends.{Sound}
use Rattle.emit.specs.View.{World}
use Rattle.emit.specs.Steps.{run, Filled}
use Rattle.stmt_parts.specs.declared.Context.{Context}
use Rattle.stmt_parts.specs.declared.loops.OpenLoop.{OpenLoop}
use Rattle.stmt_parts.specs.Context.{expr_in, stmt_in, block_in, inner_of}
use Rattle.stmt_parts.specs.Loops.{opens_in, loops_of, marked}
use Rattle.stmt.specs.declared.Lent.{Lent}
use Rattle.stmt.specs.Blocks.{emit_sequence, emit_if, loop_calls, emit_case, arms_here, arm_continues}

-- m was emitted inside so many open loops, those in a list, of a program of `vars` variables, and the walk stands at d; the CONTINUEs that `used` says have led to their loops
pub record Ran (s : Sheet) (m : Loops → Calls) (used : ℕ → Bool) (inside vars : ℕ) (text : List ℕ) (d : def.Cursor) (w v : World) (before : List OpenLoop) (after : Lent) (c : Cursor) : Type 0 where
  pub place : Skipped text d c
  pub filled : Filled (run s (m (loops_of (opens_in before inside)))) w v
  pub noted : Sound text vars after.ends
  pub marks : opens_in after.loops inside ≡ marked used (opens_in before inside)

-- what a part is said to have done: from and to an emitter with what is lent to it, the open loops before, what is lent on after, and the place behind it
abbrev pub Done : Type 1
Done = World → World → List OpenLoop → Lent → Cursor → Type 0

-- a part that CONTINUE goes out of by `used`
abbrev pub Part : Sheet → Context → List ℕ → def.Cursor → (Loops → Calls) → (ℕ → Bool) → Done
Part s ctx text d m used w v before after c = Ran s m used ctx.inside ctx.variables text d w v before after c

module _ (s : Sheet) (ctx : Context) (text : List ℕ) where
  -- n statements from c on
  abbrev pub RanSequence : Bool → ℕ → def.Cursor → Done
  RanSequence b n c = Part s ctx text (block_in ctx text n c).1 (emit_sequence b (block_in ctx text n c).0) (λ i. continues i (block_in ctx text n c).0)

  abbrev pub RanBlock : ℕ → def.Cursor → Done
  RanBlock n c = Part s ctx text (block_in ctx text n c).1 (emit_block (block_in ctx text n c).0) (λ i. continues i (block_in ctx text n c).0)

  abbrev pub RanStmt : def.Cursor → Done
  RanStmt c = Part s ctx text (stmt_in ctx text c).1 (emit_stmt (stmt_in ctx text c).0) (λ i. continues_stmt i (stmt_in ctx text c).0)

  -- an IF behind its line: its condition, then n and m statements
  abbrev pub if_then : ℕ → def.Cursor → Block × def.Cursor
  if_then n c = block_in ctx text n (expr_in ctx text c).1

  abbrev pub if_else : ℕ → ℕ → def.Cursor → Block × def.Cursor
  if_else n m c = block_in ctx text m (if_then n c).1

  abbrev pub RanIf : ℕ → ℕ → def.Cursor → Done
  RanIf n m c = Part s ctx text (if_else n m c).1 (emit_if (expr_in ctx text c).0 (if_then n c).0 (if_else n m c).0) (λ i. continues i (if_then n c).0 || continues i (if_else n m c).0)

  -- its ELSE, of m statements, behind which `next` is bound
  abbrev pub RanElse : ℕ → ℕ → def.Cursor → Done
  RanElse m next c = Part s ctx text (block_in ctx text m c).1 (λ loops. else_part (is_done (block_in ctx text m c).0) next (emit_block (block_in ctx text m c).0 loops)) (λ i. continues i (block_in ctx text m c).0)

  -- a CASE behind its line: its selector, n arms, and m statements if none fits
  abbrev pub case_arms : ℕ → def.Cursor → Arms × def.Cursor
  case_arms n c = arms_here ctx text n (expr_in ctx text c).1

  abbrev pub case_else : ℕ → ℕ → def.Cursor → Block × def.Cursor
  case_else n m c = block_in ctx text m (case_arms n c).1

  abbrev pub RanCase : ℕ → ℕ → def.Cursor → Done
  RanCase n m c = Part s ctx text (case_else n m c).1 (emit_case (expr_in ctx text c).0 (case_arms n c).0 (case_else n m c).0) (λ i. continues_arms i (case_arms n c).0 || continues i (case_else n m c).0)

  abbrev pub RanArms : ℕ → ℕ → def.Cursor → Done
  RanArms n end c = Part s ctx text (arms_here ctx text n c).1 (emit_arms (arms_here ctx text n c).0 end) (λ i. continues_arms i (arms_here ctx text n c).0)

  -- an arm behind its line: n labels and m statements
  abbrev pub arm_block : ℕ → ℕ → def.Cursor → Block × def.Cursor
  arm_block n m c = block_in ctx text m (labels_at ctx.left text n c).1

  abbrev pub RanArm : ℕ → ℕ → ℕ → def.Cursor → Done
  RanArm n m end c = Part s ctx text (arm_block n m c).1 (λ loops. emit_arm (labels_at ctx.left text n c).0 end (emit_block (arm_block n m c).0 loops)) (λ i. arm_continues i (labels_at ctx.left text n c).0 (arm_block n m c).0)

  -- the body of loop i, which EXIT leaves to `end`
  abbrev pub RanBody : ℕ → ℕ → ℕ → def.Cursor → Done
  RanBody i end n c = Part s ctx text (block_in ctx text n c).1 (λ loops. loop_body i end (continues i (block_in ctx text n c).0) (λ o. emit_block (block_in ctx text n c).0 o) loops) (λ j. not (eqb j i) && continues j (block_in ctx text n c).0)

  -- a FOR behind its line: from, to, and n statements
  abbrev pub for_to : def.Cursor → Expr × def.Cursor
  for_to c = expr_in ctx text (expr_in ctx text c).1

  abbrev pub for_body : ℕ → def.Cursor → Block × def.Cursor
  for_body n c = block_in ctx text n (for_to c).1

  abbrev pub RanFor : ℕ → ℕ → ℕ → ℕ → def.Cursor → Done
  RanFor i v step n c = Part s ctx text (for_body n c).1 (emit_for i v step (expr_in ctx text c).0 (for_to c).0 (continues i (for_body n c).0) (λ o. emit_block (for_body n c).0 o)) (λ j. not (eqb j i) && continues j (for_body n c).0)

  -- a loop behind its line: n statements, and m of `continuing`
  abbrev pub loop_after : ℕ → ℕ → def.Cursor → Block × def.Cursor
  loop_after n m c = block_in ctx text m (block_in ctx text n c).1

  abbrev pub leaves_loop : ℕ → ℕ → ℕ → def.Cursor → ℕ → Bool
  leaves_loop i n m c j = (not (eqb j i) && continues j (block_in ctx text n c).0) || continues j (loop_after n m c).0

  abbrev pub RanLoop : ℕ → ℕ → ℕ → def.Cursor → Done
  RanLoop i n m c = Part s ctx text (loop_after n m c).1 (loop_calls i (block_in ctx text n c).0 (loop_after n m c).0) (λ j. leaves_loop i n m c j)

  abbrev pub RanPlain : ℕ → ℕ → ℕ → def.Cursor → Done
  RanPlain i n m c = Part s ctx text (loop_after n m c).1 (emit_plain i (continues i (block_in ctx text n c).0) (λ o. emit_block (block_in ctx text n c).0 o) (λ o. emit_block (loop_after n m c).0 o)) (λ j. leaves_loop i n m c j)

  -- the condition of a loop stands in an IF, one level further in
  abbrev pub loop_test : def.Cursor → Expr
  loop_test q = (expr_in (inner_of ctx) text q).0

  -- a WHILE of condition q whose other n statements stand at c; a REPEAT, which ends at d
  abbrev pub RanWhile : ℕ → ℕ → def.Cursor → def.Cursor → Done
  RanWhile i n q c = Part s ctx text (block_in ctx text n c).1 (emit_while i (loop_test q) (continues i (block_in ctx text n c).0) (λ o. emit_block (block_in ctx text n c).0 o)) (λ j. not (eqb j i) && continues j (block_in ctx text n c).0)

  abbrev pub RanRepeat : ℕ → ℕ → def.Cursor → def.Cursor → def.Cursor → Done
  RanRepeat i n q c d = Part s ctx text d (emit_repeat i (loop_test q) (continues i (block_in ctx text n c).0) (λ o. emit_block (block_in ctx text n c).0 o)) (λ j. not (eqb j i) && continues j (block_in ctx text n c).0)
