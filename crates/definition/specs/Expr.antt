-- Emission of an expression (body/expr.rs).
use Rattle.std.specs.Prelude.{ℕ, suc, true, false}
use Rattle.definition.specs.Opcode.{AndThen, OrElse, load_true, load_false}
use Rattle.definition.specs.Opcode as role
use Rattle.definition.specs.Tree.{Expr, const, bool, read, binary, unary, compare, short_circuit, bad}
use Rattle.definition.specs.Emit.{bind_label, load_variable, load_constant, emit_opcode, emit_jmp, emit_jmp_if_not, reset_stack_depth, refused}
use Rattle.definition.specs.Walk.{Calls, ◌>>=◌, ◌>>◌, say, new_label}

-- an expression that starts at height h and leaves one value. The source asks the emitter for its depth before the second way of a
-- short circuit; there it is h.
unfoldable pub emit_expr : Expr → ℕ → Calls
emit_expr (const k) h = say (load_constant k)
emit_expr (bool true) h = say (emit_opcode load_true)
emit_expr (bool false) h = say (emit_opcode load_false)
emit_expr (read v) h = say (load_variable v)
emit_expr (binary o a b) h = do
  emit_expr a h
  emit_expr b (suc h)
  say (emit_opcode (role.binary_role o))
emit_expr (unary o a) h = do
  emit_expr a h
  say (emit_opcode (role.unary_role o))
emit_expr (compare c a b) h = do
  emit_expr a h
  emit_expr b (suc h)
  say (emit_opcode (role.compare c))
emit_expr (short_circuit AndThen a b) h = do
  alternative ← new_label h
  end ← new_label (suc h)
  emit_expr a h
  say (emit_jmp_if_not alternative)
  emit_expr b h
  say (emit_jmp end)
  say (bind_label alternative)
  say (reset_stack_depth h)
  say (emit_opcode load_false)
  say (bind_label end)
emit_expr (short_circuit OrElse a b) h = do
  alternative ← new_label h
  end ← new_label (suc h)
  emit_expr a h
  say (emit_jmp_if_not alternative)
  say (emit_opcode load_true)
  say (emit_jmp end)
  say (bind_label alternative)
  say (reset_stack_depth h)
  emit_expr b h
  say (bind_label end)
emit_expr (bad f) h = say (refused f)

-- `unfolding open-Expr` names all of this module's definitions at once
unfoldable pub open-Expr : Unit {0}
unfolding emit_expr
open-Expr = tt
