use mathlib.Core.Path.{sym}
use native.Mathlib.Omega.{arith}
use borrow.Author.Rules.{rules}
use Rattle.opcode.specs.declared.ShortCircuitOp.TheVariants.{AndThen, OrElse}
use Rattle.program.proofs.Laws.{line-there}
use Rattle.emit.proofs.Steps.{coded-filled}
use Rattle.expr.proofs.Lines.{passed-fewer, read-most}
use Rattle.expr.proofs.Laws.{reads, reads-short, went-bad, went-const, went-bool, went-read, went-binary, went-compare, went-unary, went-short, two-done, and-done, or-done}
use Rattle.expr.proofs.+exprs.Goals as goal

pub emit_expr-returns-in-Err : goal.emit_expr-returns-in-Err
emit_expr-returns-in-Err t c = went-bad _ _ _ _ _ _ _ c.requires.near c.requires.ready (sym c.in-Err.ensures.is) c.fail-emitter.ensures

pub emit_expr-next_line-cursor-requires-clause-at_in_bounds : goal.emit_expr-next_line-cursor-requires-clause-at_in_bounds
emit_expr-next_line-cursor-requires-clause-at_in_bounds t c = (line-there _ _ _ _ _ (sym c.in-Ok.ensures.is)).0

pub emit_expr-overflow_sub-below : goal.emit_expr-overflow_sub-below
emit_expr-overflow_sub-below t c = (line-there _ _ _ _ _ (sym c.in-Ok.ensures.is)).1

pub emit_expr-emit_two-two-requires : goal.emit_expr-emit_two-two-requires
emit_expr-emit_two-two-requires t c = (omega (arith, c.decreases, passed-fewer _ _ c.next_line-cursor.ensures (line-there _ _ _ _ _ (sym c.in-Ok.ensures.is)).0), (c.next_line-cursor.ensures.near, (c.requires.ready, omega (arith, c.requires.left_bound, (line-there _ _ _ _ _ (sym c.in-Ok.ensures.is)).1))))

pub emit_expr-emit_two-two-requires-in-Compare : goal.emit_expr-emit_two-two-requires-in-Compare
emit_expr-emit_two-two-requires-in-Compare t c = (omega (arith, c.decreases, passed-fewer _ _ c.next_line-cursor.ensures (line-there _ _ _ _ _ (sym c.in-Ok.ensures.is)).0), (c.next_line-cursor.ensures.near, (c.requires.ready, omega (arith, c.requires.left_bound, (line-there _ _ _ _ _ (sym c.in-Ok.ensures.is)).1))))

pub emit_expr-emit_expr-one-requires : goal.emit_expr-emit_expr-one-requires
emit_expr-emit_expr-one-requires t c = (omega (arith, c.decreases, passed-fewer _ _ c.next_line-cursor.ensures (line-there _ _ _ _ _ (sym c.in-Ok.ensures.is)).0), (c.next_line-cursor.ensures.near, (c.requires.ready, omega (arith, c.requires.left_bound, (line-there _ _ _ _ _ (sym c.in-Ok.ensures.is)).1))))

pub emit_expr-emit_and_then-requires : goal.emit_expr-emit_and_then-requires
emit_expr-emit_and_then-requires t c = (omega (arith, c.decreases, passed-fewer _ _ c.next_line-cursor.ensures (line-there _ _ _ _ _ (sym c.in-Ok.ensures.is)).0), (c.next_line-cursor.ensures.near, (c.requires.ready, omega (arith, c.requires.left_bound, (line-there _ _ _ _ _ (sym c.in-Ok.ensures.is)).1))))

pub emit_expr-emit_or_else-requires : goal.emit_expr-emit_or_else-requires
emit_expr-emit_or_else-requires t c = (omega (arith, c.decreases, passed-fewer _ _ c.next_line-cursor.ensures (line-there _ _ _ _ _ (sym c.in-Ok.ensures.is)).0), (c.next_line-cursor.ensures.near, (c.requires.ready, omega (arith, c.requires.left_bound, (line-there _ _ _ _ _ (sym c.in-Ok.ensures.is)).1))))

pub emit_expr-returns-in-Const : goal.emit_expr-returns-in-Const
emit_expr-returns-in-Const t c = went-const _ _ _ _ _ _ c.next_line-cursor.ensures _ (reads c.in-Ok.ensures.is c.in-Const.is) c.load_constant-emitter.ensures

pub emit_expr-returns-in-Bool : goal.emit_expr-returns-in-Bool
emit_expr-returns-in-Bool t c = went-bool _ _ _ _ _ _ c.next_line-cursor.ensures _ (reads c.in-Ok.ensures.is c.in-Bool.is) c.bool_role.ensures (coded-filled c.requires.ready c.emit_opcode-emitter.ensures)

pub emit_expr-returns-in-Read : goal.emit_expr-returns-in-Read
emit_expr-returns-in-Read t c = went-read _ _ _ _ _ _ c.next_line-cursor.ensures _ (reads c.in-Ok.ensures.is c.in-Read.is) (coded-filled c.requires.ready c.emit_load_var-emitter.ensures)

pub emit_expr-returns-in-Binary : goal.emit_expr-returns-in-Binary
emit_expr-returns-in-Binary t c = went-binary _ _ _ _ _ _ c.next_line-cursor.ensures _ (reads c.in-Ok.ensures.is c.in-Binary.is) c.role.ensures c.emit_two-two.ensures c.operate.ensures

pub emit_expr-returns-in-Unary : goal.emit_expr-returns-in-Unary
emit_expr-returns-in-Unary t c = went-unary _ _ _ _ _ _ c.next_line-cursor.ensures _ (reads c.in-Ok.ensures.is c.in-Unary.is) c.role-in-Unary.ensures c.emit_expr-one.ensures c.operate-in-Unary.ensures

pub emit_expr-returns-in-Compare : goal.emit_expr-returns-in-Compare
emit_expr-returns-in-Compare t c = went-compare _ _ _ _ _ _ c.next_line-cursor.ensures _ (reads c.in-Ok.ensures.is c.in-Compare.is) c.emit_two-two-in-Compare.ensures c.operate-in-Compare.ensures

pub emit_expr-returns-in-ShortCircuit-AndThen : goal.emit_expr-returns-in-ShortCircuit-AndThen
emit_expr-returns-in-ShortCircuit-AndThen t c = went-short _ _ _ _ _ _ c.next_line-cursor.ensures _ (reads-short {x = AndThen} c.in-Ok.ensures.is c.in-ShortCircuit-AndThen.is (search rules)) (search rules)

pub emit_expr-returns-in-ShortCircuit-OrElse : goal.emit_expr-returns-in-ShortCircuit-OrElse
emit_expr-returns-in-ShortCircuit-OrElse t c = went-short _ _ _ _ _ _ c.next_line-cursor.ensures _ (reads-short {x = OrElse} c.in-Ok.ensures.is c.in-ShortCircuit-OrElse.is (search rules)) (search rules)

pub emit_two-returns : goal.emit_two-returns
emit_two-returns t c = two-done _ _ _ _ _ _ c.emit_expr.ensures c.emit_expr-2.ensures

pub emit_two-emit_expr-requires-2 : goal.emit_two-emit_expr-requires-2
emit_two-emit_expr-requires-2 t c = (omega (arith, c.decreases, read-most _ _ _ _ c.emit_expr.ensures.is), (c.emit_expr.ensures.near, (c.emit_expr.ensures.ready, omega (arith, c.requires.left_bound))))

pub emit_and_then-emit_expr-rhs-requires : goal.emit_and_then-emit_expr-rhs-requires
emit_and_then-emit_expr-rhs-requires t c = (omega (arith, c.decreases, read-most _ _ _ _ c.emit_expr-lhs.ensures.is), (c.emit_expr-lhs.ensures.near, (record { fine = c.emit_jmp_if_not-e.ensures.fine; room = c.emit_jmp_if_not-e.ensures.room; slots = c.emit_jmp_if_not-e.ensures.slots; held = c.emit_expr-lhs.ensures.ready.held }, c.requires.left_bound)))

pub emit_and_then-returns : goal.emit_and_then-returns
emit_and_then-returns t c = and-done _ _ _ _ _ _ c.requires.ready c.create_label-alternative.ensures c.create_label-end.ensures c.emit_expr-lhs.ensures c.emit_jmp_if_not-e.ensures c.emit_expr-rhs.ensures c.emit_jmp-f.ensures c.bind_label-f.ensures c.reset_stack_depth-f.ensures c.emit_opcode-f.ensures c.bind_label-emitter.ensures

pub emit_or_else-emit_expr-rhs-requires : goal.emit_or_else-emit_expr-rhs-requires
emit_or_else-emit_expr-rhs-requires t c = (omega (arith, c.decreases, read-most _ _ _ _ c.emit_expr-lhs.ensures.is), (c.emit_expr-lhs.ensures.near, (record { fine = c.reset_stack_depth-e.ensures.fine; room = c.emit_jmp-e.ensures.room; slots = c.bind_label-e.ensures.slots; held = c.emit_expr-lhs.ensures.ready.held }, c.requires.left_bound)))

pub emit_or_else-returns : goal.emit_or_else-returns
emit_or_else-returns t c = or-done _ _ _ _ _ _ c.requires.ready c.create_label-alternative.ensures c.create_label-end.ensures c.emit_expr-lhs.ensures c.emit_jmp_if_not-e.ensures c.emit_opcode-e.ensures c.emit_jmp-e.ensures c.bind_label-e.ensures c.reset_stack_depth-e.ensures c.emit_expr-rhs.ensures c.bind_label-emitter.ensures
