use Prim.Native.Nat.{◌+◌, ◌*◌}
use Rattle.expr.specs.Lines.{lines_left}
use Rattle.expr.proofs.+exprs.Given as goal

-- the others are called behind emit_expr's line, and call it from there on
abbrev pub decreases-emit_and_then : goal.decreases-emit_and_then
decreases-emit_and_then l = 2 * lines_left l.text.now l.c.at + 1

abbrev pub decreases-emit_expr : goal.decreases-emit_expr
decreases-emit_expr l = 2 * lines_left l.text.now l.c.at

abbrev pub decreases-emit_or_else : goal.decreases-emit_or_else
decreases-emit_or_else l = 2 * lines_left l.text.now l.c.at + 1

abbrev pub decreases-emit_two : goal.decreases-emit_two
decreases-emit_two l = 2 * lines_left l.text.now l.c.at + 1
