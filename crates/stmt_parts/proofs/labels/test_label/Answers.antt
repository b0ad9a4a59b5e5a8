use mathlib.Core.Path.{sym}
use Rattle.program.proofs.Laws.{line-there}
use Rattle.stmt_parts.proofs.Arms.{label_is, label-bad, reads}
use Rattle.stmt_parts.proofs.labels.test_label.Goals as goal

pub returns-in-Err : goal.returns-in-Err
returns-in-Err c = label-bad _ _ _ _ _ _ c.requires.near c.requires.ready (sym c.in-Err.ensures.is) c.fail-emitter.ensures

pub next_line-cursor-requires-clause-at_in_bounds : goal.next_line-cursor-requires-clause-at_in_bounds
next_line-cursor-requires-clause-at_in_bounds c = (line-there _ _ _ _ _ (sym c.in-Ok.ensures.is)).0

pub returns-in-Value : goal.returns-in-Value
returns-in-Value c = label_is _ _ _ _ _ _ (reads c.in-Ok.ensures.is c.in-Value.is) c.next_line-cursor.ensures c.test_value-emitter.ensures

pub returns-in-Range : goal.returns-in-Range
returns-in-Range c = label_is _ _ _ _ _ _ (reads c.in-Ok.ensures.is c.in-Range.is) c.next_line-cursor.ensures c.test_range-emitter.ensures
