use mathlib.Core.Path.{sym, ◌∙◌}
use Rattle.optimize.specs.View.{given, room}
use Rattle.optimize.proofs.Entry.{told-refused, told-kept}
use Rattle.optimize.proofs.alone.rewrite_alone.Goals as goal

pub returns-then-is_err : goal.returns-then-is_err
returns-then-is_err c = told-refused c.args.sheet.now c.args.rules.now (given c.args.code.now c.args.protected.now c.args.lines.now) (room c.args.bytes.now c.args.offsets.now c.args.entries.now) c.rewrite_read-answer.result c.rewrite_read-answer.ensures (sym c.is_err.ensures.value ∙ c.if-is_err.true) c.rewrite_read-answer.auto.bytes c.rewrite_read-answer.auto.offsets c.rewrite_read-answer.auto.entries c.set_from.ensures c.set_from-then-is_err.ensures c.set_from-then-is_err-2.ensures

pub returns-else-is_err : goal.returns-else-is_err
returns-else-is_err c = told-kept c.args.sheet.now c.args.rules.now (given c.args.code.now c.args.protected.now c.args.lines.now) (room c.args.bytes.now c.args.offsets.now c.args.entries.now) c.rewrite_read-answer.result c.rewrite_read-answer.ensures (sym c.is_err.ensures.value ∙ c.if-is_err.false)
