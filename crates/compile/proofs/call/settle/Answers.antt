use Rattle.std.proofs.Common.{rules, sym, ◌∙◌}
use Rattle.compile.proofs.Answers.{cleared, kept}
use Rattle.compile.proofs.call.settle.Goals as goal

pub returns-then-is_err : goal.returns-then-is_err
returns-then-is_err g c = let off = sym c.is_err.ensures.value ∙ c.if-is_err.true in record {
  same = search rules;
  code = cleared c.args.outcome c.args.code.now off c.set_from.ensures;
  constants = cleared c.args.outcome c.args.constants.now off c.set_from-then-is_err.ensures;
  lines = cleared c.args.outcome c.args.lines.now off c.set_from-then-is_err-2.ensures;
}

pub returns-else-is_err : goal.returns-else-is_err
returns-else-is_err g c = let on = sym c.is_err.ensures.value ∙ c.if-is_err.false in record {
  same = search rules;
  code = kept c.args.outcome c.args.code.now on;
  constants = kept c.args.outcome c.args.constants.now on;
  lines = kept c.args.outcome c.args.lines.now on;
}
