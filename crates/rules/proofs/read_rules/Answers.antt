use Rattle.std.proofs.Common.{◌*◌, ap}
use Rattle.rules.proofs.File.{file-lent}
use Rattle.rules.proofs.read_rules.Goals as goal

pub returns : goal.returns
returns c = file-lent c.args.text.now _ _ _ c.read_rows-answer.auto.table c.read_rows-answer.ensures (ap (λ k. k * 9) c.unwrap_or.ensures) c.set_from.ensures
