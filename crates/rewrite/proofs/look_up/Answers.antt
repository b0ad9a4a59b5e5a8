use Rattle.rewrite.proofs.Looking.{looked}
use Rattle.rewrite.proofs.look_up.Goals as goal

pub returns : goal.returns
returns c = looked _ _ _ _ _ c.args.matcher.now.rules.read c.find.ensures c.seen.ensures
