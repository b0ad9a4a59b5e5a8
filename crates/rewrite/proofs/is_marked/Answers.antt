use mathlib.Core.Path.{sym}
use Rattle.rewrite.specs.View.{is_mark}
use Rattle.rewrite.proofs.Marked.{has-marked}
use Rattle.rewrite.proofs.is_marked.Goals as goal

pub returns : goal.returns
unfolding is_mark
returns c = sym (has-marked _ _)
