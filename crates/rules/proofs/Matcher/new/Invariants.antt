use Rattle.rules.proofs.Chain.{Linking}
use Rattle.rules.proofs.Matcher.new.Given as goal

abbrev pub invariant-loop-i : goal.invariant-loop-i
invariant-loop-i l = Linking l.rules.table.now l.rules.count l.pass l.index l.i
