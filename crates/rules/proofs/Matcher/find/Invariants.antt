use Rattle.std.proofs.Common.{◌-◌}
use Rattle.rules.proofs.Chain.{Seeking}
use Rattle.rules.proofs.Matcher.find.Given as goal

abbrev pub invariant-loop-i : goal.invariant-loop-i
invariant-loop-i l = Seeking l.self.rules.table.now l.self.rules.count l.self.pass l.a l.b l.i

abbrev pub decreases-loop-i : goal.decreases-loop-i
decreases-loop-i l = l.self.rules.count - l.i
