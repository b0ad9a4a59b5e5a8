use Rattle.store.proofs.Fills.{Setting}
use Rattle.store.proofs.set_from.Given as goal

abbrev pub invariant-loop-i : goal.invariant-loop-i
invariant-loop-i g l = Setting l.x l.initial.list l.from l.list l.i
