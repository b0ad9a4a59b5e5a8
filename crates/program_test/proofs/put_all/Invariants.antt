use Rattle.std.proofs.Common.{◌≤◌, length}
use Rattle.program_test.proofs.put_all.Given as goal

abbrev pub invariant-loop : goal.invariant-loop
invariant-loop l = l.at ≤ length l.text
