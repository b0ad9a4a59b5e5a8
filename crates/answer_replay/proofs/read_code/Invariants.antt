use Rattle.std.proofs.Common.{◌≤◌, length}
use Rattle.answer_replay.proofs.read_code.Given as goal

abbrev pub invariant-loop-part : goal.invariant-loop-part
invariant-loop-part l = l.n ≤ length l.code
