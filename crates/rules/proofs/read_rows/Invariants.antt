use Rattle.std.proofs.Common.{◌-◌, length}
use Rattle.rules.proofs.File.{FileRead}
use Rattle.rules.proofs.read_rows.Given as goal

abbrev pub invariant-loop-at : goal.invariant-loop-at
invariant-loop-at l = FileRead l.text l.table l.at l.count

abbrev pub decreases-loop-at : goal.decreases-loop-at
decreases-loop-at l = length l.text - l.at
