use Rattle.opcode.proofs.Tables.{Listing}
use Rattle.opcode.proofs.sheet.list_roles.Given as goal

abbrev pub invariant-loop-i : goal.invariant-loop-i
invariant-loop-i l = Listing l.initial.sheet l.sheet l.i
