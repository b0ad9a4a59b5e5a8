use Prim.Native.Nat.{◌-◌}
use Rattle.opcode.specs.Table.{sheet_in}
use Rattle.rules.specs.View.{rules_in}
use Rattle.rewrite.specs.View.{Clear}
use Rattle.optimize.specs.View.{pipeline, Ran}
use Rattle.optimize.proofs.Runs.{done}
use Rattle.optimize.proofs.optimize.Given as goal

abbrev pub invariant-loop-pass : goal.invariant-loop-pass
invariant-loop-pass l = record {
  ran : Ran (done (sheet_in l.sheet) (rules_in l.rules.table.now l.rules.count) (pipeline l.initial.code l.initial.protected l.initial.total) (l.pass - 1)) l.initial.code l.code l.protected l.total l.n;
  marks : Clear l.n l.marks;
  moves : Clear l.n l.moves;
}
