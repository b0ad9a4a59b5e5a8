use Prim.Native.Nat.{◌+◌, ◌-◌}
use Rattle.opcode.specs.Table.{sheet_in}
use Rattle.program.specs.Walk.{cursor_of}
use Rattle.emit.specs.View.{world}
use Rattle.stmt_parts.proofs.Arms.{Testing}
use Rattle.stmt_parts.proofs.labels.test_labels.Given as goal

-- so many are left: the last is tested behind the loop
abbrev pub invariant-loop : goal.invariant-loop
invariant-loop l = Testing (sheet_in l.sheet) l.left l.text l.body.0 l.fail.0 l.n (cursor_of l.initial.here) (world l.initial.on l.initial.code l.initial.book l.initial.pool) (world l.on l.code l.book l.pool) (l.n + 1 - l.counter) l.here
