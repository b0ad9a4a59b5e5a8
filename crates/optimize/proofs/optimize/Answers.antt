use mathlib.Core.Path.{◌≡◌}
use Prim.Native.Nat.{◌-◌, ◌≤◌}
use native.Mathlib.Omega.{arith}
use Rattle.opcode.specs.Table.{sheet_in}
use Rattle.rules.specs.View.{rules_in}
use Rattle.optimize.proofs.Tables.{shorter}
use Rattle.optimize.proofs.Runs.{done-first, done-more, done-all, then-run}
use Rattle.optimize.proofs.optimize.Goals as goal

pub loop-pass-init : goal.loop-pass-init
loop-pass-init c = record { ran = done-first _ _ _ _ _ c.requires.runnable.small; marks = c.requires.clear; moves = c.requires.clear_2 }

pub loop-pass-preserved : goal.loop-pass-preserved
loop-pass-preserved c =
    let h : 1 ≤ c.loop-pass.pass = omega arith in
    record {
      ran = rw done-more (then-run (sheet_in c.args.sheet.now) (rules_in c.args.rules.table.now c.args.rules.count) c.loop-pass.pass c.loop-pass.invariant.ran c.run-n.ensures.ran);
      marks = shorter c.run-n.ensures.ran.within c.run-n.ensures.clear_3;
      moves = shorter c.run-n.ensures.ran.within c.run-n.ensures.clear_4;
    }

pub returns : goal.returns
returns c =
    let all : c.loop-pass.pass - 1 ≡ 3 = omega arith in
    rw (← (done-all _ _ _)) (rw all at c.loop-pass.invariant.ran)
