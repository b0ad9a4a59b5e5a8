use mathlib.Core.Path.{sym, refl}
use native.Mathlib.Omega.{arith}
use Rattle.std.proofs.lemmas.Result.{err_from_is_err_and}
use Rattle.definition.specs.Program.{stmt_forms, arm_forms}
use Rattle.program_line.specs.View.{stmt_line, arm_line}
use Rattle.program.proofs.Noted.{sound-noted}
use Rattle.program.proofs.Laws.{begins, goes_on, ends, breaks, fails, goes_over, walked_then, walked-off, line-inside, stmt-fault, stmt-over, arm-fault, arm_over}
use Rattle.program.proofs.Walk.+stmts.Goals as goal

pub arm-next_line-on-requires-clause-at_in_bounds : goal.arm-next_line-on-requires-clause-at_in_bounds
arm-next_line-on-requires-clause-at_in_bounds t c = (line-inside arm_line arm_forms _ _ _ _ c.in-Ok.ensures).0

pub arm-returns-in_err-body-in-Ok-clause-walked : goal.arm-returns-in_err-body-in-Ok-clause-walked
arm-returns-in_err-body-in-Ok-clause-walked t c = let p = err_from_is_err_and c.from_residual.result c.from_residual.ensures.1 in rw (p.1, p.2) (goes_over c.next_line-on.ensures (arm_over _ _ _ _ _ _ _ _ _ (sym c.in-Ok.ensures.is) c.from.ensures refl) _ (walked-off _ _ c.in_err-body-in-Ok.ensures))

pub arm-returns-in-Err-clause-walked : goal.arm-returns-in-Err-clause-walked
arm-returns-in-Err-clause-walked t c = rw c.fail.ensures (fails _ _ c.requires.near (arm-fault _ _ _ _ _ _ (sym c.in-Err.ensures.is)))

pub arm-returns-in_ok-body-in-Ok-clause-walked : goal.arm-returns-in_ok-body-in-Ok-clause-walked
arm-returns-in_ok-body-in-Ok-clause-walked t c = goes_over c.next_line-on.ensures (arm_over _ _ _ _ _ _ _ _ _ (sym c.in-Ok.ensures.is) c.from.ensures c.from-in-Ok.ensures) _ (walked_then c.in_ok-body-in-Ok.ensures _ c.stmts.ensures.walked)

pub arms-loop-init : goal.arms-loop-init
arms-loop-init t c = (begins _ _ c.requires.near, c.requires.sound)

pub arms-returns-in_err-on-clause-walked : goal.arms-returns-in_err-on-clause-walked
arms-returns-in_err-on-clause-walked t c = let p = err_from_is_err_and c.from_residual.result c.from_residual.ensures.1 in rw (p.1, p.2) (breaks c.loop.invariant.0 c.loop-test.true _ c.in_err-on.ensures.walked)

pub arms-loop-preserved : goal.arms-loop-preserved
arms-loop-preserved t c = (goes_on c.loop.invariant.0 c.loop-test.true _ c.in_ok-on.ensures.walked, c.in_ok-on.ensures.sound_2)

pub arms-returns-clause-walked : goal.arms-returns-clause-walked
arms-returns-clause-walked t c = ends c.loop.invariant.0 c.loop-test.false

pub stmt-overflow_sub-l : goal.stmt-overflow_sub-l
stmt-overflow_sub-l t c = (line-inside stmt_line (stmt_forms c.args.self.now.variables) _ _ _ _ c.in-Ok.ensures).1

pub stmt-next_line-on-requires-clause-at_in_bounds : goal.stmt-next_line-on-requires-clause-at_in_bounds
stmt-next_line-on-requires-clause-at_in_bounds t c = (line-inside stmt_line (stmt_forms c.args.self.now.variables) _ _ _ _ c.in-Ok.ensures).0

pub stmt-returns-in_err-arms-in-Ok-clause-walked : goal.stmt-returns-in_err-arms-in-Ok-clause-walked
stmt-returns-in_err-arms-in-Ok-clause-walked t c = let p = err_from_is_err_and c.from_residual.result c.from_residual.ensures.1 in rw (p.1, p.2) (goes_over c.next_line-on.ensures (stmt-over _ _ _ _ _ _ (sym c.in-Ok.ensures.is) _ c.parts_of-p.ensures) _ (walked-off _ _ c.in_err-arms-in-Ok.ensures))

pub stmt-arms-requires : goal.stmt-arms-requires
stmt-arms-requires t c = (omega (arith, c.decreases, line-inside stmt_line (stmt_forms c.args.self.now.variables) _ _ _ _ c.in-Ok.ensures), (c.in_ok-arms-in-Ok.ensures.stands.0, c.requires.sound))

pub stmt-returns-in_err-first-in-Ok-clause-walked : goal.stmt-returns-in_err-first-in-Ok-clause-walked
stmt-returns-in_err-first-in-Ok-clause-walked t c = let p = err_from_is_err_and c.from_residual-in_err-first-in-Ok.result c.from_residual-in_err-first-in-Ok.ensures.1 in rw (p.1, p.2) (goes_over c.next_line-on.ensures (stmt-over _ _ _ _ _ _ (sym c.in-Ok.ensures.is) _ c.parts_of-p.ensures) _ (walked_then c.in_ok-arms-in-Ok.ensures _ (walked-off _ _ c.in_err-first-in-Ok.ensures.walked)))

pub stmt-stmts-requires : goal.stmt-stmts-requires
stmt-stmts-requires t c = (omega (arith, c.decreases, line-inside stmt_line (stmt_forms c.args.self.now.variables) _ _ _ _ c.in-Ok.ensures), (c.in_ok-first-in-Ok.ensures.walked.stands.0, c.in_ok-first-in-Ok.ensures.sound_2))

pub stmt-returns-in_err-second-in-Ok-clause-walked : goal.stmt-returns-in_err-second-in-Ok-clause-walked
stmt-returns-in_err-second-in-Ok-clause-walked t c = let p = err_from_is_err_and c.from_residual-in_err-second-in-Ok.result c.from_residual-in_err-second-in-Ok.ensures.1 in rw (p.1, p.2) (goes_over c.next_line-on.ensures (stmt-over _ _ _ _ _ _ (sym c.in-Ok.ensures.is) _ c.parts_of-p.ensures) _ (walked_then c.in_ok-arms-in-Ok.ensures _ (walked_then c.in_ok-first-in-Ok.ensures.walked _ (walked-off _ _ c.in_err-second-in-Ok.ensures.walked))))

pub stmt-stmts-requires-in-Ok : goal.stmt-stmts-requires-in-Ok
stmt-stmts-requires-in-Ok t c = (omega (arith, c.decreases, line-inside stmt_line (stmt_forms c.args.self.now.variables) _ _ _ _ c.in-Ok.ensures), (c.in_ok-second-in-Ok.ensures.walked.stands.0, sound-noted _ c.in_ok-second-in-Ok.ensures.sound_2 c.in_ok-second-in-Ok.ensures.walked c.note.ensures))

pub stmt-returns-in-Err-clause-walked : goal.stmt-returns-in-Err-clause-walked
stmt-returns-in-Err-clause-walked t c = rw c.fail.ensures (fails _ _ c.requires.near (stmt-fault _ _ _ _ _ _ (sym c.in-Err.ensures.is)))

pub stmt-returns-in_ok-second-in-Ok-clause-walked : goal.stmt-returns-in_ok-second-in-Ok-clause-walked
stmt-returns-in_ok-second-in-Ok-clause-walked t c = goes_over c.next_line-on.ensures (stmt-over _ _ _ _ _ _ (sym c.in-Ok.ensures.is) _ c.parts_of-p.ensures) _ (walked_then c.in_ok-arms-in-Ok.ensures _ (walked_then c.in_ok-first-in-Ok.ensures.walked _ (walked_then c.in_ok-second-in-Ok.ensures.walked _ c.stmts-in-Ok.ensures.walked)))

pub stmts-loop-init : goal.stmts-loop-init
stmts-loop-init t c = (begins _ _ c.requires.near, c.requires.sound)

pub stmts-returns-in_err-on-clause-walked : goal.stmts-returns-in_err-on-clause-walked
stmts-returns-in_err-on-clause-walked t c = let p = err_from_is_err_and c.from_residual.result c.from_residual.ensures.1 in rw (p.1, p.2) (breaks c.loop.invariant.0 c.loop-test.true _ c.in_err-on.ensures.walked)

pub stmts-loop-preserved : goal.stmts-loop-preserved
stmts-loop-preserved t c = (goes_on c.loop.invariant.0 c.loop-test.true _ c.in_ok-on.ensures.walked, c.in_ok-on.ensures.sound_2)

pub stmts-returns-clause-walked : goal.stmts-returns-clause-walked
stmts-returns-clause-walked t c = ends c.loop.invariant.0 c.loop-test.false
