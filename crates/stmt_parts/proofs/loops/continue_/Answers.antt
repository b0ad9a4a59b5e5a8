use native.Mathlib.Omega.{arith}
use Rattle.stmt_parts.proofs.Jumps.{continue-none, continue-found}
use Rattle.stmt_parts.proofs.loops.continue_.Goals as goal

pub returns-in-Some : goal.returns-in-Some
returns-in-Some c = continue-found _ _ _ _ _ c.requires.skipped _ c.in-Some.ensures (omega (arith, c.in-Some.ensures.within)) c.emit_jmp-emitter.ensures

pub returns-in-None : goal.returns-in-None
returns-in-None c = continue-none _ _ _ _ _ c.requires.skipped _ c.in-None.ensures c.requires.code_len c.told-book c.fail-emitter.ensures
