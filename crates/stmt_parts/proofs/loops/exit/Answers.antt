use Rattle.stmt_parts.proofs.Jumps.{exit-none, exit-found}
use Rattle.stmt_parts.proofs.loops.exit.Goals as goal

pub returns-in-Some : goal.returns-in-Some
returns-in-Some c = exit-found _ _ _ _ _ c.requires.skipped _ c.in-Some.ensures c.emit_jmp-emitter.ensures

pub returns-in-None : goal.returns-in-None
returns-in-None c = exit-none _ _ _ _ _ c.requires.skipped _ c.in-None.ensures c.requires.code_len c.told-book c.fail-emitter.ensures
