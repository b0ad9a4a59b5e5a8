use mathlib.Core.Path.{refl}
use Rattle.expr.proofs.operate.Goals as goal

pub emit_typed-emitter-requires : goal.emit_typed-emitter-requires
emit_typed-emitter-requires c = record { fine = c.requires.fine; code_len = c.requires.code_len }

pub returns : goal.returns
returns c = record { there = refl; coded = c.emit_typed-emitter.ensures }
