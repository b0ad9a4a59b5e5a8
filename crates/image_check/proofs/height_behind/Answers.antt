use native.Mathlib.Omega.{arith}
use Rattle.opcode.specs.View.{effect_view}
use Rattle.image_check.proofs.Expanding.{shift-most}
use Rattle.image_check.proofs.height_behind.Goals as goal

pub overflow_cast-result : goal.overflow_cast-result
overflow_cast-result c = omega (arith, c.shift.ensures, shift-most (effect_view c.args.effect) c.args.g, c.requires)
