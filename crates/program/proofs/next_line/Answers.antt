use native.Mathlib.Omega.{arith}
use Rattle.field.proofs.Parts.{line-ends}
use Rattle.program.proofs.Laws.{next-is}
use Rattle.program.proofs.next_line.Goals as goal

pub behind-requires : goal.behind-requires
behind-requires c = record { near = c.requires.near; end_in_bounds = omega (arith, c.requires.at_in_bounds, c.requires.end_value, (line-ends c.args.text.now c.args.c.at).high) }

pub returns : goal.returns
returns c = rw c.behind.ensures (next-is (rw c.requires.end_value (line-ends _ _)) c.requires.near c.requires.at_in_bounds)
