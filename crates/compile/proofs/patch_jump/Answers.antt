use Rattle.std.proofs.Common.{arith}
use Rattle.definition.specs.Compile.{displacement}
use Rattle.emit.specs.Book.{labels_in}
use Rattle.optimize.specs.View.{map_in}
use Rattle.compile.proofs.Patches.{jumped}
use Rattle.compile.proofs.patch_jump.Goals as goal

pub returns-clause-code_after : goal.returns-clause-code_after
unfolding displacement
returns-clause-code_after c = jumped (labels_in c.args.emitted.book.now c.args.emitted.emitter.labels) (map_in c.args.moves.now) c.args.patch c.args.code.now c.requires.inside c.branch_of-branch.ensures (omega (arith, c.branch_of-branch.ensures.next, c.requires.inside.is, c.requires.code_len_bound)) c.push_u16.ensures
