use Rattle.definition.specs.Emit.{act}
use Rattle.emit.proofs.Branches.{branch-of}
use Rattle.emit.proofs.Emitter.emit_jmp_if_not.Goals as goal

pub returns : goal.returns
unfolding act
returns c = branch-of _ _ _ _ _ _ c.jmp_if_not-patch.ensures c.emit_branch.ensures
