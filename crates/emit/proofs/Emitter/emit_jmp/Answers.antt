use Rattle.definition.specs.Emit.{act}
use Rattle.emit.proofs.Branches.{branch-of}
use Rattle.emit.proofs.Emitter.emit_jmp.Goals as goal

pub returns : goal.returns
unfolding act
returns c = branch-of _ _ _ _ _ _ c.jmp-patch.ensures c.emit_branch.ensures
