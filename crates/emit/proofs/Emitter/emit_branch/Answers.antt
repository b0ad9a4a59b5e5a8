use mathlib.Core.List.{[]}
use Rattle.emit.specs.View.{patch_view}
use Rattle.emit.proofs.Instructions.{two_bytes}
use Rattle.emit.proofs.Branches.{branch-done}
use Rattle.emit.proofs.Emitter.emit_branch.Goals as goal

pub add_patch-requires-clause-branched : goal.add_patch-requires-clause-branched
add_patch-requires-clause-branched c = c.add_u16-e.ensures.branched (two_bytes 0)

pub returns : goal.returns
returns c = branch-done _ _ [] (patch_view c.args.patch) c.requires.fine c.requires.code_len c.requires.instruction_offset_value c.add_u16-e.ensures c.add_patch.ensures
