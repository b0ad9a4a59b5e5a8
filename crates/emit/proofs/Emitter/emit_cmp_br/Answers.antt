use mathlib.Core.Path.{refl}
use Rattle.emit.proofs.Steps.{none-is, some-is}
use Rattle.emit.proofs.Instructions.{seven-bytes}
use Rattle.emit.proofs.Branches.{fused-done}
use Rattle.emit.proofs.Constants.{constant-full, constant-halts, constant-kept, constant-done, fusing, cmp-br-is}
use Rattle.emit.proofs.Emitter.emit_cmp_br.Goals as goal

pub returns-in_default : goal.returns-in_default
returns-in_default c = constant-full _ _ 8 (fusing _ _ _ _) _ (cmp-br-is _ _ _ _ _) c.requires refl c.in_default.ensures c.fail.ensures

pub returns-then-is_some : goal.returns-then-is_some
returns-then-is_some c = constant-halts _ _ 8 (fusing _ _ _ _) _ (cmp-br-is _ _ _ _ _) c.requires c.in-Some.ensures.0 c.in-Some.ensures.1 c.prepare-e.ensures (some-is _ c.is_some.ensures c.if-is_some.true)

pub add_patch-requires-clause-branched : goal.add_patch-requires-clause-branched
add_patch-requires-clause-branched c = c.put_cmp_br-b.ensures.branched (seven-bytes _ _ _ _)

pub returns : goal.returns
returns c =
    let kept = constant-kept _ 8 c.requires c.in-Some.ensures.0 c.in-Some.ensures.1 c.prepare-e.ensures (none-is _ c.is_some.ensures c.if-is_some.false) c.keep.ensures in
    constant-done _ _ 8 (fusing _ _ _ _) _ (cmp-br-is _ _ _ _ _) c.requires c.in-Some.ensures.0 c.in-Some.ensures.1 c.prepare-e.ensures refl kept (fused-done _ _ _ _ _ kept.fine c.requires.room c.cmp_br-patch.ensures refl (c.put_cmp_br-b.ensures.coded _ c.prepare-e.ensures.noted.slots) c.add_patch.ensures)
