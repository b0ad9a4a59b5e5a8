use mathlib.Core.Path.{refl}
use Rattle.emit.proofs.Steps.{none-is, some-is}
use Rattle.emit.proofs.Constants.{constant-full, constant-halts, constant-kept, constant-done, loading, load-constant-is}
use Rattle.emit.proofs.Emitter.load_constant.Goals as goal

pub returns-in_default : goal.returns-in_default
returns-in_default c = constant-full _ _ 3 (loading _) _ (load-constant-is _ _) c.requires refl c.in_default.ensures c.fail.ensures

pub returns-then-is_some : goal.returns-then-is_some
returns-then-is_some c = constant-halts _ _ 3 (loading _) _ (load-constant-is _ _) c.requires c.in-Some.ensures.0 c.in-Some.ensures.1 c.prepare-e.ensures (some-is _ c.is_some.ensures c.if-is_some.true)

pub returns : goal.returns
returns c = constant-done _ _ 3 (loading _) _ (load-constant-is _ _) c.requires c.in-Some.ensures.0 c.in-Some.ensures.1 c.prepare-e.ensures refl (constant-kept _ 3 c.requires c.in-Some.ensures.0 c.in-Some.ensures.1 c.prepare-e.ensures (none-is _ c.is_some.ensures c.if-is_some.false) c.keep.ensures) (c.put_u16.ensures.coded _ c.prepare-e.ensures.noted.slots)
