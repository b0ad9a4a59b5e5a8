use Rattle.store.proofs.Fills.{set-behind}
use Rattle.store.proofs.fill_from.Goals as goal

pub returns : goal.returns
returns g c = set-behind _ _ _ c.min-n.ensures c.copy_from_slice.ensures.after c.set_from.ensures
