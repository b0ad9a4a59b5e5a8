use mathlib.Core.Path.{subst}
use Prim.Native.Nat.{ℕ}
use Rattle.definition.specs.Emit.{refused}
use Rattle.emit.specs.Steps.{Bare}
use Rattle.emit.proofs.Emitter.refuse.Goals as goal

pub returns : goal.returns
returns c = subst (λ (n : ℕ). Bare (refused (record { number = n; place = c.args.place })) c.args.self c.fail.result) c.of.ensures c.fail.ensures
