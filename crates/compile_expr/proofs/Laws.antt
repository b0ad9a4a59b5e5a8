-- The fused compare is one call.
use mathlib.Core.Path.{◌≡◌, refl}
use mathlib.Core.Bool.{Bool, true, false}
use Prim.Native.Nat.{ℕ}
use Rattle.definition.specs.Opcode.{Sheet, CompareOp}
use Rattle.definition.specs.Emit.{emit_cmp_br}
use Rattle.definition.specs.Walk.{say}
use Rattle.definition.specs.CompileExpr.{ClassifiedCmp, emit_classified_cmp_br}
use Rattle.emit.specs.View.{World}
use Rattle.emit.specs.Steps.{run, call, Filled}
use Rattle.emit.proofs.Calls.{said-filled}
use Rattle.compile_expr.specs.Branching.{branching_on}

-- whichever way it branches, it is one CMP_BR
classified-is : (f : ClassifiedCmp) (on : Bool) (l : ℕ) → emit_classified_cmp_br f on l ≡ say (emit_cmp_br (branching_on f.op on) f.variable f.constant l)
unfolding emit_classified_cmp_br branching_on
classified-is f true l = refl
classified-is f false l = refl

pub fuses : (s : Sheet) (f : ClassifiedCmp) (on : Bool) (l : ℕ) {o : CompareOp} {w v : World} → o ≡ branching_on f.op on
    → Filled (call s (emit_cmp_br o f.variable f.constant l)) w v → Filled (run s (emit_classified_cmp_br f on l)) w v
fuses s f on l e d = rw (classified-is f on l, ← e) (said-filled s _ d)
