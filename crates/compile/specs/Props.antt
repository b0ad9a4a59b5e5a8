-- Facts of what was emitted that can hold in one way only, so that a struct may keep them.
use Rattle.std.specs.Prelude.{ℕ, List, [], ◌∷◌, refl}
use Rattle.std.specs.Coded.{Unit-prop, le_prop}
use Rattle.std.proofs.Common.{ap, ◌∙◌}
use Rattle.std.proofs.Props.{props}
use Rattle.std.proofs.Math.Option.{Option}
use Rattle.definition.specs.Emit.{PendingPatch}
use Rattle.definition.specs.Claims.{Each, empty, ◌also◌}
use Rattle.emit.specs.declared.Last.{Last}
use Rattle.emit.specs.declared.Last.TheVariants.{Other, Loaded, Stored}
use Rattle.emit.specs.declared.Emitter.{Emitter}
use Rattle.emit.specs.Steps.{LastAt, Fine}
use Rattle.compile.specs.View.{BoundIn}

pub last-prop : (l : Last) (n : ℕ) → IsProp (LastAt l n)
last-prop Other n = Unit-prop
last-prop (Loaded v) n = Unit-prop
last-prop (Stored v) n = le_prop

pub fine-prop : (e : Emitter) → IsProp (Fine e)
fine-prop e = Prim.hlevel (last-prop, props)

each-prop : {A : Type 0} {P : A → Type 0} → ((x : A) → IsProp (P x)) → (xs : List A) → IsProp (Each P xs)
each-prop f [] empty empty = refl
each-prop f (x ∷ xs) (p also ps) (q also qs) = ap (λ r. r also ps) (f x p q) ∙ ap (λ rs. q also rs) (each-prop f xs ps qs)

pub bound-prop : (size : ℕ) (labels : List (Option ℕ)) (ps : List PendingPatch) → IsProp (Each (BoundIn size labels) ps)
bound-prop size labels ps = each-prop (λ p. Prim.hlevel props) ps
