-- One traversal of code, place by place, decides whether a walk goes astray and, if none does, whether a height is at fault. Here code is a graph: a node for
-- each start and for the end.
use Rattle.std.specs.Prelude.{ℕ, ◌+◌, ◌-◌, suc, zero, ◌≤◌, ◌<◌, ◌≡◌, List, [], ◌∷◌, Bool, true, false, not, ◌&&◌, ◌||◌, eqb, ltb}
use Rattle.std.proofs.Math.Option.{Option, some, none}
use Rattle.definition.specs.Limits.{astray, bad_height}
use Rattle.definition.specs.Opcode.{Effect, shift}
use Rattle.definition.specs.Check.{OneOf}

-- values that must be on the stack, height change, where it may lead, and whether a run finishes here
pub record Node : Type 0 where
  pub needs : ℕ
  pub effect : Effect
  pub exits : List (Option ℕ)
  pub stops : Bool

-- the state of a traversal: 0 at a place that was not met, else 1 and the height at which it was met first; the places whose exits were not looked at; was a
-- height at fault?
pub record Table : Type 0 where
  pub marks : ℕ → ℕ
  pub work : List ℕ
  pub bad : Bool

unfoldable pub marked : (ℕ → ℕ) → ℕ → ℕ → ℕ → ℕ
marked m q h x = elim (eqb x q) [ true ↦ suc h | false ↦ m x ]

unfoldable pub and_then : {A B : Type 0} → Option A → (A → Option B) → Option B
and_then none f = none
and_then (some a) f = f a

-- is a height at fault at a node?
unfoldable pub wrong : ℕ → Node → ℕ → Bool
wrong depth nd g = ltb depth g || (ltb g nd.needs || (nd.stops && ltb 0 g))

unfoldable pub meet_at : ℕ → Table → ℕ → Option Node → ℕ → Option Table
meet_at h t q none m = none
meet_at h t q (some nd) zero = some (record { marks = marked t.marks q h; work = q ∷ t.work; bad = t.bad })
meet_at h t q (some nd) (suc g) = some (record { marks = t.marks; work = t.work; bad = t.bad || not (eqb g h) })

-- a place is met at height h; none where it is no node
unfoldable pub meet : (ℕ → Option Node) → ℕ → Table → Option ℕ → Option Table
meet node h t none = none
meet node h t (some q) = meet_at h t q (node q) (t.marks q)

unfoldable pub meet_all : (ℕ → Option Node) → ℕ → List (Option ℕ) → Table → Option Table
meet_all node h [] t = some t
meet_all node h (q ∷ qs) t = and_then (meet node h t q) (λ u. meet_all node h qs u)

-- the height behind a node; behind a fault heights no longer matter, so that none is ever above the depth and 1
unfoldable pub behind : ℕ → Node → ℕ → ℕ
behind depth nd g = elim (wrong depth nd g) [ true ↦ 0 | false ↦ shift nd.effect g ]

-- a place that was met at height g, with its node
unfoldable pub expand : (ℕ → Option Node) → ℕ → Option Node → ℕ → Table → Option Table
expand node depth none g t = none
expand node depth (some nd) g t = meet_all node (behind depth nd g) nd.exits (record { marks = t.marks; work = t.work; bad = t.bad || wrong depth nd g })

unfoldable pub traverse : (ℕ → Option Node) → ℕ → ℕ → (ℕ → ℕ) → List ℕ → Bool → Option Table
traverse node depth zero m w b = some (record { marks = m; work = w; bad = b })
traverse node depth (suc n) m [] b = some (record { marks = m; work = []; bad = b })
traverse node depth (suc n) m (p ∷ ps) b = and_then (expand node depth (node p) (m p - 1) (record { marks = m; work = ps; bad = b })) (λ u. traverse node depth n u.marks u.work u.bad)

unfoldable pub nothing : Table
nothing = record { marks = λ x. 0; work = []; bad = false }

unfoldable pub verdict : Option Table → ℕ
verdict none = astray
verdict (some t) = elim t.bad [ true ↦ bad_height | false ↦ 0 ]

-- all of it, for nodes at 0 to n
unfoldable pub traversed : (ℕ → Option Node) → ℕ → ℕ → Option Table
traversed node depth n = and_then (meet node 0 nothing (some 0)) (λ t. traverse node depth (suc n) t.marks t.work t.bad)

-- `unfolding open-Graph` names all that the traversal is computed by
unfoldable pub open-Graph : Unit {0}
unfolding marked and_then wrong behind meet_at meet meet_all expand traverse nothing verdict traversed
open-Graph = tt

-- ---- what it decides

unfoldable pub Nowhere : (ℕ → Option Node) → Option ℕ → Type 0
Nowhere node none = Unit {0}
Nowhere node (some p) = node p ≡ none

pub data Walked (node : ℕ → Option Node) : Option ℕ → Type 0 where
  begins : Walked node (some 0)
  leads : {p : ℕ} {nd : Node} {q : Option ℕ} → Walked node (some p) → node p ≡ some nd → OneOf q nd.exits → Walked node q

pub data Reached (node : ℕ → Option Node) : ℕ → ℕ → Type 0 where
  begins : Reached node 0 0
  leads : {p g : ℕ} {nd : Node} {q h : ℕ} → Reached node p g → node p ≡ some nd → nd.needs ≤ g → OneOf (some q) nd.exits → h ≡ shift nd.effect g → Reached node q h

pub record Strays (node : ℕ → Option Node) : Type 0 where
  pub place : Option ℕ
  pub walk : Walked node place
  pub off : Nowhere node place

pub data Faults (node : ℕ → Option Node) (depth : ℕ) : Type 0 where
  above : {p g : ℕ} {nd : Node} → Reached node p g → node p ≡ some nd → depth < g → Faults node depth
  empty : {p g : ℕ} {nd : Node} → Reached node p g → node p ≡ some nd → g < nd.needs → Faults node depth
  unempty : {p g : ℕ} {nd : Node} → Reached node p g → node p ≡ some nd → nd.stops ≡ true → 0 < g → Faults node depth
  twice : {p g h : ℕ} {nd : Node} → Reached node p g → Reached node p h → node p ≡ some nd → (g ≡ h → ⊥) → Faults node depth

-- ---- how far it is

unfoldable pub one : ℕ → ℕ
one zero = 1
one (suc g) = 0

-- places below n that were not met
unfoldable pub blank : (ℕ → ℕ) → ℕ → ℕ
blank m zero = 0
blank m (suc n) = one (m n) + blank m n
