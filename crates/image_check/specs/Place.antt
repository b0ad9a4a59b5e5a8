-- Code as a graph of nodes: one for each start, and one for the end.
use Rattle.std.specs.Prelude.{ℕ, ◌+◌, List, [], Bool, true, false, length, get_or, eqb}
use Rattle.std.proofs.Math.Option.{Option, some, none}
use Rattle.definition.specs.Field.{has}
use Rattle.definition.specs.Opcode.{Role, Sheet, role_of, size, needs, same, effect, Flow, onward, away, either, stop, flow}
use Rattle.definition.specs.Check.{exits}
use Rattle.image_check.specs.Graph.{Node}

abbrev pub halts : Flow → Bool
halts onward = false
halts away = false
halts either = false
halts stop = true

unfoldable pub end_node : Node
end_node = record { needs = 0; effect = same; exits = []; stops = true }

unfoldable pub role_node : List ℕ → ℕ → Role → Node
role_node code p r = record { needs = needs r; effect = effect r; exits = exits (flow r) code (p + size r); stops = halts (flow r) }

unfoldable pub node_of : List ℕ → ℕ → Option Role → Option Node
node_of code p none = none
node_of code p (some r) = some (role_node code p r)

-- the node at a place: a start's or the end's
unfoldable pub node_at : Sheet → List ℕ → List ℕ → ℕ → Option Node
node_at s code starts p = elim (eqb p (length code)) [
  | true ↦ some end_node
  | false ↦ elim (has starts p) [ true ↦ node_of code p (role_of s (get_or code p 0)) | false ↦ none ]
]

-- `unfolding open-Place` names all of this module's definitions at once
unfoldable pub open-Place : Unit {0}
unfolding end_node role_node node_of node_at
open-Place = tt
