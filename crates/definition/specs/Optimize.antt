-- The three passes and line mapping (optimize/mod.rs).
use Rattle.std.specs.Prelude.{ℕ, List, [], ◌∷◌, map, Bool, true, false, ◌||◌, eqb, leb}
use Rattle.std.proofs.Math.Option.{Option, some, none}
use Rattle.definition.specs.Opcode.{Sheet}
use Rattle.definition.specs.Rules.{Rule, matches}
use Rattle.definition.specs.Emit.{LineEntry}
use Rattle.definition.specs.Rewrite.{decode, boundaries_from, OffsetMap, moved_to, apply_peephole}

-- the code between passes; `protected` are offsets in it, `map` leads from the first offsets to those in it
pub record Pipeline : Type 0 where
  pub bytecode : List ℕ
  pub protected : List ℕ
  pub map : OffsetMap

unfoldable pub map_through : OffsetMap → OffsetMap → OffsetMap
map_through m ps = map (λ (p : ℕ × ℕ). (p.0, moved_to m p.1)) ps

-- one pass, with the lines of that pass; the protected offsets are moved with the code
unfoldable pub run : Sheet → List Rule → ℕ → Pipeline → Pipeline
run s rules pass p =
    let r = apply_peephole s (λ a b. matches pass rules a b) p.protected p.bytecode in
    record { bytecode = r.0; protected = map (moved_to r.1) p.protected; map = map_through r.1 p.map }

-- every start and the end of some code, at its own place; empty code maps 0 to 0
unfoldable pub identity : Sheet → List ℕ → OffsetMap
identity s code = map (λ x. (x, x)) (boundaries_from 0 (decode s code))

unfoldable pub optimize : Sheet → List Rule → List ℕ → List ℕ → Pipeline
optimize s rules code protected =
    run s rules 3 (run s rules 2 (run s rules 1 (record { bytecode = code; protected = protected; map = identity s code })))

unfoldable pub is_last : Option ℕ → ℕ → Bool
is_last none x = false
is_last (some y) x = eqb y x

-- `remap_line_map`, from the last kept entry's offset on: an entry mapped to or past the new end, or to that offset, is dropped
unfoldable pub remap_line_map : OffsetMap → ℕ → Option ℕ → List LineEntry → List LineEntry
remap_line_map m end last [] = []
remap_line_map m end last (x ∷ xs) = elim (leb end (moved_to m x.offset) || is_last last (moved_to m x.offset)) [
  | true ↦ remap_line_map m end last xs
  | false ↦ record { offset = moved_to m x.offset; pos = x.pos } ∷ remap_line_map m end (some (moved_to m x.offset)) xs
]

-- `unfolding open-Optimize` names all of this module's definitions at once
unfoldable pub open-Optimize : Unit {0}
unfolding map_through run identity optimize is_last remap_line_map
open-Optimize = tt
