-- The definition's emitter, as the struct and three lent lists hold it.
use Rattle.std.specs.Prelude.{ℕ, List, take, Option, Some, None}
use Rattle.definition.specs.Res.{Res, ok, refuse}
use Rattle.definition.specs.Emit as def
use Rattle.definition.specs.View.{refusal_number}
use Rattle.definition.specs.declared.Refused.{Refused}
use Rattle.line_map.specs.View.{pos_view}
use Rattle.emit.specs.declared.Emitter.{Emitter}
use Rattle.emit.specs.declared.patch.PendingPatch.{PendingPatch}
use Rattle.emit.specs.declared.Last.{Last}
use Rattle.emit.specs.declared.Last.TheVariants.{Other, Loaded, Stored}
use Rattle.emit.specs.Book.{labels_in, patches_in, lines_in}

abbrev pub last_view : Last → def.Last
last_view Other = def.other
last_view (Loaded v) = def.loaded v
last_view (Stored v) = def.stored v

abbrev pub patch_view : PendingPatch → def.PendingPatch
patch_view p = record { instruction_offset = p.instruction_offset; operand_delta = p.operand_delta; label = p.label.0 }

-- the emitter with what is lent to it: code, book and pool
pub record World : Type 0 where
  pub e : Emitter
  pub code : List ℕ
  pub book : List ℕ
  pub pool : List ℕ

abbrev pub world : Emitter → List ℕ → List ℕ → List ℕ → World
world e code book pool = record { e = e; code = code; book = book; pool = pool }

-- what lies past a count is not looked at
abbrev pub state : World → def.Emitter
state w = record {
  bytecode = take w.e.size w.code;
  labels = labels_in w.book w.e.labels;
  patches = patches_in w.book w.e.patches;
  line_map = lines_in w.book w.e.lines;
  constants = take w.e.constants w.pool;
  last = last_view w.e.last;
  depth = w.e.depth;
  max_depth = w.e.deepest;
  position = pos_view w.e.position;
}

-- the refusal, by number and place, if there is one
unfoldable pub standing : {A : Type 0} → Option Refused → A → Res A
standing None a = ok a
standing (Some r) a = refuse (refusal_number r.refusal) r.place

-- the emitter, or its refusal
abbrev pub view : World → Res def.Emitter
view w = standing w.e.refused (state w)

-- the same with the state of either: where emission stands, or which state the refused call met
pub data Stage : Type 0 where
  going : def.Emitter → Stage
  halted : ℕ → ℕ → def.Emitter → Stage

unfoldable pub stage_of : Option Refused → def.Emitter → Stage
stage_of None x = going x
stage_of (Some r) x = halted (refusal_number r.refusal) r.place x

abbrev pub stage : World → Stage
stage w = stage_of w.e.refused (state w)
