-- What this crate's types stand for in the definition.
use Rattle.definition.specs.Tree as tree
use Rattle.definition.specs.Emit as emit
use Rattle.line_map.specs.declared.Pos.{Pos}
use Rattle.line_map.specs.declared.LineEntry.{LineEntry}

abbrev pub pos_view : Pos → tree.Pos
pos_view p = record { line = p.line; column = p.column }

abbrev pub entry_view : LineEntry → emit.LineEntry
entry_view e = record { offset = e.offset; pos = pos_view e.pos }
