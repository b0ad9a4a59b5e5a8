-- What the check of a program text answers.
use Rattle.std.specs.Prelude.{ℕ, ◌≤◌, ◌<◌, ◌≡◌, true, List, length}
use Rattle.definition.specs.Limits.{max_program, max_nesting}
use Rattle.definition.specs.Res.{Res, ok, ◌>>=◌}
use Rattle.definition.specs.Tree.{Program}
use Rattle.definition.specs.Program.{is, Header, Cursor, header_of, line_at, header_forms, next_line, ends_in_lf, top_stmts, read_program}
use Rattle.line_map.specs.View.{pos_view}
use Rattle.program.specs.Walk.{Near}
use Rattle.program.specs.declared.Checked.{Checked}

abbrev pub checked_view : Checked → Header × ℕ
checked_view c = (record { variables = c.variables; statements = c.statements; pos = pos_view c.pos }, c.next)

-- the definition's reading of the text: what its header says, and where the first top statement stands
unfoldable pub checked : List ℕ → Res (Header × ℕ)
checked text = do
  p ← read_program text
  h ← header_of (line_at header_forms max_nesting text 0)
  ok (h, (next_line text (record { at = 0; row = 1 })).at)

-- a text that 1 does not refuse, with this header
pub record Headed (text : List ℕ) (h : Header) : Type 0 where
  pub there : 0 < length text
  pub short : length text ≤ max_program
  pub ended : ends_in_lf text ≡ true
  pub header : line_at header_forms max_nesting text 0 ≡ is h

-- the program behind a header
abbrev pub program_of : List ℕ → Header → Program
program_of text h = record { pos = h.pos; body = (top_stmts h text).0 }

-- what emission starts from: the tree that was read, and the place of its first top statement
pub record Accepts (text : List ℕ) (h : Header) (next : ℕ) : Type 0 where
  pub read : read_program text ≡ ok (program_of text h)
  pub top : ◌≡◌ {A = Cursor} (record { at = next; row = 2 }) (next_line text (record { at = 0; row = 1 }))
  pub near : Near text next 2
