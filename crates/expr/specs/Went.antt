-- What emission of a part of the text does: the calls of the definition's walk, run on the emitter, and the place behind the part.
use Rattle.std.specs.Prelude.{◌≡◌, List, Bool, true, false, ℕ, suc}
use Rattle.definition.specs.Opcode.{Sheet, Role, load_true, load_false}
use Rattle.definition.specs.Tree.{Expr}
use Rattle.definition.specs.Program as def
use Rattle.definition.specs.Program.{expr_at}
use Rattle.definition.specs.Emit.{emit_opcode}
use Rattle.definition.specs.Walk.{Calls, ◌>>◌}
use Rattle.definition.specs.Expr.{emit_expr}
use Rattle.program.specs.declared.Cursor.{Cursor}
use Rattle.program.specs.Walk.{cursor_of, Near}
use Rattle.emit.specs.View.{World}
use Rattle.emit.specs.Steps.{run, call, Did, Ready, Kept, Coded}
use Rattle.expr.specs.declared.Walked.{Walked}

-- m was emitted, and the walk stands at d
pub record Went (s : Sheet) (m : Calls) (text : List ℕ) (d : def.Cursor) (w v : World) (c : Cursor) : Type 0 where
  pub is : cursor_of c ≡ d
  pub near : Near text c.at c.row
  pub ready : Ready v
  pub kept : Kept w v
  pub did : Did (run s m) w v

-- an expression was read and emitted
abbrev pub WentExpr : Sheet → ℕ → Expr × def.Cursor → List ℕ → World → World → Cursor → Type 0
WentExpr s h p text w v c = Went s (emit_expr p.0 h) text p.1 w v c

-- two of them were read, the second behind the first, and emitted as m says
abbrev pub second_at : ℕ → ℕ → List ℕ → def.Cursor → Expr × def.Cursor
second_at left v text c = expr_at left v text (expr_at left v text c).1

abbrev pub WentTwo : Sheet → (Expr → Expr → Calls) → ℕ → ℕ → List ℕ → def.Cursor → World → World → Cursor → Type 0
WentTwo s m left v text c w u d = Went s (m (expr_at left v text c).0 (second_at left v text c).0) text (second_at left v text c).1 w u d

unfoldable pub emit_two : ℕ → Expr → Expr → Calls
emit_two h a b = emit_expr a h >> emit_expr b (suc h)

unfoldable pub bool_role : Bool → Role
bool_role true = load_true
bool_role false = load_false

-- an instruction of one byte was added where the walk stands
pub record Operated (s : Sheet) (role : Role) (w : Walked) (code book : List ℕ) (r : Walked) (code' book' : List ℕ) : Type 0 where
  pub there : r.cursor ≡ w.cursor
  pub coded : Coded (call s (emit_opcode role)) w.emitter code book r.emitter code' book'
