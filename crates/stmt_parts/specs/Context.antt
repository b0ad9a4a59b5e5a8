-- Where a statement stands, and the parts of the text that are read there.
use Rattle.std.specs.Prelude.{List, ℕ, ◌+◌, ◌-◌}
use Rattle.definition.specs.Tree.{Expr, Stmt, Block}
use Rattle.definition.specs.Program as def
use Rattle.definition.specs.Program.{expr_at, stmt_at}
use Rattle.program_shape.specs.Shape.{block_at}
use Rattle.stmt_parts.specs.declared.Context.{Context}

abbrev pub expr_in : Context → List ℕ → def.Cursor → Expr × def.Cursor
expr_in ctx text c = expr_at ctx.left ctx.variables text c

abbrev pub stmt_in : Context → List ℕ → def.Cursor → Stmt × def.Cursor
stmt_in ctx text c = stmt_at ctx.left ctx.variables text c

abbrev pub block_in : Context → List ℕ → ℕ → def.Cursor → Block × def.Cursor
block_in ctx text n c = block_at ctx.left ctx.variables text n c

-- a statement's parts, and the body of a loop
abbrev pub inner_of : Context → Context
inner_of ctx = record { variables = ctx.variables; left = ctx.left - 1; inside = ctx.inside }

abbrev pub in_loop : Context → Context
in_loop ctx = record { variables = ctx.variables; left = ctx.left; inside = ctx.inside + 1 }
