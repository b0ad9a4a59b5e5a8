use mathlib.Core.Path.{◌∙◌}
use native.Mathlib.Omega.{arith}
use borrow.Author.Tests.{le-ltb}
use Rattle.emit.proofs.Instructions.{stands-nowhere, stands_by}
use Rattle.emit.proofs.Emitter.stands_here.Goals as goal

pub returns-else-self-gt0 : goal.returns-else-self-gt0
returns-else-self-gt0 c = le-ltb _ _ c.if-self-gt0.false ∙ stands-nowhere c.args.book.now c.args.self.lines c.args.self.position (omega arith)

pub returns-then-self-gt0 : goal.returns-then-self-gt0
returns-then-self-gt0 c = stands_by c.args.book.now c.args.self.lines c.args.self.position (λ z. omega arith) c.line_at.ensures c.same.ensures
