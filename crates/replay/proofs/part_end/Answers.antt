use mathlib.Core.Path.{sym, ◌∙◌}
use Rattle.replay.proofs.Parts.{starts-here, read-begins, read_here, read-on, read-end}
use borrow.Author.Rules.{rules}
use Rattle.replay.proofs.part_end.Goals as goal
use Rattle.replay.proofs.part_end.Goals.{else-starts-via-then-starts+else-starts_with, else-starts-via-else-starts}

pub loop-at-init : goal.loop-at-init
loop-at-init c = read-begins _ _ c.requires

pub returns-then-starts_with-clause-is : goal.returns-then-starts_with-clause-is
returns-then-starts_with-clause-is c = read_here _ _ _ _ c.loop-at.invariant (search rules) c.if-starts.true (sym (starts-here c.args.input.now c.loop-at.at c.starts_with.ensures.value) ∙ c.if-starts_with.true)

pub loop-at-preserved : goal.loop-at-preserved
loop-at-preserved c =
    read-on _ _ _ _ c.loop-at.invariant (search rules)
    (elim c.else-starts.branch [
      | else-starts-via-then-starts+else-starts_with w ↦ rw (w.if-starts.true, sym (starts-here c.args.input.now c.loop-at.at w.starts_with.ensures.value), w.if-starts_with.false)
      | else-starts-via-else-starts w ↦ rw w.if-starts.false
    ])

pub returns-clause-is : goal.returns-clause-is
returns-clause-is c = read-end _ _ _ _ c.loop-at.invariant (search rules)
