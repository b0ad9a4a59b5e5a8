use Rattle.emit.specs.Book.{labels_in}
use Rattle.compile.proofs.Patches.{Targeting}
use Rattle.compile.proofs.jump_targets.Given as goal

abbrev pub invariant-loop-i : goal.invariant-loop-i
invariant-loop-i l = Targeting (labels_in l.emitted.book.now l.emitted.emitter.labels) l.emitted.book.now l.emitted.emitter.patches l.targets l.i
