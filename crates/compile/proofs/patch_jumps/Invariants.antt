use Rattle.emit.specs.Book.{labels_in}
use Rattle.optimize.specs.View.{map_in}
use Rattle.compile.proofs.Patches.{Patching}
use Rattle.compile.proofs.patch_jumps.Given as goal

abbrev pub invariant-loop-i : goal.invariant-loop-i
invariant-loop-i l = Patching (labels_in l.emitted.book.now l.emitted.emitter.labels) (map_in l.moves) l.emitted.book.now l.emitted.emitter.patches l.initial.code l.code l.i
