use Rattle.std.proofs.Common.{◌≡◌}
use Rattle.definition.specs.Res.{ok}
use Rattle.definition.specs.Compile.{in_reach}
use Rattle.emit.specs.Book.{labels_in, patches_in}
use Rattle.optimize.specs.View.{map_in}
use Rattle.compile.proofs.first_far.Given as goal

abbrev pub invariant-loop-i : goal.invariant-loop-i
invariant-loop-i l = in_reach (labels_in l.emitted.book.now l.emitted.emitter.labels) (map_in l.moves) (patches_in l.emitted.book.now l.i) ≡ ok tt
