-- The room is too long to be counted through.
use Rattle.std.proofs.Common.{ℕ, sym}
use lib.ListN.{length-replicate}
use Rattle.text.specs.Text.{text_room}
use Rattle.compile_test.proofs.is_told.Goals as goal

pub slice_bounds-new-end : goal.slice_bounds-new-end
slice_bounds-new-end c = sym (length-replicate {A = ℕ} text_room 0)
