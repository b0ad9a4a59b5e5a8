use Rattle.text.proofs.Told.{part-long}
use Rattle.listing_answer.proofs.Handing.{whole-put}
use Rattle.listing_answer.proofs.put_whole.Goals as goal

pub slice_bounds-put_constants-end : goal.slice_bounds-put_constants-end
slice_bounds-put_constants-end c = part-long _ _ _ c.min-k.ensures

pub slice_bounds-put_entries-end : goal.slice_bounds-put_entries-end
slice_bounds-put_entries-end c = part-long _ _ _ c.entry_numbers-m.ensures

pub slice_bounds-put_instructions-end : goal.slice_bounds-put_instructions-end
slice_bounds-put_instructions-end c = part-long _ _ _ c.min-n.ensures

pub returns-clause-is : goal.returns-clause-is
returns-clause-is c = whole-put _ _ _ c.min-n.ensures c.min-k.ensures c.entry_numbers-m.ensures c.put_sizes.ensures.is c.put_constants.ensures.is c.put_entries.ensures.is c.put_instructions.ensures.is
