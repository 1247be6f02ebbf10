-- The listing lies within its buffer.
use mathlib.Core.Path.{sym}
use lib.Seq.{length-take-le}
use Rattle.listing.proofs.CallLaws.{length-within}
use Rattle.order.proofs.print_listing.Goals as goal

pub slice_bounds-text-end : goal.slice_bounds-text-end
slice_bounds-text-end g c =
    length-within _ _ _ _ c.write_listing-listed.ensures _ c.in-Ok.is

pub slice_bounds-print-end : goal.slice_bounds-print-end
slice_bounds-print-end g c =
    sym (length-take-le _ _ (length-within _ _ _ _ c.write_listing-listed.ensures _ c.in-Ok.is))
