-- `put_lines` meets its contract. The loop's invariant is `Listed`: the lines of the first i
-- entries are put, and end at `at`. Assumes nothing.
use native.Mathlib.Omega.{arith}
use Rattle.listing.proofs.ListingLines.{entry-slot, entry-readable, listed-none, listed_more, listed-all, listed-short, line-fits}
use Rattle.listing.proofs.put_lines.Goals as goal

pub loop-i-init : goal.loop-i-init
loop-i-init c =
    listed-none _ _ c.requires.can_list _ c.requires.count_value.1

pub order_entry-n-requires : goal.order_entry-n-requires
order_entry-n-requires c =
    entry-slot _ _ c.requires.can_list c.loop-i.i (omega (arith, c.requires.count_value.0))

pub put_line-at-requires-clause-valid_node : goal.put_line-at-requires-clause-valid_node
put_line-at-requires-clause-valid_node c =
    rw c.order_entry-n.ensures (entry-readable _ _ c.requires.can_list c.loop-i.i (omega (arith, c.requires.count_value.0)))

pub put_line-at-requires-clause-at_in_bounds : goal.put_line-at-requires-clause-at_in_bounds
put_line-at-requires-clause-at_in_bounds c =
    line-fits _ _ c.requires.can_list _ c.requires.count_value.1 _ _ _ (omega (arith, c.requires.count_value.0)) c.loop-i.invariant
    (omega (arith, c.requires.count_value.0))

pub loop-i-preserved : goal.loop-i-preserved
loop-i-preserved c =
    listed_more _ _ c.requires.can_list _ c.requires.count_value.1 _ _ _ (omega (arith, c.requires.count_value.0)) c.loop-i.invariant
    (omega (arith, c.requires.count_value.0)) _ _ _ c.order_entry-n.ensures c.put_line-at.ensures

pub returns-clause-put : goal.returns-clause-put
returns-clause-put c =
    listed-all _ _ c.requires.can_list _ c.requires.count_value.1 _ _ _ (omega (arith, c.requires.count_value.0)) c.loop-i.invariant
    (omega (arith, c.requires.count_value.0))

pub returns-clause-upper_bound : goal.returns-clause-upper_bound
returns-clause-upper_bound c =
    listed-short _ _ c.requires.can_list _ c.requires.count_value.1 _ _ _ (omega (arith, c.requires.count_value.0)) c.loop-i.invariant
