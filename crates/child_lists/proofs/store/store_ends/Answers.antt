-- `storing::store_ends` meets its contract: the next sibling of the record is the one that the
-- arena has. Assumes nothing.
use mathlib.Core.Path.{ap, ◌∙◌}
use Rattle.laws.proofs.StoredLaws.{bytes-by-place}
use Rattle.arena.specs.Slot.{with_last_child, links_stored}
use Rattle.child_lists.proofs.SlotStores.{ends-alone}
use Rattle.child_lists.proofs.store.store_ends.Goals as goal

pub returns : goal.returns
returns c =
    c.store_links.ensures
    ∙ (λ i. links_stored c.args.n ((c.with_last_child-linked.ensures ∙ ap (with_last_child _) c.with_first_child.ensures) i) c.args.arena.now)
    ∙ ends-alone c.args.arena.now (bytes-by-place c.args.arena.now (λ k. (c.slice_known-1.given k).fits)) c.args.n c.requires.whole c.requires.within
    c.args.first c.args.last _ c.load_node-node.ensures.next_sibling
