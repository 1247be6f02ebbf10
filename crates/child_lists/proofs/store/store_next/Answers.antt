-- `storing::store_next` meets its contract: the other links of the record are those that the arena
-- has. Assumes nothing.
use mathlib.Core.Path.{◌∙◌}
use Rattle.laws.proofs.StoredLaws.{bytes-by-place}
use Rattle.arena.specs.Slot.{links_stored}
use Rattle.child_lists.proofs.SlotStores.{next-alone}
use Rattle.child_lists.proofs.store.store_next.Goals as goal

pub returns : goal.returns
returns c =
    c.store_links.ensures ∙ (λ i. links_stored c.args.n (c.with_next_sibling-linked.ensures i) c.args.arena.now)
    ∙ next-alone c.args.arena.now (bytes-by-place c.args.arena.now (λ k. (c.slice_known-1.given k).fits)) c.args.n
    c.requires.whole c.requires.within _ _ c.args.next
    c.load_node-node.ensures.first_child c.load_node-node.ensures.last_child
