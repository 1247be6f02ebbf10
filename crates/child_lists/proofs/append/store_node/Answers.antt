-- `store_node` meets its contract: the links are none, and they are no part of the record. Assumes
-- nothing.
use mathlib.Core.Path.{◌≡◌, ap, ◌∙◌}
use Rattle.model.specs.Node.{invalid}
use Rattle.model.specs.declared.NodeId.{NodeId}
use Rattle.arena.specs.declared.Node.{Node}
use Rattle.arena.specs.Slot.{with_first_child, with_last_child, with_next_sibling, links_stored, record_stored}
use Rattle.child_lists.proofs.append.store_node.Goals as goal

abbrev none : NodeId
none = record { 0 = invalid }

pub store_record-requires : goal.store_record-requires
store_record-requires c =
    let unlinked : c.with_next_sibling-unlinked.result ≡ with_next_sibling none (with_last_child none (with_first_child none c.args.node)) =
    c.with_next_sibling-unlinked.ensures
    ∙ ap (with_next_sibling none) (c.with_last_child-childless.ensures ∙ ap (with_last_child none) c.with_first_child.ensures) in record { has_slot = record { whole = c.store_links.auto.arena ∙ c.requires.has_slot.whole; within = c.requires.has_slot.within }; record_length_value = (ap (λ (x : Node). x.record_length) unlinked ∙ c.requires.record_length_value.0, c.requires.record_length_value.1) }

pub returns : goal.returns
returns c =
    let unlinked : c.with_next_sibling-unlinked.result ≡ with_next_sibling none (with_last_child none (with_first_child none c.args.node)) =
    c.with_next_sibling-unlinked.ensures
    ∙ ap (with_next_sibling none) (c.with_last_child-childless.ensures ∙ ap (with_last_child none) c.with_first_child.ensures) in
    let same = unlinked in
    c.store_record.ensures ∙ ap (λ (x : Node). record_stored c.args.n x c.args.path.now c.store_links.new.arena) same
    ∙ ap (record_stored c.args.n c.args.node c.args.path.now) (c.store_links.ensures ∙ ap (λ (x : Node). links_stored c.args.n x c.args.arena.now) same)
