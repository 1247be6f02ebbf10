-- `write_erased` meets its contract: what it finds and stores is that of `erased-encoded`. Assumes
-- nothing.
use mathlib.Core.Path.{refl, ap, ◌∙◌}
use native.Mathlib.Omega.{arith}
use Rattle.laws.proofs.BigEndianLaws.{Bytes}
use Rattle.laws.proofs.StoredLaws.{bytes-by-place}
use Rattle.erasing.specs.EraseRecords.{new_link_in}
use Rattle.erasing.proofs.ErasedRecords.{few-nodes, size-kept, few}
use Rattle.erasing.proofs.EncodeErased.{erased-encoded}
use Rattle.erasing.proofs.in_place.write_erased.Goals as goal

pub filter_order-listed-requires : goal.filter_order-listed-requires
filter_order-listed-requires c =
    let ready = c.requires.0 in record { valid_arena = (ready.opened, ready.counted, ready.numbered); set_len = (ready.long, refl) }

pub write_links-requires : goal.write_links-requires
write_links-requires c =
    let bytes : Bytes c.args.arena.now =
    bytes-by-place c.args.arena.now (λ k. (c.slice_known-1.given k).fits) in
    let ready = c.requires.0 in record {
      arena_len = (
        c.move_records.auto.arena ∙ ready.opened.whole,
        omega (arith, c.requires.1, size-kept _ _ _ _ bytes ready, few _ _ _ _ bytes ready),
      );
      first_len = (c.find_links.auto.first, c.find_links.auto.last, c.find_links.auto.next);
    }

pub write_entries-requires : goal.write_entries-requires
write_entries-requires c = (
  c.write_links.auto.arena ∙ c.move_records.auto.arena ∙ c.requires.0.opened.whole,
  c.filter_order-listed.ensures.0,
  c.filter_order-listed.auto.order,
)

pub new_link-requires : goal.new_link-requires
new_link-requires c =
    let bytes : Bytes c.args.arena.now =
    bytes-by-place c.args.arena.now (λ k. (c.slice_known-1.given k).fits) in
    let ready = c.requires.0 in
    (ready.numbered.long, omega (arith, few-nodes _ _ _ _ bytes ready))

pub write_header-requires : goal.write_header-requires
write_header-requires c =
    c.write_entries.auto.arena ∙ c.write_links.auto.arena ∙ c.move_records.auto.arena ∙ c.requires.0.opened.whole

pub returns : goal.returns
returns c =
    let bytes : Bytes c.args.arena.now =
    bytes-by-place c.args.arena.now (λ k. (c.slice_known-1.given k).fits) in
    let rooted = c.new_link.ensures ∙ ap (new_link_in c.args.numbers.now c.args.count) c.local_root-root.ensures in
    erased-encoded _ _ _ _ bytes c.requires.0 _ _ _ _ c.args.kept c.requires.1 c.find_links.ensures refl _ _ _
    c.filter_order-listed.auto.order c.filter_order-listed.ensures.0 c.filter_order-listed.ensures.1 rooted _ _ _ _
    c.move_records.ensures c.write_links.ensures c.write_entries.ensures c.write_header.ensures
