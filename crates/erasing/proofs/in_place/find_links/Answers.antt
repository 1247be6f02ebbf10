-- `find_links` meets its contract: the lists of the erased graph make its links. Assumes nothing.
use mathlib.Core.Path.{refl, sym, subst}
use Prim.Native.Nat.{ℕ}
use native.Mathlib.Omega.{arith}
use Rattle.model.specs.Graph.{children_of}
use Rattle.model.specs.Arena.{decode}
use Rattle.model.specs.Erasing.{erase}
use Rattle.laws.proofs.BigEndianLaws.{Bytes}
use Rattle.laws.proofs.StoredLaws.{bytes-by-place}
use Rattle.child_lists.specs.Links.{Segments, Parted}
use Rattle.erasing.proofs.ErasedRecords.{size-kept, few}
use Rattle.erasing.proofs.ErasedGraphs.{parted}
use Rattle.erasing.proofs.in_place.find_links.Goals as goal

pub gather_lists-requires : goal.gather_lists-requires
gather_lists-requires c =
    let ready = c.requires.number_result.0 in record { valid_arena = (ready.opened, ready.counted, ready.numbered); set_len = (ready.long, refl, refl) }

pub link_lists-requires : goal.link_lists-requires
link_lists-requires c =
    let bytes : Bytes c.args.arena.now =
    bytes-by-place c.args.arena.now (λ k. (c.type_inv.arena k).fits) in
    let ready = c.requires.number_result.0 in
    let lists = c.gather_lists.new.lists in
    let ends = c.gather_lists.new.ends in record {
      parted = (
        subst (Parted lists ends) (sym c.requires.number_result.1) (parted _ _ _ _ bytes ready lists ends c.gather_lists.ensures),
        omega (arith, c.requires.number_result.1, size-kept _ _ _ _ bytes ready, few _ _ _ _ bytes ready),
      );
      first_len = c.requires.first_len;
    }

pub returns : goal.returns
returns c =
    let filled = c.gather_lists.new.lists in
    let ended = c.gather_lists.new.ends in
    record {
      lists = filled;
      ends = ended;
      segments = subst (λ (n : ℕ). Segments (children_of (erase c.args.set.now (decode c.args.arena.now))) n filled ended) (sym c.requires.number_result.1)
          c.gather_lists.ensures;
      linked = c.link_lists.ensures;
    }
