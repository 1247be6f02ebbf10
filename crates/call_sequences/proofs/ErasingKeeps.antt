-- Erasing leaves a graph encodable: a link is renumbered to a lower number, and a marked order,
-- without what went and renumbered, has each node that is left once (`erased-once`,
-- `erasing-keeps`). Assumes nothing.
use mathlib.Core.Path.{◌≡◌, refl, sym, ap, subst, ◌∙◌}
use mathlib.Core.Bool.{Bool, true}
use mathlib.Core.List.{List, [], ◌∷◌, map}
use Prim.Native.Nat.{ℕ, ◌<◌}
use Rattle.model.specs.Lists.{count, filter}
use Rattle.model.specs.Node.{Node}
use Rattle.model.specs.Graph.{Graph, size, node_at}
use Rattle.model.specs.Erasing.{stays, can_erase, new_number, renumbered, erase_by, erase}
use Rattle.model.specs.Refusals.{ask}
use Rattle.model.specs.Calls.{has_node_zero, erase_set}
use Rattle.laws.proofs.ListLaws.{all-imp, all_map, all_filter}
use Rattle.laws.proofs.LengthLaws.{EachOnce}
use Rattle.laws.proofs.EraseLists.{new-number-grows, at-new-numbers, count_kept}
use Rattle.laws.proofs.EraseLaws.{size-erased, node-erased, order-erased, marks-erased}
use Rattle.laws.proofs.LegalGraphs.{Legal}
use Rattle.laws.proofs.LegalErased.{erasing-keeps-legal}
use Rattle.arena.proofs.Encodable.{unordered, Encodable}
use Rattle.child_lists.proofs.AppendEncodable.{NumbersFit}
use Rattle.call_sequences.proofs.KeptFits.{fit-numbers, legal-fits, Keeps, decided-encodable}

-- what is kept of an order that has each of n nodes once, renumbered, has each number below how
-- many are kept once
pub erased-once : (kept : ℕ → Bool) (n : ℕ) (order : List ℕ) → EachOnce n order → EachOnce (new_number kept n) (map (new_number kept) (filter kept order))
erased-once kept n order each = record {
  once =
      at-new-numbers kept (λ i. count i (map (new_number kept) (filter kept order)) ≡ 1) n
      (λ i h k. count_kept kept i order k ∙ each.once i h);
  nothing-else =
      all_map (λ x. x < new_number kept n) (new_number kept) (filter kept order)
      (all-imp (λ x. (kept x ≡ true) × (x < n)) (λ x. new_number kept x < new_number kept n) (filter kept order)
      (λ x p. new-number-grows kept x n p.0 p.1) (all_filter (λ x. x < n) kept order each.nothing-else));
}

numbers-renumbered : (kept : ℕ → Bool) (n : ℕ) (x : Node) → NumbersFit x → NumbersFit (renumbered kept n x)
numbers-renumbered kept n x fit = record {
  flags = fit.flags;
  stack = fit.stack;
  layer = fit.layer;
  depth = fit.depth;
  sibling = fit.sibling;
  restriction = fit.restriction;
  spec_from = fit.spec_from;
  path_bytes = fit.path_bytes;
}

module _ (kept : ℕ → Bool) (g : Graph) (ok : Encodable g) where
  numbers-erased : (n : ℕ) → n < size (erase_by kept g) → NumbersFit (node_at (erase_by kept g).nodes n)
  numbers-erased n h =
      at-new-numbers kept (λ n. NumbersFit (node_at (erase_by kept g).nodes n)) (size g)
      (λ n l k. subst NumbersFit (sym (node-erased kept g n l k))
      (numbers-renumbered kept (size g) (node_at g.nodes n) (fit-numbers g.nodes ok.fit n))) n (rw (size-erased kept g) at h)

  erased-encodable : Legal (unordered (erase_by kept g)) → Encodable (erase_by kept g)
  erased-encodable legal = record {
    legal = legal;
    fit = legal-fits (unordered (erase_by kept g)) legal numbers-erased;
    final = λ e. let both = ok.final (sym marks.1 ∙ e) in (marks.0 ∙ both.0, marks.2 ∙ both.1);
    no-order = λ e. order-erased kept g ∙ ap (λ (l : List ℕ). map (new_number kept) (filter kept l)) (ok.no-order (sym marks.0 ∙ e));
    each-once = λ e. rw (size-erased kept g, order-erased kept g) (erased-once kept (size g) g.order (ok.each-once (sym marks.0 ∙ e)));
  }
    where
      marks : ((erase_by kept g).ordered ≡ g.ordered) × ((erase_by kept g).finalized ≡ g.finalized) × ((erase_by kept g).shallow ≡ g.shallow)
      marks = marks-erased kept g

pub erasing-keeps : (bytes : List ℕ) (g : Graph) → Encodable g → Keeps g (erase_set bytes g)
unfolding erase_set erase_by can_erase
erasing-keeps bytes g ok =
    decided-encodable (has_node_zero g ∷ ask 11 (can_erase g bytes) ∷ []) g (new_number (stays bytes) (size g)) (erase bytes g) refl
    (erasing-keeps-legal bytes (unordered g) ok.legal) (λ a. erased-encodable (stays bytes) g ok) ok
