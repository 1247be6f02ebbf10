-- Culling leaves a graph encodable: it sets a flag where the flag was clear, and keeps all else
-- (`culling-keeps`). Assumes nothing.
use mathlib.Core.Path.{◌≡◌, refl}
use mathlib.Core.Bool.{Bool, true, false, cond}
use mathlib.Core.List.{List, [], ◌∷◌}
use Prim.Native.Nat.{ℕ, zero, suc, ◌+◌, ◌-◌, ◌/◌, ◌%◌, ◌<◌}
use native.Mathlib.Omega.{arith}
use lib.ListN.{set}
use borrow.Author.Tests.{eqb-false}
use Rattle.model.specs.Node.{culled_flag, Node, is_culled}
use Rattle.model.specs.Graph.{Graph, size, node_at, has_local_root}
use Rattle.model.specs.Culling.{can_cull, culled, cull_one, cull_down, cull_subtrees_without_opinions}
use Rattle.model.specs.Calls.{has_node_zero, cull}
use Rattle.laws.proofs.CullingLaws.{culling-only-culls}
use Rattle.laws.proofs.LengthLaws.{EachOnce}
use Rattle.laws.proofs.LegalGraphs.{Legal}
use Rattle.laws.proofs.LegalAlike.{culling-keeps-legal}
use Rattle.arena.proofs.Encodable.{unordered, Encodable}
use Rattle.child_lists.proofs.AppendEncodable.{NumbersFit}
use Rattle.call_sequences.proofs.KeptFits.{Numbers, fit-numbers, legal-fits, Keeps, decided-encodable}

-- ---- The numbers

numbers-set : (ns : List Node) (i : ℕ) (x : Node) → Numbers ns → NumbersFit x → Numbers (set ns i x)
numbers-set [] i x old new n = old n
numbers-set (y ∷ ns) zero x old new zero = new
numbers-set (y ∷ ns) zero x old new (suc n) = old (suc n)
numbers-set (y ∷ ns) (suc i) x old new zero = old zero
numbers-set (y ∷ ns) (suc i) x old new (suc n) = numbers-set ns i x (λ k. old (suc k)) new n

numbers-culled : (x : Node) → NumbersFit x → NumbersFit (culled x)
numbers-culled x fit = record {
  flags = flags (is_culled x) refl;
  stack = fit.stack;
  layer = fit.layer;
  depth = fit.depth;
  sibling = fit.sibling;
  restriction = fit.restriction;
  spec_from = fit.spec_from;
  path_bytes = fit.path_bytes;
}
  where
    flags : (t : Bool) → is_culled x ≡ t → cond t x.flags (x.flags + culled_flag) < 256
    flags true e = fit.flags
    flags false e = omega (arith, fit.flags, eqb-false (x.flags / 2 % 2) 1 e)

numbers-cull-down : (children : List (List ℕ)) (n : ℕ) (ns : List Node) → Numbers ns → Numbers (cull_down children n ns)
numbers-cull-down children zero ns old = old
numbers-cull-down children (suc n) ns old = numbers-cull-down children n (cull_one children (suc n) ns) (one (can_cull children ns (suc n)))
  where
    one : (t : Bool) → Numbers (cond t (set ns (suc n) (culled (node_at ns (suc n)))) ns)
    one true = numbers-set ns (suc n) (culled (node_at ns (suc n))) old (numbers-culled (node_at ns (suc n)) (old (suc n)))
    one false = old

-- ---- The graph

module _ (g : Graph) (ok : Encodable g) where
  abbrev after : Graph
  after = cull_subtrees_without_opinions g

  numbers_after : Numbers after.nodes
  unfolding cull_subtrees_without_opinions
  numbers_after = go (has_local_root g.nodes)
    where
      go : (t : Bool) → Numbers (cond t (cull_down g.children (size g - 1) g.nodes) g.nodes)
      go true = numbers-cull-down g.children (size g - 1) g.nodes (fit-numbers g.nodes ok.fit)
      go false = fit-numbers g.nodes ok.fit

  same_size : size after ≡ size g
  same_size = (culling-only-culls g).same_length

  marks : (after.finalized ≡ true → (after.ordered ≡ true) × (after.shallow ≡ false)) × (after.ordered ≡ false → after.order ≡ [])
      × (after.ordered ≡ true → EachOnce (size g) after.order)
  unfolding cull_subtrees_without_opinions
  marks = (ok.final, ok.no-order, ok.each-once)

  culled-encodable : Legal (unordered after) → Encodable after
  culled-encodable legal = record {
    legal = legal;
    fit = legal-fits (unordered after) legal (λ n h. numbers_after n);
    final = marks.0;
    no-order = marks.1;
    each-once = λ e. rw same_size (marks.2 e);
  }

pub culling-keeps : (g : Graph) → Encodable g → Keeps g (cull g)
unfolding cull cull_subtrees_without_opinions
culling-keeps g ok =
    decided-encodable (has_node_zero g ∷ []) g 0 (cull_subtrees_without_opinions g) refl (culling-keeps-legal (unordered g) ok.legal)
    (λ a. culled-encodable g ok) ok
