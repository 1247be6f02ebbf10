-- Starting a graph and adding to it leave it encodable where the numbers that are given fit their
-- widths (`starting-keeps`, `adding-keeps`). Assumes nothing.
use Rattle.std.specs.Prelude.{None, Option, Some}
use mathlib.Core.Path.{◌≡◌, refl}
use mathlib.Core.Logic.{◌⊎◌, inl, inr}
use mathlib.Core.Bool.{true, ◌&&◌}
use mathlib.Core.List.{List, [], ◌∷◌}
use Prim.Native.Nat.{ℕ, zero, suc, ◌^◌, ◌≤◌, ◌<◌}
use native.Mathlib.Nat.{eq-or-lt_of_le}
use native.Mathlib.Omega.{arith}
use lib.Dec.{eqb}
use lib.ListN.{length}
use Rattle.model.specs.Path.{well_formed, prim_count}
use Rattle.model.specs.Node.{Node}
use Rattle.model.specs.Graph.{Graph, size, node_at, with_node}
use Rattle.model.specs.Refusals.{ask, has_room, added_kind}
use Rattle.model.specs.Calls.{has_node_zero, root_node, init_root, NodeDesc, given_or, prims_over, default_depth, added_node, given_below, add_child}
use Rattle.laws.proofs.BigEndianLaws.{Bytes}
use Rattle.laws.proofs.PathGrammar.{well-formed-decides}
use Rattle.laws.proofs.SnapshotLaws.{NodesFit}
use Rattle.laws.proofs.PathLaws.{prim-count-half}
use Rattle.laws.proofs.Trees.{size-with-node, node-old, node-new}
use Rattle.laws.proofs.LegalGraphs.{Legal}
use Rattle.laws.proofs.LegalAdded.{starting-keeps-legal, adding-keeps-legal}
use Rattle.arena.proofs.Encodable.{unordered, Encodable, legal-encodable}
use Rattle.child_lists.proofs.AppendEncodable.{NumbersFit}
use Rattle.call_sequences.proofs.KeptFits.{fit-numbers, legal-fits, Keeps, decided-encodable}

-- ---- Prim counts

-- a path of 255 bytes has at most 127 names
prims-fit : (path : List ℕ) → length path ≤ 255 → prim_count path < 256 ^ 2
prims-fit path h = omega (arith, prim-count-half path)

-- of a node, and of `no_node` behind the last
path-short : (ns : List Node) → NodesFit ns → (n : ℕ) → length (node_at ns n).path ≤ 255
path-short [] fit n = omega arith
path-short (x ∷ ns) fit zero = fit.0.path-short
path-short (x ∷ ns) fit (suc n) = path-short ns fit.1 n

-- ---- The graph with a node more

module _ (g : Graph) (x : Node) (ok : Encodable g) (fit : NumbersFit x) where
  numbers_more : (n : ℕ) → n < size (with_node g x) → NumbersFit (node_at (with_node g x).nodes n)
  numbers_more n h = go (eq-or-lt_of_le {n = n} {m = size g} (omega (arith, size-with-node g x)))
    where
      go : (n ≡ size g) ⊎ (n < size g) → NumbersFit (node_at (with_node g x).nodes n)
      go (inl e) = rw (e, node-new g x) fit
      go (inr l) = rw (node-old g x n l) (fit-numbers g.nodes ok.fit n)

  more-encodable : Legal (unordered (with_node g x)) → Encodable (with_node g x)
  unfolding with_node
  more-encodable legal = legal-encodable (with_node g x) legal (legal-fits (with_node g x) legal numbers_more)

-- ---- Starting

numbers-root : (stack layer : ℕ) (path : List ℕ) → stack < 256 ^ 4 → layer < 256 ^ 4 → Bytes path → well_formed path ≡ true
    → NumbersFit (root_node stack layer path)
numbers-root stack layer path s l bytes e = record {
  flags = omega arith;
  stack = s;
  layer = l;
  depth = prims-fit path ((well-formed-decides path).0 e).2;
  sibling = omega arith;
  restriction = omega arith;
  spec_from = omega arith;
  path_bytes = bytes;
}

pub starting-keeps : (stack layer : ℕ) (path : List ℕ) → stack < 256 ^ 4 → layer < 256 ^ 4 → Bytes path
    → (g : Graph) → Encodable g → Keeps g (init_root stack layer path g)
unfolding init_root with_node
starting-keeps stack layer path s l bytes g ok =
    decided-encodable (ask 3 (eqb (size g) 0) ∷ ask 5 (well_formed path) ∷ []) g 0 (with_node g (root_node stack layer path)) refl
    (starting-keeps-legal stack layer path (unordered g) ok.legal)
    (λ a. more-encodable g (root_node stack layer path) ok (numbers-root stack layer path s l bytes (a 5))) ok

-- ---- Adding

-- a depth that is given fits
abbrev pub DepthFits : Option ℕ → Type 0
DepthFits None = Unit {0}
DepthFits (Some d) = d < 256 ^ 2

module _ (d : NodeDesc) (fit : NumbersFit d.fields) (deep : DepthFits d.depth) (g : Graph) (ok : Encodable g) where
  -- a missing depth is a prim count: of the path that is given, or of a node's
  default-fits : well_formed d.fields.path ≡ true → default_depth g d < 256 ^ 2
  default-fits e = go d.parent
    where
      go : (parent : Option ℕ) → prims_over g.nodes parent d.fields.path < 256 ^ 2
      go (Some parent) = prims-fit (node_at g.nodes parent).path (path-short g.nodes ok.fit parent)
      go None = prims-fit d.fields.path ((well-formed-decides d.fields.path).0 e).2

  depth-fits : (o : Option ℕ) → DepthFits o → well_formed d.fields.path ≡ true → given_or o (default_depth g d) < 256 ^ 2
  depth-fits None f e = default-fits e
  depth-fits (Some n) f e = f

  numbers-added : well_formed d.fields.path ≡ true → NumbersFit (added_node g d)
  numbers-added e = record {
    flags = fit.flags;
    stack = fit.stack;
    layer = fit.layer;
    depth = depth-fits d.depth deep e;
    sibling = fit.sibling;
    restriction = fit.restriction;
    spec_from = fit.spec_from;
    path_bytes = fit.path_bytes;
  }

  pub adding-keeps : Keeps g (add_child d g)
  unfolding add_child with_node
  adding-keeps =
      decided-encodable
      (has_node_zero g ∷ ask 4 (given_below (size g) d.parent && given_below (size g) d.origin) ∷ ask 5 (well_formed d.fields.path) ∷ ask 6 (added_kind g (added_node g d)) ∷ ask 7 (has_room g (added_node g d)) ∷ [])
      g (size g) (with_node g (added_node g d)) refl (adding-keeps-legal d (unordered g) ok.legal)
      (λ a. more-encodable g (added_node g d) ok (numbers-added (a 5))) ok
