-- One graph that meets the hypotheses of the laws of adding, erasing and deepening, and what they
-- say of it. Assumes nothing.
use mathlib.Core.Path.{◌≡◌, refl}
use mathlib.Core.Bool.{Bool, true, not, ◌||◌}
use mathlib.Core.List.{List, [], ◌∷◌}
use Prim.Native.Nat.{ℕ, zero, suc, ◌<◌, ◌≤◌}
use native.Mathlib.Omega.{arith}
use lib.Dec.{eqb, leb}
use borrow.Author.Tests.{leb-true}
use Rattle.model.specs.Path.{is_name_start, is_word_byte, start, run, may_end, prim_count}
use Rattle.model.specs.Node.{invalid, root_arc, inherit_arc, Node}
use Rattle.model.specs.Graph.{Graph, empty_graph, size, node_at, children_of, with_node}
use Rattle.model.specs.Strength.{view}
use Rattle.model.specs.Order.{walk}
use Rattle.model.specs.Erasing.{new_number, erase_by}
use Rattle.model.specs.Deepening.{deepen}
use Rattle.model.proofs.Text.{bytes}
use Rattle.model.proofs.ExampleGraphs.{sample_node}
use Rattle.laws.proofs.PathGrammar.{Name}
use Rattle.laws.proofs.Views.{LegalView, LooksLike}
use Rattle.laws.proofs.ListLaws.{all-below}
use Rattle.laws.proofs.Trees.{TreeOf, tree-with-root, tree-with-node}
use Rattle.laws.proofs.Spares.{Spares}
use Rattle.laws.proofs.AddLaws.{legal-with-root, legal-with-node, add-looks-like}
use Rattle.laws.proofs.EraseLaws.{node0-links-erased, erase-looks-like, walk-erased}
use Rattle.laws.proofs.DeepenLaws.{Reached, deepen-looks-like}

abbrev node : ℕ → ℕ → List ℕ → Node
node parent arc path = sample_node parent arc 0 0 parent 1 0 1 path

-- "Nodes 0 `/M`, 1 root site Root `/M`, 2 Reference `/R` and 3 Inherit `/C` under 1"
abbrev only-root : Graph
only-root = with_node empty_graph (node invalid root_arc (bytes "/M"))

abbrev both-roots : Graph
both-roots = with_node only-root (node 0 root_arc (bytes "/M"))

abbrev three : Graph
three = with_node both-roots (node 1 4 (bytes "/R"))

abbrev example : Graph
example = with_node three (node 1 inherit_arc (bytes "/C"))

-- ---- Adding

example-legal : LegalView (size example) (view example.nodes)
unfolding with_node
example-legal =
    legal-with-node three (node 1 inherit_arc (bytes "/C"))
    (legal-with-node both-roots (node 1 4 (bytes "/R"))
    (legal-with-node only-root (node 0 root_arc (bytes "/M")) (legal-with-root empty_graph (node invalid root_arc (bytes "/M")) refl)
    (omega arith) (omega arith))
    (omega arith) (omega arith))
    (omega arith) (omega arith)

example-tree : TreeOf example
unfolding with_node
example-tree =
    tree-with-node three (node 1 inherit_arc (bytes "/C")) refl (omega arith)
    (tree-with-node both-roots (node 1 4 (bytes "/R")) refl (omega arith)
    (tree-with-node only-root (node 0 root_arc (bytes "/M")) refl (omega arith)
    (tree-with-root empty_graph (node invalid root_arc (bytes "/M")) refl refl)))

example-added : LooksLike (size example) (λ n. true) (λ n. n) (view example.nodes) (view (with_node example (node 1 4 (bytes "/D"))).nodes)
example-added = add-looks-like example (node 1 4 (bytes "/D")) example-legal (λ e. omega arith)

-- ---- Erasing: node 2 goes

abbrev kept : ℕ → Bool
kept n = not (eqb n 2)

example-spares : Spares example kept
unfolding with_node
example-spares = record {
  node0 = refl;
  parent = λ c h l k. (all-below (λ c. kept (node_at example.nodes c).parent) 4).0 refl c l;
  origin = λ c h l k. (all-below (λ c. kept (node_at example.nodes c).origin) 4).0 refl c l;
  roots = λ n l e. rw e at ((all-below (λ n. not (eqb (node_at example.nodes n).arc root_arc) || kept n) 4).0 refl n l);
}

example-erased : LooksLike (size example) kept (new_number kept) (view example.nodes) (view (erase_by kept example).nodes)
example-erased = erase-looks-like kept example example-spares example-legal

example-no-links : ((node_at (erase_by kept example).nodes 0).parent ≡ invalid) × ((node_at (erase_by kept example).nodes 0).origin ≡ invalid)
unfolding with_node
example-no-links = node0-links-erased kept example example-spares (omega arith) (omega arith) refl refl

example-walk : walk (children_of (erase_by kept example)) (size (erase_by kept example)) ≡ 0 ∷ 1 ∷ 2 ∷ []
unfolding with_node
example-walk = walk-erased kept example refl example-spares example-legal example-tree

-- ---- Deepening by the name `D`

example-reached : Reached example
unfolding with_node is_name_start is_word_byte prim_count
example-reached = record { may-end = (all-below (λ n. may_end (run start (node_at example.nodes n).path)) 4).0 refl; reached = reached }
  where
    parent_names : ℕ → ℕ
    parent_names c = prim_count (node_at example.nodes (node_at example.nodes c).parent).path

    reached : (c : ℕ) → 0 < c → c < size example → (node_at example.nodes c).depth ≤ parent_names c
    reached zero h l = absurd (omega arith)
    reached (suc c) h l =
        leb-true _ _ ((all-below (λ c. leb (node_at example.nodes (suc c)).depth (parent_names (suc c))) 3).0 refl c (omega arith))

example-name : Name (bytes "D")
unfolding is_name_start
example-name = (refl, tt)

example-deepened : LooksLike (size example) (λ n. true) (λ n. n) (view example.nodes) (view (deepen (bytes "D") example).nodes)
example-deepened = deepen-looks-like (bytes "D") example-name example example-legal example-reached
