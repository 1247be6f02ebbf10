-- Document 01, "Cull marks and erasable set": what culling marks, and what may be erased.
use Rattle.std.specs.Prelude.{Bool, not, ◌||◌, ◌&&◌, cond, List, [], ℕ, zero, suc, ◌-◌, eqb, length, set, get_or}
use Rattle.model.specs.Lists.{every}
use Rattle.model.specs.Path.{prim_count}
use Rattle.model.specs.Node.{root_arc, inherit_arc, culled_flag, with_flag, Node, is_inert, is_culled, changed}
use Rattle.model.specs.Graph.{Graph, size, node_at, depth_below_introduction, path_at_introduction, has_local_root, in_local_stack}
use Rattle.model.specs.Strength.{view, is_authored, origin_root_node}

-- ---- Culling

-- "t is the node if authored, else R"
abbrev pub introducer : List Node → ℕ → ℕ
introducer ns n = cond (is_authored (view ns) n) n (origin_root_node (view ns) n)

-- "An Inherit in the local root's stack is also not culled unless t's own path, taken back by t's
-- depth below introduction, has prim count 1"
unfoldable pub keeps_inherit : List Node → ℕ → Bool
keeps_inherit ns n =
    eqb (node_at ns n).arc inherit_arc && (in_local_stack ns n && not (eqb (prim_count (path_at_introduction ns (introducer ns n))) 1))

-- "A node is culled if it already is; else not if its arc is Root, its depth below introduction is
-- 0, a child is unculled, or it has specs and isn't INERT"
unfoldable pub can_cull : List (List ℕ) → List Node → ℕ → Bool
can_cull children ns n =
    is_culled (node_at ns n)
    || (not (eqb (node_at ns n).arc root_arc)
    && (not (eqb (depth_below_introduction ns n) 0)
    && (not (keeps_inherit ns n)
    && (every (λ c. is_culled (node_at ns c)) (get_or children n [])
    && (not (eqb (node_at ns n).has_specs 1) || is_inert (node_at ns n))))))

-- the record with CULLED set
abbrev pub culled : Node → Node
culled x = changed (with_flag culled_flag x.flags) x.parent x.origin x.path x

abbrev pub cull_one : List (List ℕ) → ℕ → List Node → List Node
cull_one children n ns = cond (can_cull children ns n) (set ns n (culled (node_at ns n))) ns

-- "Culling goes children first, skips node 0": from node n down to node 1, since a child's number
-- is higher (laws/proofs/CullingLaws.antt has any other sequence that puts children first)
abbrev pub cull_down : List (List ℕ) → ℕ → List Node → List Node
cull_down children zero ns = ns
cull_down children (suc n) ns = cull_down children n (cull_one children (suc n) ns)

-- "and does nothing with no local root"; "Culling and erasing keep both" marks
unfoldable pub cull_subtrees_without_opinions : Graph → Graph
cull_subtrees_without_opinions g = record {
  nodes = cond (has_local_root g.nodes) (cull_down g.children (size g - 1) g.nodes) g.nodes;
  children = g.children;
  order = g.order;
  ordered = g.ordered;
  finalized = g.finalized;
  shallow = g.shallow;
}

-- ---- The erasable set

-- "Marked: CULLED, no specs, depth below introduction not 0"
unfoldable pub is_marked : List Node → ℕ → Bool
is_marked ns n = is_culled (node_at ns n) && (not (eqb (node_at ns n).has_specs 1) && not (eqb (depth_below_introduction ns n) 0))

-- the kept, with node n's parent and origin among them if n is
abbrev pub keep_links : List Node → ℕ → (ℕ → Bool) → ℕ → Bool
keep_links ns n kept x = kept x || (kept n && (eqb x (node_at ns n).parent || eqb x (node_at ns n).origin))

-- one pass, from node n down to node 1: both links go to lower nodes
abbrev pub keep_down : List Node → ℕ → (ℕ → Bool) → ℕ → Bool
keep_down ns zero kept = kept
keep_down ns (suc n) kept = keep_down ns n (keep_links ns (suc n) kept)

-- "Erasable: marked and not reached from any unmarked node by parent and origin steps"
-- (laws/proofs/ErasableLaws.antt has that wording)
unfoldable pub is_erasable : List Node → ℕ → Bool
is_erasable ns n = not (keep_down ns (length ns - 1) (λ x. not (is_marked ns x)) n)
