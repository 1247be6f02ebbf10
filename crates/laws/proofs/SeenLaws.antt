-- What a comparison sees of a node: all but the flags INERT, CULLED and PROHIBITED_CHILDREN, the
-- layer, the restriction depth and the specs. Where two lists of nodes have the same of each node,
-- the comparison cannot tell them apart. Culling and the calls that set fields of one node are
-- instances. Assumes nothing.
use mathlib.Core.Path.{◌≡◌, refl, ap, ◌∙◌}
use mathlib.Core.Bool.{Bool, true, false, ◌&&◌, cond}
use mathlib.Core.List.{List, [], ◌∷◌}
use Prim.Native.Nat.{ℕ, suc, ◌-◌}
use native.Mathlib.Omega.{arith}
use lib.Dec.{eqb, ltb}
use lib.ListN.{length, set}
use lib.Seq.{get_or-set_same, get_or-set_other, set_out}
use borrow.Author.Tests.{eqb-true, eqb-false, ltb-true, ltb-false}
use Rattle.model.specs.Lists.{any_below}
use Rattle.model.specs.Path.{prim_count, path_at_intro_depth, same_path}
use Rattle.model.specs.Node.{root_arc, Node, no_node, has_specializes, same_site}
use Rattle.model.specs.Graph.{node_at, depth_below_introduction, path_at_introduction, is_local_root, in_local_stack}
use Rattle.model.specs.Refusals.{path_bytes}
use Rattle.model.specs.Strength.{arc_rank, view}

-- ---- One node, and all

-- y has of x all that a comparison sees
pub record SameSeen (x y : Node) : Type 0 where
  pub arc : y.arc ≡ x.arc
  pub special : has_specializes y ≡ has_specializes x
  pub stack : y.stack ≡ x.stack
  pub parent : y.parent ≡ x.parent
  pub origin : y.origin ≡ x.origin
  pub depth : y.depth ≡ x.depth
  pub sibling : y.sibling ≡ x.sibling
  pub path : y.path ≡ x.path

pub record SeenAlike (ns ms : List Node) : Type 0 where
  pub same_length : length ms ≡ length ns
  pub node : (n : ℕ) → SameSeen (node_at ns n) (node_at ms n)

pub seen-itself : (x : Node) → SameSeen x x
seen-itself x = record { arc = refl; special = refl; stack = refl; parent = refl; origin = refl; depth = refl; sibling = refl; path = refl }

-- what a store leaves at m
pub node-set : (ns : List Node) (n m : ℕ) (x : Node) (P : Node → Type 0) → (m ≡ n → P x) → P (node_at ns m) → P (node_at (set ns n x) m)
node-set ns n m x P new old = go (eqb m n) refl (ltb n (length ns)) refl
  where
    go : (b : Bool) → eqb m n ≡ b → (d : Bool) → ltb n (length ns) ≡ d → P (node_at (set ns n x) m)
    go true e true f =
        let here = eqb-true m n e in rw (here, get_or-set_same ns n x no_node (ltb-true n (length ns) f)) (new here)
    go true e false f = rw (set_out ns n x (ltb-false n (length ns) f)) old
    go false e d f = rw (get_or-set_other ns n m x no_node (eqb-false m n e)) old

-- ---- What is read of them

module _ (ns ms : List Node) (c : SeenAlike ns ms) where
  pub depth-below-kept : (n : ℕ) → depth_below_introduction ms n ≡ depth_below_introduction ns n
  unfolding depth_below_introduction
  depth-below-kept n = λ t. cond (eqb n 0) 0 (prim_count (parent-path t) - (c.node n).depth t)
    where
      parent-path : (node_at ms (node_at ms n).parent).path ≡ (node_at ns (node_at ns n).parent).path
      parent-path = (c.node (node_at ms n).parent).path ∙ ap (λ (p : ℕ). (node_at ns p).path) (c.node n).parent

  pub path-at-introduction-kept : (n : ℕ) → path_at_introduction ms n ≡ path_at_introduction ns n
  unfolding path_at_introduction
  path-at-introduction-kept n = λ t. path_at_intro_depth (depth-below-kept n t) ((c.node n).path t)

  pub local-root-kept : (n : ℕ) → is_local_root ms n ≡ is_local_root ns n
  unfolding is_local_root
  local-root-kept n = λ t. ltb 0 n && eqb ((c.node n).arc t) root_arc

  pub local-stack-kept : (n : ℕ) → in_local_stack ms n ≡ in_local_stack ns n
  unfolding in_local_stack
  local-stack-kept n = λ t. any_below (λ i. local-root-kept i t && eqb ((c.node i).stack t) ((c.node n).stack t)) (c.same_length t)

  pub view-kept : view ms ≡ view ns
  unfolding same_site
  view-kept = λ t. record {
    parent = λ n. (c.node n).parent t;
    origin = λ n. (c.node n).origin t;
    rank = λ n. arc_rank ((c.node n).arc t);
    arc = λ n. (c.node n).arc t;
    special = λ n. (c.node n).special t;
    depth = λ n. (c.node n).depth t;
    sibling = λ n. (c.node n).sibling t;
    same_site = λ a b. eqb ((c.node a).stack t) ((c.node b).stack t) && same_path ((c.node a).path t) ((c.node b).path t);
    same_depth_below = λ a b. ltb 0 a && (ltb 0 b && eqb (depth-below-kept a t) (depth-below-kept b t));
    local_root = λ n. local-root-kept n t;
    local_stack = λ n. local-stack-kept n t;
  }

path-bytes-same : (ns ms : List Node) → length ms ≡ length ns → ((n : ℕ) → (node_at ms n).path ≡ (node_at ns n).path) → path_bytes ms ≡ path_bytes ns
path-bytes-same [] [] l p = refl
path-bytes-same [] (m ∷ ms) l p = absurd (omega arith)
path-bytes-same (n ∷ ns) [] l p = absurd (omega arith)
path-bytes-same (n ∷ ns) (m ∷ ms) l p = rw (p 0, path-bytes-same ns ms (omega arith) (λ i. p (suc i)))

pub path-bytes-kept : (ns ms : List Node) → SeenAlike ns ms → path_bytes ms ≡ path_bytes ns
path-bytes-kept ns ms c = path-bytes-same ns ms c.same_length (λ n. (c.node n).path)
