-- A graph that is grown, culled and asked for its erasable set, by computation and by the laws: so
-- their hypotheses can be met. Among them document 01's "a marked origin of an unmarked node
-- stays". Assumes nothing.
use Rattle.std.specs.Prelude.{None, Some}
use mathlib.Core.Path.{◌≡◌, refl}
use mathlib.Core.Bool.{Bool, true, false, not, ◌||◌, ◌&&◌, cond, and-eq-true_iff}
use mathlib.Core.List.{List, [], ◌∷◌}
use Prim.Native.Nat.{ℕ, ◌+◌, ◌<◌}
use Prim.Native.String.{String}
use native.Mathlib.Omega.{arith}
use lib.Dec.{eqb, ltb}
use lib.ListN.{get_or, replicate, get_or-eq_default}
use borrow.Author.Tests.{eqb-true, eq-eqb, ne_eqb, ltb-true, ltb-false, not-true}
use Rattle.model.specs.Lists.{bit, count, every, all_below}
use Rattle.model.specs.Path.{is_name_start, is_word_byte, is_selection_byte, well_formed, prim_count, before_name, path_at_intro_depth}
use Rattle.model.specs.Node.{invalid, optional, root_arc, Node, is_culled}
use Rattle.model.specs.Graph.{Graph, empty_graph, node_at, with_node, depth_below_introduction, path_at_introduction, is_local_root, in_local_stack}
use Rattle.model.specs.Strength.{view, origin_root_node}
use Rattle.model.specs.Culling.{keeps_inherit, can_cull, cull_down, cull_subtrees_without_opinions, is_marked, is_erasable}
use Rattle.model.specs.Erasing.{stays, erasable, can_erase}
use Rattle.model.specs.Calls.{Call, starting, adding, calls, init_root, add_child}
use Rattle.model.proofs.Text.{bytes}
use Rattle.model.proofs.ExampleGraphs.{sample_node}
use Rattle.laws.proofs.Views.{LegalView}
use Rattle.laws.proofs.ErasableLaws.{Reached, unmarked, as-origin, Spared, erasable-not-reached, erasable-largest}
use Rattle.laws.proofs.CullingLaws.{ChildrenFirst, cull_along, cull-along-is-cull-down, Decided, culling-decides}
use Rattle.laws.proofs.Spares.{Spares}
use Rattle.laws.proofs.ListLaws.{all-below}
use Rattle.laws.proofs.EraseSets.{can-erase-iff, erasable-accepted}

abbrev node : ℕ → ℕ → ℕ → ℕ → ℕ → ℕ → String → Node
node arc flags parent origin depth has_specs path = sample_node parent arc flags 0 origin depth 0 has_specs (bytes path)

-- 3 has specs, and 2 for its origin; 2, 4 and 5 have none, with flags f; 5 is a child of 4
abbrev sample : ℕ → Graph
sample f = record {
  nodes =
      node 0 1 invalid invalid 2 1 "/M/a" ∷ node 0 0 0 0 2 1 "/M/a" ∷ node 4 f 1 1 1 0 "/R/a" ∷ node 1 0 1 2 1 1 "/C/a"
      ∷ node 4 f 1 1 1 0 "/Q/a" ∷ node 1 f 4 4 1 0 "/K/a" ∷ [];
  children = (1 ∷ []) ∷ (2 ∷ 3 ∷ 4 ∷ []) ∷ [] ∷ [] ∷ (5 ∷ []) ∷ [] ∷ [];
  order = [];
  ordered = false;
  finalized = false;
  shallow = false;
}

abbrev under : ℕ → ℕ → ℕ → ℕ → String → Call
under parent arc origin has_specs path =
    adding (record { fields = node arc 0 0 0 0 has_specs path; parent = Some parent; origin = optional origin; depth = Some 1 })

grown : calls (starting 0 0 (bytes "/M/a") ∷ adding (record { fields = node 0 0 0 0 0 1 "/M/a"; parent = None; origin = None; depth = None })
    ∷ under 1 4 invalid 0 "/R/a" ∷ under 1 1 2 1 "/C/a" ∷ under 1 4 invalid 0 "/Q/a" ∷ under 4 1 invalid 0 "/K/a" ∷ []) empty_graph ≡ sample 0
unfolding init_root add_child with_node well_formed prim_count is_name_start is_word_byte is_selection_byte depth_below_introduction is_local_root
grown = refl

-- culling marks 2, 4 and 5
culling-marks : cull_subtrees_without_opinions (sample 0) ≡ sample 2
unfolding cull_subtrees_without_opinions can_cull keeps_inherit origin_root_node depth_below_introduction path_at_introduction path_at_intro_depth before_name
    is_local_root in_local_stack prim_count is_name_start is_word_byte is_selection_byte
culling-marks = refl

-- ---- Hypotheses by computation

every-at : (p : ℕ → Bool) (xs : List ℕ) (x : ℕ) → every p xs ≡ true → 0 < count x xs → p x ≡ true
every-at p [] x e m = absurd (omega arith)
every-at p (y ∷ ys) x e m = let both = (and-eq-true_iff (p y) (every p ys)).0 e in go (eqb x y) refl m both.0 (every-at p ys x both.1)
  where
    go : (b : Bool) → eqb x y ≡ b → 0 < bit b + count x ys → p y ≡ true → (0 < count x ys → p x ≡ true) → p x ≡ true
    go true f m here rest = rw (eqb-true x y f) here
    go false f m here rest = rest (omega arith)

-- a test of each node but 0
tested : (p : ℕ → Bool) (n : ℕ) → all_below (λ c. eqb c 0 || p c) n ≡ true → (c : ℕ) → 0 < c → c < n → p c ≡ true
tested p n e c q r = rw (ne_eqb c 0 (λ z. omega arith)) at ((all-below (λ c. eqb c 0 || p c) n).0 e c r)

legal : LegalView 6 (view (sample 2).nodes)
legal = record {
  parent-lower = λ c q r. ltb-true _ c (tested (λ c. ltb ((view (sample 2).nodes).parent c) c) 6 refl c q r);
  origin-lower = λ c q r. ltb-true _ c (tested (λ c. ltb ((view (sample 2).nodes).origin c) c) 6 refl c q r);
}

higher : (v c : ℕ) → 0 < count c (get_or (sample 0).children v []) → v < c
higher v c m = go (ltb v 6) refl
  where
    go : (b : Bool) → ltb v 6 ≡ b → v < c
    go true e =
        ltb-true v c (every-at (ltb v) (get_or (sample 0).children v []) c
        ((all-below (λ v. every (ltb v) (get_or (sample 0).children v [])) 6).0 refl v (ltb-true v 6 e)) m)
    go false e =
        let None = get_or-eq_default (sample 0).children [] (ltb-false v 6 e) in absurd (omega (arith, rw None at m))

-- ---- Culling

-- another sequence that puts children first
another : ChildrenFirst (sample 0).children 6 (3 ∷ 2 ∷ 5 ∷ 4 ∷ 1 ∷ [])
another = record {
  once = λ n q r. eqb-true _ 1 (tested (λ n. eqb (count n (3 ∷ 2 ∷ 5 ∷ 4 ∷ 1 ∷ [])) 1) 6 refl n q r);
  no_other = λ n m. let both = (and-eq-true_iff (ltb 0 n) (ltb n 6)).0 (every-at (λ n. ltb 0 n && ltb n 6) (3 ∷ 2 ∷ 5 ∷ 4 ∷ 1 ∷ []) n refl m) in
      (ltb-true 0 n both.0, ltb-true n 6 both.1);
  none-after-parent = ((refl, (refl, (refl, (refl, tt)))), ((refl, (refl, (refl, tt))), ((refl, (refl, tt)), ((refl, tt), (tt, tt)))));
}

another-same : cull_along (sample 0).children (3 ∷ 2 ∷ 5 ∷ 4 ∷ 1 ∷ []) (sample 0).nodes ≡ cull_down (sample 0).children 5 (sample 0).nodes
another-same = cull-along-is-cull-down (sample 0).children higher (3 ∷ 2 ∷ 5 ∷ 4 ∷ 1 ∷ []) (sample 0).nodes another

-- the sentence "a node is culled if" holds of every node
culling-settles : Decided (sample 0).children (sample 0).nodes (cull_subtrees_without_opinions (sample 0)).nodes
unfolding is_local_root
culling-settles = culling-decides (sample 0) higher refl

-- ---- "a marked origin of an unmarked node stays"

two-is-marked : is_marked (sample 2).nodes 2 ≡ true
unfolding is_marked depth_below_introduction prim_count is_name_start is_word_byte is_selection_byte
two-is-marked = refl

three-is-unmarked : is_marked (sample 2).nodes 3 ≡ false
unfolding is_marked
three-is-unmarked = refl

two-stays : is_erasable (sample 2).nodes 2 ≡ false
unfolding is_erasable is_marked depth_below_introduction prim_count is_name_start is_word_byte is_selection_byte
two-stays = refl

-- by the law: 2 is reached from 3
two-is-reached : Reached (sample 2).nodes 2
two-is-reached = as-origin 3 (omega arith) (unmarked {n = 3} (omega arith) three-is-unmarked)

two-stays-by-law : is_erasable (sample 2).nodes 2 ≡ true → ⊥
two-stays-by-law e = ((erasable-not-reached (sample 2).nodes legal (omega arith) 2 (omega arith)).0 e).1 two-is-reached

-- ---- The erasable set

five-is-marked : is_marked (sample 2).nodes 5 ≡ true
unfolding is_marked depth_below_introduction prim_count is_name_start is_word_byte is_selection_byte
five-is-marked = refl

-- no node has 5 as parent or origin, so it lies within
five-alone : Spared (sample 2).nodes (eqb 5)
five-alone = record {
  all-marked = λ n p e. rw (← eqb-true 5 n e) five-is-marked;
  no-parent = λ c q p e. not-true _ (tested (λ c. not (eqb 5 (node_at (sample 2).nodes c).parent)) 6 refl c q p);
  no_origin = λ c q p e. not-true _ (tested (λ c. not (eqb 5 (node_at (sample 2).nodes c).origin)) 6 refl c q p);
}

five-goes : is_erasable (sample 2).nodes 5 ≡ true
five-goes = erasable-largest (sample 2).nodes legal (omega arith) (eqb 5) five-alone 5 (omega arith) refl

erasable-bytes : erasable (sample 2) ≡ 0 ∷ 0 ∷ 0 ∷ 0 ∷ 1 ∷ 1 ∷ replicate 1018 0
unfolding erasable is_erasable is_marked depth_below_introduction prim_count is_name_start is_word_byte is_selection_byte
erasable-bytes = refl

no-root-culled : (n : ℕ) → n < 6 → (node_at (sample 2).nodes n).arc ≡ root_arc → is_culled (node_at (sample 2).nodes n) ≡ false
no-root-culled n p r =
    not-true _ (rw (eq-eqb (node_at (sample 2).nodes n).arc root_arc r) at
    ((all-below (λ n. cond (eqb (node_at (sample 2).nodes n).arc root_arc) (not (is_culled (node_at (sample 2).nodes n))) true) 6).0 refl n p))

erasable-bytes-accepted : can_erase (sample 2) (erasable (sample 2)) ≡ true
erasable-bytes-accepted = erasable-accepted (sample 2) (omega arith) legal (omega arith) no-root-culled

-- what a set must spare that is accepted
accepted-spares : Spares (sample 2) (stays (0 ∷ 0 ∷ 0 ∷ 0 ∷ 1 ∷ 1 ∷ []))
unfolding can_erase
accepted-spares = ((can-erase-iff (sample 2) (0 ∷ 0 ∷ 0 ∷ 0 ∷ 1 ∷ 1 ∷ []) refl).0 refl).1

-- a set with 2 in it takes an origin from 3, and is refused
origin-refused : can_erase (sample 2) (0 ∷ 0 ∷ 1 ∷ 0 ∷ 1 ∷ 1 ∷ []) ≡ false
unfolding can_erase
origin-refused = refl
