-- Graphs that meet the hypotheses of OrderPlaces.antt, ListsPermute.antt, OrderCopies.antt and
-- OrderRings.antt: document 01's four nodes, whose order places certify without a comparison
-- through origins; a Specialize with copies and copies of these, in order by neighbours; and
-- document 01's ring, refused by its cycle of three. Assumes nothing.
use Rattle.std.specs.Prelude.{None}
use mathlib.Core.Path.{◌≡◌, refl, sym, ◌∙◌}
use mathlib.Core.Bool.{false, false≢true}
use mathlib.Core.List.{List, [], ◌∷◌}
use Prim.Native.Nat.{ℕ, zero, suc, ◌≤◌, ◌<◌}
use native.Mathlib.Omega.{arith}
use lib.ListN.{get_or}
use Rattle.model.specs.Node.{specialize_arc, same_site}
use Rattle.model.specs.Path.{same_path, well_formed, prim_count, is_name_start}
use Rattle.model.specs.Graph.{empty_graph, children_of, with_node, depth_below_introduction, is_local_root, in_local_stack}
use Rattle.model.specs.Lists.{All, Pairs, count}
use Rattle.model.specs.Strength.{View, arc_rank, view, smaller, is_authored, is_propagated_specializes, origin_root_node, origin_hops, outward, is_nested_under, origins_are_nested, replaced, starting_node_of_class_hierarchy, skip_relocates, namespace_depth_for_class_hierarchy, class_depth, same_origin_lines, origin_lines, depth_line, specializes_lines, plain_lines, sibling_lines, nodes_by, compare_sibling_node_strength}
use Rattle.model.specs.Order.{is_less, Sorted, is_stronger, has_order}
use Rattle.model.specs.Calls.{Call, init_root, add_child}
use Rattle.model.specs.Places.{by_place, Certified}
use Rattle.model.proofs.ExampleGraphs.{add, from, line, four, ring}
use Rattle.laws.proofs.ListLaws.{all-imp, all-pairs}
use Rattle.laws.proofs.Trees.{Child}
use Rattle.laws.proofs.LegalGraphs.{Legal, empty-legal}
use Rattle.laws.proofs.CallsKeepLegal.{calls-keep-legal}
use Rattle.laws.proofs.OrderPlaces.{OrderIs, Rises, fits-once, certified-permute, certified-order}
use Rattle.laws.proofs.ListsPermute.{lists-permute}
use Rattle.laws.proofs.OrderKeys.{Neighbours}
use Rattle.laws.proofs.OrderCopies.{group_lines, local_lines, copy_lines, Follows, AuthoredRise, Flagged, one-root-even, copies-sorted}
use Rattle.laws.proofs.OrderRings.{ring-no-order}

legal-from : (cs : List Call) → Legal (from cs)
legal-from cs = calls-keep-legal cs empty_graph empty-legal

-- of each number below n, one by one
abbrev Each : (ℕ → Type 0) → ℕ → Type 0
Each P zero = Unit {0}
Each P (suc n) = P 0 × Each (λ v. P (suc v)) n

each : (P : ℕ → Type 0) (n : ℕ) → Each P n → (v : ℕ) → v < n → P v
each P zero h v l = absurd (omega arith)
each P (suc n) h zero l = h.0
each P (suc n) h (suc v) l = each (λ v. P (suc v)) n h.1 v (omega arith)

-- ---- Four nodes: 1 under 0, and under 1 the Reference 2 and the Inherit 3, which is the stronger

abbrev four_lists : ℕ → List ℕ
four_lists v = get_or ((1 ∷ []) ∷ (3 ∷ 2 ∷ []) ∷ [] ∷ [] ∷ []) v []

abbrev place : ℕ → ℕ
place v = get_or (0 ∷ 1 ∷ 3 ∷ 2 ∷ []) v 0

abbrev stop : ℕ → ℕ
stop v = get_or (4 ∷ 4 ∷ 4 ∷ 3 ∷ []) v 0

four-certified : Certified (view (from four).nodes) 4 four_lists place stop
unfolding init_root add_child with_node well_formed prim_count is_name_start is_local_root sibling_lines plain_lines arc_rank smaller
four-certified = record {
  branches = each _ 4 ((omega arith, omega arith), ((omega arith, (omega arith, omega arith)), (omega arith, (omega arith, tt))));
  sorted = each _ 4 ((tt, tt), (((refl, tt), (tt, tt)), (tt, (tt, tt))));
}

four-order : OrderIs (from four) four_lists
unfolding init_root add_child with_node well_formed prim_count is_name_start is_local_root
four-order =
    let legal = legal-from four in
    certified-order (from four) four_lists legal.tree
    (lists-permute 4 (view (from four).nodes).parent (children_of (from four)) legal.tree four_lists own once refl)
    legal.links place stop four-certified
  where
    own : (v : ℕ) → v < 4 → All (Child 4 (view (from four).nodes).parent v) (four_lists v)
    own = each _ 4 (
      ((omega arith, omega arith, refl), tt),
      (((omega arith, omega arith, refl), ((omega arith, omega arith, refl), tt)), (tt, (tt, tt))),
    )

    once : (v a : ℕ) → v < 4 → count a (four_lists v) ≤ 1
    once v a h =
        fits-once place stop (suc (place v)) (stop v) (four_lists v)
        (each (λ v. All (Rises place stop) (four_lists v)) 4 ((omega arith, tt), ((omega arith, (omega arith, tt)), (tt, (tt, tt)))) v h)
        (four-certified.branches v h) a

-- ---- Copies: under 1 the authored Specialize 2 `/S`; 3 `/S` and 4 `/T`, the implied one, copied from 2; and 5 from 3, 6 from 4

abbrev copies : List Call
copies =
    line (add 1 specialize_arc 8 0 1 None 0 "/S" ∷ add 1 specialize_arc 8 0 2 None 0 "/S" ∷ add 1 specialize_arc 8 0 2 None 0 "/T"
    ∷ add 1 specialize_arc 8 0 3 None 0 "/S" ∷ add 1 specialize_arc 8 0 4 None 0 "/T" ∷ [])

abbrev copies_view : View
copies_view = view (from copies).nodes

-- 2 has the smallest class depth, being authored; 5 and 6 have more hops than 3 and 4; 4 is before
-- 3, being implied; so 6 is before 5 by the origins
abbrev copies_lists : ℕ → List ℕ
copies_lists v = get_or ((1 ∷ []) ∷ (2 ∷ 6 ∷ 5 ∷ 4 ∷ 3 ∷ []) ∷ []) v []

abbrev copy_place : ℕ → ℕ
copy_place v = get_or (0 ∷ 1 ∷ 2 ∷ 6 ∷ 5 ∷ 4 ∷ 3 ∷ []) v 0

abbrev copy_stop : ℕ → ℕ
copy_stop v = get_or (7 ∷ 7 ∷ 3 ∷ 7 ∷ 6 ∷ 5 ∷ 4 ∷ []) v 0

copies-flagged : All (Flagged 7 copies_view 1 (arc_rank specialize_arc)) (copies_lists 1)
unfolding init_root add_child with_node well_formed is_name_start is_local_root
copies-flagged = (
  ((omega arith, omega arith, refl), refl, refl),
  (
    ((omega arith, omega arith, refl), refl, refl),
    (
      ((omega arith, omega arith, refl), refl, refl),
      (
        ((omega arith, omega arith, refl), refl, refl),
        (((omega arith, omega arith, refl), refl, refl), tt),
      ),
    ),
  ),
)

-- each follows the one before it: by class depth, by the places of the origins, by hops, and as the
-- one that is not implied
copies-follow : Neighbours (Follows copies_view copy_place) (copies_lists 1)
unfolding init_root add_child with_node well_formed prim_count is_name_start is_local_root in_local_stack depth_below_introduction same_site same_path copy_lines
    local_lines group_lines origin_root_node origin_hops class_depth namespace_depth_for_class_hierarchy skip_relocates starting_node_of_class_hierarchy replaced
    is_propagated_specializes smaller
copies-follow = (
  record { less = refl; root = λ e. refl; local = λ e. refl; origin = λ e. cc },
  (
    record { less = refl; root = λ e. refl; local = λ e. refl; origin = λ e. cc },
    (
      record { less = refl; root = λ e. refl; local = λ e. refl; origin = λ e. cc },
      (record { less = refl; root = λ e. refl; local = λ e. refl; origin = λ e. refl }, (tt, tt)),
    ),
  ),
)

copies-in-order : Sorted (λ a b. is_less (sibling_lines copies_view (by_place copy_place) a b)) (copies_lists 1)
unfolding init_root add_child with_node well_formed is_name_start is_local_root origin_root_node
copies-in-order =
    copies-sorted (legal-from copies).links 1 (arc_rank specialize_arc) copy_place (copies_lists 1) copies-flagged
    (one-root-even copies_view 2 (copies_lists 1) (refl, (refl, (refl, (refl, (refl, tt)))))) rise copies-follow
  where
    later : All (λ c. is_authored copies_view c ≡ false) (6 ∷ 5 ∷ 4 ∷ 3 ∷ [])
    later = (refl, (refl, (refl, (refl, tt))))

    rise : Pairs (AuthoredRise copies_view) (copies_lists 1)
    rise = (
      all-imp (λ c. is_authored copies_view c ≡ false) (AuthoredRise copies_view 2) (6 ∷ 5 ∷ 4 ∷ 3 ∷ [])
          (λ c e s t. absurd (false≢true (sym e ∙ t))) later,
      all-pairs (λ c. is_authored copies_view c ≡ false) (AuthoredRise copies_view) (λ a b e f s t. absurd (false≢true (sym e ∙ s)))
          (6 ∷ 5 ∷ 4 ∷ 3 ∷ []) later,
    )

copies-certified : Certified copies_view 7 copies_lists copy_place copy_stop
copies-certified = record {
  branches = each _ 7 (
    (omega arith, omega arith),
    (
      (omega arith, (omega arith, (omega arith, (omega arith, (omega arith, omega arith))))),
      (omega arith, (omega arith, (omega arith, (omega arith, (omega arith, tt))))),
    ),
  );
  sorted = each _ 7 ((tt, tt), (copies-in-order, (tt, (tt, (tt, (tt, (tt, tt)))))));
}

copies-order : OrderIs (from copies) copies_lists
unfolding init_root add_child with_node well_formed is_name_start is_local_root
copies-order =
    let legal = legal-from copies in
    certified-order (from copies) copies_lists legal.tree
    (certified-permute 7 copies_view (children_of (from copies)) legal.tree copies_lists own refl copy_place copy_stop copies-certified)
    legal.links copy_place copy_stop copies-certified
  where
    own : (v : ℕ) → v < 7 → All (Child 7 copies_view.parent v) (copies_lists v)
    own = each _ 7 (
      ((omega arith, omega arith, refl), tt),
      (
        all-imp (Flagged 7 copies_view 1 (arc_rank specialize_arc)) (Child 7 copies_view.parent 1) (copies_lists 1) (λ c h. h.0) copies-flagged,
        (tt, (tt, (tt, (tt, (tt, tt))))),
      ),
    )

-- ---- The ring: of 3, 4 and 5 each is stronger than the next

cycle-refused : has_order (from ring) ≡ false
unfolding init_root add_child with_node well_formed prim_count is_name_start is_local_root is_stronger compare_sibling_node_strength sibling_lines
    plain_lines specializes_lines depth_line origin_lines same_origin_lines origins_are_nested is_nested_under outward origin_root_node
    is_propagated_specializes same_site same_path nodes_by arc_rank smaller
cycle-refused =
    ring-no-order (from ring) (legal-from ring).tree 1 3 4 5 (omega arith, omega arith, refl) (omega arith, omega arith, refl)
    (omega arith, omega arith, refl) refl refl refl
