-- Row n of the table from the arena and from rows of lower nodes: each column that is not read from
-- the node's own record. Assumes nothing.
use mathlib.Core.Path.{◌≡◌, refl, sym, ap, ◌∙◌}
use mathlib.Core.Bool.{Bool, true, false, and-eq-true_iff}
use mathlib.Core.List.{List}
use Prim.Native.Nat.{ℕ, ◌+◌, ◌*◌, ◌≤◌, ◌<◌}
use native.Mathlib.Omega.{arith}
use lib.Dec.{eqb, ltb}
use lib.ListN.{get_or}
use borrow.Author.Tests.{eq-eqb, ne_eqb, lt-ltb}
use Rattle.model.specs.Lists.{bit}
use Rattle.model.specs.Node.{relocate_arc, specialize_arc}
use Rattle.model.specs.Graph.{depth_below_introduction}
use Rattle.model.specs.Arena.{count_in, decode}
use Rattle.model.specs.Strength.{View, is_authored, is_implied, is_propagated_specializes, origin_root_node, origin_hops, outward, replaced, is_class_based_arc, starting_node_of_class_hierarchy, namespace_depth_for_class_hierarchy, class_depth}
use Rattle.laws.proofs.Views.{LegalView}
use Rattle.laws.proofs.StrengthWalks.{class_up, replaced-le, class-up-lower, origin-root-authored, origin-root-step, origin-hops-authored, origin-hops-step, skip_stop, skip_step}
use Rattle.laws.proofs.StrengthTables.{origin-hops-le, class-from-other, class-from-same, class-from-apart}
use Rattle.view.specs.View.{view_in}
use Rattle.view.proofs.ViewLaws.{legal}
use Rattle.line_table.specs.LineTable.{skipped_depth, hierarchy_depth, node_row, Cell, Filling}
use Rattle.line_table.proofs.TableCells.{small, own, lower-row}

-- ---- Sites

module _ (u : View) (n : ℕ) where
  module _ (e : is_propagated_specializes u n ≡ true) where
    -- it has its origin's site
    pub propagated-site : 0 ≡ bit (is_implied u n)
    unfolding is_propagated_specializes
    propagated-site =
        let arcs = ((and-eq-true_iff (ltb 0 n) _).0 e).1 in
        let places = ((and-eq-true_iff (eqb (u.arc n) specialize_arc) _).0 arcs).1 in
        rw ((and-eq-true_iff (u.local_root (u.parent n)) _).0 places).1

    pub propagated-replaced : replaced u n ≡ u.origin n
    unfolding replaced
    propagated-replaced = rw e

    pub propagated-outward : outward u n ≡ u.origin n
    unfolding outward
    propagated-outward = rw e

  module _ (e : is_propagated_specializes u n ≡ false) where
    pub other-replaced : replaced u n ≡ n
    unfolding replaced
    other-replaced = rw e

    pub other-outward : outward u n ≡ u.parent n
    unfolding outward
    other-outward = rw e

-- ---- What is read of the row itself

pub bit-set : {x : ℕ} (b : Bool) → x ≡ bit b → x ≡ 1 → b ≡ true
bit-set true e z = refl
bit-set false e z = absurd (omega arith)

pub bit-clear : {x : ℕ} (b : Bool) → x ≡ bit b → (x ≡ 1 → ⊥) → b ≡ false
bit-clear true e z = absurd (z e)
bit-clear false e z = refl

module _ {bs t : List ℕ} {root n columns : ℕ} (f : Filling bs t root n columns) where
  graph : LegalView (count_in bs) (view_in bs)
  graph = legal bs f.standing.readable.opened

  within : n < count_in bs
  within = f.standing.readable.below

  pub origin-lower : (view_in bs).origin n < n
  origin-lower = graph.origin-lower n f.above within

  pub parent-lower : (view_in bs).parent n < n
  parent-lower = graph.parent-lower n f.above within

  module _ (some : 6 ≤ columns) where
    pub origin-read : {v : ℕ} → Cell (get_or t (n * 16 + 0) 0) v → v ≡ (view_in bs).origin n
    unfolding node_row
    origin-read e = e.same ∙ own f 0 (omega arith) (omega arith)

    pub authored-read : {v : ℕ} → Cell (get_or t (n * 16 + 5) 0) v → v ≡ bit (is_authored (view_in bs) n)
    unfolding node_row
    authored-read e = e.same ∙ own f 5 (omega arith) (omega arith)

    pub depth-read : {v : ℕ} → Cell (get_or t (n * 16 + 1) 0) v → v ≡ (view_in bs).depth n
    unfolding node_row
    depth-read e = e.same ∙ own f 1 (omega arith) (omega arith)

  -- ---- R, hops and class depth, from the origin's row

  module _ (authored : is_authored (view_in bs) n ≡ true) where
    pub authored-root : Cell (origin_root_node (view_in bs) n) n
    authored-root = record { same = sym (origin-root-authored (view_in bs) n authored); fits = omega (arith, small f.standing.readable) }

    pub authored-hops : Cell (origin_hops (view_in bs) n) 0
    authored-hops = record { same = sym (origin-hops-authored (view_in bs) n authored); fits = omega arith }

    pub authored-class : Cell (class_depth (view_in bs) n) 0
    unfolding class_depth
    authored-class = rw authored record { same = refl; fits = omega arith }

  module _ (other : is_authored (view_in bs) n ≡ false) {origin : ℕ} (o : origin ≡ (view_in bs).origin n) where
    origin-falls : origin < n
    origin-falls = omega (arith, origin-lower)

    pub root-from-origin : {v : ℕ} → Cell (get_or t (origin * 16 + 10) 0) v → Cell (origin_root_node (view_in bs) n) v
    root-from-origin e = record {
      same = e.same ∙ (lower-row f origin origin-falls).root ∙ rw o (sym (origin-root-step graph n f.above within other));
      fits = e.fits;
    }

    pub hops-from-origin : {v : ℕ} → Cell (get_or t (origin * 16 + 11) 0) v → Cell (origin_hops (view_in bs) n) (v + 1)
    hops-from-origin {v} e =
        let before : v ≡ origin_hops (view_in bs) ((view_in bs).origin n) = e.same ∙ (lower-row f origin origin-falls).hops ∙ ap (origin_hops (view_in bs)) o in
        record {
          same = omega (arith, before, origin-hops-step graph n f.above within other);
          fits = omega (arith, before, origin-hops-le (view_in bs) ((view_in bs).origin n), origin-lower, small f.standing.readable);
        }

    module _ {q : ℕ} (r : Cell (get_or t (origin * 16 + 8) 0) q) where
      replaces : q ≡ replaced (view_in bs) ((view_in bs).origin n)
      replaces = r.same ∙ (lower-row f origin origin-falls).replaced-by ∙ ap (replaced (view_in bs)) o

      pub replaced-falls : q < n
      replaced-falls = omega (arith, replaces, replaced-le graph ((view_in bs).origin n) (omega (arith, origin-lower, within)), origin-lower)

      pub class-from-origin : {v : ℕ} → Cell (get_or t (q * 16 + 14) 0) v → Cell (class_depth (view_in bs) n) v
      unfolding class_depth namespace_depth_for_class_hierarchy starting_node_of_class_hierarchy
      class-from-origin e = rw other record {
        same = e.same ∙ (lower-row f q replaced-falls).hierarchy ∙ ap (hierarchy_depth (view_in bs)) replaces;
        fits = e.fits;
      }

  -- ---- Depths, from the parent's row

  pub skipped-here : {v : ℕ} → ((view_in bs).arc n ≡ relocate_arc → ⊥) → v ≡ (view_in bs).depth n → v < 65536 → Cell (skipped_depth (view_in bs) n) v
  skipped-here d e l = record {
    same = e ∙ ap (view_in bs).depth (sym (skip_stop (view_in bs) n (ne_eqb ((view_in bs).arc n) relocate_arc d)));
    fits = l;
  }

  module _ {parent : ℕ} (p : parent ≡ (view_in bs).parent n) where
    pub parent-falls : parent < n
    parent-falls = omega (arith, parent-lower)

    pub skipped-above : {v : ℕ} → (view_in bs).arc n ≡ relocate_arc → Cell (get_or t (parent * 16 + 13) 0) v → Cell (skipped_depth (view_in bs) n) v
    skipped-above a e = record {
      same = e.same ∙ (lower-row f parent parent-falls).skipped
          ∙ rw p (ap (view_in bs).depth (sym (skip_step graph n f.above within (eq-eqb ((view_in bs).arc n) relocate_arc a))));
      fits = e.fits;
    }

    module _ {up : ℕ} (r : Cell (get_or t (parent * 16 + 8) 0) up) where
      above : up ≡ class_up (view_in bs) n
      above = r.same ∙ (lower-row f parent parent-falls).replaced-by ∙ ap (replaced (view_in bs)) p

      pub up-falls : up < n
      up-falls = omega (arith, above, class-up-lower graph n f.above within)

      module _ (based : is_class_based_arc ((view_in bs).arc n) ≡ true) {below here : ℕ} (b : below ≡ depth_below_introduction (decode bs).nodes n)
          (e : Cell (get_or t (up * 16 + 12) 0) here) where
        reads : (x y : ℕ) → 0 < x → 0 < y → (view_in bs).same_depth_below x y
            ≡ eqb (depth_below_introduction (decode bs).nodes x) (depth_below_introduction (decode bs).nodes y)
        reads x y h k = rw (lt-ltb 0 x h, lt-ltb 0 y k)

        depth-above : here ≡ depth_below_introduction (decode bs).nodes (class_up (view_in bs) n)
        depth-above = e.same ∙ (lower-row f up up-falls).below ∙ ap (depth_below_introduction (decode bs).nodes) above

        pub hierarchy-above : {v : ℕ} → here ≡ below → Cell (get_or t (up * 16 + 14) 0) v → Cell (hierarchy_depth (view_in bs) n) v
        hierarchy-above same h =
            let start = class-from-same graph (depth_below_introduction (decode bs).nodes) reads n f.above within based (sym depth-above ∙ same ∙ b) in
            record {
              same = h.same ∙ (lower-row f up up-falls).hierarchy ∙ ap (hierarchy_depth (view_in bs)) above ∙ ap (skipped_depth (view_in bs)) (sym start);
              fits = h.fits;
            }

        pub hierarchy-starts : {v : ℕ} → (here ≡ below → ⊥) → Cell (get_or t (up * 16 + 13) 0) v → Cell (hierarchy_depth (view_in bs) n) v
        hierarchy-starts apart h =
            let start =
            class-from-apart graph (depth_below_introduction (decode bs).nodes) reads n f.above within based (λ q. apart (depth-above ∙ q ∙ sym b)) in
            record {
              same = h.same ∙ (lower-row f up up-falls).skipped ∙ ap (skipped_depth (view_in bs)) (above ∙ sym start);
              fits = h.fits;
            }

  pub hierarchy-none : {v : ℕ} → is_class_based_arc ((view_in bs).arc n) ≡ false → Cell (skipped_depth (view_in bs) n) v → Cell (hierarchy_depth (view_in bs) n) v
  hierarchy-none e h = record { same = h.same ∙ ap (skipped_depth (view_in bs)) (sym (class-from-other (view_in bs) n e)); fits = h.fits }
