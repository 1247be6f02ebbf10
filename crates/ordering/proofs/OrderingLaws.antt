-- Marks, the links of the sorted lists and the walk of these links, written into the arena that
-- holds a graph, leave the ordered graph: `walk-written`; and what the walk asks: `walkable`. The
-- links are those stored of the lists in arrays (`lists-stored`), or stand there already
-- (`links-stand`). Assumes nothing.
use mathlib.Core.Path.{◌≡◌, refl, sym, ap, subst, ◌∙◌}
use mathlib.Core.Bool.{true, not}
use mathlib.Core.List.{List, []}
use Prim.Native.Nat.{ℕ, ◌+◌, ◌≤◌, ◌<◌}
use native.Mathlib.Omega.{arith}
use lib.Dec.{eqb}
use lib.ListN.{length, get_or-eq_default}
use Rattle.model.specs.Node.{invalid, Node}
use Rattle.model.specs.Graph.{Graph, size, children_of}
use Rattle.model.specs.Order.{sort, walk, is_stronger, sorted_children, has_order, ordering}
use Rattle.model.specs.Strength.{view, view_of}
use Rattle.model.specs.Snapshot.{value}
use Rattle.model.specs.Arena.{arena_bytes, slot_at, count_in, shallow_in, first_child_in, next_sibling_in, first_of, after_in, order_stored, decode, encode}
use Rattle.model.specs.ArenaCalls.{ValidArena, ValidNode}
use Rattle.laws.proofs.BigEndianLaws.{Bytes}
use Rattle.laws.proofs.Trees.{Tree, tree-sorted}
use Rattle.laws.proofs.OrderLaws.{children-ordering, children-stay, sorted-has-order, stronger-antisymmetric}
use Rattle.arena.specs.Header.{marks_stored}
use Rattle.arena.specs.Slot.{parent_in}
use Rattle.arena.proofs.ArenaFields.{count-encode, first-child-encode, next-sibling-encode, node-encode}
use Rattle.arena.proofs.ArenaHolds.{holds-encoded}
use Rattle.arena.proofs.ArenaParts.{length-encode}
use Rattle.arena.proofs.EncodeSteps.{marked-length, marked-behind}
use Rattle.arena.proofs.Encodable.{Encodable, ordered-encodable, order_below}
use Rattle.arena.proofs.HeldArenas.{held}
use Rattle.arena.proofs.HeldEncodable.{held-encodable}
use Rattle.arena.proofs.ReadNodes.{sizes, fields_read}
use Rattle.arena.proofs.TabulateLaws.{tabulate-same}
use Rattle.child_lists.specs.Links.{Segments, Parted, lists_stored}
use Rattle.child_lists.proofs.SegmentLaws.{tree-parted}
use Rattle.child_lists.proofs.LinkStores.{links_of, links-length, Linkable}
use Rattle.child_lists.proofs.ListStores.{lists-right}
use Rattle.sorting.specs.Standing.{Stands}
use Rattle.ordering.specs.Ordering.{way_in, Walkable, walk_stored, marks_written}
use Rattle.ordering.proofs.StepLaws.{walk-length, step-node, step-walk}
use Rattle.ordering.proofs.WayLaws.{SameLinks, order-same-links}
use Rattle.ordering.proofs.EncodeOrdered.{encode-same-nodes, links-there}

-- an arena of n nodes whose graph has an order
pub record Orderable (bs : List ℕ) (n : ℕ) : Type 0 where
  pub bytes : Bytes bs
  pub opened : ValidArena bs
  pub counted : n ≡ count_in bs
  pub some-node : 0 < n
  pub has-order : has_order (decode bs) ≡ true

-- its lists stand in it
pub standing-has-order : (bs : List ℕ) → Bytes bs → ValidArena bs → Stands (decode bs) true → has_order (decode bs) ≡ true
standing-has-order bs bytes o stands =
    sorted-has-order (decode bs) (stronger-antisymmetric (decode bs)) (held-encodable bs bytes o.whole o.holds).legal.lengths (stands.sorted refl)

module _ (bs : List ℕ) (n : ℕ) (ready : Orderable bs n) where
  abbrev g : Graph
  g = decode bs

  abbrev h : Graph
  h = ordering g

  abbrev lists : ℕ → List ℕ
  lists = sorted_children g

  abbrev parent : ℕ → ℕ
  parent = (view_of g).parent

  sized : n ≡ size g
  sized = ready.counted ∙ sym (sizes bs ready.opened)

  ok : Encodable g
  ok = held-encodable bs ready.bytes ready.opened.whole ready.opened.holds

  ok-then : Encodable h
  ok-then = ordered-encodable g ok ready.has-order

  tree : Tree n parent lists
  tree = subst (λ (k : ℕ). Tree k parent lists) (sym sized) (tree-sorted (size g) parent (children_of g) ok.legal.tree (is_stronger g))

  pub few : n ≤ 1024
  few = omega (arith, sized, ok.legal.few-nodes)

  -- ---- Marks and links

  state-valid : marks_written bs ≡ marks_stored h.ordered h.finalized h.shallow bs
  unfolding ordering decode
  state-valid = refl

  same_nodes : h.nodes ≡ g.nodes
  unfolding ordering
  same_nodes = refl

  pub marks-whole : length (marks_written bs) ≡ arena_bytes
  marks-whole = marked-length bs ready.opened.whole true (not (eqb (shallow_in bs) 1)) (eqb (shallow_in bs) 1)

  -- the arena when these are written
  abbrev pub linked : List ℕ
  linked = links_of (ordering (decode bs)) (size (decode bs)) (marks_written bs)

  linked-length : length linked ≡ arena_bytes
  linked-length = links-length h (size g) (marks_written bs) (omega (arith, few, sized)) marks-whole

  written : encode h bs ≡ order_stored h.order 0 linked
  written =
      encode-same-nodes bs ready.bytes ready.opened h same_nodes
      ∙ ap (λ (s : List ℕ). order_stored h.order 0 (links_of h (size g) s)) (sym state-valid)

  -- ---- The walk of these links

  order-walk : h.order ≡ walk lists n
  unfolding ordering
  order-walk = ap (walk lists) (sym sized)

  same-links : SameLinks linked (encode h bs)
  same-links =
      rw written
      (order-same-links h.order 0 linked linked-length (omega (arith, (order_below h ok-then).0, ap length same_nodes, sized, few)))

  readable : (x : ℕ) → x < n → ValidNode (encode h bs) x
  readable x l = record {
    opened = record {
      whole = length-encode h bs ok-then ready.opened.whole ∙ ready.opened.whole;
      holds = holds-encoded h bs ok-then ready.opened.whole;
    };
    below = omega (arith, count-encode h bs ok-then ready.opened.whole, sized, ap length same_nodes);
  }

  below : (x : ℕ) → x < n → x < size h
  below x l = omega (arith, sized, ap length same_nodes)

  parents : (x : ℕ) → 0 < x → x < n → parent_in linked x ≡ parent x
  parents x higher l =
      sym (same-links.parent x) ∙ sym (fields_read (encode h bs) x (readable x l)).parent
      ∙ ap (λ (y : Node). y.parent) (node-encode h bs ok-then ready.opened.whole x (below x l))
      ∙ ap (λ (ns : List Node). (view ns).parent x) same_nodes

  firsts : (x : ℕ) → x < n → first_child_in linked x ≡ first_of (lists x)
  firsts x l =
      sym (same-links.first x) ∙ first-child-encode h bs ok-then ready.opened.whole x (below x l) ∙ ap first_of (children-ordering g x)

  nexts : (x : ℕ) → 0 < x → x < n → next_sibling_in linked x ≡ after_in x (lists (parent x))
  nexts x higher l =
      sym (same-links.next x) ∙ next-sibling-encode h bs ok-then ready.opened.whole x (below x l)
      ∙ ap (λ (ns : List Node). after_in x (children_of h ((view ns).parent x))) same_nodes ∙ ap (after_in x) (children-ordering g (parent x))

  pub walkable : Walkable linked n
  walkable = record {
    whole = linked-length;
    few = few;
    some-node = ready.some-node;
    nodes = step-node n parent lists tree few (first_child_in linked) (next_sibling_in linked) (parent_in linked) parents firsts nexts ready.some-node;
    lower = λ y some l. omega (arith, parents y some l, tree.lower y some l);
  }

  pub walk-written : walk_stored n linked ≡ encode h bs
  unfolding walk_stored
  walk-written =
      let first = first_child_in linked in
      let next = next_sibling_in linked in
      let up = parent_in linked in
      let long = walk-length n parent lists tree few first next up parents firsts nexts ready.some-node in
      ap (λ (ns : List ℕ). order_stored ns 0 linked)
      (tabulate-same (way_in linked) 0 n (walk lists n) (sym long) (step-walk n parent lists tree few first next up parents firsts nexts ready.some-node)
      ∙ sym order-walk)
      ∙ sym written

  -- ---- The links stand there

  pub links-stand : Stands g true → marks_written bs ≡ linked
  links-stand stands =
      sym (ap (links_of h (size g)) state-valid
      ∙ links-there bs ready.bytes ready.opened h same_nodes stay (size g) (omega arith) ∙ sym state-valid)
    where
      stay : (v : ℕ) → children_of h v ≡ children_of g v
      stay v = children-ordering g v ∙ children-stay g (stronger-antisymmetric g) ok.legal.lengths (stands.sorted refl) v

  -- ---- The links are made of lists in arrays

  module _ (sorted ends : List ℕ) (segments : Segments lists n sorted ends) where
    pub parted : Parted sorted ends n
    parted = tree-parted n parent lists tree sorted ends segments few

    listed : lists ≡ children_of h
    listed = λ i v. sym (children-ordering g v) i

    linkable : Linkable h sorted ends
    unfolding ordering
    linkable =
        let childless : children_of g invalid ≡ [] =
        get_or-eq_default g.children [] {n = invalid} (omega (arith, ok.legal.lengths, ok.legal.few-nodes)) in
        record {
          tree = subst (Tree (size g) parent) listed (subst (λ (k : ℕ). Tree k parent lists) sized tree);
          few = ok.legal.few-nodes;
          alone = ap (children_of h) (ok.legal.node-0 (omega (arith, sized, ready.some-node))).no-parent
              ∙ children-ordering g invalid ∙ ap (sort (is_stronger g)) childless;
          segments = subst (λ (l : ℕ → List ℕ). Segments l (size g) sorted ends) listed
              (subst (λ (k : ℕ). Segments lists k sorted ends) sized segments);
        }

    pub lists-stored : Bytes (marks_written bs) → lists_stored sorted ends n (marks_written bs) ≡ linked
    unfolding ordering
    lists-stored marked-bytes =
        ap (λ (k : ℕ). lists_stored sorted ends k (marks_written bs)) sized
        ∙ lists-right h sorted ends linkable (marks_written bs) marked-bytes marks-whole
        (ap value (marked-behind bs ready.opened.whole true (not (eqb (shallow_in bs) 1)) (eqb (shallow_in bs) 1)
        (slot_at 0 + 8) 4 (omega arith)) ∙ alone)
      where
        alone : next_sibling_in bs 0 ≡ invalid
        alone = ((held bs ready.opened.holds).node 0 (omega (arith, ready.counted, ready.some-node))).next-of-0 refl
