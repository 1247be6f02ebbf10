-- The view of an arena that holds a graph: its links go to lower nodes (`legal`), so what is met
-- from a node can be read (`readable-lower`, `standing-lower`); and what it has of a node by the
-- node's fields (`seen`, `depth-read`). Assumes nothing.
use mathlib.Core.Path.{◌≡◌, sym, ap, ◌∙◌}
use mathlib.Core.List.{List}
use Prim.Native.Nat.{ℕ, ◌-◌, ◌≤◌, ◌<◌}
use native.Mathlib.Omega.{arith}
use lib.ListN.{length}
use borrow.Author.Tests.{eq-eqb, ne_eqb}
use Rattle.model.specs.Path.{prim_count}
use Rattle.model.specs.Node.{root_arc, Node}
use Rattle.model.specs.Graph.{node_at, depth_below_introduction}
use Rattle.model.specs.Arena.{count_in, prim_count_in, node_in, decode}
use Rattle.model.specs.ArenaCalls.{ValidArena, ValidNode}
use Rattle.laws.proofs.Views.{LegalView}
use Rattle.arena.specs.Slot.{arc_in, flags_in, stack_in, parent_in, origin_in, depth_in, sibling_in}
use Rattle.arena.proofs.HeldArenas.{held}
use Rattle.arena.proofs.ArenaBack.{size-decode, fresh-legal, fresh-nodes}
use Rattle.arena.proofs.ReadNodes.{node-read, fields_read, parent-read}
use Rattle.view.specs.View.{view_in, ValidNodeAndRoot}

-- ---- Links

module _ (bs : List ℕ) (o : ValidArena bs) where
  pub legal : LegalView (count_in bs) (view_in bs)
  legal =
      let h = held bs o.holds in
      let same = fresh-nodes bs h in
      record {
        parent-lower = λ c p l. rw same at ((fresh-legal bs h).links.parent-lower c p (omega (arith, ap length same, size-decode bs h)));
        origin-lower = λ c p l. rw same at ((fresh-legal bs h).links.origin-lower c p (omega (arith, ap length same, size-decode bs h)));
      }

  pub arc-of-0 : 0 < count_in bs → (view_in bs).arc 0 ≡ root_arc
  arc-of-0 l =
      let h = held bs o.holds in
      let same = fresh-nodes bs h in
      rw same at ((fresh-legal bs h).node-0 (omega (arith, ap length same, size-decode bs h))).arc

pub readable-lower : (bs : List ℕ) (n m : ℕ) → ValidNode bs n → m ≤ n → ValidNode bs m
readable-lower bs n m r l = record { opened = r.opened; below = omega (arith, r.below) }

pub readable-parent : (bs : List ℕ) (n : ℕ) → ValidNode bs n → 0 < n → ValidNode bs ((view_in bs).parent n)
readable-parent bs n r h = readable-lower bs n ((view_in bs).parent n) r (omega (arith, (legal bs r.opened).parent-lower n h r.below))

pub readable-origin : (bs : List ℕ) (n : ℕ) → ValidNode bs n → 0 < n → ValidNode bs ((view_in bs).origin n)
readable-origin bs n r h = readable-lower bs n ((view_in bs).origin n) r (omega (arith, (legal bs r.opened).origin-lower n h r.below))

pub standing-lower : (bs : List ℕ) (root n m : ℕ) → ValidNodeAndRoot bs root n → m ≤ n → ValidNodeAndRoot bs root m
standing-lower bs root n m s l = record { readable = readable-lower bs n m s.readable l; root-read = s.root-read }

-- ---- Fields

pub record Seen (bs : List ℕ) (n : ℕ) : Type 0 where
  pub parent : (view_in bs).parent n ≡ parent_in bs n
  pub origin : (view_in bs).origin n ≡ origin_in bs n
  pub arc : (view_in bs).arc n ≡ arc_in bs n
  pub flags : (node_at (decode bs).nodes n).flags ≡ flags_in bs n
  pub stack : (node_at (decode bs).nodes n).stack ≡ stack_in bs n
  pub depth : (view_in bs).depth n ≡ depth_in bs n
  pub sibling : (view_in bs).sibling n ≡ sibling_in bs n
  pub path : (node_at (decode bs).nodes n).path ≡ (node_in bs n).path

pub seen : (bs : List ℕ) (n : ℕ) → ValidNode bs n → Seen bs n
seen bs n r =
    let node = node-read bs n r in
    let fields = fields_read bs n r in
    record {
      parent = ap (λ (x : Node). x.parent) node ∙ fields.parent;
      origin = ap (λ (x : Node). x.origin) node ∙ fields.origin;
      arc = ap (λ (x : Node). x.arc) node ∙ fields.arc;
      flags = ap (λ (x : Node). x.flags) node ∙ fields.flags;
      stack = ap (λ (x : Node). x.stack) node ∙ fields.stack;
      depth = ap (λ (x : Node). x.depth) node ∙ fields.depth;
      sibling = ap (λ (x : Node). x.sibling) node ∙ fields.sibling;
      path = ap (λ (x : Node). x.path) node;
    }

-- the depth below introduction by the fields that are read
pub depth-read : (bs : List ℕ) (n : ℕ) → ValidNode bs n → 0 < n
    → depth_below_introduction (decode bs).nodes n ≡ prim_count_in bs (parent_in bs n) - depth_in bs n
unfolding depth_below_introduction
depth-read bs n r h =
    let fields = seen bs n r in
    let above = parent-read bs n r h in
    let prims : prim_count (node_at (decode bs).nodes (parent_in bs n)).path ≡ prim_count_in bs (parent_in bs n) =
    ap prim_count (seen bs (parent_in bs n) above).path ∙ sym ((held bs r.opened.holds).node (parent_in bs n) above.below).prim-count in
    rw (ne_eqb n 0 (λ z. omega arith), fields.parent, fields.depth, prims)

pub depth-of-0 : (bs : List ℕ) (n : ℕ) → n ≡ 0 → depth_below_introduction (decode bs).nodes n ≡ 0
unfolding depth_below_introduction
depth-of-0 bs n e = rw (eq-eqb n 0 e)
