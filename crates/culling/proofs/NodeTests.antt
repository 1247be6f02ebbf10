-- The tests on one node of an arena by what is read: t is no higher than the node
-- (`introducer-le`), and its introduction path has one prim where its own has one more than its
-- depth below introduction (`one-prim`). Assumes nothing.
use mathlib.Core.Path.{◌≡◌, refl, sym, ap, ◌∙◌}
use mathlib.Core.Bool.{Bool, true, false, cond}
use mathlib.Core.List.{List}
use Prim.Native.Nat.{ℕ, ◌+◌, ◌-◌, ◌≤◌}
use native.Mathlib.Omega.{arith}
use lib.Dec.{eqb}
use lib.ListN.{length}
use borrow.Author.Tests.{eq-eqb, ne_eqb, eqb-true, eqb-false}
use Rattle.model.specs.Path.{prim_count, well_formed}
use Rattle.model.specs.Node.{Node}
use Rattle.model.specs.Graph.{node_at, depth_below_introduction, path_at_introduction}
use Rattle.model.specs.Strength.{is_authored, origin_root_node}
use Rattle.model.specs.Arena.{prim_count_in, decode}
use Rattle.model.specs.ArenaCalls.{ValidNode}
use Rattle.model.specs.Culling.{introducer}
use Rattle.laws.proofs.PathGrammar.{well-formed-may-end}
use Rattle.laws.proofs.PathLaws.{intro-prim-count}
use Rattle.laws.proofs.StrengthWalks.{origin-root-le}
use Rattle.arena.specs.Slot.{has_specs_in}
use Rattle.arena.proofs.HeldArenas.{held}
use Rattle.arena.proofs.ArenaBack.{size-decode, fresh-legal, fresh-nodes}
use Rattle.arena.proofs.ReadNodes.{node-read, fields_read}
use Rattle.view.specs.View.{view_in}
use Rattle.view.proofs.ViewLaws.{legal, seen}

eqb-less : (a b : ℕ) → eqb (a - b) 1 ≡ eqb a (b + 1)
eqb-less a b = go (eqb a (b + 1)) refl
  where
    go : (t : Bool) → eqb a (b + 1) ≡ t → eqb (a - b) 1 ≡ t
    go true e = let same = eqb-true a (b + 1) e in eq-eqb (a - b) 1 (omega arith)
    go false e = let other = eqb-false a (b + 1) e in ne_eqb (a - b) 1 (λ q. omega arith)

module _ (bs : List ℕ) (n : ℕ) (r : ValidNode bs n) where
  pub introducer-le : introducer (decode bs).nodes n ≤ n
  introducer-le = go (is_authored (view_in bs) n)
    where
      go : (t : Bool) → cond t n (origin_root_node (view_in bs) n) ≤ n
      go true = omega arith
      go false = origin-root-le (legal bs r.opened) n r.below

  pub has-specs-read : (node_at (decode bs).nodes n).has_specs ≡ has_specs_in bs n
  has-specs-read = ap (λ (x : Node). x.has_specs) (node-read bs n r) ∙ (fields_read bs n r).has_specs

  path-right : well_formed (node_at (decode bs).nodes n).path ≡ true
  path-right =
      let h = held bs r.opened.holds in
      let same = fresh-nodes bs h in
      rw same at ((fresh-legal bs h).node n (omega (arith, ap length same, size-decode bs h, r.below))).path

  pub one-prim : eqb (prim_count (path_at_introduction (decode bs).nodes n)) 1 ≡ eqb (prim_count_in bs n) (depth_below_introduction (decode bs).nodes n + 1)
  unfolding path_at_introduction
  one-prim =
      let path = (node_at (decode bs).nodes n).path in
      let depth = depth_below_introduction (decode bs).nodes n in
      let prims : prim_count path ≡ prim_count_in bs n =
      ap prim_count (seen bs n r).path ∙ sym ((held bs r.opened.holds).node n r.below).prim-count in
      ap (λ (k : ℕ). eqb k 1) (intro-prim-count depth path (well-formed-may-end path path-right))
      ∙ eqb-less (prim_count path) depth ∙ ap (λ (k : ℕ). eqb k (depth + 1)) prims
