-- The byte of one node by the fields that are read of it (`mark-unculled` to `mark_set`). Assumes
-- nothing.
use mathlib.Core.Path.{◌≡◌, ap, ◌∙◌}
use mathlib.Core.Bool.{true, false, not, ◌&&◌}
use mathlib.Core.List.{List}
use Prim.Native.Nat.{ℕ, ◌≤◌}
use native.Mathlib.Omega.{arith}
use lib.Dec.{eqb}
use borrow.Author.Tests.{eq-eqb, ne_eqb, lt-ltb, le-ltb}
use Rattle.model.specs.Lists.{bit}
use Rattle.model.specs.Node.{culled_flag, has_flag, Node}
use Rattle.model.specs.Graph.{size, depth_below_introduction}
use Rattle.model.specs.Arena.{count_in, decode}
use Rattle.model.specs.ArenaCalls.{ValidArena, ValidNode}
use Rattle.model.specs.Culling.{is_marked}
use Rattle.arena.specs.Slot.{flags_in, has_specs_in}
use Rattle.arena.proofs.ReadNodes.{sizes, node-read, fields_read}
use Rattle.view.proofs.ViewLaws.{seen}
use Rattle.erasing.specs.MarkedSet.{marks}

pub mark-beyond : (bs : List ℕ) (n : ℕ) → ValidArena bs → count_in bs ≤ n → 0 ≡ bit (marks (decode bs) n)
mark-beyond bs n o h = rw (le-ltb n (size (decode bs)) (omega (arith, sizes bs o)))

module _ (bs : List ℕ) (n : ℕ) (r : ValidNode bs n) where
  mark-read : marks (decode bs) n
      ≡ (has_flag culled_flag (flags_in bs n) && (not (eqb (has_specs_in bs n) 1) && not (eqb (depth_below_introduction (decode bs).nodes n) 0)))
  unfolding is_marked
  mark-read =
      let specs = ap (λ (x : Node). x.has_specs) (node-read bs n r) ∙ (fields_read bs n r).has_specs in
      rw (lt-ltb n (size (decode bs)) (omega (arith, r.below, sizes bs r.opened)), (seen bs n r).flags, specs)

  pub mark-unculled : has_flag culled_flag (flags_in bs n) ≡ false → 0 ≡ bit (marks (decode bs) n)
  mark-unculled e = rw (mark-read, e)

  module _ (culled : has_flag culled_flag (flags_in bs n) ≡ true) where
    pub mark-specs : has_specs_in bs n ≡ 1 → 0 ≡ bit (marks (decode bs) n)
    mark-specs e = rw (mark-read, culled, eq-eqb (has_specs_in bs n) 1 e)

    module _ (bare : has_specs_in bs n ≡ 1 → ⊥) where
      pub mark-level : depth_below_introduction (decode bs).nodes n ≡ 0 → 0 ≡ bit (marks (decode bs) n)
      mark-level e = rw (mark-read, culled, ne_eqb (has_specs_in bs n) 1 bare, e)

      pub mark_set : (depth_below_introduction (decode bs).nodes n ≡ 0 → ⊥) → 1 ≡ bit (marks (decode bs) n)
      mark_set e = rw (mark-read, culled, ne_eqb (has_specs_in bs n) 1 bare, ne_eqb (depth_below_introduction (decode bs).nodes n) 0 e)
