-- The lines on two entries: a list settled by a line that differs, handed on where a line is
-- passed, or two nodes asked. Assumes nothing.
use mathlib.Core.Path.{◌≡◌, refl, sym, ◌∙◌}
use mathlib.Core.Logic.{inl, inr}
use mathlib.Core.Bool.{Bool, true, false, and-false}
use mathlib.Core.List.{[]}
use Prim.Native.Nat.{ℕ, ◌<◌}
use native.Mathlib.Omega.{arith}
use borrow.Author.Tests.{eq-eqb, ne_eqb}
use Rattle.std.specs.declared.cmp.Ordering.{Ordering}
use Rattle.std.specs.declared.cmp.Ordering.TheVariants.{Equal}
use Rattle.model.specs.Strength.{View, first, smaller, same_origin_lines, local_line, same_root_lines, origin_lines, depth_line, specializes_lines, plain_lines, sibling_lines}
use Rattle.laws.proofs.Views.{LegalView}
use Rattle.laws.proofs.StrengthWalks.{origin-below, origin-root-below}
use Rattle.view.specs.declared.origins.OriginRoot.{OriginRoot}
use Rattle.view.specs.Walks.{RootOf}
use Rattle.model.specs.declared.Verdict.{Verdict}
use Rattle.model.specs.declared.Verdict.TheVariants.{Settled, Ask}
use Rattle.strength.proofs.VerdictNumbers.{by_sibling, passed, settles, read_same, read-other, read-smaller}
use Rattle.strength.proofs.SameRootLaws.{RootsAlike, classes-differ, hops-differ, alike-passed}
use Rattle.strength.proofs.SpecializesLaws.{one-depth, roots-nested, not-nested, one-origin}
use Rattle.line_table.specs.declared.Entry.{Entry}
use Rattle.line_table.specs.LineTable.{EntryOf, WeighsBy, Always, NestedAtDepths, Orders, Weighs}

abbrev root_of : Entry → OriginRoot
root_of e = record { node = e.root; hops = e.hops }

rooted : (e : Entry) (u : View) → EntryOf u e → RootOf u e.node (root_of e)
rooted e u p = record { node = p.root; hops = p.hops }

-- what an entry names are nodes
pub entry-links : {n : ℕ} {u : View} (e : Entry) → LegalView n u → EntryOf u e → 0 < e.node → e.node < n → (e.origin < n) × (e.root < n)
entry-links e legal p h l =
    (omega (arith, p.origin, origin-below legal e.node h l), omega (arith, p.root, origin-root-below legal e.node l))

module _ (a b : Entry) where
  -- ---- "Smaller sibling number, then smaller node number."

  pub siblings-differ : {o : Ordering} → (a.sibling ≡ b.sibling → ⊥) → o ≡ smaller a.sibling b.sibling → Orders by_sibling a b o
  siblings-differ differ e u p q = rw (← p.sibling, ← q.sibling, settles a.sibling b.sibling _ differ) e

  pub siblings-same : {o : Ordering} → a.sibling ≡ b.sibling → o ≡ smaller a.node b.node → Orders by_sibling a b o
  siblings-same same e u p q = rw (← p.sibling, ← q.sibling, passed a.sibling b.sibling _ same) e

  -- ---- One R

  pub class-depths-differ : {o : Ordering} → (a.class_depth ≡ b.class_depth → ⊥) → o ≡ smaller a.class_depth b.class_depth
      → WeighsBy same_root_lines Always a b (Settled o)
  class-depths-differ differ e = record {
    agrees = λ u p q _ nodes.
        (classes-differ u [] a.node b.node (read-other p.class-depth q.class-depth differ) (read-smaller p.class-depth q.class-depth e)).agrees nodes;
    asks = tt;
  }

  pub hops-not-alike : {o : Ordering} → a.class_depth ≡ b.class_depth → (a.hops ≡ b.hops → ⊥) → o ≡ smaller b.hops a.hops
      → WeighsBy same_root_lines Always a b (Settled o)
  hops-not-alike same differ e = record {
    agrees = λ u p q _ nodes.
        (hops-differ u [] a.node b.node (read_same p.class-depth q.class-depth same) (read-other p.hops q.hops differ)
        (read-smaller q.hops p.hops e)).agrees nodes;
    asks = tt;
  }

  module _ (classes : a.class_depth ≡ b.class_depth) (hops : a.hops ≡ b.hops) where
    alike : (u : View) → EntryOf u a → EntryOf u b → RootsAlike u a.node b.node
    alike u p q = record { classes = read_same p.class-depth q.class-depth classes; hops = read_same p.hops q.hops hops }

    -- the local line differs
    pub local-settles : {o : Ordering} → ((rest : Ordering) → first o rest ≡ o) → Orders local_line a b o → WeighsBy same_root_lines Always a b (Settled o)
    local-settles final e = record {
      agrees = λ u p q _ nodes. sym (rw (alike-passed u [] a.node b.node (alike u p q) nodes, ← e u p q) (final _));
      asks = tt;
    }

    -- the origins are asked
    pub local-asks : {o : Ordering} → Orders local_line a b Equal → o ≡ smaller a.node b.node
        → WeighsBy same_root_lines Always a b (Ask a.origin b.origin o)
    local-asks e n = record {
      agrees = λ u p q _ nodes. rw (alike-passed u [] a.node b.node (alike u p q) nodes, ← e u p q, p.origin, q.origin, n);
      asks = inl (refl, refl);
    }

  -- ---- Origins and R

  pub one-origin-settles : {o : Ordering} → a.origin ≡ b.origin → Orders same_origin_lines a b o → WeighsBy origin_lines Always a b (Settled o)
  one-origin-settles same e = record {
    agrees = λ u p q _ nodes. (one-origin u [] a.node b.node (read_same p.origin q.origin same) (e u p q)).agrees nodes;
    asks = tt;
  }

  module _ (differ : a.origin ≡ b.origin → ⊥) where
    pub one-root : {v : Verdict} → a.root ≡ b.root → WeighsBy same_root_lines Always a b v → WeighsBy origin_lines Always a b v
    unfolding origin_lines
    one-root same w = record {
      agrees = λ u p q _ nodes.
          rw (ne_eqb _ _ (read-other p.origin q.origin differ), eq-eqb _ _ (read_same p.root q.root same), origin_lines) (w.agrees u p q tt nodes);
      asks = w.asks;
    }

    -- "3. R differ: node strength of them."
    pub roots-asked : {o : Ordering} → (a.root ≡ b.root → ⊥) → o ≡ smaller a.node b.node → WeighsBy origin_lines Always a b (Ask a.root b.root o)
    unfolding origin_lines
    roots-asked apart n = record {
      agrees = λ u p q _ nodes.
          rw (ne_eqb _ _ (read-other p.origin q.origin differ), ← p.root, ← q.root, ne_eqb _ _ apart, n, origin_lines);
      asks = inr (refl, refl);
    }

  -- ---- "1. Unless R(a), R(b) are nested: larger depth."

  module _ (nested : Bool) where
    depth-passed : {v : Verdict} → ((u : View) → EntryOf u a → EntryOf u b → NestedAtDepths a b nested u → depth_line u a.node b.node ≡ Equal)
        → WeighsBy origin_lines Always a b v → WeighsBy specializes_lines (NestedAtDepths a b nested) a b v
    unfolding specializes_lines
    depth-passed e w = record {
      agrees = λ u p q h nodes. rw (e u p q h, specializes_lines) (w.agrees u p q tt nodes);
      asks = w.asks;
    }

    pub depths-same : {v : Verdict} → a.depth ≡ b.depth → WeighsBy origin_lines Always a b v → WeighsBy specializes_lines (NestedAtDepths a b nested) a b v
    depths-same same = depth-passed (λ u p q _. one-depth u a.node b.node (read_same p.depth q.depth same))

    module _ (differ : a.depth ≡ b.depth → ⊥) where
      pub nested-passed : {v : Verdict} → nested ≡ true → WeighsBy origin_lines Always a b v → WeighsBy specializes_lines (NestedAtDepths a b nested) a b v
      nested-passed e = depth-passed (λ u p q h. roots-nested u a.node b.node (root_of a) (root_of b) (rooted a u p) (rooted b u q) (sym (h differ) ∙ e))

      pub larger-depth : {o : Ordering} → nested ≡ false → o ≡ smaller b.depth a.depth
          → WeighsBy specializes_lines (NestedAtDepths a b nested) a b (Settled o)
      unfolding specializes_lines
      larger-depth e n = record {
        agrees = λ u p q h nodes.
            rw (not-nested u a.node b.node (root_of a) (root_of b) (rooted a u p) (rooted b u q) (sym (h differ) ∙ e), ← p.depth, ← q.depth, settles b.depth a.depth _ (λ z. differ (sym z)), specializes_lines)
            n;
        asks = tt;
      }

  -- ---- "3. Larger depth. 4. Node strength of the origins. 5. Smaller sibling number, then smaller node number."

  pub depths-differ : {o : Ordering} → (a.depth ≡ b.depth → ⊥) → o ≡ smaller b.depth a.depth → WeighsBy plain_lines Always a b (Settled o)
  unfolding plain_lines
  depths-differ differ n = record {
    agrees = λ u p q _ nodes. rw (← p.depth, ← q.depth, settles b.depth a.depth _ (λ z. differ (sym z)), plain_lines) n;
    asks = tt;
  }

  pub origins-asked : {o : Ordering} → a.depth ≡ b.depth → Orders by_sibling a b o → WeighsBy plain_lines Always a b (Ask a.origin b.origin o)
  unfolding plain_lines
  origins-asked same e = record {
    agrees = λ u p q _ nodes.
        rw (← p.depth, ← q.depth, passed b.depth a.depth _ (sym same), ← p.origin, ← q.origin, plain_lines, e u p q);
    asks = inl (refl, refl);
  }

  -- ---- "1. Smaller arc. 2. Both HAS_SPECIALIZES: go to the list below."

  module _ (nested : Bool) where
    pub ranks-differ : {o : Ordering} → (a.rank ≡ b.rank → ⊥) → o ≡ smaller a.rank b.rank → Weighs a b nested (Settled o)
    unfolding sibling_lines
    ranks-differ differ n = record {
      agrees = λ u p q _ nodes. rw (← p.rank, ← q.rank, settles a.rank b.rank _ differ, sibling_lines) n;
      asks = tt;
    }

    module _ (same : a.rank ≡ b.rank) where
      pub left-plain : {v : Verdict} → a.special ≡ false → WeighsBy plain_lines Always a b v → Weighs a b nested v
      unfolding sibling_lines
      left-plain e w = record {
        agrees = λ u p q _ nodes. rw (passed _ _ _ (read_same p.rank q.rank same), ← p.special, e, sibling_lines) (w.agrees u p q tt nodes);
        asks = w.asks;
      }

      pub right-plain : {v : Verdict} → b.special ≡ false → WeighsBy plain_lines Always a b v → Weighs a b nested v
      unfolding sibling_lines
      right-plain e w = record {
        agrees = λ u p q _ nodes. rw (passed _ _ _ (read_same p.rank q.rank same), ← q.special, e, and-false, sibling_lines) (w.agrees u p q tt nodes);
        asks = w.asks;
      }

      pub both-special : {v : Verdict} → a.special ≡ true → b.special ≡ true → WeighsBy specializes_lines (NestedAtDepths a b nested) a b v
          → Weighs a b nested v
      unfolding sibling_lines
      both-special e f w = record {
        agrees = λ u p q h nodes.
            rw (passed _ _ _ (read_same p.rank q.rank same), ← p.special, ← q.special, e, f, sibling_lines) (w.agrees u p q (h e f) nodes);
        asks = w.asks;
      }
