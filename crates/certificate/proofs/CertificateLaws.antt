-- The certificate of all lists: the loop over a node's list whose branches have their places one
-- after the other (`Fitting`), with its step and end; the loop over all nodes (`Certifying`), and
-- why lists that pass are the graph's in its order (`certifying-ends`). Assumes nothing.
use mathlib.Core.Path.{◌≡◌, sym, ◌∙◌}
use mathlib.Core.Bool.{true}
use mathlib.Core.List.{List}
use Prim.Native.Nat.{ℕ, suc, ◌+◌, ◌≤◌, ◌<◌}
use native.Mathlib.Numerals.{add-one}
use native.Mathlib.Omega.{arith}
use lib.ListN.{length, get_or}
use lib.Seq.{slice, slice-cons}
use Rattle.model.specs.Lists.{SameCounts}
use Rattle.model.specs.Graph.{size, children_of}
use Rattle.model.specs.Arena.{count_in, decode}
use Rattle.model.specs.ArenaCalls.{ValidArena}
use Rattle.model.specs.Places.{Fits, Certified}
use Rattle.laws.proofs.Trees.{TreeOf}
use Rattle.laws.proofs.OrderPlaces.{certified-permute, certified-order}
use Rattle.arena.proofs.ReadNodes.{sizes}
use Rattle.view.specs.View.{view_in}
use Rattle.view.proofs.ViewLaws.{legal}
use Rattle.child_lists.specs.Links.{start_of, part}
use Rattle.certificate.specs.Sorts.{Sorts}
use Rattle.certificate.specs.Certificate.{place_in, ChildOf, Part, ByLines, FitsIn}
use Rattle.child_lists.proofs.LinkLaws.{slice-done}
use Rattle.certificate.proofs.SliceLaws.{Each, each_more, each_all}
use Rattle.certificate.proofs.SortsLaws.{parts-own, parts-counted, order-sorts}

-- ---- One list

-- the children before `at` are v's, and the list fits where the rest of it does after `from`
pub record Fitting (bs sorted places stops : List ℕ) (v start end from at : ℕ) : Type 0 where
  pub children : Each (ChildOf bs v) sorted start at
  pub fits : Fits (place_in places) (place_in stops) from (place_in stops v) (slice at end sorted)
      → Fits (place_in places) (place_in stops) (suc (place_in places v)) (place_in stops v) (slice start end sorted)

module _ {bs sorted places stops : List ℕ} {v start end : ℕ} where
  module _ {from at : ℕ} (w : Fitting bs sorted places stops v start end from at) (long : length sorted ≡ 1024) (few : end ≤ 1024) where
    pub fitting-step : at < end → ChildOf bs v (get_or sorted at 0) → from ≤ place_in places (get_or sorted at 0)
        → Fitting bs sorted places stops v start end (place_in stops (get_or sorted at 0)) (at + 1)
    fitting-step h child after = record {
      children = each_more sorted (ChildOf bs v) w.children child;
      fits = λ fits. w.fits (rw (slice-cons at end sorted 0 h (omega arith)) (after, rw (add-one at) at fits));
    }

    pub fitting-ends : start ≤ end → at ≡ end → from ≤ place_in stops v → FitsIn bs sorted places stops v start end
    fitting-ends low done within = record {
      part = record {
        low = low;
        high = few;
        children = each_all sorted end (omega arith) (ChildOf bs v) start low (λ k l h. w.children k l (omega arith));
      };
      fits = w.fits (rw (slice-done at end sorted (omega arith) (omega arith)) within);
    }

-- ---- All lists

-- the lists of the nodes below `parent` fit and are in order, and stand up to `start`
pub record Certifying (bs sorted ends places stops : List ℕ) (start parent : ℕ) : Type 0 where
  pub few : start ≤ 1024
  pub started : start ≡ start_of ends parent
  pub fits : (p : ℕ) → p < parent → FitsIn bs sorted places stops p (start_of ends p) (get_or ends p 0)
  pub lines : (p : ℕ) → p < parent → ByLines bs places (part sorted ends p)

module _ {bs sorted ends places stops : List ℕ} (o : ValidArena bs) (tree : TreeOf (decode bs)) (long : length sorted ≡ 1024) {start parent : ℕ}
    (w : Certifying bs sorted ends places stops start parent) (done : parent ≡ count_in bs) where
  part_at : (v : ℕ) → v < count_in bs → Part bs sorted v (start_of ends v) (get_or ends v 0)
  part_at v h = (w.fits v (omega arith)).part

  certified : Certified (view_in bs) (size (decode bs)) (part sorted ends) (place_in places) (place_in stops)
  certified = record {
    branches = λ v h. (w.fits v (omega (arith, sizes bs o))).fits;
    sorted = λ v h. w.lines v (omega (arith, sizes bs o));
  }

  module _ (whole : start + 1 ≡ count_in bs) where
    counted : start_of ends (count_in bs) + 1 ≡ count_in bs
    counted = rw (← done, ← w.started) (whole ∙ sym done)

    same : (v : ℕ) → v < size (decode bs) → SameCounts (part sorted ends v) (children_of (decode bs) v)
    same =
        certified-permute (size (decode bs)) (view_in bs) (children_of (decode bs)) tree (part sorted ends) (parts-own ends o long part_at)
        (parts-counted ends o long part_at counted) (place_in places) (place_in stops) certified

    pub certifying-ends : length ends ≡ 1024 → Sorts (decode bs) true sorted ends
    certifying-ends as_long =
        order-sorts ends o long part_at as_long
        (certified-order (decode bs) (part sorted ends) tree same (rw (sizes bs o) (legal bs o)) (place_in places) (place_in stops) certified)
