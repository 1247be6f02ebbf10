-- The links that `link_lists` makes of a graph's child lists, stored, are the graph's links:
-- `links-right`. Assumes nothing.
use mathlib.Core.Path.{◌≡◌, refl, sym, ap, ◌∙◌}
use mathlib.Core.List.{List, [], ◌++◌}
use Prim.Native.Nat.{ℕ, zero, suc, ◌≤◌, ◌<◌}
use native.Mathlib.Omega.{arith}
use lib.ListN.{length, get_or}
use Rattle.model.specs.Bytes.{stored}
use Rattle.model.specs.Graph.{Graph, size, children_of}
use Rattle.model.specs.Snapshot.{big_endian}
use Rattle.model.specs.Strength.{view}
use Rattle.model.specs.Arena.{arena_bytes, slot_at, after_in, link_bytes}
use Rattle.laws.proofs.Trees.{TreeOf}
use Rattle.arena.proofs.EncodeSteps.{SlotRun, run_length}
use Rattle.child_lists.specs.Links.{Segments, Linked, links_written}
use Rattle.child_lists.proofs.SegmentLaws.{first-right, last-right, next-right, next-of-root}

-- the links of the first k nodes of a graph stored
abbrev pub links_of : Graph → ℕ → List ℕ → List ℕ
links_of g zero s = s
links_of g (suc k) s = stored (slot_at k) (link_bytes g k) (links_of g k s)

module _ (g : Graph) (n : ℕ) (s : List ℕ) (few : n ≤ 1024) (whole : length s ≡ arena_bytes) where
  pub links-run : SlotRun (λ k. links_of g k s) slot_at (link_bytes g) n
  links-run = record { whole = whole; few = few; step = λ k. refl; low = λ k. omega arith; high = λ k h. omega arith }

  pub links-length : length (links_of g n s) ≡ arena_bytes
  links-length = run_length links-run n (omega arith)

-- a tree whose node 0 stands in no list
pub record Linkable (g : Graph) (sorted ends : List ℕ) : Type 0 where
  pub tree : TreeOf g
  pub few : size g ≤ 1024
  pub alone : children_of g ((view g.nodes).parent 0) ≡ []
  pub segments : Segments (children_of g) (size g) sorted ends

module _ (g : Graph) (sorted ends : List ℕ) (ok : Linkable g sorted ends) (first last before next : List ℕ)
    (linked : Linked sorted ends (size g) first last before next) (long : length before ≡ 1024) where
  abbrev parent : ℕ → ℕ
  parent = (view g.nodes).parent

  next-all : (c : ℕ) → c < size g → get_or next c 0 ≡ after_in c (children_of g (parent c))
  next-all zero h =
      next-of-root (size g) parent (children_of g) ok.tree sorted ends ok.segments ok.few first last before next linked long
      ∙ sym (ap (after_in 0) ok.alone)
  next-all (suc c) h =
      next-right (size g) parent (children_of g) ok.tree sorted ends ok.segments ok.few first last before next linked long (suc c) (omega arith) h

  link-bytes : (k : ℕ) → k < size g → big_endian 4 (get_or first k 0) ++ (big_endian 4 (get_or last k 0) ++ big_endian 4 (get_or next k 0)) ≡ link_bytes g k
  link-bytes k h =
      let a = first-right (size g) parent (children_of g) ok.tree sorted ends ok.segments ok.few first last before next linked long k h in
      let b = last-right (size g) parent (children_of g) ok.tree sorted ends ok.segments ok.few first last before next linked long k h in
      λ i. big_endian 4 (a i) ++ (big_endian 4 (b i) ++ big_endian 4 (next-all k h i))

  pub links-right : (k : ℕ) (s : List ℕ) → k ≤ size g → links_written first last next k s ≡ links_of g k s
  links-right zero s l = refl
  links-right (suc k) s l = λ i. stored (slot_at k) (link-bytes k (omega arith) i) (links-right k s (omega arith) i)
