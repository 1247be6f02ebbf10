-- Arcs in the sequence of OpenUSD's page rank as by their numbers: each of the 49 pairs
-- (`arcs-as-numbered`), and so two siblings of a graph (`smaller-arc-first`); no arc ranks higher
-- than 6 (`arc-rank-low`). Assumes nothing.
use mathlib.Core.Path.{◌≡◌, refl, ap}
use mathlib.Core.Bool.{◌&&◌, cond}
use Prim.Native.Nat.{ℕ, ◌≤◌, ◌<◌}
use native.Mathlib.Omega.{arith}
use lib.Dec.{ltb}
use borrow.Author.Tests.{ltb-true, eqb-true}
use Rattle.model.proofs.RankExamples.{answers_alike, forty-nine}
use Rattle.std.specs.declared.cmp.Ordering.{Ordering}
use Rattle.model.specs.Lists.{all_below}
use Rattle.model.specs.Graph.{Graph, size}
use Rattle.model.specs.Strength.{arc_rank, view_of, first, smaller, specializes_lines, plain_lines, sibling_lines}
use Rattle.laws.proofs.ListLaws.{all-below}
use Rattle.laws.proofs.SmallerLaws.{same_number}
use Rattle.laws.proofs.LegalGraphs.{Legal}

-- Document 02, W5: "the answer for each of the 49 pairs of arcs" is that of document 01's "1.
-- Smaller arc"
pub arcs-as-numbered : (a b : ℕ) → a ≤ 6 → b ≤ 6 → smaller (arc_rank a) (arc_rank b) ≡ smaller a b
arcs-as-numbered a b p q =
    let row = (all-below (λ a. all_below (answers_alike a) 7) 7).0 forty-nine a (omega arith) in
    same_number (smaller (arc_rank a) (arc_rank b)) (smaller a b) (eqb-true _ _ ((all-below (answers_alike a) 7).0 row b (omega arith)))

-- "The steps [...] are unchanged": of two nodes of a graph, whatever the strength of nodes is
pub smaller-arc-first : (g : Graph) → Legal g → (nodes : ℕ → ℕ → Ordering) (a b : ℕ) → a < size g → b < size g → let u = view_of g in
    sibling_lines u nodes a b ≡ first (smaller (u.arc a) (u.arc b))
    (cond (u.special a && u.special b) (specializes_lines u nodes a b) (plain_lines u nodes a b))
unfolding sibling_lines
smaller-arc-first g legal nodes a b p q =
    let u = view_of g in
    ap (λ (o : Ordering). first o (cond (u.special a && u.special b) (specializes_lines u nodes a b) (plain_lines u nodes a b)))
    (arcs-as-numbered (u.arc a) (u.arc b) (legal.node a p).arc (legal.node b q).arc)

pub arc-rank-low : (arc : ℕ) → arc ≤ 6 → arc_rank arc ≤ 6
unfolding arc_rank
arc-rank-low arc h =
    let low = ltb-true (arc_rank arc) 7 ((all-below (λ a. ltb (arc_rank a) 7) 7).0 refl arc (omega arith)) in omega arith
