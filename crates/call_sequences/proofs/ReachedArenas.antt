-- The arenas that lists of calls leave: each holds a graph, and a legal one (`Reached`). Every
-- start is such (`start-reached`), and every list of calls leaves such (`steps-reached`). Assumes
-- nothing.
use mathlib.Core.Path.{◌≡◌, refl, sym, ap, subst, ◌∙◌}
use mathlib.Core.Bool.{Bool, true, false, cond}
use mathlib.Core.List.{List, [], ◌∷◌}
use Prim.Native.Nat.{ℕ}
use lib.Dec.{eqb}
use lib.ListN.{length}
use borrow.Author.Tests.{eq-eqb}
use Rattle.model.specs.Graph.{Graph, empty_graph}
use Rattle.model.specs.Calls.{Outcome, call, read_into, seed_child}
use Rattle.model.specs.Arena.{arena_bytes, count_in, ordered_in, order_entry_in, tabulate, node_in, children_in, decode, encode}
use Rattle.model.specs.ArenaCalls.{ValidArena, arena_after}
use Rattle.laws.specs.GraphDemand3.{Empty}
use Rattle.laws.proofs.LegalGraphs.{Legal, empties-legal}
use Rattle.laws.proofs.LegalAlike.{seeding-legal}
use Rattle.laws.proofs.CallsKeepLegal.{reading-legal, call-keeps-legal}
use Rattle.arena.proofs.Encodable.{Encodable}
use Rattle.deepening.specs.ChildNames.{seed_from}
use Rattle.call_sequences.proofs.DeepeningKeeps.{seeding-leaves}
use Rattle.call_sequences.proofs.ReadingKeeps.{reading-encodable}
use Rattle.call_sequences.proofs.KeepEncodable.{Arena, arena-encodable, ArenaOf, encoded-arena}
use Rattle.call_sequences.specs.Demand3.{Slice, Write, reading, outcome, step, steps, Lent, seeding, Start, empty, read, seeded}
use Rattle.call_sequences.proofs.StepGraphs.{call_of, is_sized, graph_step, graph_steps, left-accepted, into-whole, steps-arena}

pub record Reached (bs : List ℕ) : Type 0 where
  pub arena : Arena bs
  pub legal : Legal (decode bs)

holds-reached : (g : Graph) (bs : List ℕ) → ArenaOf g bs → Legal g → Reached bs
holds-reached g bs holds legal = record { arena = holds.arena; legal = subst Legal (sym holds.graph) legal }

-- ---- A list of calls

legal-step : (c : Write) (g : Graph) → Legal g → Legal (graph_step c g)
legal-step c g legal = go (is_sized c)
  where
    go : (t : Bool) → Legal (cond t (call (call_of c) g).graph g)
    go true = call-keeps-legal (call_of c) g legal
    go false = legal

legal-steps : (cs : List Write) (g : Graph) → Legal g → Legal (graph_steps cs g)
legal-steps [] g legal = legal
legal-steps (c ∷ cs) g legal = legal-steps cs (graph_step c g) (legal-step c g legal)

pub steps-reached : (cs : List Write) (bs : List ℕ) → Reached bs → Reached (steps cs bs)
steps-reached cs bs r =
    holds-reached (graph_steps cs (decode bs)) (steps cs bs) (steps-arena cs bs r.arena) (legal-steps cs (decode bs) r.legal)

-- ---- The starts

-- no node, so no child list and no order
pub no_node : (bs : List ℕ) → Arena bs → count_in bs ≡ 0 → Empty (decode bs)
unfolding decode
no_node bs a none = record {
  no-nodes = ap (tabulate (node_in bs) 0) none;
  no-children = ap (tabulate (children_in bs) 0) none;
  no-order = go (eqb (ordered_in bs) 1);
  final = (arena-encodable bs a).final;
}
  where
    go : (t : Bool) → cond t (tabulate (order_entry_in bs) 0 (count_in bs)) [] ≡ []
    go true = ap (tabulate (order_entry_in bs) 0) none
    go false = refl

pub seed-whole : (child : Slice) (from into : List ℕ) → ValidArena from → length into ≡ arena_bytes
    → seeding child from into ≡ seed_child child.bytes (decode from) empty_graph
unfolding seed_from
seed-whole child from into opened whole =
    into-whole (seed_from child.bytes from) into whole ∙ rw (eq-eqb (length from) arena_bytes opened.whole, opened.holds)

-- an arena of any content that is filled with what an accepted call came to
filled : (o met : Outcome) (into : List ℕ) → Lent into → o ≡ met → o.refused ≡ 0
    → (met.refused ≡ 0 → Encodable met.graph × Legal met.graph) → Reached (arena_after o into)
filled o met into lent same accepted new =
    let passed : met.refused ≡ 0 = ap (λ (o : Outcome). o.refused) (sym same) ∙ accepted in
    let fine = new passed in
    rw (same, left-accepted met into passed)
    (holds-reached met.graph (encode met.graph into) (encoded-arena met.graph into fine.0 lent.bytes lent.whole) fine.1)

read-reached : (snapshot : Slice) (into : List ℕ) → Lent into → (outcome (reading snapshot) into).refused ≡ 0 → Reached (step (reading snapshot) into)
read-reached snapshot into lent accepted =
    filled (outcome (reading snapshot) into) o into lent (into-whole o into lent.whole) accepted
    (λ z. (reading-encodable snapshot.bytes snapshot.each empty_graph z, reading-legal snapshot.bytes empty_graph z))
  where
    o : Outcome
    o = read_into snapshot.bytes empty_graph

seed-reached : (child : Slice) (from into : List ℕ) → Reached from → Lent into → (seeding child from into).refused ≡ 0
    → Reached (arena_after (seeding child from into) into)
seed-reached child from into r lent accepted =
    filled (seeding child from into) (seed_child child.bytes (decode from) empty_graph) into lent
    (seed-whole child from into r.arena.opened lent.whole) accepted
    (λ z. (
      seeding-leaves child.bytes child.each (decode from) empty_graph (arena-encodable from r.arena) z,
      seeding-legal child.bytes (decode from) empty_graph r.legal z,
    ))

empty-reached : (bs : List ℕ) → Arena bs → count_in bs ≡ 0 → Reached bs
empty-reached bs a none = record { arena = a; legal = empties-legal (decode bs) (no_node bs a none) }

pub start-reached : (bs : List ℕ) → Start bs → Reached bs
start-reached bs (empty lent holds none) =
    empty-reached bs (record { bytes = lent.bytes; opened = record { whole = lent.whole; holds = holds } }) none
start-reached bs (read snapshot into lent accepted e) = subst Reached (sym e) (read-reached snapshot into lent accepted)
start-reached bs (seeded from cs child into start lent accepted e) =
    subst Reached (sym e) (seed-reached child (steps cs from) into (steps-reached cs from (start-reached from start)) lent accepted)
