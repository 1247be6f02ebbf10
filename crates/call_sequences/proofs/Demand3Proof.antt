-- Demand 3 of the bytes (specs/Demand3.antt): every arena that a list of calls leaves holds a legal
-- graph (ReachedArenas.antt), so each clause holds of it (laws/proofs/GraphDemand3Proof.antt); and
-- each call that a clause names leaves the graph that it is there. Assumes nothing.
use mathlib.Core.Path.{◌≡◌, refl, sym, ap, subst, ◌∙◌}
use mathlib.Core.Bool.{Bool, true, false, cond, or-true}
use mathlib.Core.List.{List}
use Prim.Native.Nat.{ℕ, zero, suc, ◌<◌}
use native.Mathlib.Omega.{arith}
use lib.ListN.{length, replicate, length-replicate}
use borrow.Author.Tests.{eq-eqb, lt-ltb}
use Rattle.model.specs.Graph.{Graph, size}
use Rattle.model.specs.Order as order
use Rattle.model.specs.Erasing.{erasable}
use Rattle.model.specs.Calls as calls
use Rattle.model.specs.Calls.{Outcome, finalize_strength_order, erase_set}
use Rattle.model.specs.Arena.{arena_bytes, decode, holds_graph}
use Rattle.model.specs.ArenaCalls.{on_arena, arena_after}
use Rattle.laws.specs.Demand3Clauses.{Afresh, Erased}
use Rattle.laws.specs.GraphDemand3 as graphs
use Rattle.laws.proofs.BigEndianLaws.{Bytes}
use Rattle.laws.proofs.ArenaCallLaws.{on-opened}
use Rattle.laws.proofs.EraseSets.{erasable-length}
use Rattle.laws.proofs.GraphDemand3Proof.{some-node-rests, legal-meets-demand}
use Rattle.arena.proofs.ArenaBack.{encode-decode}
use Rattle.erasing.specs.Erasures.{erase_in}
use Rattle.call_sequences.proofs.KeepEncodable.{Arena, ArenaOf, call-arena}
use Rattle.call_sequences.specs.Demand3.{ordering, outcome, steps, Start, empty, erasing_all, rest, AfreshBytes, Demand3, Demand3AfterEveryList}
use Rattle.call_sequences.proofs.ReachedArenas.{Reached, start-reached, steps-reached}

-- ---- Ordering afresh

-- an arena whose graph comes out of ordering as it is
module _ (bs : List ℕ) (a : Arena bs) (some-node : 0 < size (decode bs)) (afresh : Afresh (decode bs)) where
  abbrev graph : Graph
  graph = decode bs

  -- a finalized graph is left, another is ordered
  comes-to : outcome ordering bs ≡ record { refused = 0; value = 0; graph = graph }
  unfolding finalize_strength_order
  comes-to =
      on-opened bs finalize_strength_order a.opened
      ∙ (rw (lt-ltb 0 (size graph) some-node, afresh.has-order, or-true graph.finalized)
      (ap (λ (g : Graph). record { refused = 0; value = 0; graph = g }) (same graph.finalized)))
    where
      same : (t : Bool) → cond t graph (order.ordering graph) ≡ graph
      same true = refl
      same false = afresh.anew

  bytes-stand : AfreshBytes bs
  bytes-stand = record {
    accepted = ap (λ (o : Outcome). o.refused) comes-to;
    bytes = ap (λ (o : Outcome). arena_after o bs) comes-to ∙ encode-decode bs a.bytes a.opened.whole a.opened.holds;
  }

-- ---- The clauses

module _ (bs : List ℕ) (r : Reached bs) where
  abbrev g : Graph
  g = decode bs

  met : graphs.Demand3 g
  met = legal-meets-demand g r.legal

  -- the erasable set has the size of an erase set
  erasing-whole : erasing_all bs ≡ on_arena (erase_set (erasable g)) bs
  unfolding erase_in
  erasing-whole = rw (eq-eqb (length bs) arena_bytes r.arena.opened.whole, eq-eqb (length (erasable g)) 1024 (erasable-length g))

  erasing-graph : erasing_all bs ≡ graphs.erasing_all g
  erasing-graph = erasing-whole ∙ on-opened bs (erase_set (erasable g)) r.arena.opened

  rest-arena : ArenaOf (graphs.rest g) (rest bs)
  rest-arena =
      subst (λ (o : Outcome). ArenaOf (graphs.rest g) (arena_after o bs)) (sym erasing-whole) (call-arena (calls.erasing (erasable g)) bs tt r.arena)

  reached-erased : 0 < size g → Erased g (erasing_all bs).refused (erasing_all bs).value (decode (rest bs))
  reached-erased some =
      subst (λ (o : Outcome). Erased g o.refused o.value (decode (rest bs))) (sym erasing-graph)
      (rw rest-arena.graph (met.erased some))

  reached-demand : Demand3 bs
  reached-demand = record {
    opened = r.arena.opened;
    listed = met.listed;
    erased = reached-erased;
    afresh = λ some e.
        bytes-stand (rest bs) rest-arena.arena (rw rest-arena.graph (some-node-rests g r.legal some)) ((reached-erased some).afresh e);
    deepened = λ e child.
        rw (call-arena (calls.deepening child.bytes) bs child.each r.arena).graph (met.deepened e child.bytes);
  }

-- "For every list of the calls that write a graph ..., refused ones included, ... this holds after
-- it."
pub demand3 : Demand3AfterEveryList
demand3 bs start cs = reached-demand (steps cs bs) (steps-reached cs bs (start-reached bs start))

-- ---- "A room whose bytes are all zero is the empty graph"

zero-bytes : (n : ℕ) → Bytes (replicate n 0)
zero-bytes zero = tt
zero-bytes (suc n) = (omega arith, zero-bytes n)

pub zeros-start : Start (replicate arena_bytes 0)
unfolding holds_graph
zeros-start = empty (record { bytes = zero-bytes arena_bytes; whole = length-replicate {A = ℕ} arena_bytes 0 }) refl refl
