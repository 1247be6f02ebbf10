-- The laws of erasable sets and erased graphs, restated for the calls. Where `erasable` is done,
-- `erase` accepts the set that it wrote (`written-accepted`), the largest set of marked nodes that
-- no node outside it has as parent or origin (`written-largest`). Where `erase` answers a number,
-- it is the count of the graph whose bytes the arena then has, and what is kept stands in it as
-- before (`left-bytes`, `left-count`, `left-stands`); that graph is the one that the arena holds,
-- and question 2 passes (`erased-opened`, `erased-count`, `erased-stands`). Each law asks that the
-- arena has bytes only, as every lent buffer has. Assumes nothing.
use Rattle.std.specs.Prelude.{Ok, Result}
use Rattle.model.specs.declared.Refusal.{Refusal}
use mathlib.Core.Path.{◌≡◌, refl, sym, ap, ◌∙◌, subst}
use mathlib.Core.Bool.{Bool, true, false, not, and-eq-true_iff}
use mathlib.Core.List.{List, map}
use Prim.Native.Nat.{ℕ, zero, suc, ◌<◌}
use native.Mathlib.Omega.{arith}
use lib.Dec.{ltb}
use lib.ListN.{length}
use borrow.Author.Tests.{eqb-true, eq-eqb, lt-ltb, ltb-true}
use Rattle.model.specs.Lists.{filter}
use Rattle.model.specs.Node.{Node}
use Rattle.model.specs.Graph.{Graph, size}
use Rattle.model.specs.Strength.{view_of, compare_sibling_node_strength}
use Rattle.model.specs.Culling.{is_erasable}
use Rattle.model.specs.Erasing.{stays, erasable, can_erase, new_number, erase}
use Rattle.model.specs.Refusals.{Question, refusal}
use Rattle.model.specs.Answers.{answer_refusal}
use Rattle.model.specs.Calls.{Outcome, settled, decided, erase_set, erasing}
use Rattle.model.specs.Arena.{arena_bytes, count_in, decode, encode, holds_graph}
use Rattle.model.specs.ArenaCalls.{is_arena, ValidArena, Wrote}
use Rattle.laws.specs.Demand3Clauses.{Stand}
use Rattle.laws.proofs.BigEndianLaws.{Bytes}
use Rattle.laws.proofs.AcceptedQuestions.{Accepted, none-refused-accepted}
use Rattle.laws.proofs.ArenaCallLaws.{decided-accepted}
use Rattle.laws.proofs.LegalGraphs.{Legal, roots-unculled}
use Rattle.laws.proofs.ErasableLaws.{Spared, erasable-spared, erasable-largest}
use Rattle.laws.proofs.Spares.{Spares}
use Rattle.laws.proofs.EraseSets.{can-erase-iff, erasable-length, erasable-stays, erasable-accepted}
use Rattle.laws.proofs.EraseLaws.{size-erased, order-erased, marks-erased, erase-looks-like}
use Rattle.laws.proofs.GraphDemand3Proof.{erased-stand}
use Rattle.laws.proofs.StrengthCongruence.{siblings-alike}
use Rattle.arena.proofs.Encodable.{unordered, Encodable}
use Rattle.arena.proofs.HeldEncodable.{held-encodable}
use Rattle.arena.proofs.ReadNodes.{sizes}
use Rattle.call_sequences.proofs.KeepEncodable.{call-keeps-encodable, ArenaOf, encoded-arena}
use Rattle.erasing.specs.Erasures.{is_set, set_questions, ErasableWritten, Erased}
use Rattle.erasing.proofs.EraseCallLaws.{asks-own, erase_questions, erase_all, kept_count, erase-asks}

-- ---- Where questions 1 and 2 pass

opened : (bs set : List ℕ) → is_set bs set ≡ true → holds_graph bs ≡ true → ValidArena bs
opened bs set e h = record { whole = eqb-true (length bs) arena_bytes ((and-eq-true_iff (is_arena bs) _).0 e).0; holds = h }

-- the graph is legal but for its order, which neither call looks at
held-legal : (bs : List ℕ) → Bytes bs → ValidArena bs → Legal (unordered (decode bs))
held-legal bs bytes o = (held-encodable bs bytes o.whole o.holds).legal

-- ---- After `erasable`

-- the set's byte is not 0
abbrev pub goes : List ℕ → ℕ → Bool
goes set n = not (stays set n)

-- all that goes is marked, no node that stays has one of them as parent or origin, and every such
-- set lies within this one
pub record LargestSpared (ns : List Node) (set : List ℕ) : Type 0 where
  pub spared : Spared ns (goes set)
  pub largest : (other : ℕ → Bool) → Spared ns other → (n : ℕ) → n < length ns → other n ≡ true → goes set n ≡ true

not-not : (b : Bool) → not (not b) ≡ b
not-not true = refl
not-not false = refl

module _ (bs set after : List ℕ) (bytes : Bytes bs) (done : ErasableWritten bs set (Ok tt) after) where
  passed : Accepted (set_questions bs set)
  passed = none-refused-accepted (set_questions bs set) refl (sym done.refused)

  arena-read : ValidArena bs
  arena-read = opened bs set (passed 1) (passed 2)

  some-node : 0 < size (decode bs)
  some-node = ltb-true 0 (size (decode bs)) (passed 3)

  legal : Legal (unordered (decode bs))
  legal = held-legal bs bytes arena-read

  written : after ≡ erasable (decode bs)
  written = rw (eq-eqb (refusal (set_questions bs set)) 0 (sym done.refused)) at done.bytes

  goes-erasable : (n : ℕ) → n < size (decode bs) → goes after n ≡ is_erasable (decode bs).nodes n
  goes-erasable n h =
      ap (λ (l : List ℕ). goes l n) written ∙ ap not (erasable-stays (decode bs) legal.few-nodes n h) ∙ not-not (is_erasable (decode bs).nodes n)

  pub written-largest : LargestSpared (decode bs).nodes after
  written-largest = record {
    spared = record {
      all-marked = λ n h e. spares.all-marked n h (sym (goes-erasable n h) ∙ e);
      no-parent = λ c p h e. goes-erasable _ (omega (arith, legal.links.parent-lower c p h)) ∙ spares.no-parent c p h (sym (goes-erasable c h) ∙ e);
      no_origin = λ c p h e. goes-erasable _ (omega (arith, legal.links.origin-lower c p h)) ∙ spares.no_origin c p h (sym (goes-erasable c h) ∙ e);
    };
    largest = λ other free n h e. goes-erasable n h ∙ erasable-largest (decode bs).nodes legal.links some-node other free n h e;
  }
    where
      spares : Spared (decode bs).nodes (is_erasable (decode bs).nodes)
      spares = erasable-spared (decode bs).nodes legal.links some-node

  -- question 11 passes, and every other question of `erase`
  pub written-accepted : (r : Result ℕ Refusal) (left : List ℕ) → Erased after bs r left → answer_refusal r ≡ 0
  written-accepted r left erased =
      erased.refused
      ∙ ap (λ (o : Outcome). o.refused) (erase-asks after bs ∙ decided-accepted (erase_all after bs) (decode bs) _ _ passes)
    where
      accepted : can_erase (decode bs) after ≡ true
      accepted = rw written (erasable-accepted (decode bs) legal.few-nodes legal.links some-node (roots-unculled (unordered (decode bs)) legal))

      passes : refusal (erase_all after bs) ≡ 0
      passes =
          asks-own bs after (erase_questions after (decode bs)) (ap length written ∙ erasable-length (decode bs)) arena-read
          ∙ rw (lt-ltb 0 (size (decode bs)) some-node, accepted)

-- ---- After `erase`

-- what stands of a graph in the one that is left, node n by its new number
pub record Stands (set : List ℕ) (g left : Graph) : Type 0 where
  -- what is kept has its parent and its origin kept, and each Root arc is
  pub spares : Spares g (stays set)
  -- fields and child lists stand, and any two nodes compare as before; siblings too
  pub stand : Stand (stays set) g left
  pub compare-siblings : (a b : ℕ) → a < size g → b < size g → stays set a ≡ true → stays set b ≡ true
      → compare_sibling_node_strength (view_of left) (new_number (stays set) a) (new_number (stays set) b)
      ≡ compare_sibling_node_strength (view_of g) a b
  -- the order loses only what went
  pub order : left.order ≡ map (new_number (stays set)) (filter (stays set) g.order)
  pub marks : (left.ordered ≡ g.ordered) × (left.finalized ≡ g.finalized) × (left.shallow ≡ g.shallow)

-- a number is answered where every question passes
number-accepted : (qs : List Question) (g result : Graph) (value n : ℕ) (bs after : List ℕ) → Wrote (decided qs g value result) bs (Ok n) after
    → (refusal qs ≡ 0) × (n ≡ value) × (after ≡ encode result bs)
number-accepted qs g result value n bs after = go (refusal qs) refl
  where
    go : (k : ℕ) → refusal qs ≡ k → Wrote (settled k g value result) bs (Ok n) after → (refusal qs ≡ 0) × (n ≡ value) × (after ≡ encode result bs)
    go zero e wrote = (e, wrote.value, wrote.arena)
    go (suc k) e wrote = let z : 0 ≡ suc k = wrote.refused in absurd (omega arith)

module _ (set bs after : List ℕ) (n : ℕ) (bytes : Bytes bs) (erased : Erased set bs (Ok n) after) where
  abbrev graph_left : Graph
  graph_left = erase set (decode bs)

  accepts : (refusal (erase_all set bs) ≡ 0) × (n ≡ kept_count set bs) × (after ≡ encode graph_left bs)
  accepts =
      number-accepted (erase_all set bs) (decode bs) graph_left (kept_count set bs) n bs after
      (subst (λ (o : Outcome). Wrote o bs (Ok n) after) (erase-asks set bs) erased)

  asked : Accepted (erase_all set bs)
  asked = none-refused-accepted (erase_all set bs) refl accepts.0

  arena-before : ValidArena bs
  arena-before = opened bs set (asked 1) (asked 2)

  before-legal : Legal (unordered (decode bs))
  before-legal = held-legal bs bytes arena-before

  -- of the graph that is encoded

  pub left-bytes : after ≡ encode graph_left bs
  left-bytes = accepts.2

  pub left-count : n ≡ size graph_left
  left-count = accepts.1 ∙ sym (size-erased (stays set) (decode bs))

  pub left-stands : Stands set (decode bs) graph_left
  left-stands = record {
    spares = spares;
    stand = erased-stand (stays set) (decode bs) spares before-legal.links before-legal.lengths;
    compare-siblings = siblings-alike before-legal.links (erase-looks-like (stays set) (decode bs) spares before-legal.links);
    order = order-erased (stays set) (decode bs);
    marks = marks-erased (stays set) (decode bs);
  }
    where
      spares : Spares (decode bs) (stays set)
      spares = ((can-erase-iff (decode bs) set (before-legal.node-0 (ltb-true 0 (size (decode bs)) (asked 3))).arc).0 (asked 11)).1

  -- of the arena, which holds what the call leaves, since that is encodable

  graph-left : (erase_set set (decode bs)).graph ≡ graph_left
  unfolding erase_set
  graph-left =
      let some-node : ltb 0 (size (decode bs)) ≡ true = asked 3 in
      let accepted : can_erase (decode bs) set ≡ true = asked 11 in
      rw (some-node, accepted)

  left-encodable : Encodable graph_left
  left-encodable =
      subst Encodable graph-left
      (call-keeps-encodable (erasing set) (decode bs) tt (held-encodable bs bytes arena-before.whole arena-before.holds))

  arena-after : ArenaOf graph_left after
  arena-after = rw left-bytes (encoded-arena graph_left bs left-encodable bytes arena-before.whole)

  pub erased-opened : ValidArena after
  erased-opened = arena-after.arena.opened

  pub erased-count : n ≡ count_in after
  erased-count = left-count ∙ ap size (sym arena-after.graph) ∙ sizes after erased-opened

  pub erased-stands : Stands set (decode bs) (decode after)
  erased-stands = rw arena-after.graph left-stands
