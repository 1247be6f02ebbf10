-- What the calls' laws share. The nodes of a legal graph fit where the numbers do that its
-- questions leave open (`legal-fits`); and a call that is put questions leaves a graph encodable if
-- what it makes of it is, and refused leaves the graph (`Keeps`, `decided-encodable`). Assumes
-- nothing.
use mathlib.Core.Path.{◌≡◌, refl, ap, subst}
use mathlib.Core.Bool.{true}
use mathlib.Core.List.{List, [], ◌∷◌}
use Prim.Native.Nat.{ℕ, zero, suc, ◌^◌, ◌<◌}
use native.Mathlib.Omega.{arith}
use lib.ListN.{length}
use Rattle.model.specs.Node.{Node}
use Rattle.model.specs.Graph.{Graph, size, node_at}
use Rattle.model.specs.Refusals.{Question, refusal}
use Rattle.model.specs.Calls.{Outcome, settled, decided}
use Rattle.laws.proofs.PathGrammar.{well-formed-decides}
use Rattle.laws.proofs.SnapshotLaws.{FieldsFit, NodesFit}
use Rattle.laws.proofs.LegalGraphs.{Legal, LegalNode}
use Rattle.laws.proofs.AcceptedQuestions.{Accepted, numbered, none-refused-accepted}
use Rattle.laws.proofs.ArenaCallLaws.{decided-accepted}
use Rattle.arena.proofs.Encodable.{unordered, Encodable}
use Rattle.child_lists.proofs.AppendEncodable.{NumbersFit}

-- ---- Numbers

-- of each node, and of `no_node` behind the last
abbrev pub Numbers : List Node → Type 0
Numbers ns = (n : ℕ) → NumbersFit (node_at ns n)

pub fit-numbers : (ns : List Node) → NodesFit ns → Numbers ns
fit-numbers [] fit n = record {
  flags = omega arith;
  stack = omega arith;
  layer = omega arith;
  depth = omega arith;
  sibling = omega arith;
  restriction = omega arith;
  spec_from = omega arith;
  path_bytes = tt;
}
fit-numbers (x ∷ ns) fit zero =
    let here : FieldsFit x = fit.0 in
    record {
      flags = here.flags;
      stack = here.stack;
      layer = here.layer;
      depth = here.depth;
      sibling = here.sibling;
      restriction = here.restriction;
      spec_from = here.spec_from;
      path_bytes = here.path_bytes;
    }
fit-numbers (x ∷ ns) fit (suc n) = fit-numbers ns fit.1 n

fit_all : (ns : List Node) → ((n : ℕ) → n < length ns → FieldsFit (node_at ns n)) → NodesFit ns
fit_all [] fit = tt
fit_all (x ∷ ns) fit = (fit 0 (omega arith), fit_all ns (λ n h. fit (suc n) (omega arith)))

pub legal-fits : (g : Graph) → Legal g → ((n : ℕ) → n < size g → NumbersFit (node_at g.nodes n)) → NodesFit g.nodes
legal-fits g legal numbers = fit_all g.nodes fits
  where
    links : (n : ℕ) → n < size g → ((node_at g.nodes n).parent < 256 ^ 4) × ((node_at g.nodes n).origin < 256 ^ 4)
    links zero h = let root = legal.node-0 h in (omega (arith, root.no-parent), omega (arith, root.no_origin))
    links (suc n) h = (
      omega (arith, legal.few-nodes, legal.links.parent-lower (suc n) (omega arith) h),
      omega (arith, legal.few-nodes, legal.links.origin-lower (suc n) (omega arith) h),
    )

    fits : (n : ℕ) → n < size g → FieldsFit (node_at g.nodes n)
    fits n h =
        let given = numbers n h in
        let node : LegalNode (node_at g.nodes n) = legal.node n h in
        let path = (well-formed-decides (node_at g.nodes n).path).0 node.path in
        record {
          arc = omega (arith, node.arc);
          flags = given.flags;
          stack = given.stack;
          layer = given.layer;
          parent = (links n h).0;
          origin = (links n h).1;
          depth = given.depth;
          sibling = given.sibling;
          restriction = given.restriction;
          spec_from = given.spec_from;
          has_specs = omega (arith, node.has-specs);
          path_bytes = given.path_bytes;
          path-named = path.1;
          path-short = path.2;
        }

-- ---- A call that is put questions

-- what a call that comes to o keeps of the graph g: refused, it leaves g
pub record Keeps (g : Graph) (o : Outcome) : Type 0 where
  pub encodable : Encodable o.graph
  pub refused : (o.refused ≡ 0 → ⊥) → o.graph ≡ g

module _ (qs : List Question) (g : Graph) (value : ℕ) (result : Graph) where
  pub decided-keeps : (refusal qs ≡ 0 → Encodable result) → Encodable g → Keeps g (decided qs g value result)
  decided-keeps new ok = go (refusal qs) refl
    where
      go : (r : ℕ) → refusal qs ≡ r → Keeps g (settled r g value result)
      go zero e = record { encodable = new e; refused = λ h. absurd (h refl) }
      go (suc r) e = record { encodable = ok; refused = λ h. refl }

  -- The call keeps the graph without its order legal, and its questions do not look at the order:
  -- so what an accepted one makes, without its order, is legal.
  module _ (n : numbered qs ≡ true) (legal : Legal (decided qs (unordered g) value (unordered result)).graph)
      (new : Accepted qs → Legal (unordered result) → Encodable result) where
    accepted-encodable : refusal qs ≡ 0 → Encodable result
    accepted-encodable e =
        new (none-refused-accepted qs n e)
        (subst Legal (ap (λ (o : Outcome). o.graph) (decided-accepted qs (unordered g) value (unordered result) e)) legal)

    pub decided-encodable : Encodable g → Keeps g (decided qs g value result)
    decided-encodable ok = decided-keeps accepted-encodable ok

    -- where the result goes into a second arena, whatever that holds
    pub decided-leaves : (into : Graph) → (decided qs into value result).refused ≡ 0 → Encodable (decided qs into value result).graph
    decided-leaves into = go (refusal qs) refl
      where
        go : (r : ℕ) → refusal qs ≡ r → (settled r into value result).refused ≡ 0 → Encodable (settled r into value result).graph
        go zero e f = accepted-encodable e
        go (suc r) e f = absurd (omega arith)
