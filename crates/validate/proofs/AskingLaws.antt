-- What the questions that calls put first say of an arena: which refusal they come to, question by
-- question, and what is known where they pass (`some-node`, `both-readable`). Assumes nothing.
use mathlib.Core.Path.{◌≡◌, refl, sym, ◌∙◌}
use mathlib.Core.Bool.{Bool, true, false, ◌||◌, ◌&&◌, and-eq-true_iff}
use mathlib.Core.List.{List, [], ◌∷◌}
use Prim.Native.Nat.{ℕ, ◌<◌}
use native.Mathlib.Omega.{arith}
use lib.Dec.{eqb, ltb}
use borrow.Author.Tests.{lt-ltb, ltb-true}
use Rattle.model.specs.Graph.{size, node_at}
use Rattle.model.specs.Refusals.{refusal_number, Question, ask, refusal}
use Rattle.model.specs.Calls.{has_node_zero, reads_node, compares_nodes, compares_siblings}
use Rattle.model.specs.Arena.{count_in, decode, holds_graph}
use Rattle.model.specs.ArenaCalls.{is_arena, ValidArena, ValidNode, ask_arena}
use Rattle.model.specs.declared.Refusal.{Refusal}
use Rattle.laws.proofs.AcceptedQuestions.{none-refused-accepted}
use Rattle.laws.proofs.ArenaCallLaws.{refusal-some, passed-opened, asked-on}
use Rattle.arena.proofs.ReadNodes.{sizes, node-zero}

-- where questions 1 to 3 pass, the arena holds a graph with a node
pub some-node : (bs : List ℕ) → refusal (ask_arena bs (has_node_zero (decode bs) ∷ [])) ≡ 0 → ValidArena bs × (0 < count_in bs)
some-node bs e =
    let o = passed-opened bs (has_node_zero (decode bs) ∷ []) e in
    let passes = none-refused-accepted (ask_arena bs (has_node_zero (decode bs) ∷ [])) refl e in
    (o, omega (arith, ltb-true 0 (size (decode bs)) (passes 3), sizes bs o))

-- and the other questions are left
pub node-zero-passed : (bs : List ℕ) (qs : List Question) → ValidArena bs → 0 < count_in bs → refusal (ask_arena bs (has_node_zero (decode bs) ∷ qs)) ≡ refusal qs
node-zero-passed bs qs o some = asked-on bs (has_node_zero (decode bs) ∷ qs) o ∙ rw (node-zero bs o some)

module _ (bs : List ℕ) (a b : ℕ) where
  -- whether a and b have one parent, or are one node
  abbrev pub has_one_parent : Bool
  has_one_parent = eqb a b || eqb (node_at (decode bs).nodes a).parent (node_at (decode bs).nodes b).parent

  -- ---- What is left of the questions

  below : (n : ℕ) → ValidNode bs n → ltb n (size (decode bs)) ≡ true
  below n r = lt-ltb n (size (decode bs)) (omega (arith, r.below, sizes bs r.opened))

  -- of the second node, where the first can be read: its number
  pub number-left : ValidNode bs a → refusal (ask_arena bs (compares_nodes (decode bs) a b)) ≡ refusal (ask 4 (ltb b (count_in bs)) ∷ [])
  number-left r =
      node-zero-passed bs (ask 4 (ltb a (size (decode bs)) && ltb b (size (decode bs))) ∷ []) r.opened (omega (arith, r.below))
      ∙ rw (below a r, sym (sizes bs r.opened))

  -- of two siblings, where both can be read: their parents
  pub parents-left : ValidNode bs a → ValidNode bs b → refusal (ask_arena bs (compares_siblings (decode bs) a b)) ≡ refusal (ask 8 has_one_parent ∷ [])
  parents-left r s =
      asked-on bs (compares_siblings (decode bs) a b) r.opened ∙ rw (node-zero bs r.opened (omega (arith, r.below)), below a r, below b s)

  -- ---- A refusal by the first questions is the refusal

  pub refused-first : (r : Refusal) → refusal_number r ≡ refusal (ask_arena bs (reads_node (decode bs) a))
      → refusal_number r ≡ refusal (ask_arena bs (compares_nodes (decode bs) a b))
  refused-first r e = go (is_arena bs) (holds_graph bs) (ltb 0 (size (decode bs))) (ltb a (size (decode bs))) e
    where
      go : (s h z t : Bool) → refusal_number r ≡ refusal (ask 1 s ∷ ask 2 h ∷ ask 3 z ∷ ask 4 t ∷ [])
          → refusal_number r ≡ refusal (ask 1 s ∷ ask 2 h ∷ ask 3 z ∷ ask 4 (t && ltb b (size (decode bs))) ∷ [])
      go true true true true e = absurd (refusal-some r e)
      go true true true false e = e
      go true true false t e = e
      go true false z t e = e
      go false h z t e = e

  -- ---- All pass

  pub both-readable : refusal (ask_arena bs (compares_nodes (decode bs) a b)) ≡ 0 → ValidNode bs a × ValidNode bs b
  both-readable e =
      let o = passed-opened bs (compares_nodes (decode bs) a b) e in
      let passes = none-refused-accepted (ask_arena bs (compares_nodes (decode bs) a b)) refl e in
      let both = (and-eq-true_iff (ltb a (size (decode bs))) (ltb b (size (decode bs)))).0 (passes 4) in (
        record { opened = o; below = omega (arith, ltb-true a (size (decode bs)) both.0, sizes bs o) },
        record { opened = o; below = omega (arith, ltb-true b (size (decode bs)) both.1, sizes bs o) },
      )
