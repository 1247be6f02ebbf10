-- The ways that the call that culls ends: refused (`cull-refused`) and done (`cull-done`). Assumes
-- nothing.
use Rattle.std.specs.Prelude.{Err, Ok}
use mathlib.Core.Path.{◌≡◌, refl}
use mathlib.Core.List.{List, [], ◌∷◌}
use Prim.Native.Nat.{ℕ}
use Rattle.model.specs.Graph.{Graph}
use Rattle.model.specs.Culling.{cull_subtrees_without_opinions}
use Rattle.model.specs.Refusals.{refusal_number, Question, refusal}
use Rattle.model.specs.Calls.{decided, has_node_zero, cull}
use Rattle.model.specs.Arena.{decode}
use Rattle.model.specs.ArenaCalls.{on_arena, ask_arena}
use Rattle.model.specs.declared.Refusal.{Refusal}
use Rattle.laws.proofs.ArenaCallLaws.{on-arena-asks, finishes-refused, finishes-done}
use Rattle.culling.specs.Culled.{CulledArena}
use Rattle.culling.specs.CullCalls.{Culled}

module _ (bs : List ℕ) where
  -- questions 1 to 3
  abbrev asked : List Question
  asked = ask_arena bs (has_node_zero (decode bs) ∷ [])

  abbrev culled_graph : Graph
  culled_graph = cull_subtrees_without_opinions (decode bs)

  cull-asks : on_arena cull bs ≡ decided asked (decode bs) 0 culled_graph
  unfolding cull
  cull-asks = on-arena-asks bs cull (has_node_zero (decode bs) ∷ []) 0 culled_graph refl

  pub cull-refused : (r : Refusal) → refusal_number r ≡ refusal asked → Culled bs (Err r) bs
  cull-refused r e = rw cull-asks (finishes-refused asked (decode bs) 0 culled_graph bs r e)

  pub cull-done : refusal asked ≡ 0 → (after : List ℕ) → CulledArena bs after → Culled bs (Ok tt) after
  cull-done e after a = rw cull-asks (finishes-done asked (decode bs) 0 culled_graph bs after e a)
