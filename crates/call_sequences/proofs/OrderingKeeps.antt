-- Ordering leaves a graph encodable: the order is the walk of a tree (`ordering-keeps`). Assumes
-- nothing.
use mathlib.Core.Path.{◌≡◌, refl}
use mathlib.Core.Bool.{Bool, true, false, ◌||◌, cond}
use mathlib.Core.List.{[], ◌∷◌}
use Rattle.model.specs.Graph.{Graph}
use Rattle.model.specs.Order.{has_order, ordering}
use Rattle.model.specs.Refusals.{ask}
use Rattle.model.specs.Calls.{has_node_zero, finalize_strength_order}
use Rattle.laws.proofs.AcceptedQuestions.{none-refused-accepted}
use Rattle.arena.proofs.Encodable.{Encodable, ordered-encodable}
use Rattle.call_sequences.proofs.KeptFits.{Keeps, decided-keeps}

pub ordering-keeps : (g : Graph) → Encodable g → Keeps g (finalize_strength_order g)
unfolding finalize_strength_order ordering
ordering-keeps g ok =
    decided-keeps (has_node_zero g ∷ ask 9 (g.finalized || has_order g) ∷ []) g 0 (cond g.finalized g (ordering g))
    (λ e. let a = none-refused-accepted (has_node_zero g ∷ ask 9 (g.finalized || has_order g) ∷ []) refl e in
    go g.finalized (a 9)) ok
  where
    go : (b : Bool) → (b || has_order g) ≡ true → Encodable (cond b g (ordering g))
    go true e = ok
    go false e = ordered-encodable g ok e
