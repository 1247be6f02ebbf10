-- Ordering, culling, setting fields of one node and appending a child's name give no value, whether
-- they are refused or not: their number is their refusal alone. Assumes nothing.
use Rattle.std.specs.Prelude.{Ok, Err}
use Rattle.model.specs.Answers.{answer_refusal, answer_value}
use Rattle.std.specs.Prelude.{None, Option, Some}
use Rattle.std.specs.Prelude.{Result, ⊤}
use Rattle.model.specs.declared.Refusal.{Refusal}
use mathlib.Core.Path.{◌≡◌, refl, sym, ap, ◌∙◌}
use mathlib.Core.Bool.{Bool, true, false, ◌||◌, cond}
use mathlib.Core.List.{List, [], ◌∷◌}
use Prim.Native.Nat.{ℕ, zero, suc}
use lib.Dec.{ltb}
use Rattle.model.specs.Node.{Node}
use Rattle.model.specs.Graph.{Graph, size, node_at}
use Rattle.model.specs.Setting.{marked, may_mark, with_first_spec, restricted_at, with_record}
use Rattle.model.specs.Order.{has_order, ordering}
use Rattle.model.specs.Culling.{cull_subtrees_without_opinions}
use Rattle.model.specs.Deepening.{append_child_name_to_all_sites}
use Rattle.model.specs.Refusals.{Question, ask, refusal}
use Rattle.model.specs.Calls.{Outcome, unchanged, settled, decided, has_node_zero, sets, mark, set_first_spec, set_has_specs, set_restriction_depth, finalize_strength_order, cull, deepen_questions, append_child_name}
use Rattle.model.specs.Arena.{decode, holds_graph}
use Rattle.model.specs.ArenaCalls.{is_arena, on_arena, Finishes}
use Rattle.c_api.specs.Carried.{carried, carried_as, value_of_nothing, WroteCarried}

pub no_value : (questions : List Question) (g result : Graph) → (decided questions g 0 result).value ≡ 0
no_value questions g result = go (refusal questions)
  where
    go : (k : ℕ) → (settled k g 0 result).value ≡ 0
    go zero = refl
    go (suc k) = refl

on-arena-no-value : (f : Graph → Outcome) → ((g : Graph) → (f g).value ≡ 0) → (bs : List ℕ) → (on_arena f bs).value ≡ 0
unfolding on_arena
on-arena-no-value f each bs = go (is_arena bs) (holds_graph bs)
  where
    g : Graph
    g = decode bs

    go : (s h : Bool) → (cond s (cond h (f g) (unchanged 2 g)) (unchanged 1 g)).value ≡ 0
    go true true = each g
    go true false = refl
    go false h = refl

pub finalize-value : (bs : List ℕ) → (on_arena finalize_strength_order bs).value ≡ 0
unfolding finalize_strength_order
finalize-value =
    on-arena-no-value finalize_strength_order
    (λ g. no_value (has_node_zero g ∷ ask 9 (g.finalized || has_order g) ∷ []) g (cond g.finalized g (ordering g)))

pub cull-value : (bs : List ℕ) → (on_arena cull bs).value ≡ 0
unfolding cull
cull-value = on-arena-no-value cull (λ g. no_value (has_node_zero g ∷ []) g (cull_subtrees_without_opinions g))

sets-value : (n : ℕ) (questions : List Question) (f : Node → Node) (g : Graph) → (sets n questions f g).value ≡ 0
sets-value n questions f g =
    no_value (has_node_zero g ∷ ask 4 (ltb n (size g)) ∷ questions) g (with_record g n (f (node_at g.nodes n)))

pub mark-value : (n flags : ℕ) (bs : List ℕ) → (on_arena (mark n flags) bs).value ≡ 0
unfolding mark
mark-value n flags =
    on-arena-no-value (mark n flags) (λ g. sets-value n (ask 6 (may_mark flags (node_at g.nodes n).arc) ∷ []) (marked flags) g)

pub first-spec-value : (n : ℕ) (first : Option ℕ) (bs : List ℕ) → (on_arena (set_first_spec n first) bs).value ≡ 0
unfolding set_first_spec
first-spec-value n first = on-arena-no-value (set_first_spec n first) (sets-value n [] (with_first_spec first))

pub has-specs-value : (n : ℕ) (authored : Bool) (bs : List ℕ) → (on_arena (set_has_specs n authored) bs).value ≡ 0
unfolding set_has_specs set_first_spec
has-specs-value n authored =
    on-arena-no-value (set_has_specs n authored) (sets-value n [] (with_first_spec (cond authored (Some 0) None)))

pub restriction-value : (n depth : ℕ) (bs : List ℕ) → (on_arena (set_restriction_depth n depth) bs).value ≡ 0
unfolding set_restriction_depth
restriction-value n depth = on-arena-no-value (set_restriction_depth n depth) (sets-value n [] (restricted_at depth))

pub append-value : (child bs : List ℕ) → (on_arena (append_child_name child) bs).value ≡ 0
unfolding append_child_name
append-value child = on-arena-no-value (append_child_name child) (λ g. no_value (deepen_questions child g) g (append_child_name_to_all_sites child g))

nothing : (r : Result ⊤ Refusal) → answer_value value_of_nothing r ≡ 0
nothing (Ok x) = refl
nothing (Err e) = refl

-- the number of such a call, and the arena after it
pub finishes-carried : {o : Outcome} {before after : List ℕ} {r : Result ⊤ Refusal} {n : ℕ} → o.value ≡ 0 → n ≡ carried_as value_of_nothing r → Finishes o before r after
    → WroteCarried o before n after
finishes-carried {o} {r = r} valueless number finishes =
    record { number = number ∙ ap (carried (answer_refusal r)) (nothing r) ∙ ap (λ (k : ℕ). carried k 0) finishes.refused ∙ ap (carried o.refused) (sym valueless); arena = finishes.arena }
