-- The laws of the definitions, restated for the answers of the two comparisons: the other way round
-- Less and Greater change places (`nodes-flip-answers`, `siblings-flip-answers`), and Equal is for
-- a node and itself alone. Assumes nothing.
use Rattle.std.specs.Prelude.{Ok, Result}
use Rattle.model.specs.declared.Refusal.{Refusal}
use mathlib.Core.Path.{◌≡◌, sym, ap, ◌∙◌}
use mathlib.Core.List.{List}
use Prim.Native.Nat.{ℕ}
use Rattle.model.specs.Refusals.{Question}
use Rattle.model.specs.Answers.{ordering_number}
use Rattle.model.specs.Calls.{compares_nodes, compares_siblings}
use Rattle.model.specs.Strength.{View, view_of, compare_sibling_node_strength, compare_node_strength}
use Rattle.model.specs.Arena.{decode}
use Rattle.model.specs.ArenaCalls.{ask_arena, value_unless, AnsweredOrder}
use Rattle.std.specs.declared.cmp.Ordering.{Ordering}
use Rattle.std.specs.declared.cmp.Ordering.TheVariants.{Equal}
use Rattle.laws.proofs.SmallerLaws.{same_number}
use Rattle.laws.proofs.StrengthFlips.{flip, siblings-flip, nodes-flip, siblings-equal, siblings-same, nodes-equal}
use Rattle.laws.proofs.StrengthLaws.{compare_same}

-- ---- An answer is the definition's

answered-as : (qs : List Question) (x o : Ordering) → AnsweredOrder qs x (Ok o) → o ≡ x
answered-as qs x o a = same_number o x (a.value ∙ ap (λ (k : ℕ). value_unless k (ordering_number x)) (sym a.refused))

-- ---- The laws, of the contracts of `compare_node_strength` and `compare_sibling_node_strength`

module _ (bs : List ℕ) where
  abbrev viewed : View
  viewed = view_of (decode bs)

  abbrev pub NodesCompared : ℕ → ℕ → Result Ordering Refusal → Type 0
  NodesCompared a b r = AnsweredOrder (ask_arena bs (compares_nodes (decode bs) a b)) (compare_node_strength viewed a b) r

  abbrev pub SiblingsCompared : ℕ → ℕ → Result Ordering Refusal → Type 0
  SiblingsCompared a b r = AnsweredOrder (ask_arena bs (compares_siblings (decode bs) a b)) (compare_sibling_node_strength viewed a b) r

  nodes-as : (a b : ℕ) (o : Ordering) → NodesCompared a b (Ok o) → o ≡ compare_node_strength viewed a b
  nodes-as a b o c = answered-as (ask_arena bs (compares_nodes (decode bs) a b)) (compare_node_strength viewed a b) o c

  siblings-as : (a b : ℕ) (o : Ordering) → SiblingsCompared a b (Ok o) → o ≡ compare_sibling_node_strength viewed a b
  siblings-as a b o c = answered-as (ask_arena bs (compares_siblings (decode bs) a b)) (compare_sibling_node_strength viewed a b) o c

  pub nodes-flip-answers : (a b : ℕ) (o p : Ordering) → NodesCompared a b (Ok o) → NodesCompared b a (Ok p) → p ≡ flip o
  nodes-flip-answers a b o p c d = nodes-as b a p d ∙ nodes-flip viewed a b ∙ ap flip (sym (nodes-as a b o c))

  pub siblings-flip-answers : (a b : ℕ) (o p : Ordering) → SiblingsCompared a b (Ok o) → SiblingsCompared b a (Ok p) → p ≡ flip o
  siblings-flip-answers a b o p c d = siblings-as b a p d ∙ siblings-flip viewed a b ∙ ap flip (sym (siblings-as a b o c))

  pub nodes-equal-itself : (a b : ℕ) → NodesCompared a b (Ok Equal) → a ≡ b
  nodes-equal-itself a b c = nodes-equal viewed a b (sym (nodes-as a b Equal c))

  pub siblings-equal-itself : (a b : ℕ) → SiblingsCompared a b (Ok Equal) → a ≡ b
  siblings-equal-itself a b c = siblings-equal viewed a b (sym (siblings-as a b Equal c))

  pub nodes-itself-equal : (a : ℕ) (o : Ordering) → NodesCompared a a (Ok o) → o ≡ Equal
  nodes-itself-equal a o c = nodes-as a a o c ∙ compare_same viewed a

  pub siblings-itself-equal : (a : ℕ) (o : Ordering) → SiblingsCompared a a (Ok o) → o ≡ Equal
  siblings-itself-equal a o c = siblings-as a a o c ∙ siblings-same viewed a
