-- One child list, whatever the budget of its walk: a walk that succeeds has read a list that is
-- right (`walk-reads`), and the walk of a right list succeeds where the budget suffices
-- (`walk-suffices`). The definition reads a list with the count as its budget; where links end,
-- each budget that suffices reads the same (`within`). Assumes nothing.
use mathlib.Core.Path.{◌≡◌, refl, sym, ap, ◌∙◌}
use mathlib.Core.Bool.{Bool, true, false, cond, and-eq-true_iff}
use mathlib.Core.List.{List, [], ◌∷◌}
use Prim.Native.Nat.{ℕ, ◌+◌, ◌-◌, ◌≤◌, ◌<◌}
use native.Mathlib.Omega.{arith}
use lib.Dec.{eqb}
use lib.ListN.{length}
use borrow.Author.Tests.{eq-eqb, eqb-true}
use Rattle.model.specs.Node.{invalid}
use Rattle.model.specs.Arena.{count_in, first_child_in, last_child_in, node_in, chain_in, children_in, last_of, chain_ends, chain_valid}
use Rattle.laws.proofs.ListLaws.{all-imp}
use Rattle.laws.proofs.SnapshotLaws.{and_first, and_second}
use Rattle.arena.proofs.ChainLaws.{Chain, chain_length, chain_held, chain-linked, chain-ends-linked}
use Rattle.std.specs.Prelude.{Some, None}
use Rattle.child_lists.specs.ChildLists.{Parented, ends_right, walked, left_after}
use Rattle.child_lists.proofs.OnceLaws.{Links}

-- the budget k suffices to read cs as v's child list
record Within (bs : List ℕ) (v k : ℕ) (cs : List ℕ) : Type 0 where
  read : chain_in bs k (first_child_in bs v) ≡ cs
  ends : chain_ends bs v k (first_child_in bs v) ≡ true

-- v's child list is right, and leaves `rest` of the budget k
pub record ListRead (bs : List ℕ) (v k rest : ℕ) : Type 0 where
  pub right : chain_valid bs v ≡ true
  pub size : length (children_in bs v) + rest ≡ k

last-after-none : (cs : List ℕ) → last_of (invalid ∷ cs) ≡ last_of cs
last-after-none [] = refl
last-after-none (c ∷ cs) = refl

links-of : (bs : List ℕ) (v n : ℕ) (cs : List ℕ) → Chain bs v n cs → Links bs cs
links-of bs v n cs chain = record {
  below = all-imp (λ c. (c < count_in bs) × ((node_in bs c).parent ≡ v)) (λ c. c < count_in bs) cs (λ c child. child.0) chain.children;
  linked = chain.linked;
}

module _ (bs : List ℕ) (h : Parented bs) (v : ℕ) where
  within : (k : ℕ) (cs : List ℕ) → Chain bs v (first_child_in bs v) cs → length cs ≤ k → Within bs v k cs
  within k cs chain l = record {
    read =
        ap (chain_in bs k) (sym chain.first)
        ∙ chain-linked bs k cs (omega (arith, h.few)) l (links-of bs v (first_child_in bs v) cs chain).below chain.linked;
    ends = ap (chain_ends bs v k) (sym chain.first) ∙ chain-ends-linked bs v k cs l chain.children chain.linked;
  }

  pub walk-reads : (k rest : ℕ) → k ≤ count_in bs → left_after bs v k ≡ Some rest → ListRead bs v k rest
  unfolding walked
  walk-reads k rest l e = go (ends_right bs v k (first_child_in bs v) invalid) refl e
    where
      go : (t : Bool) → ends_right bs v k (first_child_in bs v) invalid ≡ t
          → cond t (Some (k - length (chain_in bs k (first_child_in bs v)))) None ≡ Some rest → ListRead bs v k rest
      go true q e =
          let found = chain_in bs k (first_child_in bs v) in
          let short : length (chain_in bs k (first_child_in bs v)) ≤ k = chain_length bs k (first_child_in bs v) in
          let spent : k - length (chain_in bs k (first_child_in bs v)) ≡ rest = cc in
          let list = within (count_in bs) found (chain_held bs v k (first_child_in bs v) h.few (search and_first)) (omega arith) in
          let last = eqb-true (last_child_in bs v) (last_of (invalid ∷ found)) (search and_second) in
          record {
            right =
                (and-eq-true_iff (chain_ends bs v (count_in bs) (first_child_in bs v)) (eqb (last_child_in bs v) (last_of (children_in bs v)))).1
                (list.ends, eq-eqb (last_child_in bs v) (last_of (children_in bs v)) (last ∙ last-after-none found ∙ ap last_of (sym list.read)));
            size = omega (arith, ap length list.read);
          }
      go false q e = let z : ◌≡◌ {A = ℕ} 0 1 = cc in absurd (omega arith)

  module _ (e : chain_valid bs v ≡ true) where
    pub right-chain : Chain bs v (first_child_in bs v) (children_in bs v)
    right-chain = chain_held bs v (count_in bs) (first_child_in bs v) h.few (search and_first)

    pub right-links : Links bs (children_in bs v)
    right-links = links-of bs v (first_child_in bs v) (children_in bs v) right-chain

    pub walk-suffices : (k : ℕ) → length (children_in bs v) ≤ k → left_after bs v k ≡ Some (k - length (children_in bs v))
    unfolding walked
    walk-suffices k l =
        let list = within k (children_in bs v) right-chain l in
        let last : eqb (last_child_in bs v) (last_of (children_in bs v)) ≡ true = search and_second in
        rw (list.ends, list.read, last-after-none (children_in bs v), last)
