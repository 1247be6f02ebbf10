-- Nothing stands twice in a list that the links of an arena lead through to the end
-- (`linked-once`). Assumes nothing.
use mathlib.Core.Path.{◌≡◌, refl, sym, ap, ◌∙◌}
use mathlib.Core.Bool.{Bool, true, false}
use mathlib.Core.List.{List, [], ◌∷◌}
use Prim.Native.Nat.{ℕ, zero, suc, ◌+◌, ◌≤◌, ◌<◌}
use native.Mathlib.Omega.{arith}
use lib.Dec.{eqb}
use lib.ListN.{length}
use borrow.Author.Tests.{eqb-true}
use Rattle.model.specs.Lists.{All, bit, count}
use Rattle.model.specs.Arena.{count_in, next_sibling_in, chain_in, first_of}
use Rattle.arena.proofs.ChainLaws.{Linked, chain-linked}

-- the nodes of an arena, linked one by one
pub record Links (bs : List ℕ) (cs : List ℕ) : Type 0 where
  pub below : All (λ c. c < count_in bs) cs
  pub linked : Linked (next_sibling_in bs) cs

tail-links : (bs : List ℕ) (c : ℕ) (cs : List ℕ) → Links bs (c ∷ cs) → Links bs cs
tail-links bs c cs l = record { below = l.below.1; linked = l.linked.1 }

-- what comes after c in cs
record After (bs : List ℕ) (c : ℕ) (cs : List ℕ) : Type 0 where
  rest : List ℕ
  first : next_sibling_in bs c ≡ first_of rest
  links : Links bs rest
  shorter : length rest < length cs

module _ (bs : List ℕ) (few : count_in bs ≤ 1024) where
  -- two such lists with the same first node are the same
  same-links : (cs ds : List ℕ) → Links bs cs → Links bs ds → first_of cs ≡ first_of ds → cs ≡ ds
  same-links cs ds l m e =
      sym (chain-linked bs (length cs + length ds) cs (omega arith) (omega arith) l.below l.linked)
      ∙ ap (chain_in bs (length cs + length ds)) e
      ∙ chain-linked bs (length cs + length ds) ds (omega arith) (omega arith) m.below m.linked

  after : (c : ℕ) (cs : List ℕ) → Links bs cs → 0 < count c cs → After bs c cs
  after c [] l m = absurd (omega arith)
  after c (d ∷ cs) l m = go (eqb c d) refl m (after c cs (tail-links bs d cs l))
    where
      go : (t : Bool) → eqb c d ≡ t → 0 < bit t + count c cs → (0 < count c cs → After bs c cs) → After bs c (d ∷ cs)
      go true e m later = record { rest = cs; first = ap (next_sibling_in bs) (eqb-true c d e) ∙ l.linked.0; links = tail-links bs d cs l; shorter = omega arith }
      go false e m later =
          let found = later (omega arith) in
          record { rest = found.rest; first = found.first; links = found.links; shorter = omega (arith, found.shorter) }

  pub linked-once : (cs : List ℕ) → Links bs cs → (a : ℕ) → count a cs ≤ 1
  linked-once [] l a = omega arith
  linked-once (c ∷ cs) l a = go (eqb a c) refl (count a cs) refl (linked-once cs (tail-links bs c cs l) a)
    where
      go : (t : Bool) → eqb a c ≡ t → (k : ℕ) → count a cs ≡ k → count a cs ≤ 1 → bit t + count a cs ≤ 1
      go true e zero q later = omega arith
      go true e (suc k) q later =
          let tail = tail-links bs c cs l in
          let again = after a cs tail (omega arith) in
          let same = same-links cs again.rest tail again.links (sym l.linked.0 ∙ ap (next_sibling_in bs) (sym (eqb-true a c e)) ∙ again.first) in
          absurd (omega (arith, again.shorter, ap length same))
      go false e k q later = omega arith
