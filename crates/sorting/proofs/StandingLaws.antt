-- Where each node with a next sibling precedes it, every child list is sorted as it stands: the
-- state of `stands`' loop, and its end (`standing-ends`). A next sibling is a node
-- (`next-readable`). Assumes nothing.
use mathlib.Core.Path.{◌≡◌, refl, sym, ap, ◌∙◌}
use mathlib.Core.Bool.{Bool, true, false, cond}
use mathlib.Core.List.{List, [], ◌∷◌}
use Prim.Native.Nat.{ℕ, zero, suc, ◌+◌, ◌<◌}
use native.Mathlib.Nat.{eq-or-lt_of_le}
use native.Mathlib.Omega.{arith}
use mathlib.Core.Logic.{◌⊎◌, inl, inr}
use lib.Dec.{eqb, ltb}
use borrow.Author.Tests.{ltb-true}
use Rattle.std.specs.declared.cmp.Ordering.TheVariants.{Less, Equal, Greater}
use Rattle.model.specs.Lists.{All, Pairs}
use Rattle.model.specs.Node.{invalid}
use Rattle.model.specs.Graph.{size, children_of}
use Rattle.model.specs.Order.{is_less, Sorted, is_stronger}
use Rattle.model.specs.Places.{key_lines}
use Rattle.model.specs.Strength.{View, first, smaller, plain_lines, compare_sibling_node_strength}
use Rattle.model.specs.Arena.{count_in, next_sibling_in, chain_in, children_in, first_child_in, after_in, first_of, decode}
use Rattle.model.specs.ArenaCalls.{ValidArena, ValidNode}
use Rattle.laws.proofs.BigEndianLaws.{Bytes}
use Rattle.laws.proofs.ListLaws.{pairs-imp}
use Rattle.laws.proofs.SmallerLaws.{smaller-eq}
use Rattle.laws.proofs.OrderKeys.{compare-authored, key-lines-trans, First, Neighbours, neighbours-pairs}
use Rattle.laws.proofs.Trees.{TreeOf}
use Rattle.laws.proofs.Views.{LegalView}
use Rattle.arena.proofs.ArenaBack.{children-decode, next-decode}
use Rattle.arena.proofs.HeldArenas.{held}
use Rattle.arena.proofs.HeldEncodable.{held-encodable}
use Rattle.arena.proofs.ReadNodes.{sizes}
use Rattle.view.specs.View.{view_in}
use Rattle.strength.proofs.VerdictNumbers.{passed, settles}
use Rattle.sorting.specs.Standing.{anywhere, Precedes, PrecedesNext, Stands}
use Rattle.certificate.proofs.CertificateChildren.{ChildIn, children-in}

-- ---- Two neighbours by their keys

pub less-smaller : (x y : ℕ) → is_less (smaller x y) ≡ ltb x y
unfolding smaller
less-smaller x y = go (ltb x y) (eqb x y)
  where
    go : (l e : Bool) → is_less (cond l Less (cond e Equal Greater)) ≡ l
    go true e = refl
    go false true = refl
    go false false = refl

module _ (u : View) (x y : ℕ) where
  pub rank-decides : (u.rank x ≡ u.rank y → ⊥) → is_less (key_lines u anywhere x y) ≡ ltb (u.rank x) (u.rank y)
  rank-decides differ = ap is_less (settles (u.rank x) (u.rank y) _ differ) ∙ less-smaller (u.rank x) (u.rank y)

  module _ (same_rank : u.rank x ≡ u.rank y) where
    pub depth-decides : (u.depth y ≡ u.depth x → ⊥) → is_less (key_lines u anywhere x y) ≡ ltb (u.depth y) (u.depth x)
    unfolding plain_lines
    depth-decides differ =
        ap is_less (passed (u.rank x) (u.rank y) _ same_rank ∙ settles (u.depth y) (u.depth x) _ differ) ∙ less-smaller (u.depth y) (u.depth x)

    module _ (same-depth : u.depth y ≡ u.depth x) where
      numbers-left : key_lines u anywhere x y ≡ first (smaller (u.sibling x) (u.sibling y)) (smaller x y)
      unfolding plain_lines
      numbers-left =
          passed (u.rank x) (u.rank y) _ same_rank ∙ passed (u.depth y) (u.depth x) _ same-depth ∙ passed 0 0 _ refl

      pub sibling-decides : (u.sibling x ≡ u.sibling y → ⊥) → is_less (key_lines u anywhere x y) ≡ ltb (u.sibling x) (u.sibling y)
      sibling-decides differ =
          ap is_less (numbers-left ∙ settles (u.sibling x) (u.sibling y) _ differ) ∙ less-smaller (u.sibling x) (u.sibling y)

      pub number-decides : u.sibling x ≡ u.sibling y → is_less (key_lines u anywhere x y) ≡ ltb x y
      number-decides same = ap is_less (numbers-left ∙ passed (u.sibling x) (u.sibling y) _ same) ∙ less-smaller x y

precedes-trans : (u : View) (a b c : ℕ) → Precedes u a b → Precedes u b c → Precedes u a c
precedes-trans u a b c p q = record {
  left = p.left;
  right = q.right;
  less = key-lines-trans u (λ n. 0) a b c p.less q.less;
}

-- ---- The loop

abbrev pub ValidNodeAndRoot : List ℕ → ℕ → Type 0
ValidNodeAndRoot bs k = (x : ℕ) → x < k → PrecedesNext bs x

pub standing-step : (bs : List ℕ) (k : ℕ) → ValidNodeAndRoot bs k → PrecedesNext bs k → ValidNodeAndRoot bs (k + 1)
standing-step bs k s good x h = go (eq-or-lt_of_le {n = x} {m = k} (omega arith))
  where
    go : (x ≡ k) ⊎ (x < k) → PrecedesNext bs x
    go (inl e) = rw e good
    go (inr less) = s x less

module _ (bs : List ℕ) (bytes : Bytes bs) (o : ValidArena bs) where
  tree : TreeOf (decode bs)
  tree = (held-encodable bs bytes o.whole o.holds).legal.tree

  links : LegalView (size (decode bs)) (view_in bs)
  links = (held-encodable bs bytes o.whole o.holds).legal.links

  pub next-readable : (x : ℕ) → x < count_in bs → (next_sibling_in bs x ≡ invalid → ⊥) → ValidNode bs (next_sibling_in bs x)
  next-readable x h some =
      go (children_of (decode bs) ((view_in bs).parent x)) (children-in bs tree ((view_in bs).parent x)) (next-decode bs (held bs o.holds) x h)
    where
      first-readable : (v : ℕ) (cs : List ℕ) → All (ChildIn bs v) cs → first_of cs ≡ next_sibling_in bs x → ValidNode bs (next_sibling_in bs x)
      first-readable v [] all e = absurd (some (sym e))
      first-readable v (c ∷ cs) all e = record { opened = o; below = omega (arith, all.0.1, sizes bs o) }

      go : (cs : List ℕ) → All (ChildIn bs ((view_in bs).parent x)) cs → after_in x cs ≡ next_sibling_in bs x → ValidNode bs (next_sibling_in bs x)
      go [] all e = absurd (some (sym e))
      go (c ∷ cs) all e = split (eqb c x) e (go cs all.1)
        where
          split : (t : Bool) → cond t (first_of cs) (after_in x cs) ≡ next_sibling_in bs x
              → (after_in x cs ≡ next_sibling_in bs x → ValidNode bs (next_sibling_in bs x)) → ValidNode bs (next_sibling_in bs x)
          split true e later = first-readable ((view_in bs).parent x) cs all.1 e
          split false e later = later e

  module _ (s : ValidNodeAndRoot bs (count_in bs)) where
    chain-neighbours : (k n : ℕ) → Neighbours (Precedes (view_in bs)) (chain_in bs k n)
    chain-neighbours zero n = tt
    chain-neighbours (suc k) n = go (ltb n (count_in bs)) refl (chain-neighbours k (next_sibling_in bs n))
      where
        near : (k : ℕ) → n < count_in bs → First (Precedes (view_in bs)) n (chain_in bs k (next_sibling_in bs n))
        near zero h = tt
        near (suc k) h = split (ltb (next_sibling_in bs n) (count_in bs)) refl
          where
            split : (t : Bool) → ltb (next_sibling_in bs n) (count_in bs) ≡ t
                → First (Precedes (view_in bs)) n (cond t (next_sibling_in bs n ∷ chain_in bs k (next_sibling_in bs (next_sibling_in bs n))) [])
            split true e = s n h (λ none. omega (arith, none, ltb-true (next_sibling_in bs n) (count_in bs) e, (held bs o.holds).few))
            split false e = tt

        go : (t : Bool) → ltb n (count_in bs) ≡ t → Neighbours (Precedes (view_in bs)) (chain_in bs k (next_sibling_in bs n))
            → Neighbours (Precedes (view_in bs)) (cond t (n ∷ chain_in bs k (next_sibling_in bs n)) [])
        go true e later = (near k (ltb-true n (count_in bs) e), later)
        go false e later = tt

    lists-sorted : (v : ℕ) → v < count_in bs → Sorted (is_stronger (decode bs)) (children_of (decode bs) v)
    unfolding is_stronger
    lists-sorted v h =
        pairs-imp (ChildIn bs v) (Precedes (view_in bs)) (λ a b. is_less (compare_sibling_node_strength (view_in bs) a b) ≡ true)
        (λ a b ha hb p. rw (compare-authored links anywhere (smaller-eq 0 0 refl) a b (ha, p.left) (hb, p.right), p.less))
        (children_of (decode bs) v) (children-in bs tree v) pairs
      where
        pairs : Pairs (Precedes (view_in bs)) (children_of (decode bs) v)
        pairs =
            rw (children-decode bs (held bs o.holds) v h)
            (neighbours-pairs (Precedes (view_in bs)) (precedes-trans (view_in bs)) (children_in bs v)
            (chain-neighbours (count_in bs) (first_child_in bs v)))

    pub standing-ends : Stands (decode bs) true
    standing-ends = record { sorted = λ e v h. lists-sorted v (omega (arith, sizes bs o)) }
