-- The walk of a tree's child lists has each node once and nothing else, whatever the fuel; and
-- where every child list is sorted, of any two nodes in it the earlier is the stronger, as
-- `nodes_by` compares them (document 01, "Order"). Assumes nothing.
use mathlib.Core.Path.{◌≡◌, refl, ap, ◌∙◌}
use mathlib.Core.Bool.{true, false≢true}
use mathlib.Core.List.{List, [], ◌∷◌, ◌++◌, append_assoc, append-nil}
use Prim.Native.Nat.{ℕ, zero, suc, ◌+◌, ◌≤◌, ◌<◌}
use native.Mathlib.Omega.{arith}
use lib.Dec.{eqb}
use borrow.Author.Tests.{eq-eqb, ne_eqb}
use Rattle.std.specs.declared.cmp.Ordering.{Ordering}
use Rattle.std.specs.declared.cmp.Ordering.TheVariants.{Less, Equal, Greater}
use Rattle.model.specs.Lists.{All, Pairs, bit, count}
use Rattle.model.specs.Strength.{chain, parting, nodes_by}
use Rattle.model.specs.Order.{is_less, Sorted, concat_map, walk_up_to, walk}
use Rattle.laws.proofs.ListLaws.{bit-eq, bit-ne, count-append, count_none, all-imp, all_append, all-concat, concat-cong, pairs-imp, pairs-append, pairs-distinct}
use Rattle.laws.proofs.FollowLaws.{chain-step}
use Rattle.laws.proofs.Trees.{Child, Tree, all-children, child-count, child-once}

-- x is v, or its parent is under v
pub data Under (parent : ℕ → ℕ) (v : ℕ) : ℕ → Type 0 where
  self : {x : ℕ} → x ≡ v → Under parent v x
  down : {x : ℕ} → 0 < x → Under parent v (parent x) → Under parent v x

-- x is one of n nodes, under v
abbrev pub NodeUnder : ℕ → (ℕ → ℕ) → ℕ → ℕ → Type 0
NodeUnder n parent v x = (x < n) × Under parent v x

-- all under c stand in R to all under d
abbrev pub Beside : ℕ → (ℕ → ℕ) → (ℕ → ℕ → Type 0) → ℕ → ℕ → Type 0
Beside n parent R c d = (x y : ℕ) → NodeUnder n parent c x → NodeUnder n parent d y → R x y

-- each of n nodes stands once in w, nothing else does, and of any two the earlier is the stronger
pub record Ordered (n : ℕ) (compare : ℕ → ℕ → Ordering) (w : List ℕ) : Type 0 where
  pub once : (i : ℕ) → i < n → count i w ≡ 1
  pub nothing-else : All (λ x. x < n) w
  pub stronger : Pairs (λ x y. compare x y ≡ Less) w

-- a common front part does not count
parting-front : (siblings : ℕ → ℕ → Ordering) (p xs ys : List ℕ) → parting siblings (p ++ xs) (p ++ ys) ≡ parting siblings xs ys
parting-front siblings [] xs ys = refl
parting-front siblings (a ∷ p) xs ys = rw (eq-eqb a a refl) (parting-front siblings p xs ys)

parting-longer : (siblings : ℕ → ℕ → Ordering) (p : List ℕ) (a : ℕ) (r : List ℕ) → parting siblings p (p ++ a ∷ r) ≡ Less
parting-longer siblings [] a r = refl
parting-longer siblings (b ∷ p) a r = rw (eq-eqb b b refl) (parting-longer siblings p a r)

pub is-less : (o : Ordering) → is_less o ≡ true → o ≡ Less
is-less Less e = refl
is-less Equal e = absurd (false≢true e)
is-less Greater e = absurd (false≢true e)

module _ (n : ℕ) (parent : ℕ → ℕ) (children : ℕ → List ℕ) (tree : Tree n parent children) where
  -- what holds of each child of v, a higher node
  pub of-children : (P : ℕ → Type 0) (v : ℕ) → ((c : ℕ) → c < n → v < c → parent c ≡ v → P c) → All P (children v)
  of-children P v f =
      all-imp (Child n parent v) P (children v) (λ c h. f c h.1 (omega (arith, tree.lower c h.0 h.1)) h.2)
      (all-children n parent children tree v)

  -- ---- Any fuel that reaches from v to n gives the same walk

  pub walk-fuel : (j k v : ℕ) → v < n → n ≤ v + j → n ≤ v + k → walk_up_to children j v ≡ walk_up_to children k v
  walk-fuel zero k v q a b = absurd (omega arith)
  walk-fuel (suc j) zero v q a b = absurd (omega arith)
  walk-fuel (suc j) (suc k) v q a b =
      ap (λ (l : List ℕ). v ∷ l)
      (concat-cong (λ c. walk_up_to children j c) (λ c. walk_up_to children k c) (children v)
      (of-children (λ c. walk_up_to children j c ≡ walk_up_to children k c) v (λ c h l e. walk-fuel j k c h (omega arith) (omega arith))))

  -- ---- Each node once

  -- i stands in the walk as often as its parent does, and once more at the start
  walk_step : (k v i : ℕ) → 0 < i → i < n → n ≤ v + k → count i (walk_up_to children k v) ≡ bit (eqb i v) + count (parent i) (walk_up_to children k v)
  walk_step zero v i p q e = omega (arith, bit-ne i v (omega arith))
  walk_step (suc k) v i p q e =
      omega (
        arith,
        child-count n parent children tree i v p q,
        go (children v) (of-children (λ c. count i (walk_up_to children k c) ≡ bit (eqb i c) + count (parent i) (walk_up_to children k c)) v
            (λ c h l f. walk_step k c i p q (omega arith))),
      )
    where
      go : (cs : List ℕ) → All (λ c. count i (walk_up_to children k c) ≡ bit (eqb i c) + count (parent i) (walk_up_to children k c)) cs
          → count i (concat_map (λ c. walk_up_to children k c) cs) ≡ count i cs + count (parent i) (concat_map (λ c. walk_up_to children k c) cs)
      go [] h = refl
      go (c ∷ cs) h =
          omega (
            arith,
            h.0,
            go cs h.1,
            count-append i (walk_up_to children k c) (concat_map (λ c. walk_up_to children k c) cs),
            count-append (parent i) (walk_up_to children k c) (concat_map (λ c. walk_up_to children k c) cs),
          )

  under-child : (v c x : ℕ) → 0 < c → parent c ≡ v → Under parent c x → Under parent v x
  under-child v c x p e (self q) = down {x = x} (omega arith) (self (ap parent q ∙ e))
  under-child v c x p e (down q u) = down q (under-child v c (parent x) p e u)

  under-above : (v x : ℕ) → x < n → Under parent v x → v ≤ x
  under-above v x q (self e) = omega arith
  under-above v x q (down p u) = let d = tree.lower x p q in omega (arith, under-above v (parent x) (omega arith) u)

  -- what holds of each node under a child of v holds of all that the walk has after v
  after : (P : ℕ → Type 0) (k v : ℕ) → ((c : ℕ) → c < n → All (NodeUnder n parent c) (walk_up_to children k c))
      → ((x : ℕ) → x < n → v < x → Under parent v x → P x) → All P (concat_map (λ c. walk_up_to children k c) (children v))
  after P k v walked f =
      all-concat P (λ c. walk_up_to children k c) (children v)
      (of-children (λ c. All P (walk_up_to children k c)) v (λ c h l e.
      all-imp (NodeUnder n parent c) P (walk_up_to children k c)
      (λ x u. f x u.0 (omega (arith, under-above c x u.0 u.1)) (under-child v c x (omega arith) e u.1)) (walked c h)))

  -- the walk from v has nodes under v alone
  pub walk-under : (k v : ℕ) → v < n → All (NodeUnder n parent v) (walk_up_to children k v)
  walk-under zero v q = tt
  walk-under (suc k) v q = ((q, self refl), after (NodeUnder n parent v) k v (walk-under k) (λ x h l u. (h, u)))

  walk-has : (j k i : ℕ) → i < j → i < n → n ≤ k → count i (walk_up_to children k 0) ≡ 1
  walk-has zero k i l q e = absurd (omega arith)
  walk-has (suc j) zero i l q e = absurd (omega arith)
  walk-has (suc j) (suc k) zero l q e =
      omega (
        arith,
        bit-eq 0 0 refl,
        count_none 0 (concat_map (λ c. walk_up_to children k c) (children 0)) (after (λ x. 0 ≡ x → ⊥) k 0 (walk-under k) (λ x h l u e. omega arith)),
      )
  walk-has (suc j) (suc k) (suc i) l q e =
      let d : parent (suc i) < suc i = tree.lower (suc i) (omega arith) q in
      omega (
        arith,
        walk_step (suc k) 0 (suc i) (omega arith) q (omega arith),
        bit-ne (suc i) 0 (omega arith),
        walk-has j (suc k) (parent (suc i)) (omega arith) (omega arith) e,
      )

  pub walk-once : (i : ℕ) → i < n → count i (walk children n) ≡ 1
  walk-once i q = walk-has (suc i) n i (omega arith) q (omega arith)

  pub walk-only : 0 < n → All (λ x. x < n) (walk children n)
  walk-only q = all-imp (NodeUnder n parent 0) (λ x. x < n) (walk children n) (λ x u. u.0) (walk-under n 0 q)

  -- ---- Of two in the walk the earlier is above the later, or they are under two children of one node, the earlier under the earlier child

  module _ (R : ℕ → ℕ → Type 0) (above : (v x : ℕ) → x < n → v < x → Under parent v x → R v x)
      (beside : (v : ℕ) → v < n → Pairs (Beside n parent R) (children v)) where
    branches : (k : ℕ) (cs : List ℕ) → All (λ c. c < n) cs → ((c : ℕ) → c < n → Pairs R (walk_up_to children k c)) → Pairs (Beside n parent R) cs
        → Pairs R (concat_map (λ c. walk_up_to children k c) cs)
    branches k [] q each b = tt
    branches k (c ∷ cs) q each b =
        pairs-append R (walk_up_to children k c) (concat_map (λ c. walk_up_to children k c) cs) (each c q.0) (branches k cs q.1 each b.1)
        (all-imp (NodeUnder n parent c) (λ x. All (R x) (concat_map (λ c. walk_up_to children k c) cs)) (walk_up_to children k c)
        (λ x u. later x u cs q.1 b.0) (walk-under k c q.0))
      where
        later : (x : ℕ) → NodeUnder n parent c x → (ds : List ℕ) → All (λ d. d < n) ds → All (Beside n parent R c) ds
            → All (R x) (concat_map (λ d. walk_up_to children k d) ds)
        later x u [] q b = tt
        later x u (d ∷ ds) q b =
            all_append (R x) (walk_up_to children k d) (concat_map (λ d. walk_up_to children k d) ds)
            (all-imp (NodeUnder n parent d) (R x) (walk_up_to children k d) (λ y w. b.0 x y u w) (walk-under k d q.0)) (later x u ds q.1 b.1)

    pub walk-pairs : (k v : ℕ) → v < n → Pairs R (walk_up_to children k v)
    walk-pairs zero v q = tt
    walk-pairs (suc k) v q = (
      after (R v) k v (walk-under k) (above v),
      branches k (children v) (of-children (λ c. c < n) v (λ c h l e. h)) (walk-pairs k) (beside v q),
    )

  -- ---- Chains

  -- the chain of a node under v begins with v's, and goes on if the node is not v
  pub chain-under : (v x : ℕ) → x < n → Under parent v x → (r : List ℕ) × (chain parent x ≡ chain parent v ++ r)
  chain-under v x h (self e) = ([], rw (e, append-nil (chain parent v)))
  chain-under v x h (down p u) =
      let d = tree.lower x p h in
      let rest = chain-under v (parent x) (omega arith) u in
      (rest.0 ++ x ∷ [], rw (chain-step tree.lower x p h, rest.1, append_assoc))

  chain-longer : (v x : ℕ) → x < n → v < x → Under parent v x → (a : ℕ) × (r : List ℕ) × (chain parent x ≡ chain parent v ++ a ∷ r)
  chain-longer v x h l (self e) = absurd (omega arith)
  chain-longer v x h l (down p u) =
      let d = tree.lower x p h in
      let rest = chain-under v (parent x) (omega arith) u in
      go rest.0 (rw (chain-step tree.lower x p h, rest.1, append_assoc))
    where
      go : (r : List ℕ) → chain parent x ≡ chain parent v ++ (r ++ x ∷ []) → (a : ℕ) × (r : List ℕ) × (chain parent x ≡ chain parent v ++ a ∷ r)
      go [] e = (x, [], e)
      go (b ∷ r) e = (b, r ++ x ∷ [], e)

  module _ (siblings : ℕ → ℕ → Ordering) where
    -- an ancestor is stronger
    pub above-stronger : (v x : ℕ) → x < n → v < x → Under parent v x → nodes_by parent siblings v x ≡ Less
    unfolding nodes_by
    above-stronger v x h l u = let rest = chain-longer v x h l u in rw rest.2 (parting-longer siblings (chain parent v) rest.0 rest.1)

    -- nodes under two siblings compare as these
    pub beside-as-siblings : (v c d x y : ℕ) → Child n parent v c → Child n parent v d → (c ≡ d → ⊥) → NodeUnder n parent c x → NodeUnder n parent d y
        → nodes_by parent siblings x y ≡ siblings c d
    unfolding nodes_by
    beside-as-siblings v c d x y hc hd ne hx hy =
        rw (ex.1, ey.1, parting-front siblings (chain parent v) (c ∷ ex.0) (d ∷ ey.0), ne_eqb c d ne)
      where
        through : (c x : ℕ) → Child n parent v c → NodeUnder n parent c x → (r : List ℕ) × (chain parent x ≡ chain parent v ++ c ∷ r)
        through c x h u =
            let rest = chain-under c x u.0 u.1 in
            (rest.0, rw (rest.1, chain-step tree.lower c h.0 h.1, h.2, append_assoc))

        ex : (r : List ℕ) × (chain parent x ≡ chain parent v ++ c ∷ r)
        ex = through c x hc hx

        ey : (r : List ℕ) × (chain parent y ≡ chain parent v ++ d ∷ r)
        ey = through d y hd hy

    -- with a node, the walk of sorted child lists is in order
    nodes-ordered : 0 < n → ((v : ℕ) → v < n → Sorted (λ a b. is_less (siblings a b)) (children v))
        → Ordered n (nodes_by parent siblings) (walk children n)
    nodes-ordered some-node sorted = record {
      once = walk-once;
      nothing-else = walk-only some-node;
      stronger = walk-pairs (λ x y. nodes_by parent siblings x y ≡ Less) above-stronger beside n 0 some-node;
    }
      where
        beside : (v : ℕ) → v < n → Pairs (Beside n parent (λ x y. nodes_by parent siblings x y ≡ Less)) (children v)
        beside v h =
            pairs-imp (Child n parent v) (λ c d. (c ≡ d → ⊥) × (is_less (siblings c d) ≡ true))
            (Beside n parent (λ x y. nodes_by parent siblings x y ≡ Less))
            (λ c d hc hd less x y hx hy. beside-as-siblings v c d x y hc hd less.0 hx hy ∙ is-less (siblings c d) less.1)
            (children v) (all-children n parent children tree v)
            (pairs-distinct (λ c d. is_less (siblings c d) ≡ true) (children v) (child-once n parent children tree v) (sorted v h))

-- of sorted child lists the walk is in order, without a node too
pub walk-ordered : (n : ℕ) (parent : ℕ → ℕ) (children : ℕ → List ℕ) → Tree n parent children → (siblings : ℕ → ℕ → Ordering)
    → ((v : ℕ) → v < n → Sorted (λ a b. is_less (siblings a b)) (children v)) → Ordered n (nodes_by parent siblings) (walk children n)
walk-ordered zero parent children tree siblings sorted = record { once = λ i h. absurd (omega arith); nothing-else = tt; stronger = tt }
walk-ordered (suc n) parent children tree siblings sorted = nodes-ordered (suc n) parent children tree siblings (omega arith) sorted
