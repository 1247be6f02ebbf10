-- The loop that decides the flags from the highest node down (`Deciding`), with its two steps and
-- its end. When node n is reached each child of it is decided, since children are higher; so the
-- mark of n says whether one is unculled, and that is what `culling-decides` asks. Assumes nothing.
use mathlib.Core.Path.{◌≡◌, refl, sym, ap, ◌∙◌}
use mathlib.Core.Bool.{Bool, true, false, not, ◌||◌, ◌&&◌, cond, true≢false}
use mathlib.Core.List.{List, [], ◌∷◌}
use Prim.Native.Nat.{ℕ, zero, suc, ◌+◌, ◌-◌, ◌/◌, ◌%◌, ◌≤◌, ◌<◌}
use native.Mathlib.Omega.{arith}
use lib.Dec.{eqb}
use lib.ListN.{length, get_or, set, replicate, length-set}
use lib.Seq.{get_or-set_same, get_or-set_other}
use borrow.Author.Tests.{eqb-true, eqb-false, eq-eqb, ne_eqb}
use Rattle.model.specs.Lists.{bit, count, every}
use Rattle.model.specs.Node.{root_arc, culled_flag, Node, has_flag, with_flag, is_inert, is_culled}
use Rattle.model.specs.Graph.{Graph, size, node_at, children_of, depth_below_introduction, has_local_root}
use Rattle.model.specs.Arena.{count_in, local_root_of, decode}
use Rattle.model.specs.Culling.{keeps_inherit, culled, cull_subtrees_without_opinions}
use Rattle.laws.proofs.BigEndianLaws.{Bytes}
use Rattle.laws.proofs.Trees.{TreeOf}
use Rattle.laws.proofs.CullingLaws.{can_cull_with, Decided, culling-decides}
use Rattle.arena.proofs.HeldArenas.{held}
use Rattle.arena.proofs.HeldEncodable.{held-encodable}
use Rattle.arena.proofs.ReadNodes.{sizes, root-found, root-held}
use Rattle.view.specs.View.{view_in, ValidNodeAndRoot}
use Rattle.culling.specs.Culled.{Rooted, is_kept, can_cull_under, flags_left, HasFlagsFrom, Clear}

-- ---- Tests

every-at : (p : ℕ → Bool) (xs : List ℕ) (a : ℕ) → every p xs ≡ true → 0 < count a xs → p a ≡ true
every-at p [] a e m = absurd (omega arith)
every-at p (x ∷ xs) a e m = go (p x) refl e (eqb a x) refl m (every-at p xs a)
  where
    go : (t : Bool) → p x ≡ t → (t && every p xs) ≡ true → (s : Bool) → eqb a x ≡ s → 0 < bit s + count a xs
        → (every p xs ≡ true → 0 < count a xs → p a ≡ true) → p a ≡ true
    go true f e true s m rest = ap p (eqb-true a x s) ∙ f
    go true f e false s m rest = rest e (omega arith)
    go false f e s q m rest = absurd (true≢false (sym e))

every_of : (p : ℕ → Bool) (xs : List ℕ) → ((a : ℕ) → 0 < count a xs → p a ≡ true) → every p xs ≡ true
every_of p [] h = refl
every_of p (x ∷ xs) h = rw (h x (omega (arith, ap bit (eq-eqb x x refl)))) (every_of p xs (λ a m. h a (omega arith)))

not-not : (t : Bool) → not (not t) ≡ t
not-not true = refl
not-not false = refl

-- the sentence of document 01 with the tests that keep a node together
tests-together : (c a d k s i b : Bool)
    → (c || (not (a || (d || (k || (s && not i)))) && not b)) ≡ (c || (not a && (not d && (not k && (not b && (not s || i))))))
tests-together true a d k s i b = refl
tests-together false true d k s i b = refl
tests-together false false true k s i b = refl
tests-together false false false true s i b = refl
tests-together false false false false true true true = refl
tests-together false false false false true true false = refl
tests-together false false false false true false true = refl
tests-together false false false false true false false = refl
tests-together false false false false false i true = refl
tests-together false false false false false i false = refl

under-with : (unculled : Bool) (ns : List Node) (n : ℕ) → can_cull_under unculled ns n ≡ can_cull_with (not unculled) ns n
unfolding can_cull_under is_kept
under-with unculled ns n =
    tests-together (is_culled (node_at ns n)) (eqb (node_at ns n).arc root_arc) (eqb (depth_below_introduction ns n) 0) (keeps_inherit ns n)
    (eqb (node_at ns n).has_specs 1) (is_inert (node_at ns n)) unculled

-- ---- One node

culled-set : (x : Node) → is_culled (culled x) ≡ true
culled-set x = go (is_culled x) refl
  where
    go : (t : Bool) → is_culled x ≡ t → has_flag culled_flag (cond t x.flags (x.flags + culled_flag)) ≡ true
    go true e = e
    go false e = let clear = eqb-false (x.flags / 2 % 2) 1 e in eq-eqb ((x.flags + 2) / 2 % 2) 1 (omega arith)

decided-culled : (x : Node) (b : Bool) → (b ≡ false → is_culled x ≡ false) → is_culled (cond b (culled x) x) ≡ b
decided-culled x true h = culled-set x
decided-culled x false h = h refl

decided-flags : (x : Node) (b : Bool) → (cond b (culled x) x).flags ≡ cond b (with_flag culled_flag x.flags) x.flags
decided-flags x true = refl
decided-flags x false = refl

or_left : (a b : Bool) → (a || b) ≡ false → a ≡ false
or_left false b e = refl
or_left true b e = e

-- ---- The loop

-- each child of v from n on is culled
abbrev pub ChildrenCulled : List ℕ → ℕ → ℕ → Type 0
ChildrenCulled bs n v =
    (c : ℕ) → n ≤ c → c < count_in bs → (view_in bs).parent c ≡ v → is_culled (node_at (cull_subtrees_without_opinions (decode bs)).nodes c) ≡ true

-- the nodes from n on are decided
pub record Deciding (bs unculled flags : List ℕ) (n : ℕ) : Type 0 where
  pub some : 0 < n
  pub within : n ≤ count_in bs
  pub unculled-long : length unculled ≡ 1024
  pub flags_long : length flags ≡ 1024
  pub found : HasFlagsFrom bs n flags
  pub clear : (v : ℕ) → get_or unculled v 0 ≡ 0 → ChildrenCulled bs n v
  pub unset : (v : ℕ) → ChildrenCulled bs n v → get_or unculled v 0 ≡ 0

-- the node that the loop decides next can be read, and is in the buffers
module _ {bs unculled flags : List ℕ} {nodes root n : ℕ} (r : Rooted bs nodes root) (d : Deciding bs unculled flags n) (more : 1 < n) where
  pub next-stands : ValidNodeAndRoot bs root (n - 1)
  next-stands = record { readable = record { opened = r.opened; below = omega (arith, d.within) }; root-read = r.root-read }

  pub next-short : n - 1 < 1024
  next-short = omega (arith, d.within, (held bs r.opened.holds).few)

pub zeros-clear : (n : ℕ) → Clear (replicate n 0)
zeros-clear zero k = refl
zeros-clear (suc n) zero = refl
zeros-clear (suc n) (suc k) = zeros-clear n k

module _ (bs : List ℕ) (bytes : Bytes bs) (nodes root : ℕ) (r : Rooted bs nodes root) where
  abbrev g : Graph
  g = decode bs

  abbrev after : List Node
  after = (cull_subtrees_without_opinions g).nodes

  tree : TreeOf g
  tree = (held-encodable bs bytes r.opened.whole r.opened.holds).legal.tree

  pub few : count_in bs ≤ 1024
  few = (held bs r.opened.holds).few

  has-root : has_local_root g.nodes ≡ true
  has-root =
      sym (root-found g.nodes (size g))
      ∙ ap not (ne_eqb (local_root_of g.nodes) 0
      (λ z. r.some-root (r.root-read ∙ root-held bs r.opened (omega (arith, r.counted, r.some-node)) ∙ z)))

  higher : (v c : ℕ) → 0 < count c (children_of g v) → v < c
  higher v c m = let child = tree.only v c m in omega (arith, child.2, tree.lower c child.0 child.1)

  decides : Decided g.children g.nodes after
  decides = culling-decides g higher has-root

  pub stands : (n : ℕ) → n < count_in bs → ValidNodeAndRoot bs root n
  stands n h = record { readable = record { opened = r.opened; below = h }; root-read = r.root-read }

  node-0-kept : (node_at g.nodes 0).flags ≡ flags_left bs 0
  node-0-kept = ap (λ (x : Node). x.flags) (sym decides.node-0)

  module _ (unculled flags : List ℕ) (n : ℕ) (d : Deciding bs unculled flags n) (more : 1 < n) where
    abbrev here : ℕ
    here = n - 1

    pub here-below : here < count_in bs
    here-below = omega (arith, d.within)

    pub parent-below : (view_in bs).parent here < here
    parent-below = tree.lower here (omega arith) (omega (arith, sizes bs r.opened, here-below))

    abbrev below-culled : Bool
    below-culled = every (λ c. is_culled (node_at after c)) (children_of g here)

    -- the mark says whether a child is unculled
    mark-right : below-culled ≡ eqb (get_or unculled here 0) 0
    mark-right = go below-culled refl
      where
        all-of-them : below-culled ≡ true → ChildrenCulled bs n here
        all-of-them e c l h p =
            every-at (λ c. is_culled (node_at after c)) (children_of g here) c e
            (omega (arith, ap (λ (v : ℕ). count c (children_of g v)) (sym p), tree.once c (omega arith) (omega (arith, sizes bs r.opened))))

        all_listed : ChildrenCulled bs n here → below-culled ≡ true
        all_listed all =
            every_of (λ c. is_culled (node_at after c)) (children_of g here)
            (λ c m. let child = tree.only here c m in
            all c (omega (arith, higher here c m)) (omega (arith, child.1, sizes bs r.opened)) child.2)

        go : (t : Bool) → below-culled ≡ t → t ≡ eqb (get_or unculled here 0) 0
        go true e = sym (eq-eqb (get_or unculled here 0) 0 (d.unset here (all-of-them e)))
        go false e = sym (ne_eqb (get_or unculled here 0) 0 (λ z. true≢false (sym (all_listed (d.clear here z)) ∙ e)))

    abbrev decision : Bool
    decision = can_cull_under (not (eqb (get_or unculled here 0) 0)) g.nodes here

    decided-right : can_cull_with below-culled g.nodes here ≡ decision
    decided-right =
        ap (λ (t : Bool). can_cull_with t g.nodes here) (mark-right ∙ sym (not-not (eqb (get_or unculled here 0) 0)))
        ∙ sym (under-with (not (eqb (get_or unculled here 0) 0)) g.nodes here)

    node-after : node_at after here ≡ cond decision (culled (node_at g.nodes here)) (node_at g.nodes here)
    node-after =
        decides.others here (omega arith) (omega (arith, sizes bs r.opened, here-below))
        ∙ ap (λ (t : Bool). cond t (culled (node_at g.nodes here)) (node_at g.nodes here)) decided-right

    culled-after : is_culled (node_at after here) ≡ decision
    unfolding can_cull_under
    culled-after = ap is_culled node-after ∙ decided-culled (node_at g.nodes here) decision (λ e. or_left (is_culled (node_at g.nodes here)) _ e)

    flags-after : flags_left bs here ≡ cond decision (with_flag culled_flag (node_at g.nodes here).flags) (node_at g.nodes here).flags
    flags-after = ap (λ (x : Node). x.flags) node-after ∙ decided-flags (node_at g.nodes here) decision

    flags-as : (t : Bool) → decision ≡ t → cond t (with_flag culled_flag (node_at g.nodes here).flags) (node_at g.nodes here).flags ≡ flags_left bs here
    flags-as t e =
        sym (flags-after ∙ ap (λ (s : Bool). cond s (with_flag culled_flag (node_at g.nodes here).flags) (node_at g.nodes here).flags) e)

    found-more : (f : ℕ) → f ≡ flags_left bs here → HasFlagsFrom bs here (set flags here f)
    found-more f e k l h = go (eqb k here) refl
      where
        go : (t : Bool) → eqb k here ≡ t → get_or (set flags here f) k 0 ≡ flags_left bs k
        go true q =
            let same = eqb-true k here q in
            rw same (get_or-set_same flags here f 0 (omega (arith, d.flags_long, few, here-below)) ∙ e)
        go false q =
            let other = eqb-false k here q in get_or-set_other flags here k f 0 other ∙ d.found k (omega arith) h

    pub step-culled : decision ≡ true → (f : ℕ) → f ≡ with_flag culled_flag (node_at g.nodes here).flags → Deciding bs unculled (set flags here f) here
    step-culled e f q = record {
      some = omega arith;
      within = omega (arith, here-below);
      unculled-long = d.unculled-long;
      flags_long = length-set flags here f ∙ d.flags_long;
      found = found-more f (q ∙ flags-as true e);
      clear = λ v z c l h p. go v z c l h p (eqb c here) refl;
      unset = λ v all. d.unset v (λ c l h p. all c (omega arith) h p);
    }
      where
        go : (v : ℕ) → get_or unculled v 0 ≡ 0 → (c : ℕ) → here ≤ c → c < count_in bs → (view_in bs).parent c ≡ v → (t : Bool) → eqb c here ≡ t
            → is_culled (node_at after c) ≡ true
        go v z c l h p true q = rw (eqb-true c here q) (culled-after ∙ e)
        go v z c l h p false q = let other = eqb-false c here q in d.clear v z c (omega arith) h p

    pub step_left : decision ≡ false → (f : ℕ) → f ≡ (node_at g.nodes here).flags → (p : ℕ) → p ≡ (view_in bs).parent here
        → Deciding bs (set unculled p 1) (set flags here f) here
    step_left e f q p is-parent = record {
      some = omega arith;
      within = omega (arith, here-below);
      unculled-long = length-set unculled p 1 ∙ d.unculled-long;
      flags_long = length-set flags here f ∙ d.flags_long;
      found = found-more f (q ∙ flags-as false e);
      clear = λ v z. cleared v z (eqb v p) refl;
      unset = λ v all. still v all (eqb v p) refl;
    }
      where
        marked : get_or (set unculled p 1) p 0 ≡ 1
        marked = get_or-set_same unculled p 1 0 (omega (arith, d.unculled-long, few, here-below, parent-below))

        cleared : (v : ℕ) → get_or (set unculled p 1) v 0 ≡ 0 → (t : Bool) → eqb v p ≡ t → ChildrenCulled bs here v
        cleared v z true s = absurd (omega (arith, marked, ap (λ (k : ℕ). get_or (set unculled p 1) k 0) (eqb-true v p s)))
        cleared v z false s = λ c l h par. go c l h par (eqb c here) refl
          where
            go : (c : ℕ) → here ≤ c → c < count_in bs → (view_in bs).parent c ≡ v → (t : Bool) → eqb c here ≡ t → is_culled (node_at after c) ≡ true
            go c l h par true w =
                absurd (eqb-false v p s (sym par ∙ ap (λ (k : ℕ). (view_in bs).parent k) (eqb-true c here w) ∙ sym is-parent))
            go c l h par false w =
                let other = eqb-false c here w in
                d.clear v (sym (get_or-set_other unculled p v 1 0 (eqb-false v p s)) ∙ z) c (omega arith) h par

        still : (v : ℕ) → ChildrenCulled bs here v → (t : Bool) → eqb v p ≡ t → get_or (set unculled p 1) v 0 ≡ 0
        still v all true s =
            absurd (true≢false (sym (all here (omega arith) here-below (sym is-parent ∙ sym (eqb-true v p s))) ∙ culled-after ∙ e))
        still v all false s =
            get_or-set_other unculled p v 1 0 (eqb-false v p s) ∙ d.unset v (λ c l h par. all c (omega arith) h par)

  -- node 0 keeps its flags
  pub deciding-end : (unculled flags : List ℕ) (n f : ℕ) → Deciding bs unculled flags n → n ≤ 1 → f ≡ (node_at g.nodes 0).flags
      → HasFlagsFrom bs 0 (set flags 0 f)
  deciding-end unculled flags n f d end e k l h = go (eqb k 0) refl
    where
      go : (t : Bool) → eqb k 0 ≡ t → get_or (set flags 0 f) k 0 ≡ flags_left bs k
      go true q = rw (eqb-true k 0 q) (get_or-set_same flags 0 f 0 (omega (arith, d.flags_long)) ∙ e ∙ node-0-kept)
      go false q = let other = eqb-false k 0 q in get_or-set_other flags 0 k f 0 other ∙ d.found k (omega arith) h
