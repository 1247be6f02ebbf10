-- Culling changes no more than the flag CULLED, so the comparison cannot tell; and document 01's
-- sentence, "a node is culled if", holds of what every sequence that puts children first leaves, so
-- each leaves what `cull_down` does. Assumes nothing.
use mathlib.Core.Path.{◌≡◌, refl, sym, ap, ◌∙◌}
use mathlib.Core.Bool.{Bool, true, false, not, ◌||◌, ◌&&◌, cond}
use mathlib.Core.List.{List, [], ◌∷◌}
use Prim.Native.Nat.{ℕ, zero, suc, ◌+◌, ◌-◌, ◌^◌, ◌≤◌, ◌<◌}
use native.Mathlib.Omega.{arith}
use lib.Dec.{eqb, ltb}
use lib.ListN.{length, get_or, set, length-set, get_or-eq_default}
use lib.Seq.{get_or-set_same, get_or-set_other, ext_get_or}
use borrow.Author.Tests.{eqb-true, eqb-false, eq-eqb, ne_eqb, ltb-true, ltb-false}
use Rattle.model.specs.Lists.{All, Pairs, bit, count, every}
use Rattle.model.specs.Path.{prim_count}
use Rattle.model.specs.Node.{root_arc, inherit_arc, culled_flag, Node, no_node, has_flag, is_inert, is_culled, changed}
use Rattle.model.specs.Graph.{Graph, size, node_at, children_of, depth_below_introduction, path_at_introduction, has_local_root}
use Rattle.model.specs.Strength.{View, view, is_authored, origin_root_node}
use Rattle.model.specs.Culling.{introducer, keeps_inherit, can_cull, culled, cull_one, cull_down, cull_subtrees_without_opinions}
use Rattle.laws.proofs.FlagLaws.{other-bit}
use Rattle.laws.proofs.SeenLaws.{SeenAlike, node-set, depth-below-kept, path-at-introduction-kept, local-stack-kept, view-kept}

-- ---- One node

-- y is x, but that CULLED may have been set; not in a node that has it, nor at a Root arc
pub record OnlyCulled (x y : Node) : Type 0 where
  pub arc : y.arc ≡ x.arc
  -- each bit but CULLED's, 2 ^ 1
  pub flags : (i : ℕ) → (i ≡ 1 → ⊥) → has_flag (2 ^ i) y.flags ≡ has_flag (2 ^ i) x.flags
  pub stack : y.stack ≡ x.stack
  pub layer : y.layer ≡ x.layer
  pub parent : y.parent ≡ x.parent
  pub origin : y.origin ≡ x.origin
  pub depth : y.depth ≡ x.depth
  pub sibling : y.sibling ≡ x.sibling
  pub restriction : y.restriction ≡ x.restriction
  pub spec-from : y.spec_from ≡ x.spec_from
  pub has-specs : y.has_specs ≡ x.has_specs
  pub path : y.path ≡ x.path
  pub culled-stays : is_culled x ≡ true → y ≡ x
  pub root-stays : x.arc ≡ root_arc → y ≡ x

culled-again : (x : Node) → is_culled x ≡ true → culled x ≡ x
culled-again x e = rw e

-- other flags alone
flags-alone : (x : Node) (f : ℕ) → let y = changed f x.parent x.origin x.path x in
    ((i : ℕ) → (i ≡ 1 → ⊥) → has_flag (2 ^ i) f ≡ has_flag (2 ^ i) x.flags) → (is_culled x ≡ true → y ≡ x) → (x.arc ≡ root_arc → y ≡ x)
    → OnlyCulled x y
flags-alone x f flags culled-stays root-stays = record {
  arc = refl;
  flags = flags;
  stack = refl;
  layer = refl;
  parent = refl;
  origin = refl;
  depth = refl;
  sibling = refl;
  restriction = refl;
  spec-from = refl;
  has-specs = refl;
  path = refl;
  culled-stays = culled-stays;
  root-stays = root-stays;
}

culled-only : (x : Node) → (x.arc ≡ root_arc → is_culled x ≡ true) → OnlyCulled x (culled x)
culled-only x root = flags-alone x _ (λ i h. go i h (is_culled x) refl) (culled-again x) (λ e. culled-again x (root e))
  where
    go : (i : ℕ) → (i ≡ 1 → ⊥) → (b : Bool) → is_culled x ≡ b
        → has_flag (2 ^ i) (cond b x.flags (x.flags + culled_flag)) ≡ has_flag (2 ^ i) x.flags
    go i h true e = refl
    go i h false e = other-bit 1 i x.flags h e

unchanged : (x : Node) → OnlyCulled x x
unchanged x = flags-alone x x.flags (λ i h. refl) (λ e. refl) (λ e. refl)

then-only-culled : (x y z : Node) → OnlyCulled x y → OnlyCulled y z → OnlyCulled x z
then-only-culled x y z p q = record {
  arc = q.arc ∙ p.arc;
  flags = λ i h. q.flags i h ∙ p.flags i h;
  stack = q.stack ∙ p.stack;
  layer = q.layer ∙ p.layer;
  parent = q.parent ∙ p.parent;
  origin = q.origin ∙ p.origin;
  depth = q.depth ∙ p.depth;
  sibling = q.sibling ∙ p.sibling;
  restriction = q.restriction ∙ p.restriction;
  spec-from = q.spec-from ∙ p.spec-from;
  has-specs = q.has-specs ∙ p.has-specs;
  path = q.path ∙ p.path;
  culled-stays = λ e. q.culled-stays (ap is_culled (p.culled-stays e) ∙ e) ∙ p.culled-stays e;
  root-stays = λ e. q.root-stays (p.arc ∙ e) ∙ p.root-stays e;
}

-- ---- All nodes

-- ms is ns, but that CULLED may have been set
pub record CulledFrom (ns ms : List Node) : Type 0 where
  pub same_length : length ms ≡ length ns
  pub node : (n : ℕ) → OnlyCulled (node_at ns n) (node_at ms n)

none-culled : (ns : List Node) → CulledFrom ns ns
none-culled ns = record { same_length = refl; node = λ n. unchanged (node_at ns n) }

then-culled : (ns ms ks : List Node) → CulledFrom ns ms → CulledFrom ms ks → CulledFrom ns ks
then-culled ns ms ks p q = record {
  same_length = q.same_length ∙ p.same_length;
  node = λ n. then-only-culled (node_at ns n) (node_at ms n) (node_at ks n) (p.node n) (q.node n);
}

-- what the comparison sees stays
seen_alike : (ns ms : List Node) → CulledFrom ns ms → SeenAlike ns ms
seen_alike ns ms c = record {
  same_length = c.same_length;
  node = λ n. record {
    arc = (c.node n).arc;
    special = (c.node n).flags 3 (λ e. omega arith);
    stack = (c.node n).stack;
    parent = (c.node n).parent;
    origin = (c.node n).origin;
    depth = (c.node n).depth;
    sibling = (c.node n).sibling;
    path = (c.node n).path;
  };
}

module _ (ns ms : List Node) (c : CulledFrom ns ms) where
  keeps-inherit-kept : (n : ℕ) → keeps_inherit ms n ≡ keeps_inherit ns n
  unfolding keeps_inherit
  keeps-inherit-kept n =
      λ t. eqb ((c.node n).arc t) inherit_arc && (local-stack-kept ns ms alike n t && not (eqb (prim_count (introduced t)) 1))
    where
      alike : SeenAlike ns ms
      alike = seen_alike ns ms c

      introduced : path_at_introduction ms (introducer ms n) ≡ path_at_introduction ns (introducer ns n)
      introduced =
          path-at-introduction-kept ns ms alike (introducer ms n)
          ∙ ap (λ (u : View). path_at_introduction ns (cond (is_authored u n) n (origin_root_node u n))) (view-kept ns ms alike)

-- ---- One step

-- a Root arc is culled only if it already is
can-cull-root : (children : List (List ℕ)) (ns : List Node) (n : ℕ) → can_cull children ns n ≡ true → (node_at ns n).arc ≡ root_arc
    → is_culled (node_at ns n) ≡ true
unfolding can_cull
can-cull-root children ns n e root = go (is_culled (node_at ns n)) refl
  where
    go : (b : Bool) → is_culled (node_at ns n) ≡ b → b ≡ true
    go true f = refl
    go false f = rw (f, eq-eqb (node_at ns n).arc root_arc root) at e

module _ (children : List (List ℕ)) where
  cull-one-kept : (n : ℕ) (ns : List Node) → CulledFrom ns (cull_one children n ns)
  cull-one-kept n ns = go (can_cull children ns n) refl
    where
      go : (b : Bool) → can_cull children ns n ≡ b → CulledFrom ns (cond b (set ns n (culled (node_at ns n))) ns)
      go true e = record {
        same_length = length-set ns n (culled (node_at ns n));
        node = λ m. node-set ns n m (culled (node_at ns n)) (OnlyCulled (node_at ns m))
            (λ h. rw h (culled-only (node_at ns n) (can-cull-root children ns n e))) (unchanged (node_at ns m));
      }
      go false e = none-culled ns

  cull-down-kept : (n : ℕ) (ns : List Node) → CulledFrom ns (cull_down children n ns)
  cull-down-kept zero ns = none-culled ns
  cull-down-kept (suc n) ns =
      then-culled ns (cull_one children (suc n) ns) (cull_down children n (cull_one children (suc n) ns))
      (cull-one-kept (suc n) ns) (cull-down-kept n (cull_one children (suc n) ns))

-- ---- The call

-- culling changes nothing but the flag CULLED: what has it keeps it, a Root arc does not get it
pub culling-only-culls : (g : Graph) → CulledFrom g.nodes (cull_subtrees_without_opinions g).nodes
unfolding cull_subtrees_without_opinions
culling-only-culls g = go (has_local_root g.nodes)
  where
    go : (b : Bool) → CulledFrom g.nodes (cond b (cull_down g.children (size g - 1) g.nodes) g.nodes)
    go true = cull-down-kept g.children (size g - 1) g.nodes
    go false = none-culled g.nodes

-- so the comparison cannot tell
pub culling-seen-alike : (g : Graph) → SeenAlike g.nodes (cull_subtrees_without_opinions g).nodes
culling-seen-alike g = seen_alike g.nodes (cull_subtrees_without_opinions g).nodes (culling-only-culls g)

pub culling-keeps-view : (g : Graph) → view (cull_subtrees_without_opinions g).nodes ≡ view g.nodes
culling-keeps-view g = view-kept g.nodes (cull_subtrees_without_opinions g).nodes (culling-seen-alike g)

-- ---- Children first, in any sequence

-- cull node by node along the list
abbrev pub cull_along : List (List ℕ) → List ℕ → List Node → List Node
cull_along children [] ns = ns
cull_along children (x ∷ xs) ns = cull_along children xs (cull_one children x ns)

-- of any two the later is no child of the earlier
abbrev pub NoneAfterParent : List (List ℕ) → List ℕ → Type 0
NoneAfterParent children xs = Pairs (λ earlier later. count later (get_or children earlier []) ≡ 0) xs

-- a sequence of the nodes from 1 to below k, each once, with every child before its parent
pub record ChildrenFirst (children : List (List ℕ)) (k : ℕ) (xs : List ℕ) : Type 0 where
  pub once : (n : ℕ) → 0 < n → n < k → count n xs ≡ 1
  pub no_other : (n : ℕ) → 0 < count n xs → (0 < n) × (n < k)
  pub none-after-parent : NoneAfterParent children xs

-- "a node is culled if", where it is known whether each child is culled
abbrev pub can_cull_with : Bool → List Node → ℕ → Bool
can_cull_with children_culled ns n =
    is_culled (node_at ns n)
    || (not (eqb (node_at ns n).arc root_arc)
    && (not (eqb (depth_below_introduction ns n) 0)
    && (not (keeps_inherit ns n)
    && (children_culled
    && (not (eqb (node_at ns n).has_specs 1) || is_inert (node_at ns n))))))

-- node n of ns, culled if the sentence holds with the children as they are afterwards
abbrev pub decision : List (List ℕ) → List Node → List Node → ℕ → Node
decision children ns after n =
    cond (can_cull_with (every (λ c. is_culled (node_at after c)) (get_or children n [])) ns n) (culled (node_at ns n)) (node_at ns n)

-- the sentence holds of each node but 0, which stands as before
pub record Decided (children : List (List ℕ)) (ns after : List Node) : Type 0 where
  pub same_length : length after ≡ length ns
  pub node-0 : node_at after 0 ≡ node_at ns 0
  pub others : (n : ℕ) → 0 < n → n < length ns → node_at after n ≡ decision children ns after n

every-same : (p q : ℕ → Bool) (xs : List ℕ) → ((x : ℕ) → 0 < count x xs → p x ≡ q x) → every p xs ≡ every q xs
every-same p q [] h = refl
every-same p q (x ∷ xs) h =
    λ t. h x (omega (arith, ap bit (eq-eqb x x refl))) t && every-same p q xs (λ y m. h y (omega arith)) t

-- what stands in l does not stand in xs, if nothing of xs stands in l
apart : (l xs : List ℕ) (c : ℕ) → All (λ x. count x l ≡ 0) xs → 0 < count c l → count c xs ≡ 0
apart l [] c h m = refl
apart l (x ∷ xs) c h m = go (eqb c x) refl (apart l xs c h.1 m)
  where
    go : (b : Bool) → eqb c x ≡ b → count c xs ≡ 0 → bit b + count c xs ≡ 0
    go true e rest = absurd (omega (arith, m, rw (← eqb-true c x e) at h.0))
    go false e rest = omega arith

module _ (children : List (List ℕ)) where
  cull-one-elsewhere : (x : ℕ) (ns : List Node) (m : ℕ) → (m ≡ x → ⊥) → node_at (cull_one children x ns) m ≡ node_at ns m
  cull-one-elsewhere x ns m h = go (can_cull children ns x)
    where
      go : (b : Bool) → node_at (cond b (set ns x (culled (node_at ns x))) ns) m ≡ node_at ns m
      go true = get_or-set_other ns x m (culled (node_at ns x)) no_node h
      go false = refl

  cull-one-there : (x : ℕ) (ns : List Node) → x < length ns → node_at (cull_one children x ns) x ≡ decision children ns ns x
  unfolding can_cull
  cull-one-there x ns p = go (can_cull children ns x)
    where
      go : (b : Bool) → node_at (cond b (set ns x (culled (node_at ns x))) ns) x ≡ cond b (culled (node_at ns x)) (node_at ns x)
      go true = get_or-set_same ns x (culled (node_at ns x)) no_node p
      go false = refl

  cull-along-length : (xs : List ℕ) (ns : List Node) → length (cull_along children xs ns) ≡ length ns
  cull-along-length [] ns = refl
  cull-along-length (x ∷ xs) ns = cull-along-length xs (cull_one children x ns) ∙ (cull-one-kept children x ns).same_length

  cull-along-elsewhere : (xs : List ℕ) (ns : List Node) (m : ℕ) → count m xs ≡ 0 → node_at (cull_along children xs ns) m ≡ node_at ns m
  cull-along-elsewhere [] ns m h = refl
  cull-along-elsewhere (x ∷ xs) ns m h =
      cull-along-elsewhere xs (cull_one children x ns) m (omega arith)
      ∙ cull-one-elsewhere x ns m (λ e. omega (arith, h, ap bit (eq-eqb m x e)))

  -- a decision reads of what comes afterwards the children only, and of what was before the node
  -- itself and what culling keeps
  decision-after : (ns ms ks : List Node) (n : ℕ) → ((c : ℕ) → 0 < count c (get_or children n []) → node_at ms c ≡ node_at ks c)
      → decision children ns ms n ≡ decision children ns ks n
  decision-after ns ms ks n h =
      ap (λ (b : Bool). cond (can_cull_with b ns n) (culled (node_at ns n)) (node_at ns n))
      (every-same (λ c. is_culled (node_at ms c)) (λ c. is_culled (node_at ks c)) (get_or children n []) (λ c m. ap is_culled (h c m)))

  decision-before : (ns ms after : List Node) (n : ℕ) → CulledFrom ns ms → node_at ms n ≡ node_at ns n
      → decision children ms after n ≡ decision children ns after n
  decision-before ns ms after n c e = rw (depth-below-kept ns ms (seen_alike ns ms c) n, keeps-inherit-kept ns ms c n, e)

module _ (children : List (List ℕ)) (higher : (v c : ℕ) → 0 < count c (get_or children v []) → v < c) where
  cull-along-listed : (xs : List ℕ) (ns : List Node) → ((n : ℕ) → count n xs ≤ 1) → ((n : ℕ) → 0 < count n xs → n < length ns)
      → NoneAfterParent children xs → (n : ℕ) → 0 < count n xs
      → node_at (cull_along children xs ns) n ≡ decision children ns (cull_along children xs ns) n
  cull-along-listed [] ns once inside first n m = absurd (omega arith)
  cull-along-listed (x ∷ xs) ns once inside first n m =
      go (eqb n x) refl
      (cull-along-listed xs next (λ k. omega (arith, once k))
      (λ k l. omega (arith, inside k (omega arith), (cull-one-kept children x ns).same_length)) first.1 n)
    where
      next : List Node
      next = cull_one children x ns

      after : List Node
      after = cull_along children xs next

      here : node_at after x ≡ decision children ns after x
      here =
          cull-along-elsewhere children xs next x (omega (arith, once x, ap bit (eq-eqb x x refl)))
          ∙ cull-one-there children x ns (inside x (omega (arith, ap bit (eq-eqb x x refl))))
          ∙ decision-after children ns ns after x
          (λ c l. sym (cull-along-elsewhere children xs next c (apart (get_or children x []) xs c first.0 l)
          ∙ cull-one-elsewhere children x ns c (λ e. omega (arith, higher x c l))))

      go : (b : Bool) → eqb n x ≡ b → (0 < count n xs → node_at after n ≡ decision children next after n)
          → node_at after n ≡ decision children ns after n
      go true e rest = rw (eqb-true n x e) here
      go false e rest =
          rest (omega (arith, m, ap bit e))
          ∙ decision-before children ns next after n (cull-one-kept children x ns) (cull-one-elsewhere children x ns n (eqb-false n x e))

  -- after every sequence that puts children first, document 01's sentence holds
  pub cull-along-decides : (xs : List ℕ) (ns : List Node) → ChildrenFirst children (length ns) xs → Decided children ns (cull_along children xs ns)
  cull-along-decides xs ns s = record {
    same_length = cull-along-length children xs ns;
    node-0 = cull-along-elsewhere children xs ns 0 (none (count 0 xs) refl);
    others = λ n p q. cull-along-listed xs ns (λ m. at_most m (count m xs) refl) (λ m h. (s.no_other m h).1) s.none-after-parent n
        (omega (arith, s.once n p q));
  }
    where
      none : (m : ℕ) → count 0 xs ≡ m → m ≡ 0
      none zero e = refl
      none (suc m) e = absurd (omega (arith, (s.no_other 0 (omega arith)).0))

      at_most : (n m : ℕ) → count n xs ≡ m → m ≤ 1
      at_most n zero e = omega arith
      at_most n (suc m) e = let inside = s.no_other n (omega arith) in omega (arith, s.once n inside.0 inside.1)

  -- and it leaves one answer, since children are higher
  pub decided-one-way : (ns ms ks : List Node) → Decided children ns ms → Decided children ns ks → ms ≡ ks
  decided-one-way ns ms ks p q =
      ext_get_or no_node ms ks (p.same_length ∙ sym q.same_length) (λ n l. from (length ns) n (omega arith))
    where
      past : (n : ℕ) → length ns ≤ n → node_at ms n ≡ node_at ks n
      past n h =
          get_or-eq_default ms no_node (omega (arith, p.same_length)) ∙ sym (get_or-eq_default ks no_node (omega (arith, q.same_length)))

      from : (k n : ℕ) → length ns ≤ n + k → node_at ms n ≡ node_at ks n
      from zero n h = past n (omega arith)
      from (suc k) zero h = p.node-0 ∙ sym q.node-0
      from (suc k) (suc n) h = go (ltb (suc n) (length ns)) refl (from k)
        where
          go : (b : Bool) → ltb (suc n) (length ns) ≡ b → ((c : ℕ) → length ns ≤ c + k → node_at ms c ≡ node_at ks c)
              → node_at ms (suc n) ≡ node_at ks (suc n)
          go true e rest =
              let inside = ltb-true (suc n) (length ns) e in
              p.others (suc n) (omega arith) inside
              ∙ decision-after children ns ms ks (suc n) (λ c l. rest c (omega (arith, higher (suc n) c l)))
              ∙ sym (q.others (suc n) (omega arith) inside)
          go false e rest = past (suc n) (ltb-false (suc n) (length ns) e)

-- ---- The sequence of `cull_down`

abbrev down_from : ℕ → List ℕ
down_from zero = []
down_from (suc n) = suc n ∷ down_from n

cull-down-along : (children : List (List ℕ)) (n : ℕ) (ns : List Node) → cull_down children n ns ≡ cull_along children (down_from n) ns
cull-down-along children zero ns = refl
cull-down-along children (suc n) ns = cull-down-along children n (cull_one children (suc n) ns)

count-down-above : (n a : ℕ) → n < a → count a (down_from n) ≡ 0
count-down-above zero a h = refl
count-down-above (suc n) a h = omega (arith, ap bit (ne_eqb a (suc n) (λ e. omega arith)), count-down-above n a (omega arith))

count-down-within : (n a : ℕ) → 0 < a → a ≤ n → count a (down_from n) ≡ 1
count-down-within zero a p q = absurd (omega arith)
count-down-within (suc n) a p q = go (eqb a (suc n)) refl (count-down-within n a p)
  where
    go : (b : Bool) → eqb a (suc n) ≡ b → (a ≤ n → count a (down_from n) ≡ 1) → bit b + count a (down_from n) ≡ 1
    go true e rest = omega (arith, count-down-above n a (omega (arith, eqb-true a (suc n) e)))
    go false e rest = let other = eqb-false a (suc n) e in omega (arith, rest (omega arith))

count-down-only : (n a : ℕ) → 0 < count a (down_from n) → (0 < a) × (a ≤ n)
count-down-only zero a m = absurd (omega arith)
count-down-only (suc n) a m = go (eqb a (suc n)) refl m (count-down-only n a)
  where
    go : (b : Bool) → eqb a (suc n) ≡ b → 0 < bit b + count a (down_from n) → (0 < count a (down_from n) → (0 < a) × (a ≤ n))
        → (0 < a) × (a ≤ suc n)
    go true e m rest = let here = eqb-true a (suc n) e in omega arith
    go false e m rest = let lower = rest (omega arith) in omega arith

module _ (children : List (List ℕ)) (higher : (v c : ℕ) → 0 < count c (get_or children v []) → v < c) where
  lower-no-child : (v c : ℕ) → c ≤ v → count c (get_or children v []) ≡ 0
  lower-no-child v c h = go (count c (get_or children v [])) refl
    where
      go : (m : ℕ) → count c (get_or children v []) ≡ m → m ≡ 0
      go zero e = refl
      go (suc m) e = absurd (omega (arith, higher v c (omega arith)))

  down-no-child : (v m : ℕ) → m ≤ v → All (λ c. count c (get_or children v []) ≡ 0) (down_from m)
  down-no-child v zero h = tt
  down-no-child v (suc m) h = (lower-no-child v (suc m) h, down-no-child v m (omega arith))

  down-none-after : (n : ℕ) → NoneAfterParent children (down_from n)
  down-none-after zero = tt
  down-none-after (suc n) = (down-no-child (suc n) n (omega arith), down-none-after n)

  down-children-first : (k : ℕ) → ChildrenFirst children k (down_from (k - 1))
  down-children-first k = record {
    once = λ n p q. count-down-within (k - 1) n p (omega arith);
    no_other = λ n m. let h = count-down-only (k - 1) n m in (h.0, omega arith);
    none-after-parent = down-none-after (k - 1);
  }

  -- document 01's sentence holds of what culling leaves
  pub cull-down-decides : (ns : List Node) → Decided children ns (cull_down children (length ns - 1) ns)
  cull-down-decides ns =
      rw (cull-down-along children (length ns - 1) ns)
      (cull-along-decides children higher (down_from (length ns - 1)) ns (down-children-first (length ns)))

  -- every sequence that puts children first culls as `cull_down` does
  pub cull-along-is-cull-down : (xs : List ℕ) (ns : List Node) → ChildrenFirst children (length ns) xs
      → cull_along children xs ns ≡ cull_down children (length ns - 1) ns
  cull-along-is-cull-down xs ns s =
      decided-one-way children higher ns (cull_along children xs ns) (cull_down children (length ns - 1) ns)
      (cull-along-decides children higher xs ns s) (cull-down-decides ns)

-- ---- The call, again

-- what culling a graph with a local root comes to
pub culling-decides : (g : Graph) → ((v c : ℕ) → 0 < count c (children_of g v) → v < c) → has_local_root g.nodes ≡ true
    → Decided g.children g.nodes (cull_subtrees_without_opinions g).nodes
unfolding cull_subtrees_without_opinions
culling-decides g higher root = rw root (cull-down-decides g.children higher g.nodes)
