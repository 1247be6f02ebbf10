-- What the laws of the comparison ask of a view: `LegalView`, that links go to lower nodes; and
-- `LooksLike`, that one view cannot be told from another under a renumbering that keeps the order;
-- and the case that nodes keep their numbers and all but their paths. Assumes nothing.
use mathlib.Core.Path.{◌≡◌, refl, ap}
use mathlib.Core.Bool.{Bool, true}
use mathlib.Core.List.{List}
use Prim.Native.Nat.{ℕ, ◌<◌}
use lib.Dec.{eqb, ltb}
use Rattle.model.specs.Node.{Node, has_specializes, changed}
use Rattle.model.specs.Graph.{node_at, is_local_root}
use Rattle.model.specs.Strength.{View, arc_rank, view}

-- n nodes, each but 0 with a lower parent and a lower origin
pub record LegalView (n : ℕ) (u : View) : Type 0 where
  pub parent-lower : (c : ℕ) → 0 < c → c < n → u.parent c < c
  pub origin-lower : (c : ℕ) → 0 < c → c < n → u.origin c < c

-- the kept of u's n nodes, numbered anew by r, are nodes of v that look the same
pub record LooksLike (n : ℕ) (keep : ℕ → Bool) (r : ℕ → ℕ) (u v : View) : Type 0 where
  pub root_kept : keep 0 ≡ true
  pub root-stays : r 0 ≡ 0
  pub same_number : (a b : ℕ) → keep a ≡ true → keep b ≡ true → eqb (r a) (r b) ≡ eqb a b
  pub same-sequence : (a b : ℕ) → keep a ≡ true → keep b ≡ true → ltb (r a) (r b) ≡ ltb a b
  pub parent-kept : (c : ℕ) → 0 < c → c < n → keep c ≡ true → keep (u.parent c) ≡ true
  pub origin-kept : (c : ℕ) → 0 < c → c < n → keep c ≡ true → keep (u.origin c) ≡ true
  pub parents : (c : ℕ) → 0 < c → c < n → keep c ≡ true → v.parent (r c) ≡ r (u.parent c)
  pub origins : (c : ℕ) → 0 < c → c < n → keep c ≡ true → v.origin (r c) ≡ r (u.origin c)
  pub ranks : (a : ℕ) → a < n → keep a ≡ true → v.rank (r a) ≡ u.rank a
  pub arcs : (a : ℕ) → a < n → keep a ≡ true → v.arc (r a) ≡ u.arc a
  pub specials : (a : ℕ) → a < n → keep a ≡ true → v.special (r a) ≡ u.special a
  pub depths : (a : ℕ) → a < n → keep a ≡ true → v.depth (r a) ≡ u.depth a
  pub siblings : (a : ℕ) → a < n → keep a ≡ true → v.sibling (r a) ≡ u.sibling a
  pub sites : (a b : ℕ) → a < n → b < n → keep a ≡ true → keep b ≡ true → v.same_site (r a) (r b) ≡ u.same_site a b
  pub depths-below : (a b : ℕ) → a < n → b < n → keep a ≡ true → keep b ≡ true → v.same_depth_below (r a) (r b) ≡ u.same_depth_below a b
  pub local-roots : (a : ℕ) → a < n → keep a ≡ true → v.local_root (r a) ≡ u.local_root a
  pub local-stacks : (a : ℕ) → a < n → keep a ≡ true → v.local_stack (r a) ≡ u.local_stack a

-- n nodes of ns are nodes of ms, under the same numbers and but for their paths
pub record SameButPaths (n : ℕ) (ns ms : List Node) : Type 0 where
  pub path : ℕ → List ℕ
  pub same : (c : ℕ) → c < n → node_at ms c
      ≡ changed (node_at ns c).flags (node_at ns c).parent (node_at ns c).origin (path c) (node_at ns c)

module _ (n : ℕ) (ns ms : List Node) (s : SameButPaths n ns ms) where
  pub local-root-same : (c : ℕ) → c < n → is_local_root ms c ≡ is_local_root ns c
  unfolding is_local_root
  local-root-same c h = rw (s.same c h)

  -- they look the same where their sites, depths below introduction and stacks do
  pub same-but-paths-looks-like : ((a b : ℕ) → a < n → b < n → (view ms).same_site a b ≡ (view ns).same_site a b)
      → ((a b : ℕ) → a < n → b < n → (view ms).same_depth_below a b ≡ (view ns).same_depth_below a b)
      → ((a : ℕ) → a < n → (view ms).local_stack a ≡ (view ns).local_stack a) → LooksLike n (λ c. true) (λ c. c) (view ns) (view ms)
  same-but-paths-looks-like sites depths-below local-stacks = record {
    root_kept = refl;
    root-stays = refl;
    same_number = λ a b k j. refl;
    same-sequence = λ a b k j. refl;
    parent-kept = λ c h l k. refl;
    origin-kept = λ c h l k. refl;
    parents = λ c h l k. ap (λ (x : Node). x.parent) (s.same c l);
    origins = λ c h l k. ap (λ (x : Node). x.origin) (s.same c l);
    ranks = λ a l k. ap (λ (x : Node). arc_rank x.arc) (s.same a l);
    arcs = λ a l k. ap (λ (x : Node). x.arc) (s.same a l);
    specials = λ a l k. ap has_specializes (s.same a l);
    depths = λ a l k. ap (λ (x : Node). x.depth) (s.same a l);
    siblings = λ a l k. ap (λ (x : Node). x.sibling) (s.same a l);
    sites = λ a b l m k j. sites a b l m;
    depths-below = λ a b l m k j. depths-below a b l m;
    local-roots = λ a l k. local-root-same a l;
    local-stacks = λ a l k. local-stacks a l;
  }
