-- The erasable set in document 01's own words, and demand 3's: it is marked, spares the parent and
-- the origin of what stays, and every set that does lies within it. Assumes nothing.
use mathlib.Core.Path.{◌≡◌, refl, sym, ◌∙◌}
use mathlib.Core.Logic.{◌↔◌}
use mathlib.Core.Bool.{Bool, true, false, not, ◌||◌, ◌&&◌, true≢false, false≢true, and-false}
use mathlib.Core.List.{List}
use Prim.Native.Nat.{ℕ, zero, suc, ◌-◌, ◌≤◌, ◌<◌}
use native.Mathlib.Omega.{arith}
use lib.Dec.{eqb}
use lib.ListN.{length}
use borrow.Author.Tests.{eqb-true, eqb-false, eq-eqb, not-true, not-false}
use Rattle.model.specs.Node.{Node, is_culled}
use Rattle.model.specs.Graph.{node_at, depth_below_introduction}
use Rattle.model.specs.Strength.{view}
use Rattle.model.specs.Culling.{is_marked, keep_links, keep_down, is_erasable}
use Rattle.laws.proofs.Views.{LegalView}

-- "reached from any unmarked node by parent and origin steps"; node 0 has no parent and no origin
pub data Reached (ns : List Node) : ℕ → Type 0 where
  unmarked : {n : ℕ} → n < length ns → is_marked ns n ≡ false → Reached ns n
  as-parent : (c : ℕ) → 0 < c → Reached ns c → Reached ns (node_at ns c).parent
  as-origin : (c : ℕ) → 0 < c → Reached ns c → Reached ns (node_at ns c).origin

-- a set of marked nodes that no node outside it has as parent or origin
pub record Spared (ns : List Node) (goes : ℕ → Bool) : Type 0 where
  pub all-marked : (n : ℕ) → n < length ns → goes n ≡ true → is_marked ns n ≡ true
  pub no-parent : (c : ℕ) → 0 < c → c < length ns → goes c ≡ false → goes (node_at ns c).parent ≡ false
  pub no_origin : (c : ℕ) → 0 < c → c < length ns → goes c ≡ false → goes (node_at ns c).origin ≡ false

-- ---- One step of the pass

or_left : (a b : Bool) → a ≡ true → (a || b) ≡ true
or_left true b e = refl
or_left false b e = absurd (false≢true e)

or_right : (a b : Bool) → b ≡ true → (a || b) ≡ true
or_right true b e = refl
or_right false b e = e

module _ (ns : List Node) where
  -- what is kept after node n's step was kept before, or is a link of n
  keep-links-cases : (n : ℕ) (kept : ℕ → Bool) (x : ℕ) (P : Type 0) → keep_links ns n kept x ≡ true
      → (kept x ≡ true → P) → (kept n ≡ true → x ≡ (node_at ns n).parent → P) → (kept n ≡ true → x ≡ (node_at ns n).origin → P) → P
  keep-links-cases n kept x P h before parent origin =
      go (kept x) refl (kept n) refl (eqb x (node_at ns n).parent) refl (eqb x (node_at ns n).origin) refl h
    where
      go : (a : Bool) → kept x ≡ a → (b : Bool) → kept n ≡ b → (p : Bool) → eqb x (node_at ns n).parent ≡ p
          → (o : Bool) → eqb x (node_at ns n).origin ≡ o → (a || (b && (p || o))) ≡ true → P
      go true e b f p g o k t = before e
      go false e true f true g o k t = parent f (eqb-true x (node_at ns n).parent g)
      go false e true f false g true k t = origin f (eqb-true x (node_at ns n).origin k)
      go false e true f false g false k t = absurd (false≢true t)
      go false e false f p g o k t = absurd (false≢true t)

  keep-links-parent : (n : ℕ) (kept : ℕ → Bool) → kept n ≡ true → keep_links ns n kept (node_at ns n).parent ≡ true
  keep-links-parent n kept e =
      or_right (kept (node_at ns n).parent) _ (rw (e, eq-eqb (node_at ns n).parent (node_at ns n).parent refl))

  keep-links-origin : (n : ℕ) (kept : ℕ → Bool) → kept n ≡ true → keep_links ns n kept (node_at ns n).origin ≡ true
  keep-links-origin n kept e =
      or_right (kept (node_at ns n).origin) _
      (rw e (or_right (eqb (node_at ns n).origin (node_at ns n).parent) _ (eq-eqb (node_at ns n).origin (node_at ns n).origin refl)))

  -- ---- The pass

  keep-down-grows : (m : ℕ) (kept : ℕ → Bool) (x : ℕ) → kept x ≡ true → keep_down ns m kept x ≡ true
  keep-down-grows zero kept x e = e
  keep-down-grows (suc m) kept x e = keep-down-grows m (keep_links ns (suc m) kept) x (or_left (kept x) _ e)

  -- both links of c are kept
  abbrev LinksKept : (ℕ → Bool) → ℕ → Type 0
  LinksKept kept c = (kept (node_at ns c).parent ≡ true) × (kept (node_at ns c).origin ≡ true)

  -- what the whole pass keeps
  abbrev staying : ℕ → Bool
  staying n = keep_down ns (length ns - 1) (λ x. not (is_marked ns x)) n

module _ (ns : List Node) (legal : LegalView (length ns) (view ns)) where
  -- the steps from m down put in no node from m on
  keep-down-lower : (m : ℕ) (kept : ℕ → Bool) (x : ℕ) → m < length ns → m ≤ x → keep_down ns m kept x ≡ true → kept x ≡ true
  keep-down-lower zero kept x p q e = e
  keep-down-lower (suc m) kept x p q e =
      keep-links-cases ns (suc m) kept x (kept x ≡ true)
      (keep-down-lower m (keep_links ns (suc m) kept) x (omega arith) (omega arith) e)
      (λ h. h)
      (λ h g. absurd (omega (arith, legal.parent-lower (suc m) (omega arith) p)))
      (λ h g. absurd (omega (arith, legal.origin-lower (suc m) (omega arith) p)))

  keep-down-closed : (m : ℕ) (kept : ℕ → Bool) (c : ℕ) → m < length ns → 0 < c → c ≤ m → keep_down ns m kept c ≡ true
      → LinksKept ns (keep_down ns m kept) c
  keep-down-closed zero kept c p q r e = absurd (omega arith)
  keep-down-closed (suc m) kept c p q r e = go (eqb c (suc m)) refl (keep-down-closed m (keep_links ns (suc m) kept) c (omega arith) q)
    where
      go : (b : Bool) → eqb c (suc m) ≡ b → (c ≤ m → keep_down ns (suc m) kept c ≡ true → LinksKept ns (keep_down ns (suc m) kept) c)
          → LinksKept ns (keep_down ns (suc m) kept) c
      go true f rest =
          rw at-m (
            keep-down-grows ns m (keep_links ns (suc m) kept) (node_at ns (suc m)).parent (keep-links-parent ns (suc m) kept here),
            keep-down-grows ns m (keep_links ns (suc m) kept) (node_at ns (suc m)).origin (keep-links-origin ns (suc m) kept here),
          )
        where
          at-m : c ≡ suc m
          at-m = eqb-true c (suc m) f

          here : kept (suc m) ≡ true
          here = keep-down-lower (suc m) kept (suc m) p (omega arith) (rw at-m at e)
      go false f rest = let other = eqb-false c (suc m) f in rest (omega arith) e

  -- what the pass keeps has each property that the kept had at first and that links inherit
  keep-down-inherits : (P : ℕ → Type 0) → ((c : ℕ) → 0 < c → c < length ns → P c → P (node_at ns c).parent)
      → ((c : ℕ) → 0 < c → c < length ns → P c → P (node_at ns c).origin)
      → (m : ℕ) (kept : ℕ → Bool) → m < length ns → ((x : ℕ) → kept x ≡ true → P x) → (x : ℕ) → keep_down ns m kept x ≡ true → P x
  keep-down-inherits P parent origin zero kept p h x e = h x e
  keep-down-inherits P parent origin (suc m) kept p h x e =
      keep-down-inherits P parent origin m (keep_links ns (suc m) kept) (omega arith)
      (λ y f. keep-links-cases ns (suc m) kept y (P y) f (h y)
      (λ g q. rw q (parent (suc m) (omega arith) p (h (suc m) g)))
      (λ g q. rw q (origin (suc m) (omega arith) p (h (suc m) g)))) x e

  -- ---- The pass computes what is reached

  staying-reached : 0 < length ns → (n : ℕ) → n < length ns → staying ns n ≡ true → Reached ns n
  staying-reached z n p e =
      keep-down-inherits (λ x. x < length ns → Reached ns x)
      (λ c q r h b. as-parent c q (h r)) (λ c q r h b. as-origin c q (h r))
      (length ns - 1) (λ x. not (is_marked ns x)) (omega arith) (λ x f b. unmarked b (not-true (is_marked ns x) f)) n e p

  reached-below : (n : ℕ) → Reached ns n → n < length ns
  reached-below n (unmarked p e) = p
  reached-below n (as-parent c q r) = let b = reached-below c r in omega (arith, legal.parent-lower c q b)
  reached-below n (as-origin c q r) = let b = reached-below c r in omega (arith, legal.origin-lower c q b)

  staying-closed : (c : ℕ) → 0 < c → c < length ns → staying ns c ≡ true → LinksKept ns (staying ns) c
  staying-closed c q b e = keep-down-closed (length ns - 1) (λ x. not (is_marked ns x)) c (omega arith) q (omega arith) e

  reached-stays : (n : ℕ) → Reached ns n → staying ns n ≡ true
  reached-stays n (unmarked p e) = keep-down-grows ns (length ns - 1) (λ x. not (is_marked ns x)) n (rw e)
  reached-stays n (as-parent c q r) = (staying-closed c q (reached-below c r) (reached-stays c r)).0
  reached-stays n (as-origin c q r) = (staying-closed c q (reached-below c r) (reached-stays c r)).1

  -- ---- The laws

  -- "marked and not reached from any unmarked node by parent and origin steps"
  pub erasable-not-reached : 0 < length ns → (n : ℕ) → n < length ns
      → is_erasable ns n ≡ true ↔ ((is_marked ns n ≡ true) × (Reached ns n → ⊥))
  unfolding is_erasable
  erasable-not-reached z n p = (there, back)
    where
      there : is_erasable ns n ≡ true → (is_marked ns n ≡ true) × (Reached ns n → ⊥)
      there e = (go (is_marked ns n) refl, never)
        where
          never : Reached ns n → ⊥
          never r = true≢false (sym (reached-stays n r) ∙ not-true _ e)

          go : (b : Bool) → is_marked ns n ≡ b → b ≡ true
          go true f = refl
          go false f = absurd (never (unmarked p f))

      back : (is_marked ns n ≡ true) × (Reached ns n → ⊥) → is_erasable ns n ≡ true
      back h = go (staying ns n) refl
        where
          go : (b : Bool) → staying ns n ≡ b → not b ≡ true
          go true f = absurd (h.1 (staying-reached z n p f))
          go false f = refl

  -- what is erasable is marked, and no node that stays has it as parent or origin
  pub erasable-spared : 0 < length ns → Spared ns (is_erasable ns)
  unfolding is_erasable
  erasable-spared z = record {
    all-marked = λ n p e. ((erasable-not-reached z n p).0 e).0;
    no-parent = λ c q p e. rw (staying-closed c q p (not-false _ e)).0;
    no_origin = λ c q p e. rw (staying-closed c q p (not-false _ e)).1;
  }

  spared-not-reached : (goes : ℕ → Bool) → Spared ns goes → (n : ℕ) → Reached ns n → goes n ≡ false
  spared-not-reached goes s n (unmarked p e) = go (goes n) refl
    where
      go : (b : Bool) → goes n ≡ b → b ≡ false
      go true f = absurd (true≢false (sym (s.all-marked n p f) ∙ e))
      go false f = refl
  spared-not-reached goes s n (as-parent c q r) = s.no-parent c q (reached-below c r) (spared-not-reached goes s c r)
  spared-not-reached goes s n (as-origin c q r) = s.no_origin c q (reached-below c r) (spared-not-reached goes s c r)

  -- every set of marked nodes that no node outside it has as parent or origin lies within the
  -- erasable set
  pub erasable-largest : 0 < length ns → (goes : ℕ → Bool) → Spared ns goes → (n : ℕ) → n < length ns → goes n ≡ true → is_erasable ns n ≡ true
  erasable-largest z goes s n p e =
      (erasable-not-reached z n p).1 (s.all-marked n p e, λ r. true≢false (sym e ∙ spared-not-reached goes s n r))

-- ---- What is not marked

-- node 0's depth below introduction is 0
pub node-0-unmarked : (ns : List Node) → is_marked ns 0 ≡ false
unfolding is_marked depth_below_introduction
node-0-unmarked ns = simp and-false

-- CULLED is needed
pub unculled-unmarked : (ns : List Node) (n : ℕ) → is_culled (node_at ns n) ≡ false → is_marked ns n ≡ false
unfolding is_marked
unculled-unmarked ns n e = rw e

pub unmarked-not-erasable : (ns : List Node) (n : ℕ) → is_marked ns n ≡ false → is_erasable ns n ≡ false
unfolding is_erasable
unmarked-not-erasable ns n e = rw (keep-down-grows ns (length ns - 1) (λ x. not (is_marked ns x)) n (rw e))
