-- Where the chains of two nodes part, by two walks up parents that meet: `meet-start`, `meet_left`
-- and `meet_right` are the steps, `meet-above`, `meet_below` and `meet-apart` the ends. The higher
-- of two numbers goes up, so neither walk passes the meeting node. `parts-by`: what is said of two
-- chains is said of their parting. Assumes nothing.
use mathlib.Core.Path.{◌≡◌, refl, sym, ap, ◌∙◌}
use mathlib.Core.List.{List, [], ◌∷◌, ◌++◌, append_assoc}
use mathlib.Core.Logic.{◌⊎◌, inl, inr}
use Prim.Native.Nat.{ℕ, ◌≤◌, ◌<◌}
use native.Mathlib.Omega.{arith}
use Rattle.model.specs.ArenaCalls.{ValidNode}
use Rattle.std.specs.declared.cmp.Ordering.TheVariants.{Less, Equal, Greater}
use Rattle.model.specs.Strength.{View, chain, parting_by, compare_node_strength, compare_sibling_node_strength}
use Rattle.laws.proofs.Views.{LegalView}
use Rattle.laws.proofs.FollowLaws.{chain-step}
use Rattle.laws.proofs.StrengthLaws.{compare-nodes-parting, parting-same, parting-above, parting-below, parting-apart}
use Rattle.view.specs.View.{view_in}
use Rattle.view.proofs.ViewLaws.{legal, readable-lower}
use Rattle.view.specs.declared.parting.Parting.{Parting}
use Rattle.view.specs.declared.parting.Parting.TheVariants.{Same, Above, Below, Apart}
use Rattle.view.specs.Walks.{parted_at, compared_at, Parts}

-- ---- One walk

-- it has gone up from a to x, last from l; y is where the other walk is
pub record Stepped (u : View) (a x l y : ℕ) : Type 0 where
  pub tail : List ℕ
  pub whole : chain u.parent a ≡ chain u.parent x ++ (l ∷ tail)
  pub here : u.parent l ≡ x
  pub up : x < l
  pub within : l ≤ a
  pub past : y < l

-- or stands where it began
abbrev pub Climbed : View → ℕ → ℕ → ℕ → ℕ → Type 0
Climbed u a x l y = ((x ≡ a) × (l ≡ a)) ⊎ Stepped u a x l y

climbed-le : {u : View} {a x l y : ℕ} → Climbed u a x l y → x ≤ a
climbed-le (inl e) = omega arith
climbed-le (inr s) = omega arith

-- the other walk goes up
lowered : {u : View} {a x l y z : ℕ} → z ≤ y → Climbed u a x l y → Climbed u a x l z
lowered h (inl e) = inl e
lowered h (inr s) =
    inr (record { tail = s.tail; whole = s.whole; here = s.here; up = s.up; within = s.within; past = omega arith })

-- the higher of the two is not where the other walk was last
other : {u : View} {b y l x : ℕ} → y < x → Climbed u b y l x → x ≡ l → ⊥
other h (inl e) q = omega arith
other h (inr s) q = omega arith

-- this one goes up
raised : {n : ℕ} {u : View} → LegalView n u → {a x l y : ℕ} → a < n → y < x → Climbed u a x l y → Climbed u a (u.parent x) x y
raised {u = u} legal {x = x} p h (inl e) =
    inr
    (record {
      tail = [];
      whole = ap (chain u.parent) (sym e.0) ∙ chain-step legal.parent-lower x (omega arith) (omega arith);
      here = refl;
      up = legal.parent-lower x (omega arith) (omega arith);
      within = omega arith;
      past = h;
    })
raised {u = u} legal {x = x} {l = l} p h (inr s) =
    inr
    (record {
      tail = l ∷ s.tail;
      whole =
          s.whole ∙ ap (λ (c : List ℕ). c ++ (l ∷ s.tail)) (chain-step legal.parent-lower x (omega arith) (omega arith))
          ∙ append_assoc (chain u.parent (u.parent x)) (x ∷ []) (l ∷ s.tail);
      here = refl;
      up = legal.parent-lower x (omega arith) (omega arith);
      within = omega arith;
      past = h;
    })

-- ---- Two walks on their way to where the chains of a and b meet

-- they have come to x and y, last from l and r
pub record Meeting (bs : List ℕ) (a b x y l r : ℕ) : Type 0 where
  pub first : ValidNode bs a
  pub second : ValidNode bs b
  pub left : Climbed (view_in bs) a x l y
  pub right : Climbed (view_in bs) b y r x
  pub differ : l ≡ r → ⊥

pub part_same : (u : View) (a b : ℕ) → a ≡ b → Parts u a b Same
part_same u a b e = record { chains = ap (chain u.parent) e; apart = tt }

pub meet-start : (bs : List ℕ) (a b : ℕ) → ValidNode bs a → ValidNode bs b → (a ≡ b → ⊥) → Meeting bs a b a b a b
meet-start bs a b f g h = record { first = f; second = g; left = inl (refl, refl); right = inl (refl, refl); differ = h }

module _ {bs : List ℕ} {a b x y l r : ℕ} (m : Meeting bs a b x y l r) where
  pub left-readable : ValidNode bs x
  left-readable = readable-lower bs a x m.first (climbed-le m.left)

  pub right-readable : ValidNode bs y
  right-readable = readable-lower bs b y m.second (climbed-le m.right)

  module _ (h : y ≤ x) (d : x ≡ y → ⊥) {parent : ℕ} (e : parent ≡ (view_in bs).parent x) where
    pub left-falls : parent < x
    left-falls = rw e ((legal bs m.first.opened).parent-lower x (omega arith) left-readable.below)

    pub meet_left : Meeting bs a b parent y x r
    meet_left =
        let falls = left-falls in
        record {
          first = m.first;
          second = m.second;
          left = rw e (raised (legal bs m.first.opened) m.first.below (omega arith) m.left);
          right = lowered (omega arith) m.right;
          differ = other (omega arith) m.right;
        }

  module _ (h : x < y) {parent : ℕ} (e : parent ≡ (view_in bs).parent y) where
    pub right-falls : parent < y
    right-falls = rw e ((legal bs m.second.opened).parent-lower y (omega arith) right-readable.below)

    pub meet_right : Meeting bs a b x parent l y
    meet_right =
        let falls = right-falls in
        record {
          first = m.first;
          second = m.second;
          left = lowered (omega arith) m.left;
          right = rw e (raised (legal bs m.second.opened) m.second.below h m.right);
          differ = λ q. other h m.left (sym q);
        }

  -- ---- Where they meet

  module _ (e : x ≡ y) where
    pub meet-above : x ≡ a → Parts (view_in bs) a b Above
    meet-above f = go m.left m.right
      where
        go : Climbed (view_in bs) a x l y → Climbed (view_in bs) b y r x → Parts (view_in bs) a b Above
        go (inl s) (inl t) = absurd (m.differ (omega arith))
        go (inl s) (inr t) =
            let whole = t.whole ∙ ap (λ (c : ℕ). chain (view_in bs).parent c ++ (r ∷ t.tail)) (sym e ∙ f) in
            record { chains = record { next = r; rest = t.tail; whole = whole }; apart = tt }
        go (inr s) t = absurd (omega arith)

    module _ (h : x ≡ a → ⊥) where
      pub meet_below : x ≡ b → Parts (view_in bs) a b Below
      meet_below f = go m.left
        where
          go : Climbed (view_in bs) a x l y → Parts (view_in bs) a b Below
          go (inl s) = absurd (h s.0)
          go (inr s) =
              let whole = s.whole ∙ ap (λ (c : ℕ). chain (view_in bs).parent c ++ (l ∷ s.tail)) f in
              record { chains = record { next = l; rest = s.tail; whole = whole }; apart = tt }

      pub meet-apart : (x ≡ b → ⊥) → Parts (view_in bs) a b (Apart l r)
      meet-apart k = go m.left m.right
        where
          go : Climbed (view_in bs) a x l y → Climbed (view_in bs) b y r x → Parts (view_in bs) a b (Apart l r)
          go (inl s) t = absurd (h s.0)
          go (inr s) (inl t) = absurd (k (e ∙ t.0))
          go (inr s) (inr t) =
              let whole = t.whole ∙ ap (λ (c : ℕ). chain (view_in bs).parent c ++ (r ∷ t.tail)) (sym e) in
              record {
                chains =
                    record { front = chain (view_in bs).parent x; left = s.tail; right = t.tail; first = s.whole; second = whole };
                apart =
                    record {
                      left = (omega arith, s.within);
                      right = (omega arith, t.within);
                      parents = s.here ∙ e ∙ sym t.here;
                      differ = m.differ;
                    };
              }

-- ---- What is said where they part

module _ (u : View) (a b : ℕ) where
  -- whatever is said of two chains is said of their parting
  pub parts-by : {A : Type 0} (same above below : A) (siblings : ℕ → ℕ → A) (r : Parting) → Parts u a b r
      → parting_by same above below siblings (chain u.parent a) (chain u.parent b) ≡ parted_at same above below siblings r
  parts-by same above below siblings Same p = rw p.chains (parting-same same above below siblings (chain u.parent b))
  parts-by same above below siblings Above p =
      let on = p.chains in
      rw on.whole (parting-above same above below siblings (chain u.parent a) on.next on.rest)
  parts-by same above below siblings Below p =
      let on = p.chains in
      rw on.whole (parting-below same above below siblings (chain u.parent b) on.next on.rest)
  parts-by same above below siblings (Apart x y) p =
      let split = p.chains in
      rw (split.first, split.second)
      (parting-apart same above below siblings split.front x y split.left split.right p.apart.differ)

  -- so is their comparison
  pub parts-compare : (r : Parting) → Parts u a b r → compare_node_strength u a b ≡ compared_at (compare_sibling_node_strength u) r
  parts-compare r p = compare-nodes-parting u a b ∙ parts-by Equal Less Greater (compare_sibling_node_strength u) r p
