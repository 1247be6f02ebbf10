-- The two comparisons' answers from their parts: a verdict on two siblings, and where the chains of
-- two nodes part. Assumes nothing.
use mathlib.Core.Path.{◌≡◌, refl, sym, ap, ◌∙◌}
use mathlib.Core.List.{List}
use Prim.Native.Nat.{ℕ, ◌+◌, ◌≤◌, ◌<◌}
use native.Mathlib.Omega.{arith}
use Rattle.std.specs.declared.cmp.Ordering.{Ordering}
use Rattle.model.specs.Strength.{View, first, smaller, compare_sibling_node_strength, compare_node_strength, sibling_lines}
use Rattle.laws.proofs.StrengthLaws.{compare-siblings-lines, compare_same}
use Rattle.view.specs.View.{view_in, ValidNodeAndRoot}
use Rattle.view.proofs.ViewLaws.{legal, standing-lower}
use Rattle.view.specs.declared.parting.Parting.{Parting}
use Rattle.view.specs.declared.parting.Parting.TheVariants.{Apart}
use Rattle.view.specs.Walks.{Siblings, compared_at, Parts}
use Rattle.view.proofs.PartingLaws.{parts-compare}
use Rattle.model.specs.declared.Verdict.{Verdict}
use Rattle.model.specs.declared.Verdict.TheVariants.{Settled, Ask}
use Rattle.strength.specs.Verdicts.{Pair, resolve, DecidedBy}
use Rattle.strength.proofs.SiblingLines.{ranks-differ}

-- ---- Siblings: `v` is what the lines say, `w` its form that was matched

pub siblings-resolved : {bs : List ℕ} {root a b : ℕ} → Pair bs root a b → (v w : Verdict) → v ≡ w → DecidedBy (sibling_lines (view_in bs)) bs a b v
    → resolve (compare_node_strength (view_in bs)) w ≡ compare_sibling_node_strength (view_in bs) a b
siblings-resolved {bs} {root} {a} {b} pair v w told weighed =
    let u = view_in bs in
    ap (resolve (compare_node_strength u)) (sym told) ∙ weighed.agrees (compare_node_strength u)
    ∙ sym (compare-siblings-lines (legal bs pair.left.readable.opened) a b pair.left-above pair.right-above pair.left.readable.below pair.right.readable.below)

-- a node asked with itself is Equal
pub asked-itself : {bs : List ℕ} {root a b : ℕ} → Pair bs root a b → (v : Verdict) {x y : ℕ} {o : Ordering} → v ≡ Ask x y o → x ≡ y
    → DecidedBy (sibling_lines (view_in bs)) bs a b v → o ≡ compare_sibling_node_strength (view_in bs) a b
asked-itself {bs} pair v {x} {y} {o} told same weighed =
    sym (ap (λ (r : Ordering). first r o) (ap (compare_node_strength (view_in bs) x) (sym same) ∙ compare_same (view_in bs) x))
    ∙ siblings-resolved pair v (Ask x y o) told weighed

-- the nodes asked stand in the graph, and their sum is lower
pub asked-lower : {bs : List ℕ} {root a b : ℕ} → Pair bs root a b → (v : Verdict) {x y : ℕ} {o : Ordering} → v ≡ Ask x y o
    → DecidedBy (sibling_lines (view_in bs)) bs a b v → ValidNodeAndRoot bs root x × ValidNodeAndRoot bs root y × (x + y < a + b)
asked-lower pair v told weighed =
    let asks = rw told at weighed.asks in (
      record { readable = asks.0; root-read = pair.left.root-read },
      record { readable = asks.1; root-read = pair.left.root-read },
      asks.2,
    )

-- ranks that differ settle two siblings
pub ranks-settle : {bs : List ℕ} {root a b : ℕ} → Pair bs root a b → {o : Ordering} → ((view_in bs).rank a ≡ (view_in bs).rank b → ⊥)
    → o ≡ smaller ((view_in bs).rank a) ((view_in bs).rank b) → o ≡ compare_sibling_node_strength (view_in bs) a b
ranks-settle {bs} {root} {a} {b} pair {o} differ line = siblings-resolved pair (Settled o) (Settled o) refl (ranks-differ (view_in bs) bs a b differ line)

-- ---- Nodes: `p` is where their chains part, `q` its form that was matched

pub nodes-compared : (u : View) (a b : ℕ) (p q : Parting) → p ≡ q → Parts u a b p
    → compared_at (compare_sibling_node_strength u) q ≡ compare_node_strength u a b
nodes-compared u a b p q told parts = ap (compared_at (compare_sibling_node_strength u)) (sym told) ∙ sym (parts-compare u a b p parts)

pub parted-pair : {bs : List ℕ} {root a b : ℕ} → ValidNodeAndRoot bs root a → ValidNodeAndRoot bs root b → (p : Parting) {x y : ℕ} → p ≡ Apart x y → Parts (view_in bs) a b p
    → Pair bs root x y × (x + y ≤ a + b)
parted-pair {bs} {root} {a} {b} left right p {x} {y} told parts =
    let siblings : Siblings (view_in bs) a b x y = rw told at parts.apart in (
      record {
        left = standing-lower bs root a x left siblings.left.1;
        right = standing-lower bs root b y right siblings.right.1;
        left-above = siblings.left.0;
        right-above = siblings.right.0;
        parents = siblings.parents;
      },
      omega (arith, siblings.left, siblings.right),
    )
