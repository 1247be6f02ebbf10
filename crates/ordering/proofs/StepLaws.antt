-- The walk without a stack: what is left of a tree's walk at a node, and the step to the next
-- (`left_step`). So the steps from node 0 are nodes (`step-node`), and they are the walk
-- (`step-walk`). Assumes nothing.
use mathlib.Core.Path.{◌≡◌, refl, sym, ap, subst, ◌∙◌}
use mathlib.Core.Bool.{Bool, true, false, cond}
use mathlib.Core.List.{List, [], ◌∷◌, ◌++◌, append_assoc, append-nil}
use Prim.Native.Nat.{ℕ, zero, suc, ◌+◌, ◌≤◌, ◌<◌}
use native.Mathlib.Nat.{add-zero}
use native.Mathlib.Omega.{arith}
use lib.Dec.{eqb}
use lib.ListN.{length, drop, get_or, length-drop}
use lib.Seq.{drop-drop, get_or-drop}
use borrow.Author.Tests.{eqb-true, eqb-false, eq-eqb, ne_eqb}
use Rattle.model.specs.Arena.{first_of, after_in}
use Rattle.model.specs.Lists.{bit, count, pick}
use Rattle.model.specs.Node.{invalid}
use Rattle.model.specs.Order.{concat_map, walk_up_to, walk}
use Rattle.laws.proofs.LengthLaws.{length-once}
use Rattle.laws.proofs.ListLaws.{bit-eq}
use Rattle.laws.proofs.Trees.{Child, Tree, child-once}
use Rattle.laws.proofs.WalkLaws.{walk-fuel, walk-once, walk-only}
use Rattle.ordering.specs.Ordering.{onward, step_of, step_at}

-- ---- Those after x in a list

abbrev later : ℕ → List ℕ → List ℕ
later x [] = []
later x (y ∷ ys) = pick (eqb y x) ys (later x ys)

after-later : (x : ℕ) (ys : List ℕ) → after_in x ys ≡ first_of (later x ys)
after-later x [] = refl
after-later x (y ∷ ys) = go (eqb y x) (after-later x ys)
  where
    go : (t : Bool) → after_in x ys ≡ first_of (later x ys) → cond t (first_of ys) (after_in x ys) ≡ first_of (pick t ys (later x ys))
    go true e = refl
    go false e = e

later-count : (x : ℕ) (ys : List ℕ) (a : ℕ) → count a (later x ys) ≤ count a ys
later-count x [] a = omega arith
later-count x (y ∷ ys) a = go (eqb y x) (later-count x ys a)
  where
    go : (t : Bool) → count a (later x ys) ≤ count a ys → count a (pick t ys (later x ys)) ≤ bit (eqb a y) + count a ys
    go true h = omega arith
    go false h = omega arith

later_first : (x : ℕ) (ys : List ℕ) → later x (x ∷ ys) ≡ ys
later_first x ys = rw (eq-eqb x x refl)

later-skip : (x y : ℕ) (ys : List ℕ) → (x ≡ y → ⊥) → later x (y ∷ ys) ≡ later x ys
later-skip x y ys ne = rw (ne_eqb y x (λ e. ne (sym e)))

later-later : (x : ℕ) (ys : List ℕ) (z : ℕ) (zs : List ℕ) → later x ys ≡ z ∷ zs → count z ys ≤ 1 → later z ys ≡ zs
later-later x [] z zs e h = absurd (let q : ◌≡◌ {A = ℕ} 0 1 = cc in omega arith)
later-later x (y ∷ ys) z zs e h = go (eqb y x) e (λ w. later-later x ys z zs w (omega arith))
  where
    go : (t : Bool) → pick t ys (later x ys) ≡ z ∷ zs → (later x ys ≡ z ∷ zs → later z ys ≡ zs) → later z (y ∷ ys) ≡ zs
    go true w rest =
        let there : count z ys ≡ 1 + count z zs = ap (count z) w ∙ ap (λ (k : ℕ). k + count z zs) (bit-eq z z refl) in
        later-skip z y ys (λ q. omega (arith, bit-eq z y q)) ∙ ap (later z) w ∙ later_first z zs
    go false w rest =
        let there : count z (later x ys) ≡ 1 + count z zs = ap (count z) w ∙ ap (λ (k : ℕ). k + count z zs) (bit-eq z z refl) in
        later-skip z y ys (λ q. omega (arith, bit-eq z y q, later-count x ys z)) ∙ rest w

-- ---- What is left of the walk

-- what comes after all under x, by fuel above x
abbrev after_within : ℕ → (ℕ → ℕ) → (ℕ → List ℕ) → ℕ → ℕ → List ℕ
after_within n parent lists zero x = []
after_within n parent lists (suc k) x =
    pick (eqb x 0) [] (concat_map (walk_up_to lists n) (later x (lists (parent x))) ++ after_within n parent lists k (parent x))

module _ (n : ℕ) (parent : ℕ → ℕ) (lists : ℕ → List ℕ) (tree : Tree n parent lists) (few : n ≤ 1024) where
  abbrev under : ℕ → List ℕ
  under v = walk_up_to lists n v

  under-open : (v : ℕ) → v < n → under v ≡ v ∷ concat_map (walk_up_to lists n) (lists v)
  under-open v h = walk-fuel n parent lists tree n (suc n) v h (omega arith) (omega arith)

  after-fuel : (j k x : ℕ) → x < j → x < k → x < n → after_within n parent lists j x ≡ after_within n parent lists k x
  after-fuel zero k x a b h = absurd (omega arith)
  after-fuel (suc j) zero x a b h = absurd (omega arith)
  after-fuel (suc j) (suc k) x a b h = go (eqb x 0) refl (after-fuel j k (parent x))
    where
      go : (t : Bool) → eqb x 0 ≡ t
          → (parent x < j → parent x < k → parent x < n → after_within n parent lists j (parent x) ≡ after_within n parent lists k (parent x))
          → pick t [] (concat_map (walk_up_to lists n) (later x (lists (parent x))) ++ after_within n parent lists j (parent x))
          ≡ pick t [] (concat_map (walk_up_to lists n) (later x (lists (parent x))) ++ after_within n parent lists k (parent x))
      go true e above = refl
      go false e above =
          let lower = tree.lower x (omega (arith, eqb-false x 0 e)) h in
          ap (λ (l : List ℕ). concat_map (walk_up_to lists n) (later x (lists (parent x))) ++ l) (above (omega arith) (omega arith) (omega arith))

  abbrev after : ℕ → List ℕ
  after x = after_within n parent lists (suc x) x

  after_open : (x : ℕ) → 0 < x → x < n → after x ≡ concat_map (walk_up_to lists n) (later x (lists (parent x))) ++ after (parent x)
  after_open x higher h =
      let lower = tree.lower x higher h in
      let front = concat_map (walk_up_to lists n) (later x (lists (parent x))) in
      ap (λ (t : Bool). pick t [] (front ++ after_within n parent lists x (parent x))) (ne_eqb x 0 (λ e. omega arith))
      ∙ ap (λ (l : List ℕ). front ++ l) (after-fuel x (suc (parent x)) (parent x) lower (omega arith) (omega arith))

  -- nothing at no node
  abbrev left : ℕ → List ℕ
  left x = pick (eqb x invalid) [] (under x ++ after x)

  left-node : (x : ℕ) → (x ≡ invalid → ⊥) → left x ≡ under x ++ after x
  left-node x ne = rw (ne_eqb x invalid ne)

  -- a child, and those after it
  from-child : (v z : ℕ) (zs : List ℕ) → Child n parent v z → later z (lists v) ≡ zs
      → under z ++ after z ≡ (under z ++ concat_map (walk_up_to lists n) zs) ++ after v
  from-child v z zs child e =
      ap (λ (l : List ℕ). under z ++ l)
      (after_open z child.0 child.1 ∙ (λ i. concat_map (walk_up_to lists n) (later z (lists (child.2 i))) ++ after (child.2 i))
      ∙ ap (λ (l : List ℕ). concat_map (walk_up_to lists n) l ++ after v) e)
      ∙ sym (append_assoc (under z) (concat_map (walk_up_to lists n) zs) (after v))

  -- a node, or none
  abbrev Fine : ℕ → Type 0
  Fine y = (y ≡ invalid → ⊥) → y < n

  -- what is left after all under x is what is left at y
  abbrev Onward : ℕ → ℕ → Type 0
  Onward x y = (after x ≡ left y) × Fine y

  module _ (first next up : ℕ → ℕ) (parents : (x : ℕ) → 0 < x → x < n → up x ≡ parent x)
      (firsts : (x : ℕ) → x < n → first x ≡ first_of (lists x))
      (nexts : (x : ℕ) → 0 < x → x < n → next x ≡ after_in x (lists (parent x))) where
    onward-left : (k x : ℕ) → x < k → x < n → Onward x (onward next up k x)
    onward-left zero x a h = absurd (omega arith)
    onward-left (suc k) x a h = go (eqb x 0) refl (onward-left k (parent x))
      where
        goes-up : 0 < x → (ls : List ℕ) → later x (lists (parent x)) ≡ ls → (parent x < k → parent x < n → Onward (parent x) (onward next up k (parent x)))
            → Onward x (cond (eqb (first_of ls) invalid) (onward next up k (parent x)) (first_of ls))
        goes-up higher [] e above =
            let lower = tree.lower x higher h in
            let rest = above (omega arith) (omega arith) in
            (after_open x higher h ∙ ap (λ (l : List ℕ). concat_map (walk_up_to lists n) l ++ after (parent x)) e ∙ rest.0, rest.1)
        goes-up higher (z ∷ zs) e above =
            let in_list : 0 < count z (lists (parent x)) =
            omega (arith, later-count x (lists (parent x)) z, ap (count z) e, bit-eq z z refl) in
            let child = tree.only (parent x) z in_list in
            let ne : z ≡ invalid → ⊥ = λ q. omega (arith, child.1) in
            let rest : later z (lists (parent x)) ≡ zs = later-later x (lists (parent x)) z zs e (child-once n parent lists tree (parent x) z) in
            subst (λ (t : Bool). Onward x (cond t (onward next up k (parent x)) z)) (sym (ne_eqb z invalid ne)) (
              after_open x higher h ∙ ap (λ (l : List ℕ). concat_map (walk_up_to lists n) l ++ after (parent x)) e
                  ∙ sym (from-child (parent x) z zs child rest) ∙ sym (left-node z ne),
              λ q. child.1,
            )

        go : (t : Bool) → eqb x 0 ≡ t → (parent x < k → parent x < n → Onward (parent x) (onward next up k (parent x)))
            → Onward x (cond t invalid (cond (eqb (next x) invalid) (onward next up k (up x)) (next x)))
        go true e above = (ap after (eqb-true x 0 e), λ q. absurd (q refl))
        go false e above =
            let higher : 0 < x = omega (arith, eqb-false x 0 e) in
            subst (λ (y : ℕ). Onward x (cond (eqb y invalid) (onward next up k (up x)) y))
            (sym (nexts x higher h ∙ after-later x (lists (parent x))))
            (subst (λ (y : ℕ). Onward x (cond (eqb (first_of (later x (lists (parent x)))) invalid) (onward next up k y) (first_of (later x (lists (parent x))))))
            (sym (parents x higher h)) (goes-up higher (later x (lists (parent x))) refl above))

    -- x, and then what is left at the next
    abbrev Step : ℕ → ℕ → Type 0
    Step x y = (left x ≡ x ∷ left y) × Fine y

    left_step : (x : ℕ) → x < n → Step x (step_of first next up x)
    left_step x h =
        subst (λ (y : ℕ). Step x (cond (eqb y invalid) (onward next up (x + 1) x) y)) (sym (firsts x h)) (go (lists x) refl)
      where
        here : left x ≡ x ∷ (concat_map (walk_up_to lists n) (lists x) ++ after x)
        here = left-node x (λ e. omega arith) ∙ ap (λ (l : List ℕ). l ++ after x) (under-open x h)

        go : (cs : List ℕ) → lists x ≡ cs → Step x (cond (eqb (first_of cs) invalid) (onward next up (x + 1) x) (first_of cs))
        go [] e =
            let rest = onward-left (x + 1) x (omega arith) h in
            (here ∙ ap (λ (l : List ℕ). x ∷ (concat_map (walk_up_to lists n) l ++ after x)) e ∙ ap (λ (l : List ℕ). x ∷ l) rest.0, rest.1)
        go (c ∷ cs) e =
            let child = tree.only x c (omega (arith, ap (count c) e, bit-eq c c refl)) in
            let ne : c ≡ invalid → ⊥ = λ q. omega (arith, child.1) in
            let rest : later c (lists x) ≡ cs = ap (later c) e ∙ later_first c cs in
            subst (λ (t : Bool). Step x (cond t (onward next up (x + 1) x) c)) (sym (ne_eqb c invalid ne)) (
              here ∙ ap (λ (l : List ℕ). x ∷ (concat_map (walk_up_to lists n) l ++ after x)) e
                  ∙ ap (λ (l : List ℕ). x ∷ l) (sym (from-child x c cs child rest) ∙ sym (left-node c ne)),
              λ q. child.1,
            )

    -- ---- The steps from node 0

    module _ (some-node : 0 < n) where
      pub walk-length : length (walk lists n) ≡ n
      walk-length = length-once n (walk lists n) (walk-only n parent lists tree some-node) (walk-once n parent lists tree)

      abbrev at : ℕ → ℕ
      at k = step_at first next up k

      node_at : (k : ℕ) → k < n → drop k (walk lists n) ≡ left (at k) → Fine (at k) → at k < n
      node_at k h e fine =
          fine (λ none. omega (
            arith,
            walk-length,
            length-drop k (walk lists n),
            ap length (e ∙ ap (λ (t : Bool). pick t [] (under (at k) ++ after (at k))) (eq-eqb (at k) invalid none)),
          ))

      left_at : (k : ℕ) → k ≤ n → (drop k (walk lists n) ≡ left (at k)) × Fine (at k)
      left_at zero h = (sym (append-nil (walk lists n)), λ ne. some-node)
      left_at (suc k) h =
          let earlier = left_at k (omega arith) in
          let step = left_step (at k) (node_at k (omega arith) earlier.0 earlier.1) in (
            ap (λ (m : ℕ). drop m (walk lists n)) (let e : suc k ≡ k + 1 = omega arith in e) ∙ sym (drop-drop 1 k (walk lists n))
                ∙ ap (drop 1) (earlier.0 ∙ step.0),
            step.1,
          )

      pub step-node : (k : ℕ) → k < n → at k < n
      step-node k h = let here = left_at k (omega arith) in node_at k h here.0 here.1

      pub step-walk : (k : ℕ) → k < n → at k ≡ get_or (walk lists n) k 0
      step-walk k h =
          sym (ap (λ (m : ℕ). get_or (walk lists n) m 0) (sym (add-zero k)) ∙ sym (get_or-drop k (walk lists n) 0 0)
          ∙ ap (λ (l : List ℕ). get_or l 0 0) ((left_at k (omega arith)).0 ∙ (left_step (at k) (step-node k h)).0))
