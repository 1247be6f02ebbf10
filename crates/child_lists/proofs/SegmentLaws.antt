-- Lists that stand in an array one after the other (`Segments`) are its parts (`part_right`), and
-- the links that `link_lists` makes of a tree's lists are theirs: `first-right`, `last-right`,
-- `next-right`, `next-of-root`. All lists of a tree are no longer than there are nodes
-- (`flat-within`). Assumes nothing.
use mathlib.Core.Path.{◌≡◌, refl, sym, ap, subst, ◌∙◌}
use mathlib.Core.Logic.{◌⊎◌, inl, inr}
use mathlib.Core.Bool.{Bool, true, false}
use mathlib.Core.List.{List, [], ◌∷◌, ◌++◌, append_assoc}
use Prim.Native.Nat.{ℕ, zero, suc, ◌+◌, ◌≤◌, ◌<◌}
use native.Mathlib.Nat.{eq-or-lt_of_le}
use native.Mathlib.Omega.{arith}
use lib.Dec.{eqb}
use lib.ListN.{length, take, drop, get_or, set, length-set, length-append, take-append-drop, get_or-append}
use lib.Seq.{slice, take-append_seam, take-append-add, drop-append_seam, get_or-set_same}
use borrow.Author.Tests.{eqb-true, eqb-false}
use Rattle.model.specs.Arena.{first_of, last_of, after_in}
use Rattle.model.specs.Lists.{All, count}
use Rattle.model.specs.Node.{invalid}
use Rattle.laws.proofs.ListLaws.{bit-ne, count-append, all-imp, all_append}
use Rattle.laws.proofs.LengthLaws.{length-at-most-once}
use Rattle.laws.proofs.Trees.{Child, Tree, all-children, child-count, child-once}
use Rattle.child_lists.specs.Links.{flat, Segments, start_of, part, Parted, nexts_set, nexts_made, Linked}
use Rattle.child_lists.proofs.LinkLaws.{nexts-length, nexts-outside, nexts-inside}

pub all-place : (P : ℕ → Type 0) (xs : List ℕ) (k : ℕ) → All P xs → k < length xs → P (get_or xs k 0)
all-place P [] k all h = absurd (omega arith)
all-place P (x ∷ xs) zero all h = all.0
all-place P (x ∷ xs) (suc k) all h = all-place P xs k all.1 (omega arith)

slice-between : (xs ys zs : List ℕ) (s e : ℕ) → s ≡ length xs → e ≡ length xs + length ys → slice s e (xs ++ (ys ++ zs)) ≡ ys
slice-between xs ys zs s e start end =
    (λ i. slice (start i) (end i) (xs ++ (ys ++ zs)))
    ∙ ap (drop (length xs)) (take-append-add xs (ys ++ zs) (length ys) ∙ ap (λ (l : List ℕ). xs ++ l) (take-append_seam ys zs)) ∙ drop-append_seam xs ys

-- ---- The lists of all parents, one after the other

module _ (lists : ℕ → List ℕ) where
  flat-longer : (k m : ℕ) → k ≤ m → length (flat lists k) ≤ length (flat lists m)
  flat-longer k zero h = rw (let e : k ≡ 0 = omega arith in e) (omega arith)
  flat-longer k (suc m) h = go (flat-longer k m) (eq-or-lt_of_le {n = k} {m = suc m} h)
    where
      go : (k ≤ m → length (flat lists k) ≤ length (flat lists m)) → (k ≡ suc m) ⊎ (k < suc m) → length (flat lists k) ≤ length (flat lists (suc m))
      go shorter (inl e) = rw e (omega arith)
      go shorter (inr less) = omega (arith, shorter (omega arith), length-append (flat lists m) (lists m))

  flat-part : (n p s e : ℕ) (rest : List ℕ) → p < n → s ≡ length (flat lists p) → e ≡ length (flat lists (suc p))
      → slice s e (flat lists n ++ rest) ≡ lists p
  flat-part zero p s e rest h start end = absurd (omega arith)
  flat-part (suc n) p s e rest h start end =
      ap (slice s e) (append_assoc (flat lists n) (lists n) rest)
      ∙ go (λ less. flat-part n p s e (lists n ++ rest) less start end) (eq-or-lt_of_le {n = p} {m = n} (omega arith))
    where
      go : (p < n → slice s e (flat lists n ++ (lists n ++ rest)) ≡ lists p) → (p ≡ n) ⊎ (p < n) → slice s e (flat lists n ++ (lists n ++ rest)) ≡ lists p
      go earlier (inl same) =
          let here : length (flat lists (suc p)) ≡ length (flat lists p) + length (lists p) = length-append (flat lists p) (lists p) in
          ap (λ (k : ℕ). slice s e (flat lists k ++ (lists k ++ rest))) (sym same) ∙ slice-between (flat lists p) (lists p) rest s e start (end ∙ here)
      go earlier (inr less) = earlier less

  flat-all : (P : ℕ → Type 0) → ((v : ℕ) → All P (lists v)) → (n : ℕ) → All P (flat lists n)
  flat-all P all zero = tt
  flat-all P all (suc n) = all_append P (flat lists n) (lists n) (flat-all P all n) (all n)

-- the lists of a tree: together they are no longer than there are nodes
module _ (n : ℕ) (parent : ℕ → ℕ) (lists : ℕ → List ℕ) (tree : Tree n parent lists) where
  -- a node stands in no list before its parent's
  flat-before : (k a : ℕ) → k ≤ parent a → count a (flat lists k) ≡ 0
  flat-before zero a h = refl
  flat-before (suc k) a h = omega (arith, count-append a (flat lists k) (lists k), flat-before k a (omega arith), absent (count a (lists k)) refl)
    where
      absent : (m : ℕ) → count a (lists k) ≡ m → m ≡ 0
      absent zero e = refl
      absent (suc m) e = absurd (omega (arith, (tree.only k a (omega arith)).2))

  flat-once : (k a : ℕ) → count a (flat lists k) ≤ 1
  flat-once zero a = omega arith
  flat-once (suc k) a = go (count a (lists k)) refl (flat-once k a)
    where
      go : (m : ℕ) → count a (lists k) ≡ m → count a (flat lists k) ≤ 1 → count a (flat lists (suc k)) ≤ 1
      go zero e earlier = omega (arith, count-append a (flat lists k) (lists k))
      go (suc m) e earlier =
          omega (
            arith,
            count-append a (flat lists k) (lists k),
            child-once n parent lists tree k a,
            flat-before k a (omega (arith, (tree.only k a (omega arith)).2)),
          )

  flat-nodes : (k : ℕ) → All (λ c. c < n) (flat lists k)
  flat-nodes zero = tt
  flat-nodes (suc k) =
      all_append (λ c. c < n) (flat lists k) (lists k) (flat-nodes k)
      (all-imp (Child n parent k) (λ c. c < n) (lists k) (λ c h. h.1) (all-children n parent lists tree k))

  pub flat-within : (k : ℕ) → length (flat lists k) ≤ n
  flat-within k = length-at-most-once n (flat lists k) (flat-nodes k) (λ a h. flat-once k a)

-- lists that a loop put in, up to `start`
pub segments-made : (lists : ℕ → List ℕ) (n start : ℕ) (sorted ends : List ℕ) → length sorted ≡ 1024 → length ends ≡ 1024
    → take start sorted ≡ flat lists n → ((p : ℕ) → p < n → get_or ends p 0 ≡ length (flat lists (suc p))) → Segments lists n sorted ends
segments-made lists n start sorted ends long as_long front ended = record {
  long = long;
  as_long = as_long;
  rest = drop start sorted;
  front = sym (take-append-drop start sorted) ∙ ap (λ (xs : List ℕ). xs ++ drop start sorted) front;
  ended = ended;
}

module _ (lists : ℕ → List ℕ) (n : ℕ) (sorted ends : List ℕ) (segments : Segments lists n sorted ends) where
  start_right : (p : ℕ) → p < n → start_of ends p ≡ length (flat lists p)
  start_right zero h = refl
  start_right (suc p) h = segments.ended p (omega arith)

  pub part_right : (p : ℕ) → p < n → part sorted ends p ≡ lists p
  part_right p h =
      ap (slice (start_of ends p) (get_or ends p 0)) segments.front
      ∙ flat-part lists n p (start_of ends p) (get_or ends p 0) segments.rest h (start_right p h) (segments.ended p h)

  pub segments-parted : ((v : ℕ) → All (λ c. c < 1024) (lists v)) → Parted sorted ends n
  segments-parted numbers = record {
    long = segments.long;
    as_long = segments.as_long;
    grows = λ p h. omega (arith, start_right p h, segments.ended p h, flat-longer lists p (suc p) (omega arith));
    within = λ p h. omega (arith, inside p h);
    numbers = λ p k h l.
        let within : k < length (flat lists n) = omega (arith, segments.ended p h, flat-longer lists (suc p) n (omega arith)) in
        subst (λ (c : ℕ). c < 1024) (sym (ap (λ (s : List ℕ). get_or s k 0) segments.front ∙ get_or-append (flat lists n) segments.rest 0 k within))
        (all-place (λ c. c < 1024) (flat lists n) k (flat-all lists (λ c. c < 1024) numbers n) within);
  }
    where
      inside : (p : ℕ) → p < n → get_or ends p 0 ≤ 1024
      inside p h =
          omega (
            arith,
            segments.ended p h,
            flat-longer lists (suc p) n (omega arith),
            segments.long,
            ap length segments.front,
            length-append (flat lists n) segments.rest,
          )

-- ---- The links made of a tree's lists

module _ (n : ℕ) (parent : ℕ → ℕ) (lists : ℕ → List ℕ) (tree : Tree n parent lists) (sorted ends : List ℕ) (segments : Segments lists n sorted ends)
    (few : n ≤ 1024) where
  pub tree-parted : Parted sorted ends n
  tree-parted =
      segments-parted lists n sorted ends segments
      (λ v. all-imp (Child n parent v) (λ c. c < 1024) (lists v) (λ c child. omega (arith, child.1)) (all-children n parent lists tree v))

  made-length : (k : ℕ) (next : List ℕ) → length (nexts_made sorted ends k next) ≡ length next
  made-length zero next = refl
  made-length (suc k) next = nexts-length (part sorted ends k) (nexts_made sorted ends k next) ∙ made-length k next

  -- the sibling after a child, once its parent's list is linked
  made_inside : (next : List ℕ) → length next ≡ 1024 → (c : ℕ) → 0 < c → c < n → (k : ℕ) → k ≤ n → parent c < k
      → get_or (nexts_made sorted ends k next) c 0 ≡ after_in c (lists (parent c))
  made_inside next long c higher here zero h l = absurd (omega arith)
  made_inside next long c higher here (suc k) h l =
      ap (λ (cs : List ℕ). get_or (nexts_set cs (nexts_made sorted ends k next)) c 0) (part_right lists n sorted ends segments k (omega arith))
      ∙ go (made_inside next long c higher here k (omega arith)) (eqb (parent c) k) refl
    where
      go : (parent c < k → get_or (nexts_made sorted ends k next) c 0 ≡ after_in c (lists (parent c))) → (t : Bool) → eqb (parent c) k ≡ t
          → get_or (nexts_set (lists k) (nexts_made sorted ends k next)) c 0 ≡ after_in c (lists (parent c))
      go earlier true e =
          let same = eqb-true (parent c) k e in
          ap (λ (v : ℕ). get_or (nexts_set (lists v) (nexts_made sorted ends k next)) c 0) (sym same)
          ∙ nexts-inside (lists (parent c)) (nexts_made sorted ends k next) c (omega (arith, made-length k next)) (omega (arith, tree.once c higher here))
      go earlier false e =
          let other = eqb-false (parent c) k e in
          let none : count c (lists k) ≡ 0 = child-count n parent lists tree c k higher here ∙ bit-ne (parent c) k other in
          nexts-outside (lists k) (nexts_made sorted ends k next) c none ∙ earlier (omega arith)

  -- node 0 is in no list
  made-root : (next : List ℕ) (k : ℕ) → k ≤ n → get_or (nexts_made sorted ends k next) 0 0 ≡ get_or next 0 0
  made-root next zero h = refl
  made-root next (suc k) h =
      ap (λ (cs : List ℕ). get_or (nexts_set cs (nexts_made sorted ends k next)) 0 0) (part_right lists n sorted ends segments k (omega arith))
      ∙ nexts-outside (lists k) (nexts_made sorted ends k next) 0 (absent (count 0 (lists k)) refl) ∙ made-root next k (omega arith)
    where
      absent : (m : ℕ) → count 0 (lists k) ≡ m → count 0 (lists k) ≡ 0
      absent zero e = e
      absent (suc m) e = absurd (omega (arith, (tree.only k 0 (omega arith)).0))

  module _ (first last before next : List ℕ) (linked : Linked sorted ends n first last before next) (long : length before ≡ 1024) where
    pub first-right : (p : ℕ) → p < n → get_or first p 0 ≡ first_of (lists p)
    first-right p h = linked.firsts p h ∙ ap first_of (part_right lists n sorted ends segments p h)

    pub last-right : (p : ℕ) → p < n → get_or last p 0 ≡ last_of (lists p)
    last-right p h = linked.lasts p h ∙ ap last_of (part_right lists n sorted ends segments p h)

    pub next-right : (c : ℕ) → 0 < c → c < n → get_or next c 0 ≡ after_in c (lists (parent c))
    next-right c higher here =
        let lower = tree.lower c higher here in
        ap (λ (l : List ℕ). get_or l c 0) linked.nexts
        ∙ made_inside (set before 0 invalid) (length-set before 0 invalid ∙ long) c higher here n (omega arith) (omega arith)

    pub next-of-root : get_or next 0 0 ≡ invalid
    next-of-root =
        ap (λ (l : List ℕ). get_or l 0 0) linked.nexts ∙ made-root (set before 0 invalid) n (omega arith)
        ∙ get_or-set_same before 0 invalid 0 (omega arith)
