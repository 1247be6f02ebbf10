-- The certificate's test by neighbours among copies: what the lines on two entries say
-- (`root-follows` to `origin-follows`), the authored ones that rise (`UpTo`), and the loop that
-- tests each child against the one before it (`Copying`), with its step and end. Assumes nothing.
use mathlib.Core.Path.{◌≡◌, refl, sym, ap, ◌∙◌}
use mathlib.Core.Bool.{Bool, true, false, beq, not, ◌&&◌, cond, false≢true}
use mathlib.Core.List.{List}
use Prim.Native.Nat.{ℕ, ◌+◌, ◌-◌, ◌≤◌, ◌<◌}
use native.Mathlib.Omega.{arith}
use native.Mathlib.Decide.{dec_lt}
use lib.ListN.{length, get_or}
use lib.Seq.{slice}
use Rattle.std.specs.declared.cmp.Ordering.{Ordering}
use Rattle.std.specs.declared.cmp.Ordering.TheVariants.{Less, Equal}
use Rattle.model.specs.Arena.{count_in}
use Rattle.model.specs.ArenaCalls.{ValidArena}
use Rattle.model.specs.Lists.{Pairs}
use Rattle.model.specs.Order.{is_less}
use Rattle.model.specs.Places.{by_place}
use Rattle.model.specs.Strength.{View, first, smaller, larger, having, is_authored, is_implied, origin_root_node, origin_hops, class_depth, implied_over}
use Rattle.laws.proofs.SmallerLaws.{smaller-lt, smaller-eq}
use Rattle.laws.proofs.WalkLaws.{is-less}
use Rattle.laws.proofs.OrderCopies.{root_line, group_lines, stack_line, local_lines, copy_lines, Follows, AuthoredRise, Even, Flagged, one-depth-even, one-root-even, copies-sorted}
use Rattle.view.specs.View.{view_in}
use Rattle.view.proofs.ViewLaws.{legal}
use Rattle.line_table.specs.declared.Entry.{Entry}
use Rattle.line_table.specs.LineTable.{EntryOf}
use Rattle.certificate.specs.Certificate.{place_in, SameStack, NextBy, RisesOver, Part, OneDepth, OneRank, ByLines}
use Rattle.certificate.proofs.SliceLaws.{Each, EachNext, EachLater, each_more, next_more, later-parts, each_all, each-neighbours, each-pairs}
use Rattle.certificate.proofs.CertificateParts.{IsEntry, part-child}

-- ---- What parts two nodes

parted : {A : Type 0} {o : Ordering} → o ≡ Less → o ≡ Equal → A
parted less ties = let z : ◌≡◌ {A = ℕ} 0 1 = cc in absurd (omega arith)

module _ (u : View) (place : ℕ → ℕ) (x y : ℕ) where
  by-root : root_line u place x y ≡ Less → Follows u place x y
  unfolding copy_lines local_lines group_lines
  by-root less = record {
    less = rw less;
    root = parted less;
    local = λ e. parted {o = Less} refl (rw less at e);
    origin = λ e. parted {o = Less} refl (rw less at e);
  }

  module _ (same-root : origin_root_node u x ≡ origin_root_node u y) where
    ties : root_line u place x y ≡ Equal
    ties = smaller-eq (place (origin_root_node u x)) (place (origin_root_node u y)) (ap place same-root)

    by-group : first (smaller (class_depth u x) (class_depth u y)) (larger (origin_hops u x) (origin_hops u y)) ≡ Less → Follows u place x y
    unfolding copy_lines local_lines group_lines
    by-group less = record {
      less = rw (ties, less);
      root = λ e. same-root;
      local = λ e. parted less (rw ties at e);
      origin = λ e. parted {o = Less} refl (rw (ties, less) at e);
    }

    module _ (same-group : group_lines u place x y ≡ Equal) (same-local : u.local_stack x ≡ u.local_stack y) where
      by-stack : first (stack_line u x y) (by_place place (u.origin x) (u.origin y)) ≡ Less → Follows u place x y
      unfolding copy_lines local_lines
      by-stack less = record {
        less = rw (same-group, less);
        root = λ e. same-root;
        local = λ e. same-local;
        origin = λ e. parted less (rw same-group at e);
      }

      by-origin : u.origin x ≡ u.origin y → first (implied_over u x y) (smaller x y) ≡ Less → Follows u place x y
      unfolding copy_lines local_lines
      by-origin same-origin less = record {
        less = rw (same-group, smaller-eq (place (u.origin x)) (place (u.origin y)) (ap place same-origin), same-local)
            (settle (u.local_stack y) (is_implied u x) (is_implied u y) (smaller x y) less);
        root = λ e. same-root;
        local = λ e. same-local;
        origin = λ e. same-origin;
      }
        where
          settle : (l i j : Bool) (o : Ordering) → first (having i j) o ≡ Less
              → first (first (having (l && i) (l && j)) Equal) (first (having i j) o) ≡ Less
          settle true true true o e = e
          settle true true false o e = refl
          settle true false true o e = cc
          settle true false false o e = e
          settle false i j o e = e

-- ---- What parts two entries

module _ {u : View} {a b : Entry} (left : EntryOf u a) (right : EntryOf u b) (places : List ℕ) where
  abbrev Next : Type 0
  Next = Follows u (place_in places) a.node b.node

  pub root-follows : by_place (place_in places) a.root b.root ≡ Less → Next
  root-follows less = by-root u (place_in places) a.node b.node (rw (← left.root, ← right.root) less)

  pub class-follows : a.root ≡ b.root → a.class_depth < b.class_depth → Next
  class-follows e h =
      by-group u (place_in places) a.node b.node (sym left.root ∙ e ∙ right.root)
      (rw (← left.class-depth, ← right.class-depth) (rw (smaller-lt a.class_depth b.class_depth h)))

  pub hops-follows : a.root ≡ b.root → a.class_depth ≡ b.class_depth → b.hops < a.hops → Next
  hops-follows e f h =
      by-group u (place_in places) a.node b.node (sym left.root ∙ e ∙ right.root)
      (rw (← left.class-depth, ← right.class-depth, ← left.hops, ← right.hops)
      (rw (smaller-eq a.class_depth b.class_depth f, smaller-lt b.hops a.hops h)))

  module _ (same : SameStack a b) where
    same-root : origin_root_node u a.node ≡ origin_root_node u b.node
    same-root = sym left.root ∙ same.root ∙ right.root

    same-group : group_lines u (place_in places) a.node b.node ≡ Equal
    unfolding group_lines
    same-group =
        rw (
          ties u (place_in places) a.node b.node same-root,
          smaller-eq (class_depth u a.node) (class_depth u b.node) (sym left.class-depth ∙ same.class-depth ∙ right.class-depth),
          smaller-eq (origin_hops u b.node) (origin_hops u a.node) (sym right.hops ∙ sym same.hops ∙ left.hops),
        )

    same-local : u.local_stack a.node ≡ u.local_stack b.node
    same-local = sym left.local ∙ same.local ∙ right.local

    pub stack-follows : first (having (a.local && a.implied) (a.local && b.implied))
        (smaller (place_in places a.origin) (place_in places b.origin)) ≡ Less → Next
    stack-follows less =
        by-stack u (place_in places) a.node b.node same-root same-group same-local
        (rw (← left.implied, ← right.implied, ← left.local, ← right.local, ← left.origin, ← right.origin, ← same.local) less)

    pub origin-follows : a.origin ≡ b.origin → first (having a.implied b.implied) (smaller a.node b.node) ≡ Less → Next
    origin-follows e less =
        by-origin u (place_in places) a.node b.node same-root same-group same-local (sym left.origin ∙ e ∙ right.origin)
        (rw (← left.implied, ← right.implied) less)

pub tested-same : (s t : Bool) → not (beq s t) ≡ false → s ≡ t
tested-same true true e = refl
tested-same true false e = e
tested-same false true e = sym e
tested-same false false e = refl

-- what was answered is Less
pub said-less : {r : Bool} {o x y p q : Ordering} → r ≡ true → r ≡ is_less o → o ≡ first x y → x ≡ p → y ≡ q → first p q ≡ Less
said-less {o = o} {y = y} {p = p} t e f g h =
    sym (f ∙ ap (λ (z : Ordering). first z y) g ∙ ap (first p) h) ∙ is-less o (sym e ∙ t)

pub never-next : {places : List ℕ} {last e : Entry} {uneven : Bool} → NextBy places last e uneven false
never-next = record {
  special = λ e. absurd (false≢true e);
  root = λ e. absurd (false≢true e);
  follows = λ e. absurd (false≢true e);
}

-- ---- Authored ones rise

-- c, if it is authored, has not come after a sibling number and a node number
abbrev pub UpTo : View → ℕ → ℕ → ℕ → Type 0
UpTo u sibling node c = is_authored u c ≡ true → (u.sibling c ≤ sibling) × (sibling ≤ u.sibling c → c ≤ node)

rise-line : (s t m n : ℕ) → s ≤ t → (t ≤ s → m < n) → first (smaller s t) (smaller m n) ≡ Less
rise-line s t m n l h = go (dec_lt s t)
  where
    go : Dec (s < t) → first (smaller s t) (smaller m n) ≡ Less
    go (yes d) = rw (smaller-lt s t d)
    go (no d) = rw (smaller-eq s t (omega arith), smaller-lt m n (h (omega arith)))

module _ {u : View} {d : ℕ} {e : Entry} (entry : IsEntry u d e) where
  entry-special : e.special ≡ true → u.special d ≡ true
  entry-special s = sym (entry.1.special ∙ ap u.special entry.0) ∙ s

  entry-of-root : e.root ≡ origin_root_node u d
  entry-of-root = entry.1.root ∙ ap (origin_root_node u) entry.0

  entry-authored : is_authored u d ≡ true → e.authored ≡ true
  entry-authored t = entry.1.authored ∙ ap (is_authored u) entry.0 ∙ t

  entry-sibling : e.sibling ≡ u.sibling d
  entry-sibling = entry.1.sibling ∙ ap u.sibling entry.0

  -- the numbers become those of e, if it is authored
  module _ (s m : ℕ) {t n : ℕ} (new-sibling : t ≡ cond e.authored e.sibling s) (new-node : n ≡ cond e.authored e.node m) where
    up-to-here : UpTo u t n d
    up-to-here h =
        let on = entry-authored h in
        let sibling : t ≡ e.sibling = new-sibling ∙ rw on in
        let node : n ≡ e.node = new-node ∙ rw on in
        (omega (arith, entry-sibling), λ l. omega (arith, entry.0))

    up-to-kept : {c : ℕ} → RisesOver s m e → UpTo u s m c → UpTo u t n c
    up-to-kept {c} over up h = go e.authored refl
      where
        go : (on : Bool) → e.authored ≡ on → (u.sibling c ≤ t) × (t ≤ u.sibling c → c ≤ n)
        go true on =
            let sibling : t ≡ e.sibling = new-sibling ∙ rw on in
            let node : n ≡ e.node = new-node ∙ rw on in
            let low = (up h).0 in
            let high = (over on).0 in
            (omega arith, λ l. omega (arith, (up h).1 (omega arith), (over on).1 (omega arith)))
        go false on =
            let sibling : t ≡ s = new-sibling ∙ rw on in
            let node : n ≡ m = new-node ∙ rw on in
            (omega (arith, (up h).0), λ l. omega (arith, (up h).1 (omega arith)))

  up-to-rises : {s m c : ℕ} → RisesOver s m e → UpTo u s m c → AuthoredRise u c d
  up-to-rises {s} {m} {c} over up p q =
      let on = over (entry-authored q) in
      let low = up p in
      let sibling = entry-sibling in
      let node = entry.0 in
      rise-line (u.sibling c) (u.sibling d) c d (omega arith) (λ l. omega (arith, low.1 (omega arith), on.1 (omega arith)))

-- ---- Each against the one before it

-- c has the R of d
abbrev OfRoot : View → ℕ → ℕ → Type 0
OfRoot u d c = origin_root_node u c ≡ origin_root_node u d

-- before i all are HAS_SPECIALIZES, of one R where depths differ, each follows the one before it,
-- and the authored ones rise; `last` is the one right before i
pub record Copying (bs places sorted : List ℕ) (start : ℕ) (uneven : Bool) (last : Entry) (sibling node i : ℕ) : Type 0 where
  pub entry : IsEntry (view_in bs) (get_or sorted (i - 1) 0) last
  pub special : Each (λ c. (view_in bs).special c ≡ true) sorted start i
  pub roots : uneven ≡ true → Each (OfRoot (view_in bs) (get_or sorted start 0)) sorted start i
  pub next : EachNext (Follows (view_in bs) (place_in places)) sorted start i
  pub up_to : Each (UpTo (view_in bs) sibling node) sorted start i
  pub rise : EachLater (AuthoredRise (view_in bs)) sorted start i i

module _ {bs places sorted : List ℕ} {start : ℕ} {uneven : Bool} where
  module _ {last : Entry} {s m i : ℕ} (w : Copying bs places sorted start uneven last s m i) where
    pub copying-step : {e : Entry} {r : Bool} {t n : ℕ} → start < i → IsEntry (view_in bs) (get_or sorted i 0) e
        → NextBy places last e uneven r → r ≡ true → RisesOver s m e → t ≡ cond e.authored e.sibling s
        → n ≡ cond e.authored e.node m → Copying bs places sorted start uneven e t n (i + 1)
    copying-step {e} {r} {t} {n} past entry by answer over new-sibling new-node = record {
      entry = let same : i + 1 - 1 ≡ i = omega arith in rw same entry;
      special = each_more sorted (λ c. (view_in bs).special c ≡ true) w.special (entry-special entry (by.special answer));
      roots = λ q.
          each_more sorted (OfRoot (view_in bs) (get_or sorted start 0)) (w.roots q)
          (sym (entry-of-root entry) ∙ by.root answer q ∙ entry-of-root w.entry ∙ w.roots q (i - 1) (omega arith) (omega arith));
      next = next_more sorted (Follows (view_in bs) (place_in places)) i w.next
          (rw (← w.entry.0, ← entry.0) (by.follows answer (view_in bs) w.entry.1 entry.1));
      up_to = each_more sorted (UpTo (view_in bs) t n) (λ k l h. up-to-kept entry s m new-sibling new-node over (w.up_to k l h))
          (up-to-here entry s m new-sibling new-node);
      rise = later-parts sorted (AuthoredRise (view_in bs)) w.rise (λ k j a b c d. absurd (omega arith)) across;
    }
      where
        across : (k j : ℕ) → start ≤ k → k < i → i ≤ j → j < i + 1 → AuthoredRise (view_in bs) (get_or sorted k 0) (get_or sorted j 0)
        across k j a b c d =
            let e : j ≡ i = omega arith in
            rw e (up-to-rises entry over (w.up_to k a b))

    pub copying-ends : {v end : ℕ} → ValidArena bs → length sorted ≡ 1024 → Part bs sorted v start end → OneRank bs sorted start end
        → (uneven ≡ false → OneDepth bs sorted start end) → end ≤ i → ByLines bs places (slice start end sorted)
    copying-ends {v} {end} o long part one_rank one-depth done =
        copies-sorted (legal bs o) v ((view_in bs).rank (get_or sorted start 0)) (place_in places) (slice start end sorted)
        (each_all sorted end fits (Flagged (count_in bs) (view_in bs) v ((view_in bs).rank (get_or sorted start 0))) start part.low
        (λ k l h. (part-child long part k l h, w.special k l (omega arith), one_rank k l h)))
        (even uneven refl)
        (each-pairs sorted end fits (AuthoredRise (view_in bs)) start part.low (λ k j a b c d. w.rise k j a (omega arith) c (omega arith)))
        (each-neighbours sorted end fits (Follows (view_in bs) (place_in places)) start part.low (λ k l h. w.next k l (omega arith)))
      where
        fits : end ≤ length sorted
        fits = omega (arith, part.high)

        even : (t : Bool) → uneven ≡ t → Pairs (Even (view_in bs)) (slice start end sorted)
        even true e =
            one-root-even (view_in bs) (origin_root_node (view_in bs) (get_or sorted start 0)) (slice start end sorted)
            (each_all sorted end fits (OfRoot (view_in bs) (get_or sorted start 0)) start part.low (λ k l h. w.roots e k l (omega arith)))
        even false e =
            one-depth-even (view_in bs) ((view_in bs).depth (get_or sorted start 0)) (slice start end sorted)
            (each_all sorted end fits (λ c. (view_in bs).depth c ≡ (view_in bs).depth (get_or sorted start 0)) start part.low (one-depth e))
