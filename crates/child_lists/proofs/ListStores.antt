-- Child lists stored list by list leave the graph's links: `lists-right`. Each store is one more
-- entry of the arrays of links that `link_lists` would make, stored whole (`set_next`, `set-ends`).
-- Assumes nothing.
use mathlib.Core.Path.{◌≡◌, refl, sym, ap, subst, ◌∙◌}
use mathlib.Core.Logic.{◌⊎◌, inl, inr}
use mathlib.Core.List.{List, [], ◌∷◌, ◌++◌}
use Prim.Native.Nat.{ℕ, zero, suc, ◌+◌, ◌≤◌, ◌<◌}
use native.Mathlib.Nat.{eq-or-lt_of_le}
use native.Mathlib.Numerals.{add-one}
use native.Mathlib.Omega.{arith}
use lib.ListN.{length, get_or, set, length-set}
use lib.Seq.{get_or-set_same, get_or-set_other}
use Rattle.model.specs.Bytes.{stored}
use Rattle.model.specs.Snapshot.{big_endian}
use Rattle.model.specs.Lists.{All}
use Rattle.model.specs.Node.{invalid}
use Rattle.model.specs.Graph.{Graph, size, children_of}
use Rattle.model.specs.Strength.{view}
use Rattle.model.specs.Arena.{arena_bytes, slot_at, first_child_in, last_child_in, next_sibling_in, first_of, last_of, tabulate}
use Rattle.laws.proofs.BigEndianLaws.{Bytes}
use Rattle.laws.proofs.ListLaws.{all-imp}
use Rattle.laws.proofs.StoredLaws.{length-stored, stored-apart, stored-field-same}
use Rattle.laws.proofs.Trees.{Child, all-children}
use Rattle.arena.proofs.TabulateLaws.{tabulate-length, tabulate-at}
use Rattle.child_lists.specs.Links.{start_of, part, nexts_set, links_written, next_stored, ends_stored, nexts_stored, list_stored, lists_stored}
use Rattle.child_lists.proofs.LinkLaws.{nexts-length, LinkingAll, linking-all-start, linking-all-step}
use Rattle.child_lists.proofs.SegmentLaws.{part_right}
use Rattle.child_lists.proofs.LinkStores.{links_of, Linkable, links-right}
use Rattle.child_lists.proofs.SlotStores.{three, next-over, ends-over, next-alone}

-- ---- One slot's links changed

-- n slots, each with its bytes
abbrev slots_by : (ℕ → List ℕ) → ℕ → List ℕ → List ℕ
slots_by t zero s = s
slots_by t (suc n) s = stored (slot_at n) (t n) (slots_by t n s)

module _ (t t' : ℕ → List ℕ) (size-t : (k : ℕ) → length (t k) ≡ 12) (c at : ℕ) (p : List ℕ) (else : (k : ℕ) → (k ≡ c → ⊥) → t' k ≡ t k)
    (low : slot_at c ≤ at) (high : at + length p ≤ slot_at c + 12)
    (here : (s : List ℕ) → length s ≡ arena_bytes → stored at p (stored (slot_at c) (t c) s) ≡ stored (slot_at c) (t' c) s) where
  slots_length : (n : ℕ) (s : List ℕ) → length s ≡ arena_bytes → n ≤ 1024 → length (slots_by t n s) ≡ arena_bytes
  slots_length zero s whole few = whole
  slots_length (suc n) s whole few =
      let before = slots_length n s whole (omega arith) in
      length-stored (slot_at n) (t n) (slots_by t n s) (omega (arith, size-t n)) ∙ before

  untouched : (n : ℕ) (s : List ℕ) → n ≤ c → slots_by t' n s ≡ slots_by t n s
  untouched zero s h = refl
  untouched (suc n) s h = λ i. stored (slot_at n) (else n (λ e. omega arith) i) (untouched n s (omega arith) i)

  slot-changed : (n : ℕ) (s : List ℕ) → length s ≡ arena_bytes → n ≤ 1024 → c < n → slots_by t' n s ≡ stored at p (slots_by t n s)
  slot-changed zero s whole few h = absurd (omega arith)
  slot-changed (suc n) s whole few h = go (eq-or-lt_of_le {n = c} {m = n} (omega arith)) (slot-changed n s whole (omega arith))
    where
      before : length (slots_by t n s) ≡ arena_bytes
      before = slots_length n s whole (omega arith)

      go : (c ≡ n) ⊎ (c < n) → (c < n → slots_by t' n s ≡ stored at p (slots_by t n s))
          → stored (slot_at n) (t' n) (slots_by t' n s) ≡ stored at p (stored (slot_at n) (t n) (slots_by t n s))
      go (inl e) earlier =
          ap (stored (slot_at n) (t' n)) (untouched n s (omega arith))
          ∙ subst (λ (k : ℕ). stored (slot_at k) (t' k) (slots_by t n s) ≡ stored at p (stored (slot_at k) (t k) (slots_by t n s))) e
          (sym (here (slots_by t n s) before))
      go (inr less) earlier =
          (λ i. stored (slot_at n) (else n (λ e. omega arith) i) (earlier less i))
          ∙ stored-apart at p (slot_at n) (t n) (slots_by t n s) (omega arith) (omega (arith, size-t n, before))

-- ---- Arrays of links, one entry changed

-- the links of a node in three arrays
abbrev links_at : List ℕ → List ℕ → List ℕ → ℕ → List ℕ
links_at first last next k = three (get_or first k 0) (get_or last k 0) (get_or next k 0)

written-by : (first last next : List ℕ) (n : ℕ) (s : List ℕ) → links_written first last next n s ≡ slots_by (links_at first last next) n s
written-by first last next zero s = refl
written-by first last next (suc n) s = ap (stored (slot_at n) (links_at first last next n)) (written-by first last next n s)

module _ (first last next : List ℕ) (n : ℕ) (few : n ≤ 1024) (s : List ℕ) (whole : length s ≡ arena_bytes) (c : ℕ) (h : c < n) where
  set_next : (v : ℕ) → length next ≡ 1024 → links_written first last (set next c v) n s ≡ next_stored c v (links_written first last next n s)
  set_next v long =
      written-by first last (set next c v) n s
      ∙ slot-changed (links_at first last next) (links_at first last (set next c v)) (λ k. refl) c (slot_at c + 8) (big_endian 4 v)
      (λ k ne. ap (three (get_or first k 0) (get_or last k 0)) (get_or-set_other next c k v 0 ne)) (omega arith) (omega arith)
      (λ r long-r. next-over (slot_at c) r (omega arith) (get_or first c 0) (get_or last c 0) (get_or next c 0) v
      ∙ ap (λ (x : ℕ). stored (slot_at c) (three (get_or first c 0) (get_or last c 0) x) r) (sym (get_or-set_same next c v 0 (omega arith)))) n s whole few h
      ∙ ap (next_stored c v) (sym (written-by first last next n s))

  set-ends : (a b : ℕ) → length first ≡ 1024 → length last ≡ 1024
      → links_written (set first c a) (set last c b) next n s ≡ ends_stored c a b (links_written first last next n s)
  set-ends a b first-long last-long =
      written-by (set first c a) (set last c b) next n s
      ∙ slot-changed (links_at first last next) (links_at (set first c a) (set last c b) next) (λ k. refl) c (slot_at c) (big_endian 4 a ++ big_endian 4 b)
      (λ k ne. λ i. three (get_or-set_other first c k a 0 ne i) (get_or-set_other last c k b 0 ne i) (get_or next k 0)) (omega arith) (omega arith)
      (λ r long-r. ends-over (slot_at c) r (omega arith) (get_or first c 0) (get_or last c 0) (get_or next c 0) a b
      ∙ (let f = sym (get_or-set_same first c a 0 (omega arith)) in
      let l = sym (get_or-set_same last c b 0 (omega arith)) in
      λ i. stored (slot_at c) (three (f i) (l i) (get_or next c 0)) r)) n s whole few h
      ∙ ap (ends_stored c a b) (sym (written-by first last next n s))

-- the siblings after all children of a list
nexts-linked : (first last next : List ℕ) (n : ℕ) → n ≤ 1024 → (s : List ℕ) → length s ≡ arena_bytes → length next ≡ 1024
    → (cs : List ℕ) → All (λ c. c < n) cs → nexts_stored cs (links_written first last next n s) ≡ links_written first last (nexts_set cs next) n s
nexts-linked first last next n few s whole long [] all = refl
nexts-linked first last next n few s whole long (c ∷ cs) all =
    ap (next_stored c (first_of cs)) (nexts-linked first last next n few s whole long cs all.1)
    ∙ sym (set_next first last (nexts_set cs next) n few s whole c all.0 (first_of cs) (nexts-length cs next ∙ long))

-- ---- All lists of a graph

module _ (g : Graph) (sorted ends : List ℕ) (ok : Linkable g sorted ends) (s : List ℕ) (bytes : Bytes s) (whole : length s ≡ arena_bytes)
    (alone : next_sibling_in s 0 ≡ invalid) where
  -- the arrays of the links that are there, of m entries
  module _ (m : ℕ) (many : m ≡ 1024) where
    abbrev first₀ : List ℕ
    first₀ = tabulate (first_child_in s) 0 m

    abbrev last₀ : List ℕ
    last₀ = tabulate (last_child_in s) 0 m

    abbrev before : List ℕ
    before = tabulate (next_sibling_in s) 0 m

    abbrev next₀ : List ℕ
    next₀ = set before 0 invalid

    before-long : length before ≡ 1024
    before-long = tabulate-length (next_sibling_in s) 0 m ∙ many

    next-there : (k : ℕ) → k < m → get_or next₀ k 0 ≡ next_sibling_in s k
    next-there zero h = get_or-set_same before 0 invalid 0 (omega (arith, before-long)) ∙ sym alone
    next-there (suc k) h = get_or-set_other before 0 (suc k) invalid 0 (λ e. omega arith) ∙ tabulate-at (next_sibling_in s) 0 m (suc k) h

    -- storing them changes nothing
    stored-first : (k : ℕ) → k ≤ m → links_written first₀ last₀ next₀ k s ≡ s
    stored-first zero h = refl
    stored-first (suc k) h =
        ap (stored (slot_at k) (links_at first₀ last₀ next₀ k)) (stored-first k (omega arith))
        ∙ next-alone s bytes k whole (omega arith) (get_or first₀ k 0) (get_or last₀ k 0) (get_or next₀ k 0)
        (tabulate-at (first_child_in s) 0 m k (omega arith)) (tabulate-at (last_child_in s) 0 m k (omega arith))
        ∙ ap (λ (x : ℕ). next_stored k x s) (next-there k (omega arith)) ∙ stored-field-same (slot_at k + 8) 4 s bytes (omega arith)

    -- the lists of the first p nodes stored, and the arrays that have their links
    record Made (p : ℕ) : Type 0 where
      pub first : List ℕ
      pub last : List ℕ
      pub next : List ℕ
      pub first-long : length first ≡ 1024
      pub last-long : length last ≡ 1024
      pub next-long : length next ≡ 1024
      pub state : LinkingAll sorted ends next₀ p (start_of ends p) first last next
      pub same : lists_stored sorted ends p s ≡ links_written first last next (size g) s

    made : (p : ℕ) → p ≤ size g → Made p
    made zero h = record {
      first = first₀;
      last = last₀;
      next = next₀;
      first-long = tabulate-length (first_child_in s) 0 m ∙ many;
      last-long = tabulate-length (last_child_in s) 0 m ∙ many;
      next-long = length-set before 0 invalid ∙ before-long;
      state = linking-all-start sorted ends first₀ last₀ next₀;
      same = sym (stored-first (size g) (omega (arith, ok.few)));
    }
    made (suc p) h = step (made p (omega arith))
      where
        below : All (λ c. c < size g) (part sorted ends p)
        below =
            rw (part_right (children_of g) (size g) sorted ends ok.segments p h)
            (all-imp (Child (size g) (view g.nodes).parent p) (λ c. c < size g) (children_of g p) (λ c k. k.1)
            (all-children (size g) (view g.nodes).parent (children_of g) ok.tree p))

        step : Made p → Made (suc p)
        step w =
            record {
              first = set w.first p (first_of (part sorted ends p));
              last = set w.last p (last_of (part sorted ends p));
              next = nexts_set (part sorted ends p) w.next;
              first-long = length-set w.first p (first_of (part sorted ends p)) ∙ w.first-long;
              last-long = length-set w.last p (last_of (part sorted ends p)) ∙ w.last-long;
              next-long = nexts-length (part sorted ends p) w.next ∙ w.next-long;
              state = rw (add-one p) at
                  (linking-all-step sorted ends next₀ p (start_of ends p) w.first w.last w.next
                  (nexts_set (part sorted ends p) w.next) (first_of (part sorted ends p)) (last_of (part sorted ends p)) w.state
                  (omega (arith, w.first-long, ok.few))
                  (omega (arith, w.last-long, ok.few)) refl refl refl);
              same = ap (list_stored p (part sorted ends p)) w.same
                  ∙ ap (ends_stored p (first_of (part sorted ends p)) (last_of (part sorted ends p)))
                  (nexts-linked w.first w.last w.next (size g) ok.few s whole w.next-long (part sorted ends p) below)
                  ∙ sym (set-ends w.first w.last (nexts_set (part sorted ends p) w.next) (size g) ok.few s whole p h
                  (first_of (part sorted ends p)) (last_of (part sorted ends p)) w.first-long w.last-long);
            }

    lists-right-by : lists_stored sorted ends (size g) s ≡ links_of g (size g) s
    lists-right-by =
        let w = made (size g) (omega arith) in
        w.same
        ∙ links-right g sorted ends ok w.first w.last before w.next
        (record { firsts = w.state.firsts; lasts = w.state.lasts; nexts = w.state.nexts }) before-long (size g) s (omega arith)

  pub lists-right : lists_stored sorted ends (size g) s ≡ links_of g (size g) s
  lists-right = lists-right-by 1024 refl
