-- The certificate's tests on a part of a list: what an entry says (`IsEntry`), each child against
-- the next (`Neighbouring`), and one run of a rank after the other (`Ranking`), with what the loops
-- need of them. Assumes nothing.
use mathlib.Core.Path.{◌≡◌, refl, sym, ap, ◌∙◌}
use mathlib.Core.Logic.{◌⊎◌, inl, inr}
use mathlib.Core.Bool.{Bool, true, false, not, ◌||◌}
use mathlib.Core.List.{List}
use Prim.Native.Nat.{ℕ, ◌+◌, ◌-◌, ◌≤◌, ◌<◌}
use native.Mathlib.Omega.{arith}
use native.Mathlib.Decide.{dec_lt}
use lib.Dec.{eqb}
use lib.ListN.{length, get_or, take, drop}
use lib.Seq.{slice}
use Rattle.std.specs.declared.cmp.Ordering.{Ordering}
use Rattle.model.specs.Arena.{count_in}
use Rattle.model.specs.ArenaCalls.{ValidArena}
use Rattle.model.specs.Lists.{bit}
use Rattle.model.specs.Order.{is_less}
use Rattle.model.specs.Places.{by_place}
use Rattle.model.specs.Strength.{View, first, smaller, origin_root_node, origins_are_nested, sibling_lines}
use Rattle.laws.proofs.Views.{LegalView}
use Rattle.laws.proofs.Trees.{Child}
use Rattle.laws.proofs.SmallerLaws.{smaller-lt, smaller-eq}
use Rattle.laws.proofs.StrengthWalks.{origin-below, origin-root-below}
use Rattle.laws.proofs.WalkLaws.{is-less}
use Rattle.laws.proofs.RankLaws.{arc-rank-low}
use Rattle.laws.proofs.OrderKeys.{Keyed, KeyLess, keyed-not-nested, key-lines-siblings, neighbours-sorted}
use Rattle.arena.proofs.ArenaBack.{size-decode, fresh-legal, fresh-nodes}
use Rattle.arena.proofs.HeldArenas.{held}
use Rattle.view.specs.View.{view_in}
use Rattle.view.proofs.ViewLaws.{legal}
use Rattle.model.specs.declared.Verdict.{Verdict}
use Rattle.model.specs.declared.Verdict.TheVariants.{Settled, Ask}
use Rattle.strength.specs.Verdicts.{resolve}
use Rattle.line_table.specs.declared.Entry.{Entry}
use Rattle.line_table.specs.LineTable.{EntryOf, NestedKnown, Weighs, NestedRow, Tabled}
use Rattle.certificate.specs.Certificate.{place_in, Placed, IsBefore, Given, Reaches, ChildOf, Part, ByLines, RunEnd}
use Rattle.certificate.proofs.SliceLaws.{Each, EachNext, EachLater, each_none, each_more, next_more, later-parts, each_all, all-each, each-neighbours, each-pairs, pairs-each, part-read}

-- ---- Entries

-- e is the entry of node c
abbrev pub IsEntry : View → ℕ → Entry → Type 0
IsEntry u c e = (e.node ≡ c) × EntryOf u e

-- a is before b by the lines and the places
abbrev pub Before : View → List ℕ → ℕ → ℕ → Type 0
Before u places a b = is_less (sibling_lines u (by_place (place_in places)) a b) ≡ true

pub entry-depth : {u : View} {c : ℕ} {e : Entry} → IsEntry u c e → e.depth ≡ u.depth c
entry-depth {u} entry = entry.1.depth ∙ ap u.depth entry.0

pub entry-rank : {u : View} {c : ℕ} {e : Entry} → IsEntry u c e → e.rank ≡ u.rank c
entry-rank {u} entry = entry.1.rank ∙ ap u.rank entry.0

module _ {n : ℕ} {u : View} (legal-view : LegalView n u) {v c : ℕ} {e : Entry} (child : Child n u.parent v c) (entry : IsEntry u c e) where
  pub entry-root : e.root < n
  entry-root = omega (arith, entry.1.root, ap (origin_root_node u) entry.0, origin-root-below legal-view c child.1)

  pub entry-placed : {places : List ℕ} → n ≤ length places → length places ≤ 1024 → Placed places e
  entry-placed reaches few = record {
    origin = omega (arith, entry.1.origin, ap u.origin entry.0, origin-below legal-view c child.0 child.1);
    root = omega (arith, entry-root);
    few = few;
  }

  -- not a copy
  pub entry-keyed : not e.special || e.authored ≡ true → Keyed n u v c
  entry-keyed h = (child, rw (← entry.0) (rw (← entry.1.special, ← entry.1.authored) h))

module _ {u : View} {a b : ℕ} {x y : Entry} (left : IsEntry u a x) (right : IsEntry u b y) where
  pub entries-before : (places : List ℕ) {nested r : Bool} → IsBefore places x y nested r → r ≡ true → NestedKnown x y nested u → Before u places a b
  entries-before places before e known = rw (← left.0, ← right.0) (sym (before u left.1 right.1 known) ∙ e)

  depths-same : u.depth a ≡ u.depth b → x.depth ≡ y.depth
  depths-same e = entry-depth left ∙ e ∙ sym (entry-depth right)

  -- of one depth nothing is asked; of two, a row has it
  pub known-by-row : (row : List ℕ) (uneven : Bool) {n : ℕ} → (uneven ≡ false → u.depth a ≡ u.depth b)
      → (uneven ≡ true → NestedRow u n x.root row) → y.root < n → NestedKnown x y (eqb (get_or row y.root 0) 1) u
  known-by-row row false one-depth rows below s t differ = absurd (differ (depths-same (one-depth refl)))
  known-by-row row true one-depth rows below s t differ = rw (rows refl y.root below) (is_one (origins_are_nested u x.root y.root))
    where
      is_one : (t : Bool) → eqb (bit t) 1 ≡ t
      is_one true = refl
      is_one false = refl

  module _ {n : ℕ} (legal-view : LegalView n u) {v : ℕ} (keyed-left : Keyed n u v a) (keyed-right : Keyed n u v b) where
    known-of-keyed : NestedKnown x y false u
    known-of-keyed s t differ =
        sym (ap (λ (r : ℕ). origins_are_nested u r y.root) (left.1.root ∙ ap (origin_root_node u) left.0)
        ∙ ap (origins_are_nested u (origin_root_node u a)) (right.1.root ∙ ap (origin_root_node u) right.0)
        ∙ keyed-not-nested legal-view a b keyed-left keyed-right
        (sym (left.1.special ∙ ap u.special left.0) ∙ s) (sym (right.1.special ∙ ap u.special right.0) ∙ t)
        (λ e. differ (depths-same e)))

    pub entries-key-less : (places : List ℕ) {r : Bool} → IsBefore places x y false r → r ≡ true → KeyLess u (place_in places) a b
    entries-key-less places before e =
        let same = smaller-eq (place_in places v) (place_in places v) refl in
        sym (key-lines-siblings legal-view (by_place (place_in places)) same a b keyed-left keyed-right)
        ∙ is-less (sibling_lines u (by_place (place_in places)) a b) (entries-before places before e known-of-keyed)

-- ---- Verdicts

-- what a verdict asks has a place
pub asked-placed : {places : List ℕ} {a b : Entry} {x y : ℕ} → Placed places a → Placed places b
    → ((x ≡ a.origin) × (y ≡ b.origin)) ⊎ ((x ≡ a.root) × (y ≡ b.root)) → (x < length places) × (y < length places)
asked-placed left right (inl e) = (omega (arith, left.origin), omega (arith, right.origin))
asked-placed left right (inr e) = (omega (arith, left.root), omega (arith, right.root))

module _ {a b : Entry} {nested : Bool} {verdict : Verdict} (weighs : Weighs a b nested verdict) (places : List ℕ) where
  pub settled_before : {o : Ordering} {r : Bool} → verdict ≡ Settled o → r ≡ is_less o → IsBefore places a b nested r
  settled_before e q u left right known =
      q ∙ ap is_less (ap (resolve (by_place (place_in places))) (sym e) ∙ weighs.agrees u left right known (by_place (place_in places)))

  pub asked-before : {x y from to : ℕ} {o : Ordering} {r : Bool} → verdict ≡ Ask x y o → from ≡ place_in places x → to ≡ place_in places y
      → r ≡ is_less (first (smaller from to) o) → IsBefore places a b nested r
  asked-before {x} {y} {from} {to} {o} e f t q u left right known =
      q ∙ ap is_less (ap (λ (p : ℕ). first (smaller p to) o) f ∙ ap (λ (p : ℕ). first (smaller (place_in places x) p) o) t
      ∙ ap (resolve (by_place (place_in places))) (sym e) ∙ weighs.agrees u left right known (by_place (place_in places)))

-- ---- Parts

pub part-child : {bs sorted : List ℕ} {v start end : ℕ} → length sorted ≡ 1024 → Part bs sorted v start end → Each (ChildOf bs v) sorted start end
part-child {bs} {sorted} {v} {start} {end} long part =
    all-each sorted end (omega (arith, part.high)) (ChildOf bs v) start part.low part.children

-- its entry can be read
pub entry-readable : {bs table sorted : List ℕ} {v start end : ℕ} → Given bs table sorted → Part bs sorted v start end
    → (k : ℕ) → start ≤ k → k < end → Tabled bs table × (0 < get_or sorted k 0) × (get_or sorted k 0 < count_in bs)
entry-readable given part k l h = let child = part-child given.long part k l h in (given.tabled, child.0, child.1)

-- and what it asks of has a place
pub entry-reached : {bs table sorted places : List ℕ} {v start end : ℕ} → Given bs table sorted → Part bs sorted v start end → Reaches bs places
    → (k : ℕ) → start ≤ k → k < end → {e : Entry} → IsEntry (view_in bs) (get_or sorted k 0) e → Placed places e
entry-reached {bs} given part there k l h entry =
    entry-placed (legal bs given.opened) (part-child given.long part k l h) entry there.reaches there.few

-- what a loop over the children after the one at `at` reads
pub later-read : {bs table sorted : List ℕ} {v start end at : ℕ} → Given bs table sorted → Part bs sorted v start end → at < end
    → (i : ℕ) → i < length (take (end - (at + 1)) (drop (at + 1) sorted))
    → (at + 1 + i < end) × (get_or (take (end - (at + 1)) (drop (at + 1) sorted)) i 0 ≡ get_or sorted (at + 1 + i) 0)
later-read {sorted = sorted} {end = end} {at = at} given part here =
    part-read sorted (at + 1) end (omega arith) (omega (arith, given.long, part.high))

-- a graph's arcs rank low
pub rank-low : {bs : List ℕ} (o : ValidArena bs) (c : ℕ) → c < count_in bs → (view_in bs).rank c ≤ 6
rank-low {bs} o c h =
    let all = held bs o.holds in
    let same = fresh-nodes bs all in
    arc-rank-low ((view_in bs).arc c) (rw same at ((fresh-legal bs all).node c (omega (arith, ap length same, size-decode bs all))).arc)

-- ---- Each against the next

-- before i no child is a copy, and each is before the next; `last` is the one right before i
pub record Neighbouring (bs places sorted : List ℕ) (v start : ℕ) (last : Entry) (i : ℕ) : Type 0 where
  pub entry : IsEntry (view_in bs) (get_or sorted (i - 1) 0) last
  pub keyed : Each (Keyed (count_in bs) (view_in bs) v) sorted start i
  pub next : EachNext (KeyLess (view_in bs) (place_in places)) sorted start i

module _ {bs places sorted : List ℕ} {v start : ℕ} where
  pub neighbouring-start : {e : Entry} → IsEntry (view_in bs) (get_or sorted start 0) e → Keyed (count_in bs) (view_in bs) v (get_or sorted start 0)
      → Neighbouring bs places sorted v start e (start + 1)
  neighbouring-start entry keyed = record {
    entry = let same : start + 1 - 1 ≡ start = omega arith in rw same entry;
    keyed = each_more sorted (Keyed (count_in bs) (view_in bs) v) (each_none sorted (Keyed (count_in bs) (view_in bs) v)) keyed;
    next = λ k l h. absurd (omega arith);
  }

  module _ {last : Entry} {i : ℕ} (w : Neighbouring bs places sorted v start last i) where
    pub neighbouring-step : {e : Entry} {r : Bool} → ValidArena bs → start < i → IsEntry (view_in bs) (get_or sorted i 0) e
        → Keyed (count_in bs) (view_in bs) v (get_or sorted i 0) → IsBefore places last e false r → r ≡ true
        → Neighbouring bs places sorted v start e (i + 1)
    neighbouring-step o past entry keyed before answer = record {
      entry = let same : i + 1 - 1 ≡ i = omega arith in rw same entry;
      keyed = each_more sorted (Keyed (count_in bs) (view_in bs) v) w.keyed keyed;
      next = next_more sorted (KeyLess (view_in bs) (place_in places)) i w.next
          (entries-key-less w.entry entry (legal bs o) (w.keyed (i - 1) (omega arith) (omega arith)) keyed places before answer);
    }

    pub neighbouring-ends : {end : ℕ} → ValidArena bs → length sorted ≡ 1024 → start ≤ end → end ≤ 1024 → end ≤ i
        → ByLines bs places (slice start end sorted)
    neighbouring-ends {end} o long low high done =
        neighbours-sorted (legal bs o) v (place_in places) (slice start end sorted)
        (each_all sorted end (omega arith) (Keyed (count_in bs) (view_in bs) v) start low (λ k l h. w.keyed k l (omega arith)))
        (each-neighbours sorted end (omega arith) (KeyLess (view_in bs) (place_in places)) start low (λ k l h. w.next k l (omega arith)))

-- ---- Runs of one rank

rank-before : (u : View) (places : List ℕ) (a b : ℕ) → u.rank a < u.rank b → Before u places a b
unfolding sibling_lines
rank-before u places a b h = rw (smaller-lt (u.rank a) (u.rank b) h)

-- the runs up to `at` are in order, and their ranks below `least`
pub record Ranking (bs places sorted : List ℕ) (start end least at : ℕ) : Type 0 where
  pub low : start ≤ at
  pub high : at ≤ end
  pub later : EachLater (Before (view_in bs) places) sorted start at at
  pub below : Each (λ c. (view_in bs).rank c < least) sorted start at

module _ {bs places sorted : List ℕ} {start end : ℕ} where
  module _ {least at : ℕ} (w : Ranking bs places sorted start end least at) (long : length sorted ≡ 1024) where
    pub ranking-ends : end ≤ 1024 → end ≤ at → ByLines bs places (slice start end sorted)
    ranking-ends high done =
        each-pairs sorted end (omega arith) (Before (view_in bs) places) start (omega (arith, w.low, w.high))
        (λ k j l h less m. w.later k j l (omega arith) less (omega arith))

    -- a run is a part
    pub ranking-part : {v next : ℕ} → Part bs sorted v start end → at ≤ next → next ≤ end → Part bs sorted v at next
    ranking-part {v} {next} part l h = record {
      low = l;
      high = omega (arith, part.high);
      children = each_all sorted next (omega (arith, part.high)) (ChildOf bs v) at l
          (λ k m i. part-child long part k (omega (arith, w.low)) (omega arith));
    }

    pub ranking-step : {rank next : ℕ} → end ≤ 1024 → rank ≡ (view_in bs).rank (get_or sorted at 0) → least ≤ rank → RunEnd bs sorted at end next
        → ByLines bs places (slice at next sorted) → Ranking bs places sorted start end (rank + 1) next
    ranking-step {rank} {next} high e l run lines = record {
      low = omega (arith, w.low, run.longer);
      high = run.within;
      later = later-parts sorted (Before (view_in bs) places) w.later
          (pairs-each sorted next (omega (arith, run.within)) (Before (view_in bs) places) at (omega (arith, run.longer)) lines)
          (λ i j a b c d. rank-before (view_in bs) places (get_or sorted i 0) (get_or sorted j 0) (omega (arith, w.below i a b, run.one_rank j c d)));
      below = below_more;
    }
      where
        below_more : Each (λ c. (view_in bs).rank c < rank + 1) sorted start next
        below_more k a b = go (dec_lt k at)
          where
            go : Dec (k < at) → (view_in bs).rank (get_or sorted k 0) < rank + 1
            go (yes h) = omega (arith, w.below k a h)
            go (no h) = omega (arith, run.one_rank k (omega arith) b)
