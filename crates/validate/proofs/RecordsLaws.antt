-- All records: `records_valid` is what question 2 asks of the records (`records-held`), and the
-- check of the child lists may then be put (`parented`); and the laws of the loop over them
-- (`RecordsTo`). Assumes nothing.
use mathlib.Core.Path.{◌≡◌, refl, sym, ap, ◌∙◌}
use mathlib.Core.Logic.{◌↔◌}
use mathlib.Core.Bool.{Bool, true, false, not, ◌||◌, and-eq-true_iff}
use mathlib.Core.List.{List}
use Prim.Native.Nat.{ℕ, zero, suc, ◌+◌, ◌-◌, ◌≤◌, ◌<◌}
use native.Mathlib.Numerals.{add-one}
use native.Mathlib.Omega.{arith}
use lib.Dec.{eqb, ltb, leb}
use lib.ListN.{length}
use borrow.Author.Tests.{eqb-true, eq-eqb, ne_eqb, ltb-true, ltb-false, lt-ltb, le-leb, lt-leb, leb-true}
use Rattle.model.specs.Lists.{all_below}
use Rattle.model.specs.Path.{prim_count}
use Rattle.model.specs.Node.{Node, no_node}
use Rattle.model.specs.Graph.{empty_graph, node_at}
use Rattle.model.specs.Refusals.{refusal, most_path_bytes}
use Rattle.model.specs.Arena.{arena_bytes, count_in, shallow_in, local_root_in, prim_count_in, record_length_in, node_in, nodes_in, local_root_below, local_root_of, records_accepted, record_fits, shallow_marked}
use Rattle.laws.proofs.ListLaws.{all-below, all-below-fails}
use Rattle.laws.proofs.SnapshotLaws.{and_first, and_second}
use Rattle.arena.specs.Slot.{arc_in, parent_in, depth_in}
use Rattle.arena.proofs.TabulateLaws.{tabulate-length, tabulate-at}
use Rattle.arena.proofs.SlotLaws.{same-fields, path-length}
use Rattle.child_lists.specs.ChildLists.{Parented}
use Rattle.validate.specs.declared.record.Before.{Before}
use Rattle.validate.specs.Validate.{path_bytes_below, root_with, root_below, before_in, questions_in, depth_valid, record_valid_after, record_valid, records_valid}
use Rattle.validate.proofs.GrownLaws.{accepted-each, Fit, root-tabulated, has-path, questions-grown}
use Rattle.validate.proofs.ArenaRecords.{ValidAfter, parent-lower, no-parent, path-fits, right-after, depth-left}

-- what `holds_graph` asks of the records
pub record RecordsHeld (bs : List ℕ) : Type 0 where
  pub fits : (n : ℕ) → n < count_in bs → record_fits bs n ≡ true
  pub prims : (n : ℕ) → n < count_in bs → eqb (prim_count_in bs n) (prim_count (node_in bs n).path) ≡ true
  pub shallow : (n : ℕ) → n < count_in bs → shallow_marked bs n ≡ true
  pub accepted : records_accepted empty_graph (nodes_in bs) ≡ true
  pub local-root : (eqb (count_in bs) 0 || eqb (local_root_in bs) (local_root_of (nodes_in bs))) ≡ true

not-deeper : (a b : ℕ) → not (ltb a b) ≡ leb b a
not-deeper a b = go (ltb a b) refl
  where
    go : (t : Bool) → ltb a b ≡ t → not t ≡ leb b a
    go true e = sym (lt-leb b a (ltb-true a b e))
    go false e = sym (le-leb b a (ltb-false a b e))

fits-fit : (bs : List ℕ) (n : ℕ) → record_fits bs n ≡ true → (28 ≤ record_length_in bs n) × (record_length_in bs n ≤ 282)
fits-fit bs n e = (
  leb-true 28 (record_length_in bs n) (search (and_first, and_second)),
  leb-true (record_length_in bs n) 282 (search (and_first, and_second)),
)

fit-fits : (bs : List ℕ) (n : ℕ) → 28 ≤ record_length_in bs n → record_length_in bs n ≤ 282 → record_fits bs n ≡ true
fit-fits bs n named short = rw (le-leb 28 (record_length_in bs n) named, le-leb (record_length_in bs n) 282 short)

-- what the records below n come to
abbrev below : List ℕ → ℕ → Before
below bs n = before_in n (path_bytes_below bs n) (root_below bs n)

abbrev Right : List ℕ → ℕ → Type 0
Right bs n = ValidAfter bs (below bs n)

-- ---- Records of a record's length

module _ (bs : List ℕ) (fit : Fit bs (count_in bs)) where
  root-same : local_root_of (nodes_in bs) ≡ root_below bs (count_in bs)
  root-same =
      ap (local_root_below (nodes_in bs)) (tabulate-length (node_in bs) 0 (count_in bs)) ∙ root-tabulated bs (count_in bs) (count_in bs) (omega arith) fit

  -- where parents are lower and prim counts right, a record's depth is tested as document 01 has it
  module _ (lower : (n : ℕ) → 0 < n → n < count_in bs → parent_in bs n < n)
      (prims : (n : ℕ) → n < count_in bs → prim_count_in bs n ≡ prim_count (node_in bs n).path) where
    shallow-depth : (n : ℕ) → n < count_in bs → shallow_marked bs n ≡ depth_valid bs n
    shallow-depth zero h = refl
    shallow-depth (suc n) h =
        let same = same-fields bs (suc n) (omega (arith, fit (suc n) h)) in
        let parent-here : parent_in bs (suc n) < count_in bs = omega (arith, lower (suc n) (omega arith) h) in
        let parent : node_at (nodes_in bs) (node_in bs (suc n)).parent ≡ node_in bs (parent_in bs (suc n)) =
        ap (node_at (nodes_in bs)) same.parent ∙ tabulate-at (node_in bs) no_node (count_in bs) (parent_in bs (suc n)) parent-here in
        let counted : prim_count (node_at (nodes_in bs) (node_in bs (suc n)).parent).path ≡ prim_count_in bs (parent_in bs (suc n)) =
        ap (λ (x : Node). prim_count x.path) parent ∙ sym (prims (parent_in bs (suc n)) parent-here) in
        rw (lt-ltb 0 (suc n) (omega arith), ne_eqb (suc n) 0 (λ z. omega arith))
        (ap (λ (t : Bool). t || eqb (shallow_in bs) 1)
        ((λ i. not (ltb (counted i) (same.depth i))) ∙ not-deeper (prim_count_in bs (parent_in bs (suc n))) (depth_in bs (suc n))))

-- ---- What is asked of the records

module _ (bs : List ℕ) (whole : length bs ≡ arena_bytes) (few : count_in bs ≤ 1024) where
  -- tested so far
  module _ (right : all_below (record_valid bs) (count_in bs) ≡ true) where
    each : (n : ℕ) → n < count_in bs → Right bs n
    each n h = right-after bs (below bs n) ((all-below (record_valid bs) (count_in bs)).0 right n h)

    fit : Fit bs (count_in bs)
    fit n h = ((each n h).named, (each n h).short)

    lower : (n : ℕ) → 0 < n → n < count_in bs → parent_in bs n < n
    lower n l h = parent-lower bs (below bs n) (each n h).passes l

    pub parented : Parented bs
    parented = record {
      whole = whole;
      few = few;
      numbered = λ n h. omega (arith, (each n h).named);
      no-parent = λ h. no-parent bs (below bs 0) (each 0 h).passes refl;
      lower = lower;
    }

    records-sound : (eqb (count_in bs) 0 || eqb (local_root_in bs) (root_below bs (count_in bs))) ≡ true → RecordsHeld bs
    records-sound root = record {
      fits = λ n h. fit-fits bs n (each n h).named (each n h).short;
      prims = λ n h. eq-eqb (prim_count_in bs n) (prim_count (node_in bs n).path) (each n h).prims;
      shallow = λ n h. shallow-depth bs fit lower (λ n h. (each n h).prims) n h ∙ (each n h).depth;
      accepted = (accepted-each (node_in bs) (count_in bs)).1
          (λ k h. ap refusal (questions-grown bs whole k (omega arith) (λ n l. fit n (omega arith))) ∙ (each k h).passes);
      local-root = ap (λ (r : ℕ). eqb (count_in bs) 0 || eqb (local_root_in bs) r) (root-same bs fit) ∙ root;
    }

  module _ (held : RecordsHeld bs) where
    held-fit : Fit bs (count_in bs)
    held-fit n h = fits-fit bs n (held.fits n h)

    held-prims : (n : ℕ) → n < count_in bs → prim_count_in bs n ≡ prim_count (node_in bs n).path
    held-prims n h = eqb-true (prim_count_in bs n) (prim_count (node_in bs n).path) (held.prims n h)

    held-passes : (n : ℕ) → n < count_in bs → refusal (questions_in bs (below bs n)) ≡ 0
    held-passes n h =
        ap refusal (sym (questions-grown bs whole n (omega arith) (λ k l. held-fit k (omega arith))))
        ∙ (accepted-each (node_in bs) (count_in bs)).0 held.accepted n h

    held-lower : (n : ℕ) → 0 < n → n < count_in bs → parent_in bs n < n
    held-lower n l h = parent-lower bs (below bs n) (held-passes n h) l

    held-right : (n : ℕ) → n < count_in bs → record_valid bs n ≡ true
    held-right n h =
        depth-left bs (below bs n) (held-fit n h).0 (held-fit n h).1 (held-passes n h) (held-prims n h)
        ∙ sym (shallow-depth bs held-fit held-lower held-prims n h) ∙ held.shallow n h

    records-complete : records_valid bs ≡ true
    unfolding records_valid
    records-complete =
        (and-eq-true_iff (all_below (record_valid bs) (count_in bs)) (eqb (count_in bs) 0 || eqb (local_root_in bs) (root_below bs (count_in bs)))).1 (
          (all-below (record_valid bs) (count_in bs)).1 held-right,
          ap (λ (r : ℕ). eqb (count_in bs) 0 || eqb (local_root_in bs) r) (sym (root-same bs held-fit)) ∙ held.local-root,
        )

  both_right : records_valid bs ≡ true
      → (all_below (record_valid bs) (count_in bs) ≡ true) × ((eqb (count_in bs) 0 || eqb (local_root_in bs) (root_below bs (count_in bs))) ≡ true)
  unfolding records_valid
  both_right e = (and-eq-true_iff (all_below (record_valid bs) (count_in bs)) _).0 e

  pub records-held : (records_valid bs ≡ true) ↔ RecordsHeld bs
  records-held = (λ e. records-sound (both_right e).0 (both_right e).1, records-complete)

  pub records-parented : records_valid bs ≡ true → Parented bs
  records-parented e = parented (both_right e).0

-- ---- The loop over the records

-- those below n are right, and come to so many bytes of paths and this local root
pub record RecordsTo (bs : List ℕ) (n path_bytes root : ℕ) : Type 0 where
  pub right : all_below (record_valid bs) n ≡ true
  pub bytes : path_bytes ≡ path_bytes_below bs n
  pub few_bytes : path_bytes ≤ most_path_bytes
  pub local-root : root ≡ root_below bs n

module _ (bs : List ℕ) (n path_bytes root : ℕ) (to : RecordsTo bs n path_bytes root) where
  here : record_valid_after bs (before_in n path_bytes root) ≡ record_valid bs n
  here = λ i. record_valid_after bs (before_in n (to.bytes i) (to.local-root i))

  pub record-fails : n < count_in bs → record_valid_after bs (before_in n path_bytes root) ≡ false → records_valid bs ≡ false
  unfolding records_valid
  record-fails l e = rw ((all-below-fails (record_valid bs) (count_in bs)).1 (n, l, sym here ∙ e))

  -- the record here is read: its length and arc, and the local root with it
  pub records-more : length bs ≡ arena_bytes → count_in bs ≤ 1024 → n < count_in bs → (long arc found : ℕ) → long ≡ record_length_in bs n
      → arc ≡ arc_in bs n → found ≡ root_with n arc root → record_valid_after bs (before_in n path_bytes root) ≡ true
      → RecordsTo bs (n + 1) (path_bytes + (long - 27)) found
  records-more whole few l long arc found same_length same-arc same-root e =
      let right = right-after bs (before_in n path_bytes root) e in
      rw (add-one n) (record {
        right = (and-eq-true_iff (record_valid bs n) (all_below (record_valid bs) n)).1 (sym here ∙ e, to.right);
        bytes = λ i. to.bytes i + (same_length i - 27);
        few_bytes = omega (
          arith,
          path-fits bs (before_in n path_bytes root) right.passes,
          path-length bs n (has-path bs whole n (omega arith) right.named right.short),
        );
        local-root = same-root ∙ (λ i. root_with n (same-arc i) (to.local-root i));
      })

  pub records-all : n ≡ count_in bs → records_valid bs ≡ (eqb (count_in bs) 0 || eqb (local_root_in bs) root)
  unfolding records_valid
  records-all all =
      rw (ap (all_below (record_valid bs)) (sym all) ∙ to.right, ap (root_below bs) (sym all) ∙ sym to.local-root)
