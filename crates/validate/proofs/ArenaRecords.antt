-- One record: what its test says, part by part (`ValidAfter`), and the ways in which it fails.
-- Assumes nothing.
use Rattle.std.specs.Prelude.{None, Some}
use mathlib.Core.Path.{◌≡◌, refl, sym, ap, ◌∙◌}
use mathlib.Core.Bool.{Bool, true, false, ◌&&◌, cond, and-false, or-true}
use mathlib.Core.List.{List}
use Prim.Native.Nat.{ℕ, zero, suc, ◌+◌, ◌-◌, ◌≤◌, ◌<◌}
use native.Mathlib.Omega.{arith}
use lib.Dec.{eqb, ltb, leb}
use lib.ListN.{length}
use borrow.Author.Tests.{eqb-true, eq-eqb, ne_eqb, ltb-true, leb-true, le-leb, lt-leb, lt-ltb}
use Rattle.model.specs.Path.{well_formed, prim_count, count_prims}
use Rattle.model.specs.Node.{invalid, root_arc}
use Rattle.model.specs.Refusals.{refusal, most_nodes, most_path_bytes}
use Rattle.model.specs.Arena.{shallow_in, prim_count_in, record_length_in, node_in}
use Rattle.laws.proofs.SnapshotLaws.{and_first, and_second}
use Rattle.laws.proofs.AcceptedQuestions.{Accepted as AllPass, none-refused-accepted}
use Rattle.arena.proofs.SlotLaws.{path-length}
use Rattle.arena.specs.Slot.{HasPath, parent_in, origin_in, depth_in}
use Rattle.validate.specs.declared.record.Before.{Before}
use Rattle.validate.specs.RecordCheck.{root_at, links_at, kind_at, room_at}
use Rattle.path.specs.Tables.{is_names}
use Rattle.validate.specs.Validate.{root_with, numbers_in, questions_in, depth_valid, numbers_valid, record_valid_after}

-- `record_valid_after`, test by test
pub record ValidAfter (bs : List ℕ) (b : Before) : Type 0 where
  pub named : 28 ≤ record_length_in bs b.count
  pub short : record_length_in bs b.count ≤ 282
  pub passes : refusal (questions_in bs b) ≡ 0
  pub prims : prim_count_in bs b.count ≡ prim_count (node_in bs b.count).path
  pub depth : depth_valid bs b.count ≡ true

-- ---- The local root with a node more

pub root_kept : (n arc root : ℕ) → (arc ≡ root_arc → ⊥) → root_with n arc root ≡ root
root_kept n arc root h = rw (ne_eqb arc root_arc h, and-false (ltb 0 n))

pub root-here : (n arc root : ℕ) → (n ≡ 0 → root ≡ 0) → arc ≡ root_arc → root_with n arc root ≡ n
root-here zero arc root none h = none refl
root-here (suc n) arc root none h = rw (lt-ltb 0 (suc n) (omega arith), eq-eqb arc root_arc h)

-- ---- Its depth

module _ (bs : List ℕ) (n : ℕ) where
  pub depth-of-0 : n ≡ 0 → depth_valid bs n ≡ true
  depth-of-0 z = rw (eq-eqb n 0 z)

  module _ (depth prims parent : ℕ) (same-depth : depth ≡ depth_in bs n) (same-prims : prims ≡ prim_count_in bs parent)
      (same-parent : parent ≡ parent_in bs n) where
    parent-prims : prims ≡ prim_count_in bs (parent_in bs n)
    parent-prims = same-prims ∙ ap (prim_count_in bs) same-parent

    pub depth-reached : depth ≤ prims → depth_valid bs n ≡ true
    depth-reached h = rw (le-leb (depth_in bs n) (prim_count_in bs (parent_in bs n)) (omega (arith, parent-prims))) (or-true (eqb n 0))

    pub depth-marked : (n ≡ 0 → ⊥) → prims < depth → depth_valid bs n ≡ eqb (shallow_in bs) 1
    depth-marked some h = rw (ne_eqb n 0 some, lt-leb (depth_in bs n) (prim_count_in bs (parent_in bs n)) (omega (arith, parent-prims)))

module _ (bs : List ℕ) (b : Before) where
  -- ---- A record that passes its questions

  module _ (passes : refusal (questions_in bs b) ≡ 0) where
    accepted : AllPass (questions_in bs b)
    accepted = none-refused-accepted (questions_in bs b) refl passes

    pub parent-lower : 0 < b.count → parent_in bs b.count < b.count
    parent-lower l =
        let lower : (ltb (parent_in bs b.count) b.count && ltb (origin_in bs b.count) b.count) ≡ true = rw (ne_eqb b.count 0 (λ z. omega arith)) at (accepted 4) in
        ltb-true (parent_in bs b.count) b.count (and_first (ltb (parent_in bs b.count) b.count) (ltb (origin_in bs b.count) b.count) lower)

    pub no-parent : b.count ≡ 0 → parent_in bs b.count ≡ invalid
    no-parent z =
        let root : root_at (numbers_in bs b.count) ≡ true = rw (eq-eqb b.count 0 z) at (accepted 4) in
        eqb-true (parent_in bs b.count) invalid (search (and_first, and_second))

    pub path-fits : b.path_bytes + length (node_in bs b.count).path ≤ most_path_bytes
    path-fits =
        leb-true (b.path_bytes + length (node_in bs b.count).path) most_path_bytes
        (and_second (ltb b.count most_nodes) (leb (b.path_bytes + length (node_in bs b.count).path) most_path_bytes) (accepted 7))

  -- ---- The record's test, from its parts and to them

  pub right-after : record_valid_after bs b ≡ true → ValidAfter bs b
  unfolding record_valid_after
  right-after e = record {
    named = leb-true 28 (record_length_in bs b.count) (search (and_first, and_second));
    short = leb-true (record_length_in bs b.count) 282 (search (and_first, and_second));
    passes = eqb-true (refusal (questions_in bs b)) 0 (search (and_first, and_second));
    prims = eqb-true (prim_count_in bs b.count) (prim_count (node_in bs b.count).path) (search (and_first, and_second));
    depth = search (and_first, and_second);
  }

  pub too_short : record_length_in bs b.count < 28 → record_valid_after bs b ≡ false
  unfolding record_valid_after
  too_short h = rw (lt-leb 28 (record_length_in bs b.count) h)

  module _ (named : 28 ≤ record_length_in bs b.count) where
    pub too_long : 282 < record_length_in bs b.count → record_valid_after bs b ≡ false
    unfolding record_valid_after
    too_long h = rw (le-leb 28 (record_length_in bs b.count) named, lt-leb (record_length_in bs b.count) 282 h)

    module _ (short : record_length_in bs b.count ≤ 282) where
      module _ (passes : refusal (questions_in bs b) ≡ 0) where
        pub depth-left : prim_count_in bs b.count ≡ prim_count (node_in bs b.count).path → record_valid_after bs b ≡ depth_valid bs b.count
        unfolding record_valid_after
        depth-left h =
            rw (
              le-leb 28 (record_length_in bs b.count) named,
              le-leb (record_length_in bs b.count) 282 short,
              eq-eqb (refusal (questions_in bs b)) 0 passes,
              eq-eqb (prim_count_in bs b.count) (prim_count (node_in bs b.count).path) h,
            )

-- ---- The same, by what the numbers and the path are asked

tests-alike : (links formed kind room prims depth : Bool)
    → (eqb (cond links (cond formed (cond kind (cond room 0 7) 6) 5) 4) 0 && (prims && depth)) ≡ ((links && (kind && room)) && (depth && (formed && prims)))
tests-alike false formed kind room prims depth = refl
tests-alike true false false room prims depth = refl
tests-alike true false true false prims depth = refl
tests-alike true false true true prims false = refl
tests-alike true false true true prims true = refl
tests-alike true true false room prims depth = refl
tests-alike true true true false prims depth = refl
tests-alike true true true true false false = refl
tests-alike true true true true false true = refl
tests-alike true true true true true false = refl
tests-alike true true true true true true = refl

names-formed : (n : ℕ) (p : List ℕ) → is_names n (count_prims p) ≡ (well_formed p && eqb n (prim_count p))
unfolding count_prims
names-formed n p = go (well_formed p)
  where
    go : (t : Bool) → is_names n (cond t (Some (prim_count p)) None) ≡ (t && eqb n (prim_count p))
    go true = refl
    go false = refl

module _ (bs : List ℕ) (b : Before) where
  abbrev pub links : Bool
  links = links_at b (numbers_in bs b.count)

  abbrev pub kind : Bool
  kind = kind_at b (numbers_in bs b.count)

  abbrev room : Bool
  room = room_at b (record_length_in bs b.count - 27)

  abbrev named-so : Bool
  named-so = is_names (prim_count_in bs b.count) (count_prims (node_in bs b.count).path)

  pub links-wrong : links ≡ false → numbers_valid bs b ≡ false
  unfolding numbers_valid
  links-wrong e = ap (λ (t : Bool). t && (kind && room)) e

  pub kind-wrong : links ≡ true → kind ≡ false → numbers_valid bs b ≡ false
  unfolding numbers_valid
  kind-wrong e f = ap (λ (t : Bool). t && (kind && room)) e ∙ ap (λ (t : Bool). t && room) f

  pub room-left : links ≡ true → kind ≡ true → numbers_valid bs b ≡ room
  unfolding numbers_valid
  room-left e f = ap (λ (t : Bool). t && (kind && room)) e ∙ ap (λ (t : Bool). t && room) f

  pub numbers-lower : numbers_valid bs b ≡ true → 0 < b.count → parent_in bs b.count < b.count
  unfolding numbers_valid
  numbers-lower e l =
      let linked : links ≡ true = and_first links (kind && room) e in
      let lower : (ltb (parent_in bs b.count) b.count && ltb (origin_in bs b.count) b.count) ≡ true = rw (ne_eqb b.count 0 (λ z. omega arith)) at linked in
      ltb-true (parent_in bs b.count) b.count (and_first (ltb (parent_in bs b.count) b.count) (ltb (origin_in bs b.count) b.count) lower)

  module _ (path : HasPath bs b.count) (named : 28 ≤ record_length_in bs b.count) where
    record-parts : record_valid_after bs b ≡ (numbers_valid bs b && (depth_valid bs b.count && named-so))
    unfolding record_valid_after numbers_valid
    record-parts =
        let p = (node_in bs b.count).path in
        let long : length p ≡ record_length_in bs b.count - 27 = omega (arith, path-length bs b.count path) in
        let formed = names-formed (prim_count_in bs b.count) p in
        rw (le-leb 28 (record_length_in bs b.count) named, le-leb (record_length_in bs b.count) 282 path.short)
        (tests-alike links (well_formed p) kind (room_at b (length p)) (eqb (prim_count_in bs b.count) (prim_count p)) (depth_valid bs b.count)
        ∙ (λ i. (links && (kind && room_at b (long i))) && (depth_valid bs b.count && sym formed i)))

    pub numbers-wrong : numbers_valid bs b ≡ false → record_valid_after bs b ≡ false
    numbers-wrong e = record-parts ∙ ap (λ (t : Bool). t && (depth_valid bs b.count && named-so)) e

    pub depth-wrong : numbers_valid bs b ≡ true → depth_valid bs b.count ≡ false → record_valid_after bs b ≡ false
    depth-wrong e f =
        record-parts ∙ ap (λ (t : Bool). t && (depth_valid bs b.count && named-so)) e ∙ ap (λ (t : Bool). t && named-so) f

    pub names-left : numbers_valid bs b ≡ true → depth_valid bs b.count ≡ true → record_valid_after bs b ≡ named-so
    names-left e f =
        record-parts ∙ ap (λ (t : Bool). t && (depth_valid bs b.count && named-so)) e ∙ ap (λ (t : Bool). t && named-so) f
