-- What ties demand 3 to the code: a call's contract leaves the arena that its step in
-- specs/Demand3.antt does. Each law takes the contract as the source has it: crates/nodes's
-- `init_root`, `add_child` and the calls that set, crates/ordering's `finalize_strength_order`,
-- crates/culling's `cull_subtrees_without_opinions`, crates/erasing's `erase`, crates/deepening's
-- `append_child_name_to_all_sites` and `seed_child`, crates/snapshot's `read_snapshot`. Where the
-- code reads or seeds and is not refused, a list may begin; and the set that demand 3 erases is the
-- one that crates/erasing's `erasable` writes. Assumes nothing.
use Rattle.std.specs.Prelude.{Option, Result, ⊤}
use Rattle.model.specs.declared.Refusal.{Refusal}
use mathlib.Core.Path.{◌≡◌, sym, ap, ◌∙◌}
use mathlib.Core.Bool.{Bool}
use mathlib.Core.List.{List}
use Prim.Native.Nat.{ℕ, ◌<◌}
use lib.ListN.{length}
use borrow.Author.Tests.{eq-eqb, lt-ltb}
use Rattle.model.specs.Graph.{empty_graph, size}
use Rattle.model.specs.Refusals.{refusal}
use Rattle.model.specs.Calls.{init_root, add_child, read_into, mark, set_first_spec, set_has_specs, set_restriction_depth}
use Rattle.model.specs.Arena.{arena_bytes, decode}
use Rattle.model.specs.Answers.{answer_refusal}
use Rattle.model.specs.ArenaCalls.{ValidArena, on_arena, into_arena, Wrote, Finishes}
use Rattle.nodes.specs.Describing.{desc_of}
use Rattle.nodes.specs.declared.description.NodeDesc.{NodeDesc}
use Rattle.ordering.specs.Finalizing.{Finalized}
use Rattle.culling.specs.CullCalls.{Culled}
use Rattle.erasing.specs.Erasures.{set_questions, ErasableWritten, erase_in, Erased}
use Rattle.deepening.specs.ChildNames.{Deepened, Seeded}
use Rattle.call_sequences.specs.Demand3.{Slice, Write, steps, Lent, Start, read, seeded, erasing_all}
use Rattle.call_sequences.specs.Steps.{Starts, Adds, Orders, Culls, Erases, Deepens, Reads, Marks, SetsFirstSpec, SetsHasSpecs, SetsRestriction, Seeds}

pub init-root-starts : (stack layer : ℕ) (path before : List ℕ) (r : Result ℕ Refusal) (after : List ℕ)
    → Wrote (on_arena (init_root stack layer path) before) before r after → Starts stack layer path before after
init-root-starts stack layer path before r after wrote = λ s l p d e f. rw (d, e, f) wrote.arena

pub add-child-adds : (desc : NodeDesc) (path before : List ℕ) (r : Result ℕ Refusal) (after : List ℕ)
    → Wrote (on_arena (add_child (desc_of desc path)) before) before r after → Adds desc path before after
add-child-adds desc path before r after wrote = λ fits p e. rw e wrote.arena

pub finalize-orders : (before : List ℕ) (r : Result ⊤ Refusal) (after : List ℕ) → Finalized before r after → Orders before after
finalize-orders before r after finalized = finalized.arena

pub cull-culls : (before : List ℕ) (r : Result ⊤ Refusal) (after : List ℕ) → Culled before r after → Culls before after
cull-culls before r after culled = culled.arena

pub erase-erases : (set before : List ℕ) (r : Result ℕ Refusal) (after : List ℕ) → Erased set before r after → Erases set before after
erase-erases set before r after erased = λ s e. rw e erased.arena

pub append-deepens : (child before : List ℕ) (r : Result ⊤ Refusal) (after : List ℕ) → Deepened child before r after → Deepens child before after
append-deepens child before r after deepened = λ c e. rw e deepened.arena

pub read-snapshot-reads : (snapshot before : List ℕ) (r : Result ℕ Refusal) (after : List ℕ)
    → Wrote (into_arena (read_into snapshot empty_graph) before) before r after → Reads snapshot before after
read-snapshot-reads snapshot before r after wrote = λ s e. rw e wrote.arena

pub mark-marks : (n flags : ℕ) (before : List ℕ) (r : Result ⊤ Refusal) (after : List ℕ)
    → Finishes (on_arena (mark n flags) before) before r after → Marks n flags before after
mark-marks n flags before r after finishes = λ m f d e. rw (d, e) finishes.arena

pub set-first-spec-sets : (n : ℕ) (first : Option ℕ) (before : List ℕ) (r : Result ⊤ Refusal) (after : List ℕ)
    → Finishes (on_arena (set_first_spec n first) before) before r after → SetsFirstSpec n first before after
set-first-spec-sets n first before r after finishes = λ m f d e. rw (d, e) finishes.arena

pub set-has-specs-sets : (n : ℕ) (authored : Bool) (before : List ℕ) (r : Result ⊤ Refusal) (after : List ℕ)
    → Finishes (on_arena (set_has_specs n authored) before) before r after → SetsHasSpecs n authored before after
set-has-specs-sets n authored before r after finishes = λ m d. rw d finishes.arena

pub set-restriction-sets : (n depth : ℕ) (before : List ℕ) (r : Result ⊤ Refusal) (after : List ℕ)
    → Finishes (on_arena (set_restriction_depth n depth) before) before r after → SetsRestriction n depth before after
set-restriction-sets n depth before r after finishes = λ m k d e. rw (d, e) finishes.arena

pub seed-child-seeds : (child from before : List ℕ) (r : Result ⊤ Refusal) (after : List ℕ) → Seeded child from before r after → Seeds child from before r after
seed-child-seeds child from before r after finishes = λ c e. rw e finishes

-- ---- Where a list may begin

pub read-starts : (snapshot : Slice) (into : List ℕ) (r : Result ℕ Refusal) (after : List ℕ) → Lent into
    → Wrote (into_arena (read_into snapshot.bytes empty_graph) into) into r after → answer_refusal r ≡ 0 → Start after
read-starts snapshot into r after lent wrote done = read snapshot into lent (sym wrote.refused ∙ done) wrote.arena

pub seed-starts : (from : List ℕ) (cs : List Write) (child : Slice) (into : List ℕ) (r : Result ⊤ Refusal) (after : List ℕ) → Start from → Lent into
    → Seeded child.bytes (steps cs from) into r after → answer_refusal r ≡ 0 → Start after
seed-starts from cs child into r after start lent finishes done =
    seeded from cs child into start lent (sym finishes.refused ∙ done) finishes.arena

-- ---- The erasable set

-- Of an arena with a node and 1,024 bytes `erasable` is done; done, it has written what
-- `erasing_all` gives to erasing.
module _ (bs set : List ℕ) (r : Result ⊤ Refusal) (after : List ℕ) (written : ErasableWritten bs set r after) where
  pub erasable-done : ValidArena bs → 0 < size (decode bs) → length set ≡ 1024 → answer_refusal r ≡ 0
  erasable-done opened some large =
      written.refused
      ∙ rw (eq-eqb (length bs) arena_bytes opened.whole, eq-eqb (length set) 1024 large, opened.holds, lt-ltb 0 (size (decode bs)) some)

  pub erasable-erases : answer_refusal r ≡ 0 → erase_in after bs ≡ erasing_all bs
  erasable-erases done =
      ap (λ (s : List ℕ). erase_in s bs)
      (written.bytes ∙ rw (eq-eqb (refusal (set_questions bs set)) 0 (sym written.refused ∙ done)))
