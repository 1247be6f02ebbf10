-- The ways that the calls that find the erasable set and erase a set end: refused (`set-refused`,
-- `erase-refused`) and done (`set-done`, `erase-done`). Assumes nothing.
use Rattle.std.specs.Prelude.{Err, Ok}
use mathlib.Core.Path.{◌≡◌, refl, sym, ap, ◌∙◌}
use mathlib.Core.Bool.{Bool, true, false, ◌&&◌, cond}
use mathlib.Core.List.{List, [], ◌∷◌}
use Prim.Native.Nat.{ℕ, ◌<◌}
use lib.Dec.{eqb}
use lib.ListN.{length}
use native.Mathlib.Omega.{arith}
use borrow.Author.Tests.{eq-eqb, ne_eqb, eqb-true, eqb-false}
use Rattle.model.specs.Graph.{Graph, size}
use Rattle.model.specs.Erasing.{stays, erasable, can_erase, new_number, erase}
use Rattle.model.specs.Refusals.{refusal_number, Question, ask, refusal}
use Rattle.model.specs.Calls.{Outcome, unchanged, decided, has_node_zero, erase_set}
use Rattle.model.specs.Arena.{count_in, decode, holds_graph}
use Rattle.model.specs.ArenaCalls.{is_arena, ValidArena, ask_arena}
use Rattle.model.specs.declared.Refusal.{Refusal}
use Rattle.model.specs.declared.Refusal.TheVariants.{EraseSet}
use Rattle.laws.proofs.ArenaCallLaws.{refusal-some, refused-before, asked-on, ask_both, buffer-refused, buffer-passed, on-arena-asks, wrote-decided-refused, wrote-decided}
use Rattle.arena.proofs.ReadNodes.{sizes, node-zero}
use Rattle.validate.proofs.AskingLaws.{some-node}
use Rattle.erasing.specs.EraseNodes.{ErasedArena}
use Rattle.erasing.specs.Erasures.{ErasableWritten, erase_in, Erased}

-- ---- The questions

module _ (bs set : List ℕ) (questions : List Question) where
  -- question 1 of both buffers, and question 2
  abbrev pub ask_set : List Question
  ask_set = ask_both bs (eqb (length set) 1024) questions

  pub not_set : (length set ≡ 1024 → ⊥) → 1 ≡ refusal ask_set
  not_set h = buffer-refused bs (eqb (length set) 1024) questions (ne_eqb (length set) 1024 h)

  -- a set of the right size leaves the questions of the arena
  pub whole_set : length set ≡ 1024 → refusal ask_set ≡ refusal (ask_arena bs questions)
  whole_set large = buffer-passed bs (eqb (length set) 1024) questions (eq-eqb (length set) 1024 large)

  pub asks-own : length set ≡ 1024 → ValidArena bs → refusal ask_set ≡ refusal questions
  asks-own large o = whole_set large ∙ asked-on bs questions o

-- the own questions of the erasable set, and of erasing
abbrev pub needs_node : Graph → List Question
needs_node g = has_node_zero g ∷ []

abbrev pub erase_questions : List ℕ → Graph → List Question
erase_questions set g = has_node_zero g ∷ ask 11 (can_erase g set) ∷ []

-- ---- The erasable set

module _ (bs set : List ℕ) where
  abbrev set_refusal : ℕ
  set_refusal = refusal (ask_set bs set (needs_node (decode bs)))

  pub set-refused : (r : Refusal) → refusal_number r ≡ set_refusal → ErasableWritten bs set (Err r) set
  set-refused r e = record { refused = e; bytes = rw (ne_eqb set_refusal 0 (λ z. refusal-some r (e ∙ z))) }

  pub set-done : set_refusal ≡ 0 → (after : List ℕ) → after ≡ erasable (decode bs) → ErasableWritten bs set (Ok tt) after
  set-done e after a = record { refused = sym e; bytes = rw (eq-eqb set_refusal 0 e) a }

  -- what the questions that have passed say
  pub set-asked : set_refusal ≡ 0 → (length set ≡ 1024) × (ValidArena bs × (0 < count_in bs))
  set-asked e = go (eqb (length set) 1024) refl
    where
      go : (t : Bool) → eqb (length set) 1024 ≡ t → (length set ≡ 1024) × (ValidArena bs × (0 < count_in bs))
      go true t =
          let large = eqb-true (length set) 1024 t in
          (large, some-node bs (sym (whole_set bs set (needs_node (decode bs)) large) ∙ e))
      go false t = absurd (omega (arith, not_set bs set (needs_node (decode bs)) (eqb-false (length set) 1024 t), e))

-- ---- Erasing

module _ (set bs : List ℕ) where
  abbrev pub erase_all : List Question
  erase_all = ask_set bs set (erase_questions set (decode bs))

  abbrev pub kept_count : ℕ
  kept_count = new_number (stays set) (size (decode bs))

  -- the questions of both buffers and of the graph, in one list
  pub erase-asks : erase_in set bs ≡ decided erase_all (decode bs) kept_count (erase set (decode bs))
  unfolding erase_in erase_set
  erase-asks =
      rw (on-arena-asks bs (erase_set set) (erase_questions set (decode bs)) kept_count (erase set (decode bs)) refl) (go (is_arena bs) (eqb (length set) 1024))
    where
      came : Bool → Outcome
      came s = decided (ask 1 s ∷ ask 2 (holds_graph bs) ∷ erase_questions set (decode bs)) (decode bs) kept_count (erase set (decode bs))

      go : (s t : Bool) → cond (s && t) (came s) (unchanged 1 (decode bs)) ≡ came (s && t)
      go true true = refl
      go true false = refl
      go false t = refl

  refused-by : (r : Refusal) → refusal_number r ≡ refusal erase_all → Erased set bs (Err r) bs
  refused-by r e = rw erase-asks (wrote-decided-refused erase_all (decode bs) kept_count (erase set (decode bs)) bs r e)

  -- by the questions that the erasable set is put too
  pub erase-refused : (r : Refusal) → refusal_number r ≡ refusal (ask_set bs set (needs_node (decode bs))) → Erased set bs (Err r) bs
  erase-refused r e =
      refused-by r (refused-before r (ask_set bs set (needs_node (decode bs))) (ask 11 (can_erase (decode bs) set) ∷ []) e)

  module _ (large : length set ≡ 1024) where
    module _ (o : ValidArena bs) (some : 0 < count_in bs) where
      set-left : refusal erase_all ≡ refusal (ask 11 (can_erase (decode bs) set) ∷ [])
      set-left = asks-own bs set (erase_questions set (decode bs)) large o ∙ rw (node-zero bs o some)

      pub erase-not-accepted : can_erase (decode bs) set ≡ false → Erased set bs (Err EraseSet) bs
      erase-not-accepted e = refused-by EraseSet (sym (set-left ∙ rw e))

      pub erase-done : can_erase (decode bs) set ≡ true → (n : ℕ) (after : List ℕ) → ErasedArena set bs n after → Erased set bs (Ok n) after
      erase-done e n after erased =
          rw erase-asks
          (wrote-decided erase_all (decode bs) kept_count (erase set (decode bs)) bs after n (set-left ∙ rw e)
          (erased.kept ∙ ap (new_number (stays set)) (sym (sizes bs o))) erased.bytes)
